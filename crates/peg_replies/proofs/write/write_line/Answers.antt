use Rattle.std.proofs.Common.{◌++◌, string_bytes, subst}
use Rattle.std.proofs.KnownBytes.{Appends-trans}
use Rattle.std.specs.Io.KnownBytes.{Appends}
use Rattle.peg_io.specs.Transfer.{AppendsProperPrefix}
use Rattle.peg_json.specs.Lines.{rows_text, tail_bytes}
use Rattle.peg_replies.proofs.WriteLemmas.{on-err, prefix-following, prefix-longer}
use Rattle.peg_replies.proofs.write.write_line.Goals as goal

pub returns-in_err-write_all_bytes-clause-err : goal.returns-in_err-write_all_bytes-clause-err
returns-in_err-write_all_bytes-clause-err g c =
    let old = g.W.Sink.written c.args.output.now in
    let new = g.W.Sink.written c.write_all_bytes.new.output in
    let head = string_bytes c.args.line.head in
    let rest = rows_text c.args.line.rows ++ tail_bytes c.args.line.tail in
    on-err c.from_residual.result (prefix-longer old new head rest
    (subst (AppendsProperPrefix old new) c.as_bytes.ensures.value c.in_err-write_all_bytes.ensures.err))

pub returns-in_err-write_rows-clause-err : goal.returns-in_err-write_rows-clause-err
returns-in_err-write_rows-clause-err g c =
    let old = g.W.Sink.written c.args.output.now in
    let mid = g.W.Sink.written c.write_all_bytes.new.output in
    let new = g.W.Sink.written c.write_rows.new.output in
    let head = string_bytes c.args.line.head in
    let rows = rows_text c.args.line.rows in
    let tail = tail_bytes c.args.line.tail in
    let done = subst (Appends old mid) c.as_bytes.ensures.value c.in_ok-write_all_bytes.ensures.ok in
    on-err c.from_residual-in_err-write_rows.result (prefix-following old mid new head (rows ++ tail) done
    (prefix-longer mid new rows tail c.in_err-write_rows.ensures.err))

pub returns-in_err-write_all_bytes-2-clause-err : goal.returns-in_err-write_all_bytes-2-clause-err
returns-in_err-write_all_bytes-2-clause-err g c =
    let old = g.W.Sink.written c.args.output.now in
    let mid = g.W.Sink.written c.write_all_bytes.new.output in
    let later = g.W.Sink.written c.write_rows.new.output in
    let new = g.W.Sink.written c.write_all_bytes-2.new.output in
    let head = string_bytes c.args.line.head in
    let rows = rows_text c.args.line.rows in
    let tail = tail_bytes c.args.line.tail in
    let done = subst (Appends old mid) c.as_bytes.ensures.value c.in_ok-write_all_bytes.ensures.ok in
    on-err c.from_residual-in_err-write_all_bytes-2.result (prefix-following old mid new head (rows ++ tail) done
    (prefix-following mid later new rows tail c.in_ok-write_rows.ensures.ok
    (subst (AppendsProperPrefix later new) c.bytes.ensures c.in_err-write_all_bytes-2.ensures.err)))

pub returns-clause-ok : goal.returns-clause-ok
returns-clause-ok g c =
    let old = g.W.Sink.written c.args.output.now in
    let mid = g.W.Sink.written c.write_all_bytes.new.output in
    let later = g.W.Sink.written c.write_rows.new.output in
    let new = g.W.Sink.written c.write_all_bytes-2.new.output in
    let head = string_bytes c.args.line.head in
    let rows = rows_text c.args.line.rows in
    let tail = tail_bytes c.args.line.tail in
    let done = subst (Appends old mid) c.as_bytes.ensures.value c.in_ok-write_all_bytes.ensures.ok in
    let last = subst (Appends later new) c.bytes.ensures c.in_ok-write_all_bytes-2.ensures.ok in
    Appends-trans old mid new head (rows ++ tail) done
    (Appends-trans mid later new rows tail c.in_ok-write_rows.ensures.ok last)
