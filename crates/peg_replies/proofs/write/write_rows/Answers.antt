use Rattle.std.proofs.Common.{OnErr, subst, sym}
use Rattle.std.proofs.KnownBytes.{Appends-nil}
use Rattle.std.specs.Io.KnownBytes.{Appends}
use Rattle.peg_io.specs.Transfer.{AppendsProperPrefix}
use Rattle.peg_json.specs.Lines.{rows_text}
use Rattle.peg_replies.proofs.write.write_rows.Goals as goal

pub returns-in-None-clause-ok : goal.returns-in-None-clause-ok
returns-in-None-clause-ok g c =
    let old = g.W.Sink.written c.args.output.now in
    subst (λ rows. Appends old old (rows_text rows)) (sym c.in-None.is) (Appends-nil old)

pub returns-in-Some-clause-err : goal.returns-in-Some-clause-err
returns-in-Some-clause-err g c =
    let old = g.W.Sink.written c.args.output.now in
    let new = g.W.Sink.written c.write_pieces.new.output in
    subst (λ rows. OnErr c.write_pieces.result (AppendsProperPrefix old new (rows_text rows))) (sym c.in-Some.is)
    c.write_pieces.ensures.err
