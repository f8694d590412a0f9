use Rattle.std.proofs.Common.{◌++◌, sym, ap, subst, ◌∙◌, append_assoc}
use Rattle.std.proofs.KnownBytes.{Appends-trans}
use Rattle.std.specs.Io.KnownBytes.{Appends}
use Rattle.peg_io.specs.Transfer.{AppendsProperPrefix}
use Rattle.peg_tree.specs.FlatTreeLeft.{piece_of, text_left}
use Rattle.peg_replies.proofs.WriteLemmas.{on-err, prefix-following, prefix-longer}
use Rattle.peg_replies.proofs.write.write_pieces.Goals as goal

pub returns-in_err-write_all_bytes-clause-err : goal.returns-in_err-write_all_bytes-clause-err
returns-in_err-write_all_bytes-clause-err g c =
    let l = c.pieces in
    let old = g.W.Sink.written c.args.output.now in
    let mid = g.W.Sink.written l.output in
    let new = g.W.Sink.written c.write_all_bytes.new.output in
    let cut = subst (AppendsProperPrefix mid new) c.piece-in-pieces.ensures c.in_err-write_all_bytes.ensures.err in
    on-err c.from_residual.result (subst (AppendsProperPrefix old new) (sym l.invariant.same)
    (prefix-following old mid new l.invariant.done (piece_of l.rows ++ text_left l.rows) l.invariant.written
    (prefix-longer mid new (piece_of l.rows) (text_left l.rows) cut)))

pub pieces-preserved : goal.pieces-preserved
pieces-preserved g c =
    let l = c.pieces in
    let mid = g.W.Sink.written l.output in
    let new = g.W.Sink.written c.write_all_bytes.new.output in
    let piece = piece_of l.rows in
    let filled = c.fill-in-pieces.new.self in
    record {
      done = l.invariant.done ++ piece;
      written = Appends-trans (g.W.Sink.written c.args.output.now) mid new l.invariant.done piece l.invariant.written
          (subst (Appends mid new) c.piece-in-pieces.ensures c.in_ok-write_all_bytes.ensures.ok);
      same = l.invariant.same ∙ sym (append_assoc l.invariant.done piece (text_left l.rows))
          ∙ ap (λ t. (l.invariant.done ++ piece) ++ t) c.fill-in-pieces.ensures.text;
      ended = λ none. ap (λ p. p ++ text_left filled) (sym none) ∙ sym c.fill-in-pieces.ensures.text ∙ c.fill-in-pieces.ensures.some none;
      works = c.in_ok-write_all_bytes.ensures.failed;
    }
