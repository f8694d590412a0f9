use Rattle.std.proofs.Common.{◌+◌, true, Some, refl, sym, ap, append-nil, arith}
use Rattle.std.proofs.Math.Seq.{drop-cons}
use Rattle.peg_grammar.specs.Found.{seen_in}
use Rattle.peg_semantics.specs.Record.{byte_at, matched_at}
use Rattle.peg_grammar.proofs.SeenLemmas.{seen}
use Rattle.peg_grammar.proofs.evaluator.Evaluator.any.Goals as goal

-- if a byte is left, it passes
pub returns-then-position-self-clause-evaluates : goal.returns-then-position-self-clause-evaluates
returns-then-position-self-clause-evaluates c =
    let now = seen_in c.args.found.now in
    let here = drop-cons c.args.self.now.text.now c.args.position 0 (omega arith) in (
      matched_at (c.args.position + 1),
      ap (λ rest. Some (byte_at (λ byte. true) c.args.terminal c.args.position rest)) here,
      refl,
      ap (seen now.furthest) (sym (append-nil now.rows)),
    )
