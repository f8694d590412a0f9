use Rattle.std.proofs.Common.{Bool, true, false, ap}
use Rattle.peg_bytes.specs.ByteSet.{bytes_of}
use Rattle.peg_semantics.specs.AbstractOutcomes.{Can}
use Rattle.peg_lint.proofs.OutcomeLemmas.{not-empty}
use Rattle.peg_lint.proofs.outcomes.class.Goals as goal

pub returns : goal.returns
returns c =
    let test = λ (some : Bool). let can : Can = record { nothing = false; something = some; fails = true } in can in
    ap test (not-empty (bytes_of c.args.set) c.is_empty.result c.is_empty.ensures)
