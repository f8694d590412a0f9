use Rattle.std.proofs.Common.{◌≤◌, length, subst, sym}
use Rattle.std.proofs.Math.Nat.{max-le}
use Rattle.peg_blame.specs.InText.{EndsWithin}
use Rattle.peg_tree.specs.declared.outcome.Parsed.{Parsed}
use Rattle.peg_explain.proofs.outcomes.named_position.Goals as goal

pub returns-in-Failed-clause-in_text : goal.returns-in-Failed-clause-in_text
returns-in-Failed-clause-in_text c = λ text is. is.far

pub returns-in-Matched-clause-in_text : goal.returns-in-Matched-clause-in_text
returns-in-Matched-clause-in_text c = λ text is.
    subst (λ at. at ≤ length text) (sym c.max.ensures)
    (max-le (subst (λ (p : Parsed). EndsWithin p (length text)) c.in-Matched.is is.end) is.far)
