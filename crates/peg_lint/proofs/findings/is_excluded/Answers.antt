use Rattle.std.proofs.Common.{◌≡◌, false, true, sym, ◌∙◌}
use Rattle.peg_lint.proofs.findings.is_excluded.Goals as goal

pub returns-then-is_exempt : goal.returns-then-is_exempt
returns-then-is_exempt c = λ rules e is. (
  λ h. let bad : false ≡ true = h in cc,
  λ both. absurd (both.0 (c.is_exempt.ensures.0 c.if-is_exempt.true)),
)

pub returns : goal.returns
returns c = λ rules e is. (
  λ h. (
    λ exempt. let bad : true ≡ false = sym (c.is_exempt.ensures.1 exempt) ∙ c.if-is_exempt.false in cc,
    (c.never_matches.ensures rules e is).0 h,
  ),
  λ both. (c.never_matches.ensures rules e is).1 both.1,
)
