use Rattle.peg_lint.proofs.NeverLemmas.{no_success, success_excluded}
use Rattle.peg_lint.proofs.never.never_matches.Goals as goal

pub returns : goal.returns
returns c = λ rules e is. (
  λ h.
      let none = no_success c.args.can.nothing c.args.can.something c.succeeds.result c.succeeds.ensures h in
      record { nothing = λ gives. none.0 (is.nothing.1 gives); something = λ gives. none.1 (is.something.1 gives) },
  λ none. success_excluded c.args.can.nothing c.args.can.something c.succeeds.result c.succeeds.ensures
      (λ h. none.nothing (is.nothing.0 h)) (λ h. none.something (is.something.0 h)),
)
