use Rattle.peg_lint.proofs.NeverLemmas.{not_true, true_not}
use Rattle.peg_lint.proofs.never.never_fails.Goals as goal

pub returns : goal.returns
returns c = λ rules e is. (
  λ h fails. true_not c.args.can.fails h (is.fails.1 fails),
  λ none. not_true c.args.can.fails (λ h. none (is.fails.0 h)),
)
