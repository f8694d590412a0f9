use Rattle.std.proofs.Common.{Option, IfSome, Bor, subst}
use Rattle.peg_grammar.specs.Written.{form_of}
use Rattle.peg_grammar.specs.declared.expr.Expr.{Expr}
use Rattle.peg_lint.proofs.HeadLemmas.{fails-through}
use Rattle.peg_lint.specs.Linting.{IsHeadOf}
use Rattle.peg_lint.proofs.shadows.is_covered.Goals as goal

pub returns-in-Some : goal.returns-in-Some
returns-in-Some c = λ yes rules e is.
    fails-through rules (form_of c.args.one.now) (form_of c.in-Some.terminal.now) e (c.covers.ensures yes rules)
    (subst (λ (start : Option (Bor Expr)). IfSome start (λ terminal. IsHeadOf rules (form_of terminal.now) e)) c.in-Some.is is)
