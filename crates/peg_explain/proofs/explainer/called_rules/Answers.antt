use Rattle.std.proofs.Common.{◌≡◌, ℕ, Err, IfOk, IfSome, List, Ok, Option, Result, Some, subst}
use Rattle.peg_blame.specs.BlameCalls.{HasCalledRules, is_called}
use Rattle.peg_diagnostics.specs.Blame.{StartHasBlame}
use Rattle.peg_parser.specs.declared.parser.ParseFault.{ParseFault}
use Rattle.peg_semantics.specs.Record.{Record}
use Rattle.peg_semantics.specs.Rules.{Rule}
use Rattle.peg_tree.specs.Selected.{has_rule}
use Rattle.peg_tree.specs.declared.rule_set.RuleSet.{RuleSet}
use Rattle.peg_explain.proofs.explainer.called_rules.Goals as goal

-- the set of a result has the rules that a blame calls
called-by : (rules : List Rule) (text start : List ℕ) (blame : Record) (at : ℕ) (found : Option (List ℕ))
    (result : Result RuleSet ParseFault) → found ≡ Some start → StartHasBlame rules text start blame
    → IfOk result (λ set. IfSome found (λ start. HasCalledRules rules text start at set))
    → IfOk result (λ set. (rule : ℕ) → has_rule set rule ≡ is_called blame.calls rule at)
called-by rules text start blame at found (Err why) named is called = tt
called-by rules text start blame at found (Ok set) named is called =
    subst (λ (f : Option (List ℕ)). IfSome f (λ start. HasCalledRules rules text start at set)) named called blame is

pub returns-in-Err-StepLimit-clause-called : goal.returns-in-Err-StepLimit-clause-called
returns-in-Err-StepLimit-clause-called c rules start blame is named has =
    called-by rules c.args.text.now start blame c.args.at _ c.called_rules-in-Err-StepLimit.result named has
    (c.called_rules-in-Err-StepLimit.ensures.called rules is)

pub returns-in-Err-StepLimit-clause-limited : goal.returns-in-Err-StepLimit-clause-limited
returns-in-Err-StepLimit-clause-limited c rules is limit =
    (c.called_rules-in-Err-StepLimit.ensures.limit rules is).limited limit

pub returns-in_default-clause-no_start : goal.returns-in_default-clause-no_start
returns-in_default-clause-no_start c rules is fault = (c.in_default.ensures.faults rules is).no_start.0 fault

pub returns-in_default-clause-long : goal.returns-in_default-clause-long
returns-in_default-clause-long c rules start is named fault =
    ((c.in_default.ensures.faults rules is).long start named).0 fault

pub returns-in_default-2-clause-called : goal.returns-in_default-2-clause-called
returns-in_default-2-clause-called c rules start blame is named has =
    called-by rules c.args.text.now start blame c.args.at _ c.called_rules.result named has
    (c.called_rules.ensures.called rules is)
