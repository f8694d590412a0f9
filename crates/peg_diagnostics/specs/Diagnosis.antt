-- What the diagnostic grammar computes of an expression.
use Rattle.std.specs.Prelude.{◌≡◌, ℕ, List, length}
use Rattle.peg_semantics.specs.Form.{Form}
use Rattle.peg_semantics.specs.Record.{Record, IsRecord}
use Rattle.peg_semantics.specs.Rules.{Rule}
use Rattle.peg_diagnostics.specs.Blame.{HasBlame}
use Rattle.peg_diagnostics.specs.Diagnostic.{diagnostic_rules, loud}
use Rattle.peg_diagnostics.specs.ItemTests.{item_tests}
use Rattle.peg_diagnostics.specs.LoudCalls.{calls_of_first}

-- For an expression with record `r` at a position: its blame, and the record of its loud expression in the diagnostic
-- grammar. Both have the result of `r`, and the failed tests of added empty classes are, in order, those of the blame.
-- The calls of loud rules are, in order, those of the blame.
pub record Diagnosis (rules : List Rule) (text : List ℕ) (e : Form) (terminal item position : ℕ) (r : Record)
    : Type 0 where
  pub blame : Record
  pub shown : Record
  pub is_blame : HasBlame rules text e item position blame
  pub is_record : IsRecord (diagnostic_rules rules) text (loud e) terminal position shown
  pub blame_result : blame.result ≡ r.result
  pub shown_result : shown.result ≡ r.result
  pub tests : item_tests rules shown.tests ≡ blame.tests
  pub calls : calls_of_first (length rules) shown.calls ≡ blame.calls
