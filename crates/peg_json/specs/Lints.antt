-- The reply that has the warnings about an accepted grammar.
use Rattle.std.specs.Prelude.{◌≡◌, ℕ, IsTrue, List, All, Option, None, Some, position, bytes_eq}
use Rattle.peg_semantics.specs.Rules.{Rule, names}
use Rattle.peg_lint.specs.FileWarnings.{FindsAll, IsTrueWarningIn, is_selected}
use Rattle.peg_lint.specs.Warnings.{AreDistinct, IsInWrittenOrder}
use Rattle.peg_lint.specs.declared.warning.Selection.{Selection}
use Rattle.peg_lint.specs.declared.warning.Warning.{Warning}
use Rattle.peg_parser.specs.Cause.{NoSuchStart}
use Rattle.peg_json.specs.Reply.{Reply, Refused, Linted}

-- the number of the start rule: that of the rule with the given name, or else the first; none if no rule has the name
abbrev pub start_number : List Rule → Option (List ℕ) → Option ℕ
start_number rules None = Some 0
start_number rules (Some name) = position (bytes_eq name) (names rules)

-- The reply to a request for the warnings about a grammar file with these rules, whose texts are parsed from a start.
-- Each warning is selected, and true of the grammar as written or of the file. Those that can be decided are all there
-- (`FindsAll`). No two are equal, and they are in written order.
pub data LintsTo (file : List ℕ) (rules : List Rule) (start : Option (List ℕ)) (selection : Selection) : Reply → Type 0 where
  no_rule_to_start : (name : List ℕ) → start ≡ Some name → start_number rules start ≡ None
      → LintsTo file rules start selection (Refused (NoSuchStart name))
  warned : (number : ℕ) (warnings : List Warning) → start_number rules start ≡ Some number
      → All (IsTrueWarningIn file rules number) warnings
      → All (λ warning. IsTrue (is_selected selection warning)) warnings
      → FindsAll file rules number selection warnings → IsInWrittenOrder warnings → AreDistinct warnings
      → LintsTo file rules start selection (Linted (names rules) warnings)
