-- Explanations by the blame of items, and by the failed tests of terminals.
use Rattle.std.proofs.Common.{◌≡◌, ℕ, IfSome, List, Ok, Option, None, Some, refl, subst}
use Rattle.peg_blame.specs.BlameOutcome.{IsBlameOutcome}
use Rattle.peg_grammar.specs.Outcomes.{IsParseOutcome}
use Rattle.peg_machine.specs.declared.answer.Answer.{Answer}
use Rattle.peg_messages.specs.declared.lines.TextLines.{TextLines}
use Rattle.peg_parser.specs.Calls.{IsSumOfSteps}
use Rattle.peg_parser.specs.ParseContract.{HasParseSteps}
use Rattle.peg_semantics.specs.Rules.{Rule}
use Rattle.peg_tree.specs.declared.outcome.Outcome.{Outcome}
use Rattle.peg_explain.specs.Explanations.{AreRestsFor, HasNoBlameParser, HasStepsWithin, IsExplained, IsExplanationIn}
use Rattle.peg_explain.specs.Explanations.{IsMismatchIn, IsMismatchMessageIn, ItemFacts, by_blame, by_tests, facts_by_blame}
use Rattle.peg_explain.specs.Explanations.{facts_by_tests, left_out_spacing}
use Rattle.peg_explain.specs.declared.mismatch.Mismatch.{Mismatch}
use Rattle.peg_explain.specs.declared.names.Rest.{Rest}
use Rattle.peg_explain.specs.declared.style.ItemStyle.{ItemStyle}

-- what is said by a blame
pub blame-explains : (rules : List Rule) (style : ItemStyle) (text : List ℕ) (found : Option (List ℕ))
    (outcome : Outcome) (Says : ItemFacts → Outcome → Type 0)
    → IfSome found (λ start. IsBlameOutcome rules text start outcome)
    → ((start : List ℕ) → found ≡ Some start → (is : IsBlameOutcome rules text start outcome)
    → (rests : List Rest) × AreRestsFor rules style text start outcome is.blame.calls rests
    × Says (facts_by_blame rules (left_out_spacing rules style outcome) rests) outcome)
    → IfSome found (λ start. IsExplained rules style text start Says)
blame-explains rules style text None outcome Says blamed says = tt
blame-explains rules style text (Some start) outcome Says blamed says =
    let said = says start refl blamed in by_blame outcome blamed said.0 said.1 said.2

-- the same for the outcome of a parse
pub tests-explain : (rules : List Rule) (style : ItemStyle) (text : List ℕ) (found : Option (List ℕ))
    (outcome : Outcome) (Says : ItemFacts → Outcome → Type 0) → HasNoBlameParser rules
    → IfSome found (λ start. IsParseOutcome rules text start outcome)
    → Says (facts_by_tests rules) outcome → IfSome found (λ start. IsExplained rules style text start Says)
tests-explain rules style text None outcome Says lacks parsed says = tt
tests-explain rules style text (Some start) outcome Says lacks parsed says = by_tests outcome lacks parsed says

-- the message for the mismatch in a text is its explanation
pub message-explains : (file : List ℕ) (rules : List Rule) (style : ItemStyle) (lines : TextLines) (name text : List ℕ)
    (found : Option (List ℕ)) (mismatch : Mismatch) (message : List ℕ)
    → IfSome found (λ start. IsMismatchIn rules style text start (Some mismatch))
    → IsMismatchMessageIn file rules style lines name text mismatch message
    → IfSome found (λ start. IsExplanationIn file rules style lines name text start (Some message))
message-explains file rules style lines name text None mismatch message is written = tt
message-explains file rules style lines name text (Some start) mismatch message (by_blame outcome blamed rests are says) written =
    by_blame outcome blamed rests are (mismatch, says, written)
message-explains file rules style lines name text (Some start) mismatch message (by_tests outcome lacks parsed says) written =
    by_tests outcome lacks parsed (mismatch, says, written)

-- a text without a mismatch has no message
pub no_message-explains : (file : List ℕ) (rules : List Rule) (style : ItemStyle) (lines : TextLines)
    (name text : List ℕ) (found : Option (List ℕ)) → IfSome found (λ start. IsMismatchIn rules style text start None)
    → IfSome found (λ start. IsExplanationIn file rules style lines name text start None)
no_message-explains file rules style lines name text None is = tt
no_message-explains file rules style lines name text (Some start) (by_blame outcome blamed rests are says) =
    by_blame outcome blamed rests are says
no_message-explains file rules style lines name text (Some start) (by_tests outcome lacks parsed says) =
    by_tests outcome lacks parsed says

-- the steps of a parse that has an answer stay within the limit
pub steps-within : (rules : List Rule) (text : List ℕ) (named : Option (List ℕ)) (is_plain : Type 0)
    (max_steps : Option ℕ) (answer : Answer) → HasParseSteps rules text named is_plain max_steps (Ok answer)
    → HasStepsWithin rules text named max_steps answer
steps-within rules text named is_plain max_steps answer steps =
    let takes = steps.plain.1 in record {
      from = takes.0;
      named = takes.1;
      sum = subst (λ (found : Option (List ℕ)). IfSome found (λ from. IsSumOfSteps rules text from answer)) takes.1
          steps.own;
      allowed = steps.allowed;
    }
