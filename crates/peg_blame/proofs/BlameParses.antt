-- What the parser of the diagnostic grammar answers, in terms of the grammar as written.
use Rattle.std.proofs.Common.{◌≡◌, ◌<◌, ◌++◌, ℕ, Bool, true, false, List, [], ◌∷◌, All, length, Option, None, Some, IfSome, is_some}
use Rattle.std.proofs.Common.{refl, sym, subst, ap, ◌∙◌, arith}
use Rattle.std.proofs.Math.Logic.{∥∥₁_elim}
use Rattle.peg_diagnostics.specs.Diagnostic.{diagnostic_rules}
use Rattle.peg_diagnostics.specs.Items.{extents_of_items}
use Rattle.peg_diagnostics.specs.ItemTests.{item_terminals}
use Rattle.peg_diagnostics.specs.LoudCalls.{calls_of_first}
use Rattle.peg_diagnostics.proofs.ItemNumbers.{extents-terminals}
use Rattle.peg_diagnostics.proofs.Lookups.{Distinct}
use Rattle.peg_machine.specs.Traced.{GetsCalls}
use Rattle.peg_machine.specs.declared.answer.Answer.{Answer}
use Rattle.peg_parser.specs.Calls.{AreCallsOf, TracesCallsOf}
use Rattle.peg_parser.specs.SelectedOutcomes.{IsParseOutcomeBy}
use Rattle.peg_semantics.specs.Grammar.{IsGrammar}
use Rattle.peg_semantics.specs.Record.{RuleCall}
use Rattle.peg_semantics.specs.Rules.{Rule, names}
use Rattle.peg_semantics.specs.Starts.{start_name}
use Rattle.peg_semantics.specs.WellFormed.{IsWellFormedGrammar}
use Rattle.peg_tree.specs.declared.outcome.Outcome.{Outcome}
use Rattle.peg_blame.specs.BlameCalls.{HasCalledRules, is_called}
use Rattle.peg_blame.specs.BlameOutcome.{IsBlameOutcome}
use Rattle.peg_blame.specs.CallsAt.{HasNoted}
use Rattle.peg_blame.specs.declared.calls_at.CallsAt.{CallsAt}
use Rattle.peg_blame.specs.Sought.{sought}
use Rattle.peg_parser.specs.ShowsNone.{ShowsNone}
use Rattle.peg_blame.proofs.BlameCalls.{called-rules}
use Rattle.peg_blame.proofs.BlameOutcomes.{blame-outcome}
use Rattle.peg_blame.proofs.BlameStarts.{same-start, start-numbered}

-- a grammar has a rule
pub nonempty : (rules : List Rule) → ∥ IsGrammar rules ∥₁ → 0 < length rules
nonempty [] is = absurd (∥∥₁_elim is (hlevel) (λ grammar. grammar.some refl))
nonempty (rule ∷ rules) is = omega arith

-- a start is none or some name
pub none-from : (start : Option (List ℕ)) → is_some start ≡ false → start ≡ None
none-from None is = refl
none-from (Some name) is = cc

pub some-from : (start : Option (List ℕ)) → is_some start ≡ true → (name : List ℕ) × (start ≡ Some name)
some-from None is = cc
some-from (Some name) is = (name, refl)

-- what a tracer looks for is what it was made for
also-called : (count at : ℕ) (after : CallsAt) (calls : List RuleCall) (noted : HasNoted after (sought count at ∷ calls))
    (rule : ℕ)
    → is_called (calls_of_first after.rules noted.later) rule after.at ≡ is_called (calls_of_first count calls) rule at
also-called count at after calls noted rule =
    let same : sought count at ∷ calls ≡ sought after.rules after.at ∷ noted.later = noted.first in
    let first : sought after.rules after.at ≡ sought count at = cc in
    let later : noted.later ≡ calls = cc in
    let rules : after.rules ≡ count = ap (λ (call : RuleCall). call.rule) first in
    let position : after.at ≡ at = ap (λ (call : RuleCall). call.position) first in
    ap (λ (n : ℕ). is_called (calls_of_first n noted.later) rule after.at) rules
    ∙ ap (λ (l : List RuleCall). is_called (calls_of_first count l) rule after.at) later
    ∙ ap (λ (p : ℕ). is_called (calls_of_first count calls) rule p) position

module _ (rules shown : List Rule) (named : Option (List ℕ)) (same : shown ≡ diagnostic_rules rules)
    (some : 0 < length rules) where
  -- a start of the grammar as written is a start of the parser
  pub shown-start : (start : List ℕ) → start_name rules named ≡ Some start → start_name shown named ≡ Some start
  shown-start start is =
      subst (λ (all : List Rule). start_name all named ≡ Some start) (sym same)
      (same-start rules named start some is)

  -- the outcome from a start
  pub start-outcome : (set : Option (List Bool)) (text terminals : List ℕ) (outcome : Outcome) → ShowsNone set
      → terminals ≡ item_terminals rules → Distinct (names (diagnostic_rules rules)) → ∥ IsWellFormedGrammar rules ∥₁
      → IfSome (start_name shown named) (λ start. IsParseOutcomeBy set (Some terminals) shown text start outcome)
      → IfSome (start_name rules named) (λ start. IsBlameOutcome rules text start outcome)
  start-outcome set text terminals outcome bare listed distinct formed is = by (start_name rules named) refl
    where
      by : (start : Option (List ℕ)) → start_name rules named ≡ start
          → IfSome start (λ start. IsBlameOutcome rules text start outcome)
      by None found = tt
      by (Some start) found =
          let at = start-numbered rules named start some found in
          let here : IsParseOutcomeBy set (Some terminals) shown text start outcome =
          subst (λ (o : Option (List ℕ)). IfSome o (λ start. IsParseOutcomeBy set (Some terminals) shown text start outcome))
          (shown-start start found) is in
          blame-outcome rules distinct text start outcome bare.0 bare.2 at.0 at.1 at.2 formed
          (subst (λ (s : Option (List Bool)). IsParseOutcomeBy s (Some (item_terminals rules)) (diagnostic_rules rules)
          text start outcome) bare.1
          (subst (λ (l : List ℕ). IsParseOutcomeBy set (Some l) (diagnostic_rules rules) text start outcome) listed
          (subst (λ (all : List Rule). IsParseOutcomeBy set (Some terminals) all text start outcome) same here)))

  -- the rules that are called from a start
  pub start-called : (text : List ℕ) (at : ℕ) (before after : CallsAt) (answer : Answer)
      → HasNoted before (sought (length rules) at ∷ [])
      → Distinct (names (diagnostic_rules rules)) → ∥ IsWellFormedGrammar rules ∥₁
      → IfSome (start_name shown named) (λ start. TracesCallsOf shown text start answer (GetsCalls true HasNoted before after))
      → IfSome (start_name rules named) (λ start. HasCalledRules rules text start at after.set)
  start-called text at before after answer none distinct formed traced = by (start_name rules named) refl
    where
      by : (start : Option (List ℕ)) → start_name rules named ≡ start
          → IfSome start (λ start. HasCalledRules rules text start at after.set)
      by None found = tt
      by (Some start) found =
          let numbered = start-numbered rules named start some found in
          let here : TracesCallsOf shown text start answer (GetsCalls true HasNoted before after) =
          subst (λ (o : Option (List ℕ)). IfSome o (λ start. TracesCallsOf shown text start answer (GetsCalls true HasNoted before after)))
          (shown-start start found) traced in
          let calls = here.0.calls in
          let noted : HasNoted after (sought (length rules) at ∷ calls) = here.1 refl (sought (length rules) at ∷ []) none in
          called-rules rules distinct text start at after.set calls numbered.0 numbered.1 numbered.2 formed
          (subst (λ (l : List Rule). AreCallsOf l text start calls) same here.0.of_record)
          (λ rule. noted.set rule ∙ also-called (length rules) at after calls noted rule)

-- indices of terminals are numbers of items
pub items-fit : (rules : List Rule) (terminals expected : List ℕ) → terminals ≡ item_terminals rules
    → All (λ index. index < length terminals) expected → All (λ item. item < length (extents_of_items rules)) expected
items-fit rules terminals expected listed all =
    subst (λ (n : ℕ). All (λ item. item < n) expected) (ap length listed ∙ sym (extents-terminals rules)) all
