-- Describes code: the failed tests that count in a run, those of all terminals or of listed ones, and the outcome by
-- them.
use Rattle.std.specs.Borrow.{Bor}
use Rattle.std.specs.Prelude.{◌≡◌, ℕ, Bool, List, Option, None, Some, option_map}
use Rattle.peg_core.specs.CoreForm.{CoreForm, Rule}
use Rattle.peg_core.specs.CoreRecord.{core_record_in}
use Rattle.peg_grammar.specs.Outcomes.{parsed_of}
use Rattle.peg_semantics.specs.Furthest.{IsFurthest}
use Rattle.peg_semantics.specs.Record.{Failed, Matched, Recognition, Record, Test}
use Rattle.peg_semantics.specs.TestsAmong.{tests_among}
use Rattle.peg_tree.specs.Selected.{has_rule, selected}
use Rattle.peg_tree.specs.declared.outcome.Outcome.{Outcome}

-- the terminals of a list, if there is one
abbrev pub listed : Option (Bor (List ℕ)) → Option (List ℕ)
listed among = option_map (λ terminals. terminals.now) among

-- all failed tests, or those of the listed terminals
abbrev pub selected_tests : (among : Option (List ℕ)) → List Test → List Test
selected_tests None tests = tests
selected_tests (Some terminals) tests = tests_among terminals tests

-- the result with the nodes of the rules in a set, and the root; with all nodes if there is no set
abbrev pub shown_result : (shown : Option (List Bool)) → Recognition → Recognition
shown_result None result = result
shown_result (Some flags) Failed = Failed
shown_result (Some flags) (Matched end tree) = Matched end (selected (has_rule flags) tree)

-- a record exists, and the outcome has its result, with the rules that are shown, and the furthest of the failed tests
-- that count
abbrev pub AnswersBy : (shown : Option (List Bool)) → (among : Option (List ℕ)) → Option Record → Outcome → Type 0
AnswersBy shown among tried outcome =
    (r : Record) × (tried ≡ Some r) × (outcome.result ≡ parsed_of (shown_result shown r.result))
    × IsFurthest (selected_tests among r.tests) outcome.far outcome.expected.items

-- the outcome of a rule at the start of a text by the rules that are shown and the failed tests that count, at some
-- depth n
abbrev pub IsCoreOutcomeBy : (shown : Option (List Bool)) → (among : Option (List ℕ)) → List CoreForm → List ℕ
    → (start : ℕ) → Outcome → Type 0
IsCoreOutcomeBy shown among bodies text start outcome =
    (n : ℕ) × AnswersBy shown among (core_record_in bodies text n (Rule start) 0) outcome
