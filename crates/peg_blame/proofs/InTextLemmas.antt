-- The positions of an outcome are in the text.
use Rattle.std.proofs.Common.{◌≡◌, ◌≤◌, ℕ, Bool, List, [], ◌∷◌, All, Err, IfOk, IfSome, None, Ok, Option, Result, Some}
use Rattle.std.proofs.Common.{length, option_map, refl, subst, sym, arith}
use Rattle.std.proofs.lemmas.List.Elements.{All-contains, All-cons, All-head, All-nil, All-tail}
use Rattle.std.specs.List.{cons_option}
use Rattle.std.specs.Prelude.{IsErrOf}
use Rattle.peg_bytes.specs.Extent.{between}
use Rattle.peg_grammar.specs.Outcomes.{parsed_of}
use Rattle.peg_machine.specs.SelectedTests.{shown_result}
use Rattle.peg_machine.specs.declared.answer.Answer.{Answer}
use Rattle.peg_parser.specs.ParseContract.{IsParse}
use Rattle.peg_parser.specs.SelectedOutcomes.{IsParseOutcomeBy}
use Rattle.peg_parser.specs.declared.parser.ParseFault.{ParseFault}
use Rattle.peg_parser.specs.declared.parser.ParseFault.TheVariants as fault
use Rattle.peg_semantics.specs.Form.{Name}
use Rattle.peg_semantics.specs.Furthest.{IsFurthest}
use Rattle.peg_semantics.specs.Record.{Failed, Matched, Recognition, Record, Test, start_record, test_of}
use Rattle.peg_semantics.specs.Rules.{Rule}
use Rattle.peg_semantics.specs.Starts.{start_name}
use Rattle.peg_semantics.specs.TestsAmong.{index_in, tests_among}
use Rattle.peg_semantics.proofs.TerminalLemmas.{record_in-ends, record_in-in_text}
use Rattle.peg_tree.specs.declared.outcome.Outcome.{Outcome}
use Rattle.peg_tree.specs.declared.outcome.Parsed.{Parsed}
use Rattle.peg_blame.specs.InText.{EndsWithin, IsInText}

-- a failed test in a text
abbrev IsTestIn : (text : List ℕ) → Test → Type 0
IsTestIn text test = test.position ≤ length text

-- the failed tests among listed terminals have the positions of all
tests_among-in_text : (text terminals : List ℕ) (tests : List Test) → All (IsTestIn text) tests
    → All (IsTestIn text) (tests_among terminals tests)
tests_among-in_text text terminals [] here = All-nil (IsTestIn text)
tests_among-in_text text terminals (test ∷ tests) here =
    by (index_in terminals test.terminal)
    (tests_among-in_text text terminals tests (All-tail (IsTestIn text) test tests here))
  where
    by : (found : Option ℕ) → All (IsTestIn text) (tests_among terminals tests)
        → All (IsTestIn text)
        (cons_option (option_map (λ new. test_of new test.position) found) (tests_among terminals tests))
    by None later = later
    by (Some k) later =
        All-cons (IsTestIn text) (test_of k test.position) (tests_among terminals tests)
        (All-head (IsTestIn text) test tests here) later

-- the greatest position of failed tests in a text
furthest-in_text : (text : List ℕ) (tests : List Test) (far : ℕ) (expected : List ℕ) → IsFurthest tests far expected
    → All (IsTestIn text) tests → far ≤ length text
furthest-in_text text [] far expected is here = omega (arith, is.none refl)
furthest-in_text text (test ∷ tests) far [] is here = absurd (is.reached (λ none. cc) refl)
furthest-in_text text (test ∷ tests) far (terminal ∷ expected) is here =
    All-contains (IsTestIn text) (test ∷ tests) (test_of terminal far) here
    ((is.exactly terminal).0 (0, omega arith, refl))

module _ (shown : Option (List Bool)) (rules : List Rule) (text start : List ℕ) (outcome : Outcome) where
  recorded-in_text : (n : ℕ) (r : Record) (tests : List Test) → start_record rules text n start ≡ Some r
      → outcome.result ≡ parsed_of (shown_result shown r.result) → IsFurthest tests outcome.far outcome.expected.items
      → All (IsTestIn text) tests → IsInText text outcome
  recorded-in_text n r tests found same furthest here = record {
    far = furthest-in_text text tests outcome.far outcome.expected.items furthest here;
    end = subst (λ (p : Parsed). EndsWithin p (length text)) (sym same) (by shown r.result refl);
  }
    where
      by : (shown : Option (List Bool)) (result : Recognition) → r.result ≡ result
          → EndsWithin (parsed_of (shown_result shown result)) (length text)
      by None Failed is = tt
      by (Some flags) Failed is = tt
      by None (Matched end trees) is =
          record_in-ends rules text n (Name start (between 0 0)) 0 0 end trees r (omega arith) found is
      by (Some flags) (Matched end trees) is =
          record_in-ends rules text n (Name start (between 0 0)) 0 0 end trees r (omega arith) found is

  outcome-in_text : (among : Option (List ℕ)) → IsParseOutcomeBy shown among rules text start outcome → IsInText text outcome
  outcome-in_text None is =
      let held = is.1 in
      recorded-in_text is.0 held.0 (held.0).tests held.1 held.2 held.3
      (record_in-in_text rules text is.0 (Name start (between 0 0)) 0 0 held.0 (omega arith) held.1)
  outcome-in_text (Some terminals) is =
      let held = is.1 in
      recorded-in_text is.0 held.0 (tests_among terminals (held.0).tests) held.1 held.2 held.3
      (tests_among-in_text text terminals (held.0).tests
      (record_in-in_text rules text is.0 (Name start (between 0 0)) 0 0 held.0 (omega arith) held.1))

-- an answer is no error
no-error : (answer : Answer) → IsErrOf (Ok answer) fault.NoSuchStart → ⊥
no-error answer is = cc

-- the outcome of a parse is in the text
pub parse-in_text : (shown : Option (List Bool)) (among : Option (List ℕ)) (rules : List Rule) (text : List ℕ) (named : Option (List ℕ))
    (is_plain : Type 0) (max_steps : Option ℕ) (result : Result Answer ParseFault)
    → IsParse shown among rules text named is_plain max_steps result → IfOk result (λ answer. IsInText text answer.outcome)
parse-in_text shown among rules text named is_plain max_steps (Err why) is = tt
parse-in_text shown among rules text named is_plain max_steps (Ok answer) is = by (start_name rules named) refl is.outcome
  where
    by : (found : Option (List ℕ)) → start_name rules named ≡ found
        → IfSome found (λ start. IsParseOutcomeBy shown among rules text start answer.outcome)
        → IsInText text answer.outcome
    by None none parsed = absurd (no-error answer (is.faults.no_start.1 none))
    by (Some start) found parsed = outcome-in_text shown rules text start answer.outcome among parsed
