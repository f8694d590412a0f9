-- The tree of an outcome has rules of the grammar, and its terminals are the grammar's.
use Rattle.std.proofs.Common.{◌≡◌, ◌∙◌, ℕ, Bool, List, length, refl, subst, sym, None, Option, Some}
use Rattle.peg_grammar.specs.Outcomes.{parsed_of}
use Rattle.peg_machine.specs.SelectedTests.{shown_result}
use Rattle.peg_semantics.specs.Record.{Recognition, Record, start_record}
use Rattle.peg_semantics.specs.Record as recognition
use Rattle.peg_semantics.specs.Rules.{Rule}
use Rattle.peg_semantics.specs.Terminals.{extents_of_terminals}
use Rattle.peg_semantics.specs.TestsAmong.{tests_among}
use Rattle.peg_semantics.proofs.TerminalLemmas.{expected-below, start_record-below}
use Rattle.peg_semantics.proofs.TestsAmongLemmas.{among-within}
use Rattle.peg_semantics.proofs.TreeRules.{start_record-rules}
use Rattle.peg_tree.specs.Nodes.{RulesBelow}
use Rattle.peg_tree.specs.Selected.{has_rule, selected}
use Rattle.peg_tree.specs.Trees.{Trees}
use Rattle.peg_tree.specs.declared.outcome.Outcome.{Outcome}
use Rattle.peg_tree.specs.declared.outcome.Parsed.{Parsed}
use Rattle.peg_tree.specs.declared.outcome.Parsed.TheVariants as parsed
use Rattle.peg_parser.specs.Fits.{Fits, FitsAmong, ResultFits}
use Rattle.peg_parser.specs.SelectedOutcomes.{IsParseOutcomeBy}

-- the result of an outcome in terms of the record's
pub parsed-failed : (result : Recognition) → parsed.Failed ≡ parsed_of result → result ≡ recognition.Failed
parsed-failed recognition.Failed is = refl
parsed-failed (recognition.Matched end tree) is = cc

pub parsed-matched : (result : Recognition) (end : ℕ) (tree : Trees) → parsed.Matched end tree ≡ parsed_of result
    → result ≡ recognition.Matched end tree
parsed-matched recognition.Failed end tree is = cc
parsed-matched (recognition.Matched there left) end tree is =
    let same : end ≡ there = cc in
    let same_tree : tree ≡ left = cc in
    λ i. recognition.Matched (sym same i) (sym same_tree i)

-- a selected tree has no other rules than the tree
abbrev pub SelectedFits : Type 0
SelectedFits = (shown : ℕ → Bool) (bound : ℕ) (trees : Trees) → RulesBelow bound trees
    → RulesBelow bound (selected shown trees)

-- the shown nodes of a record's tree have rules of the grammar
shown-fits : SelectedFits → (shown : Option (List Bool)) (rules : List Rule) (text : List ℕ) (n : ℕ) (start : List ℕ)
    (r : Record) → start_record rules text n start ≡ Some r → (here : Recognition) → r.result ≡ here → (result : Parsed)
    → result ≡ parsed_of (shown_result shown here) → ResultFits (length rules) result
shown-fits fit shown rules text n start r found here at parsed.Failed is = tt
shown-fits fit None rules text n start r found here at (parsed.Matched end tree) is =
    start_record-rules rules text n start r end tree found (at ∙ parsed-matched here end tree is)
shown-fits fit (Some flags) rules text n start r found recognition.Failed at (parsed.Matched end tree) is =
    absurd (let no : ⊥ = cc in no)
shown-fits fit (Some flags) rules text n start r found (recognition.Matched there left) at (parsed.Matched end tree) is =
    let same : tree ≡ selected (has_rule flags) left = cc in
    subst (RulesBelow (length rules)) (sym same) (fit (has_rule flags) (length rules) left
    (start_record-rules rules text n start r there left found at))

pub outcome-fits : SelectedFits → (shown : Option (List Bool)) (rules : List Rule) (text start : List ℕ)
    (outcome : Outcome) → IsParseOutcomeBy shown None rules text start outcome → Fits rules outcome
outcome-fits fit shown rules text start outcome is =
    let held = is.1 in
    record {
      tree = shown-fits fit shown rules text is.0 start held.0 held.1 held.0.result refl outcome.result held.2;
      terminals = expected-below (length (extents_of_terminals rules)) held.0.tests outcome.far outcome.expected.items
          held.3 (start_record-below rules text is.0 start held.0 held.1);
    }

-- the same with indices into a list of terminals
pub outcome-fits_among : SelectedFits → (shown : Option (List Bool)) (rules : List Rule) (terminals text start : List ℕ)
    (outcome : Outcome) → IsParseOutcomeBy shown (Some terminals) rules text start outcome
    → FitsAmong rules terminals outcome
outcome-fits_among fit shown rules terminals text start outcome is =
    let held = is.1 in
    record {
      tree = shown-fits fit shown rules text is.0 start held.0 held.1 held.0.result refl outcome.result held.2;
      indices = expected-below (length terminals) (tests_among terminals held.0.tests) outcome.far outcome.expected.items
          held.3 (among-within terminals held.0.tests);
    }
