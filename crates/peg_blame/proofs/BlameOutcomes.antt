-- The outcome of the diagnostic grammar among the added empty classes is the outcome by the blame.
use Rattle.std.proofs.Common.{◌≡◌, ◌≢◌, ℕ, ◌<◌, Bool, false, List, length, Option, None, Some, refl, sym, ap, ◌∙◌, subst, le_refl}
use Rattle.std.proofs.Math.Logic.{∥∥₁_elim}
use Rattle.peg_bytes.specs.Extent.{between}
use Rattle.peg_diagnostics.specs.Diagnostic.{diagnostic_rules}
use Rattle.peg_diagnostics.specs.ItemTests.{item_terminals}
use Rattle.peg_diagnostics.proofs.DiagnosisLemmas.{name_diagnosis}
use Rattle.peg_diagnostics.proofs.Lookups.{Distinct}
use Rattle.peg_grammar.specs.Outcomes.{parsed_of}
use Rattle.peg_machine.specs.SelectedTests.{shown_result}
use Rattle.peg_parser.specs.SelectedOutcomes.{IsParseOutcomeBy}
use Rattle.peg_semantics.specs.Depth.{max_cases}
use Rattle.peg_semantics.specs.Form.{Name}
use Rattle.peg_semantics.specs.Furthest.{IsFurthest}
use Rattle.peg_semantics.specs.Record.{Recognition, Record, Test, start_record}
use Rattle.peg_semantics.specs.Record as recognition
use Rattle.peg_semantics.specs.Rules.{Rule, name_of, names}
use Rattle.peg_semantics.specs.TestsAmong.{tests_among}
use Rattle.peg_semantics.specs.WellFormed.{IsWellFormedGrammar}
use Rattle.peg_semantics.proofs.EnoughDepth.{start-within}
use Rattle.peg_semantics.proofs.RecordLemmas.{one_record}
use Rattle.peg_tree.specs.declared.outcome.Outcome.{Outcome}
use Rattle.peg_tree.specs.declared.outcome.Parsed.TheVariants as parsed
use Rattle.peg_tree.specs.Selected.{has_rule, selected}
use Rattle.peg_blame.specs.BlameOutcome.{IsBlameOutcome, root_alone}

-- a rule of a well-formed grammar has a record on every text
pub has_record : (rules : List Rule) (text : List ℕ) (start : ℕ) → start < length rules → ∥ IsWellFormedGrammar rules ∥₁
    → start_record rules text (max_cases rules text) (name_of rules start) ≢ None
has_record rules text start less formed =
    ∥∥₁_elim formed (hlevel)
    (λ is. start-within rules text start (max_cases rules text) less is (le_refl (max_cases rules text)))

-- a result without nodes but the root
no-nodes : (flags : List Bool) → ((rule : ℕ) → has_rule flags rule ≡ false) → (result : Recognition)
    → parsed_of (shown_result (Some flags) result) ≡ root_alone result
no-nodes flags empty recognition.Failed = refl
no-nodes flags empty (recognition.Matched end tree) =
    ap (λ (shown : ℕ → Bool). parsed.Matched end (selected shown tree)) (λ i rule. empty rule i)

module _ (rules : List Rule) (distinct : Distinct (names (diagnostic_rules rules))) (text start : List ℕ)
    (outcome : Outcome) (flags : List Bool) (empty : (rule : ℕ) → has_rule flags rule ≡ false) where
  of_record : (n : ℕ) (r : Record) → start_record rules text n start ≡ Some r
      → IsParseOutcomeBy (Some flags) (Some (item_terminals rules)) (diagnostic_rules rules) text start outcome
      → IsBlameOutcome rules text start outcome
  of_record n r found is =
      let d = name_diagnosis rules text distinct n start (between 0 0) 0 0 0 0 r found in
      let held = is.1 in
      let same : held.0 ≡ d.shown =
      one_record (diagnostic_rules rules) text (Name start (between 0 0)) 0 0 held.0 d.shown (is.0, held.1)
      d.is_record in
      let result = held.2 ∙ no-nodes flags empty held.0.result ∙ ap (λ (s : Record). root_alone s.result) same
      ∙ ap root_alone d.shown_result in
      record {
        recognition = r;
        blame = d.blame;
        recognizes = (n, found);
        is_blame = d.is_blame;
        result = result;
        blame_result = result ∙ sym (ap root_alone d.blame_result);
        furthest = subst (λ (tests : List Test). IsFurthest tests outcome.far outcome.expected.items)
            (ap (λ (s : Record). tests_among (item_terminals rules) s.tests) same ∙ d.tests) held.3;
      }

  pub blame-outcome : (k : ℕ) → k < length rules → name_of rules k ≡ start → ∥ IsWellFormedGrammar rules ∥₁
      → IsParseOutcomeBy (Some flags) (Some (item_terminals rules)) (diagnostic_rules rules) text start outcome
      → IsBlameOutcome rules text start outcome
  blame-outcome k less named formed is =
      let n = max_cases rules text in
      by (start_record rules text n start) refl
      (subst (λ (name : List ℕ). start_record rules text n name ≢ None) named (has_record rules text k less formed))
    where
      by : (tried : Option Record) → start_record rules text (max_cases rules text) start ≡ tried → tried ≢ None
          → IsBlameOutcome rules text start outcome
      by None found some = absurd (some refl)
      by (Some r) found some = of_record (max_cases rules text) r found is
