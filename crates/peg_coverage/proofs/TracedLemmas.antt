-- What a traced parse by the marked grammar notes.
use Rattle.std.proofs.Common.{◌≡◌, ◌≤◌, ◌<◌, ◌||◌, ℕ, Bool, true, List, [], Option, None, Some, Result, Ok, Err, IfSome}
use Rattle.std.proofs.Common.{IsErrOf, length, refl, sym, ap, ◌∙◌, subst, arith}
use Rattle.peg_bytes.specs.Extent.{between}
use Rattle.peg_diagnostics.specs.Attempts.{has_call}
use Rattle.peg_diagnostics.specs.Marked.{marked_rules}
use Rattle.peg_grammar.specs.Outcomes.{parsed_of}
use Rattle.peg_machine.specs.SelectedTests.{shown_result}
use Rattle.peg_machine.specs.Traced.{GetsCalls}
use Rattle.peg_machine.specs.declared.answer.Answer.{Answer}
use Rattle.peg_parser.specs.Calls.{TracesCallsOf}
use Rattle.peg_parser.specs.Engine.{shown_parser_rules}
use Rattle.peg_parser.specs.SelectedOutcomes.{IsParseOutcomeBy}
use Rattle.peg_parser.specs.declared.parser.ParseFault.{ParseFault}
use Rattle.peg_parser.specs.declared.parser.ParseFault.TheVariants.{StepLimit}
use Rattle.peg_semantics.specs.Form.{Name}
use Rattle.peg_semantics.specs.Record.{Recognition, Record, RuleCall}
use Rattle.peg_semantics.specs.Rules.{Rule}
use Rattle.peg_semantics.specs.Starts.{start_name}
use Rattle.peg_semantics.proofs.RecordLemmas.{one_record}
use Rattle.peg_tree.specs.Selected.{has_rule}
use Rattle.peg_coverage.specs.Called.{HasCalled}
use Rattle.peg_coverage.specs.Covered.{HasCovered, match_of}
use Rattle.peg_coverage.specs.CoverageParser.{IsCoverageParserOf, rule_count}
use Rattle.peg_coverage.specs.Steps.{IsWithinSteps}
use Rattle.peg_coverage.specs.TracedTexts.{IsTraced, IsTracedParse}
use Rattle.peg_coverage.specs.declared.called_rules.CalledRules.{CalledRules}
use Rattle.peg_coverage.specs.declared.coverage_parser.CoverageParser.{CoverageParser}
use Rattle.peg_coverage.specs.declared.text_match.TextMatch.{TextMatch}
use Rattle.peg_coverage.specs.declared.tracing.TracedText.{TracedText}
use Rattle.peg_coverage.proofs.CoveredLemmas.{same-calls, text-covered}
use Rattle.peg_coverage.proofs.StartLemmas.{start-marked, start-numbered}
use Rattle.peg_coverage.proofs.UnusedLemmas.{length-marked}

-- ---- one run

module _ (shown : Option (List Bool)) (rules : List Rule) (text : List ℕ) (answer : Answer) (old new : CalledRules) (found : TextMatch)
    (begun : HasCalled old [])
    (is : (shown : Option (List Bool)) (r : Recognition) → answer.outcome.result ≡ parsed_of (shown_result shown r)
    → found ≡ match_of (length text) r) where
  of_start : (start : List ℕ) → TracesCallsOf rules text start answer (GetsCalls true HasCalled old new)
      → IsParseOutcomeBy shown None rules text start answer.outcome
      → IsTraced rules text start (record { called = new; found = found })
  of_start start traced outcome =
      let sum = traced.0 in
      let all = sum.of_record in
      let held = outcome.1 in
      let same : held.0 ≡ all.0 =
      one_record rules text (Name start (between 0 0)) 0 0 held.0 all.0 (outcome.0, held.1) all.1 in
      let noted : HasCalled new sum.calls = traced.1 refl [] begun in (
        all.0,
        all.1,
        is shown (all.0).result (held.2 ∙ ap (λ (r : Record). parsed_of (shown_result shown r.result)) same),
        λ rule. noted rule ∙ same-calls sum.calls (all.0).calls all.2 rule,
      )

  pub run-traced : (start : Option (List ℕ))
      → IfSome start (λ s. TracesCallsOf rules text s answer (GetsCalls true HasCalled old new))
      → IfSome start (λ s. IsParseOutcomeBy shown None rules text s answer.outcome)
      → IfSome start (λ s. IsTraced rules text s (record { called = new; found = found }))
  run-traced None traced outcome = tt
  run-traced (Some start) traced outcome = of_start start traced outcome

  pub run-within : (start : Option (List ℕ)) (max_steps : Option ℕ)
      → IfSome start (λ s. TracesCallsOf rules text s answer (GetsCalls true HasCalled old new))
      → ((limit : ℕ) → max_steps ≡ Some limit → answer.steps ≤ limit)
      → IfSome start (λ s. IsWithinSteps rules text s max_steps)
  run-within None max_steps traced allowed = tt
  run-within (Some start) max_steps traced allowed = (answer, traced.0, allowed)

-- ---- a run without a memo within fewer steps

fewer-within : (rules : List Rule) (text : List ℕ) (start : Option (List ℕ)) (plain : ℕ) (max_steps : Option ℕ)
    → ((limit : ℕ) → max_steps ≡ Some limit → plain ≤ limit)
    → IfSome start (λ s. IsWithinSteps rules text s (Some plain))
    → IfSome start (λ s. IsWithinSteps rules text s max_steps)
fewer-within rules text None plain max_steps less within = tt
fewer-within rules text (Some start) plain max_steps less within = (
  within.0,
  within.1,
  λ limit is. let most = within.2 plain refl in omega (arith, most, less limit is),
)

-- it is enough for the parse with a memo, if its step limit didn't stop it
pub first-run : (rules : List Rule) (text : List ℕ) (named : Option (List ℕ)) (is_plain other : Type 0) (plain : ℕ)
    (max_steps : Option ℕ) (result : Result TracedText ParseFault) → ¬ is_plain → ¬ IsErrOf result StepLimit
    → ((limit : ℕ) → max_steps ≡ Some limit → plain ≤ limit)
    → IsTracedParse rules text named other (Some plain) result → IsTracedParse rules text named is_plain max_steps result
first-run rules text named is_plain other plain max_steps (Ok traced) memo ended less is = record {
  known = is.known;
  short = is.short;
  limit = record { limited = λ stopped. absurd (ended stopped); enough = λ none. absurd (memo none) };
  calls = is.calls;
  within = fewer-within rules text (start_name rules named) plain max_steps less is.within;
}
first-run rules text named is_plain other plain max_steps (Err fault) memo ended less is = record {
  known = is.known;
  short = is.short;
  limit = record { limited = λ stopped. absurd (ended stopped); enough = λ none. tt };
  calls = tt;
  within = tt;
}

-- ---- the grammar as written

-- what is noted of a text is what it covers
pub traced-covered : (rules : List Rule) (parser : CoverageParser) → IsCoverageParserOf rules parser
    → (text : List ℕ) (named : Option (List ℕ)) (from : List ℕ) → start_name rules named ≡ Some from
    → (traced : TracedText) (before after : List Bool)
    → IfSome (start_name (shown_parser_rules parser.parser) named)
    (λ start. IsTraced (shown_parser_rules parser.parser) text start traced)
    → ((calls : List RuleCall) → HasCalled traced.called calls → (rule : ℕ) → rule < rule_count parser
    → has_rule after rule ≡ (has_call rule calls || has_rule before rule))
    → IfSome (start_name rules named) (λ start. HasCovered rules text start before after traced.found)
traced-covered rules parser is text named from at traced before after noted added =
    let there : start_name (shown_parser_rules parser.parser) named ≡ Some from =
    ap (λ (all : List Rule). start_name all named) is.marked ∙ start-marked rules named from at in
    let t : IsTraced (marked_rules rules) text from traced =
    subst (λ (all : List Rule). IsTraced all text from traced) is.marked
    (subst (λ (s : Option (List ℕ)). IfSome s (λ start. IsTraced (shown_parser_rules parser.parser) text start traced)) there
    noted) in
    let number = start-numbered rules named from is.some at in
    let count : rule_count parser ≡ length (marked_rules rules) = ap length is.marked in
    subst (λ (s : Option (List ℕ)). IfSome s (λ start. HasCovered rules text start before after traced.found)) (sym at)
    (text-covered rules is.distinct is.few text from t.0 t.1 before after traced.found t.2
    (λ rule less. added (t.0).calls t.3 rule (omega (arith, less, count, length-marked rules))) number.0 number.1 number.2
    is.formed)

-- the steps of the parse
pub marked-within : (rules : List Rule) (parser : CoverageParser) → IsCoverageParserOf rules parser
    → (text : List ℕ) (named : Option (List ℕ)) (from : List ℕ) (max_steps : Option ℕ)
    → start_name rules named ≡ Some from
    → IfSome (start_name (shown_parser_rules parser.parser) named)
    (λ start. IsWithinSteps (shown_parser_rules parser.parser) text start max_steps)
    → IfSome (start_name rules named) (λ start. IsWithinSteps (marked_rules rules) text start max_steps)
marked-within rules parser is text named from max_steps at within =
    let there : start_name (shown_parser_rules parser.parser) named ≡ Some from =
    ap (λ (all : List Rule). start_name all named) is.marked ∙ start-marked rules named from at in
    let here : IsWithinSteps (shown_parser_rules parser.parser) text from max_steps =
    subst (λ (s : Option (List ℕ)). IfSome s (λ start. IsWithinSteps (shown_parser_rules parser.parser) text start max_steps))
    there within in
    subst (λ (s : Option (List ℕ)). IfSome s (λ start. IsWithinSteps (marked_rules rules) text start max_steps)) (sym at)
    (subst (λ (all : List Rule). IsWithinSteps all text from max_steps) is.marked here)
