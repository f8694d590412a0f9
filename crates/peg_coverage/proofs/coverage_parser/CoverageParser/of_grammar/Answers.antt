use Rattle.std.proofs.Common.{List, ◌∙◌, ap, length, subst, sym, arith}
use Rattle.std.proofs.lemmas.List.{length-map}
use Rattle.peg_bytes.specs.Extent.{extent}
use Rattle.peg_diagnostics.proofs.Lookups.{Distinct}
use Rattle.peg_diagnostics.proofs.MarkBounds.{length-extents_of_rules, markers-weight}
use Rattle.peg_grammar.specs.GrammarRules.{rules_in}
use Rattle.peg_semantics.specs.Rules.{Rule, names}
use Rattle.peg_semantics.specs.WellFormed.{IsWellFormedGrammar}
use Rattle.peg_coverage.specs.CoverageFaults.{IsParserRefusal}
use Rattle.peg_coverage.proofs.CoverageLemmas.{formed-marked, names-distinct, refused-error, refused-parser}
use Rattle.peg_coverage.proofs.UnusedLemmas.{length-marked}
use Rattle.peg_coverage.proofs.coverage_parser.CoverageParser.of_grammar.Goals as goal

pub marked_parser-requires : goal.marked_parser-requires
marked_parser-requires c =
    let rules = rules_in c.args.grammar.now in
    let same = c.in_ok-marked.ensures.rules in
    let distinct = subst (λ (shown : List Rule). Distinct (names shown)) same
    (names-distinct (rules_in c.in_ok-marked.marked) c.in_ok-marked.marked.grammar) in
    subst (λ (shown : List Rule). ∥ IsWellFormedGrammar shown ∥₁) (sym same)
    (formed-marked rules c.args.grammar.now.grammar distinct
    (omega (arith, markers-weight rules, c.args.grammar.now.light)) c.requires)

pub returns-in_err-parser-clause-refused : goal.returns-in_err-parser-clause-refused
returns-in_err-parser-clause-refused c =
    let rules = rules_in c.args.grammar.now in
    let why = c.in_err-parser.field-0.0 in
    refused-error rules c.from_residual-in_err-parser.result why c.from_residual-in_err-parser.ensures.1
    (refused-parser rules why
    (subst (λ (shown : List Rule). IsParserRefusal shown why) c.in_ok-marked.ensures.rules
    c.in_err-parser.ensures.refused))

pub returns-clause-made : goal.returns-clause-made
returns-clause-made c =
    let rules = rules_in c.args.grammar.now in
    let same = c.in_ok-marked.ensures.rules in
    record {
      some = omega (arith, c.rules.ensures.count, c.rules.ensures.some);
      formed = c.requires;
      marked = c.in_ok-parser.ensures.rules ∙ same;
      distinct = subst (λ (shown : List Rule). Distinct (names shown)) same
          (names-distinct (rules_in c.in_ok-marked.marked) c.in_ok-marked.marked.grammar);
      few = omega (arith, markers-weight rules, c.args.grammar.now.light);
      own = c.rules.ensures.count;
      spans = c.in_ok-alternatives.ensures;
    }

pub invariant_of-result : goal.invariant_of-result
invariant_of-result c =
    let rules = rules_in c.args.grammar.now in
    let spans = c.in_ok-alternatives.alternatives.items in
    let all = c.in_ok-parser.ensures.rules ∙ c.in_ok-marked.ensures.rules in
    omega (
      arith,
      c.rules.ensures.count,
      ap length all,
      length-marked rules,
      length-map spans extent,
      ap length c.in_ok-alternatives.ensures,
      length-extents_of_rules rules,
    )
