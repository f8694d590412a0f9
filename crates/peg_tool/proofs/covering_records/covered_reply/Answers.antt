use Rattle.std.proofs.Common.{◌∙◌, ◌<◌, All, List, ap, length, map, refl, subst, sym, ℕ}
use Rattle.peg_coverage.specs.Unused.{alternative_use, rule_use}
use Rattle.peg_coverage.specs.declared.coverage.UnusedRule.{UnusedRule}
use Rattle.peg_json.specs.CoverageText.{named_use}
use Rattle.peg_json.specs.Lines.{IsReply, line_bytes}
use Rattle.peg_json.specs.Reply.{Covered}
use Rattle.peg_json.specs.Statuses.{status_code}
use Rattle.peg_parser.specs.Parser.{parser_rules}
use Rattle.peg_semantics.specs.Rules.{Rule}
use Rattle.peg_tool.specs.RecordCoverageWritten.{record_lines}
use Rattle.peg_tool.proofs.RecordCoverageLemmas.{lines-named}
use Rattle.peg_tool.proofs.covering_records.covered_reply.Goals as goal

pub coverage_line-requires : goal.coverage_line-requires
coverage_line-requires c =
    subst (λ (rules : List Rule). All (λ (unused : UnusedRule). unused.rule < length rules)
    c.args.coverage.now.unused_rules.items) (sym c.grammar.ensures) c.requires.rules

pub returns : goal.returns
returns c =
    let grammar = c.args.grammar.now in
    let coverage = c.args.coverage.now in
    let line = c.in_ok-line.line in
    let Is = λ (bytes : List ℕ) (rules : List Rule). IsReply bytes (Covered coverage.texts coverage.matched
    coverage.stopped.items (map (named_use rules) (map rule_use coverage.unused_rules.items))
    (map alternative_use coverage.unused_alternatives.items)) (line_bytes line) (status_code line.status) in
    let is = subst (λ (bytes : List ℕ). Is bytes (parser_rules grammar.parser)) c.deref.ensures.value
    (subst (Is c.deref.result.now) c.grammar.ensures c.in_ok-line.ensures) in
    let errors = c.in_ok-faults.ensures
    ∙ ap record_lines c.deref-2.ensures.value
    ∙ sym (lines-named coverage.texts coverage.stopped.items c.requires.texts) in
    (_, (refl, errors), is.0, is.1)
