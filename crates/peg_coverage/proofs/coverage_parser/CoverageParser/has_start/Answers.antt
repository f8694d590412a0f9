use Rattle.std.proofs.Common.{◌∙◌, List, ap, bytes_eq, length, nat_lt, option_map, position, sym}
use Rattle.peg_diagnostics.proofs.OwnStarts.{is_below}
use Rattle.peg_parser.specs.Parser.{start_named}
use Rattle.peg_semantics.specs.Rules.{Rule, names}
use Rattle.peg_coverage.proofs.StartLemmas.{start-own}
use Rattle.peg_coverage.proofs.coverage_parser.CoverageParser.has_start.Goals as goal

pub returns-in-Some-rule_number : goal.returns-in-Some-rule_number
returns-in-Some-rule_number c rules is =
    let name = c.in-Some.name.now in
    let shown = c.grammar.ensures ∙ is.marked in
    let found = c.rule_number.ensures
    ∙ ap (λ (all : List Rule). position (bytes_eq name) (names all)) shown in
    ap (nat_lt c.in-Some-rule_number.rule) is.own
    ∙ sym (ap (is_below (length rules)) c.in-Some-rule_number.is)
    ∙ start-own rules (start_named c.args.options.now) name c.rule_number.result
    (ap (option_map (λ name. name.now)) c.in-Some.is) found

pub returns-in-None-rule_number : goal.returns-in-None-rule_number
returns-in-None-rule_number c rules is =
    let name = c.in-Some.name.now in
    let shown = c.grammar.ensures ∙ is.marked in
    let found = c.rule_number.ensures
    ∙ ap (λ (all : List Rule). position (bytes_eq name) (names all)) shown in
    sym (ap (is_below (length rules)) c.in-None-rule_number.is)
    ∙ start-own rules (start_named c.args.options.now) name c.rule_number.result
    (ap (option_map (λ name. name.now)) c.in-Some.is) found
