use Rattle.std.proofs.Common.{◌≡◌, ◌∙◌, List, Some, option_map, ap, sym}
use Rattle.peg_semantics.specs.Rules.{Rule}
use Rattle.peg_parser.specs.Parser.{parser_rules, start_named}
use Rattle.peg_replies.specs.Commands.{nodes_asked}
use Rattle.peg_replies.specs.PrintedNodes.{first_unknown}
use Rattle.peg_replies.proofs.RunLemmas.{unknown-reported}
use Rattle.peg_replies.proofs.tool.reply_by_parser.Goals as goal

pub returns-in_ok-no_rule_line-in-Some-clause-answer : goal.returns-in_ok-no_rule_line-in-Some-clause-answer
returns-in_ok-no_rule_line-in-Some-clause-answer g c file accepts =
    let printing = c.args.printing in
    let nodes = nodes_asked printing.nodes in
    let first : first_unknown (parser_rules c.args.parser) nodes ≡ Some c.in-Some.name.now =
    sym (ap (λ (l : List Rule). first_unknown l nodes) c.grammar.ensures) ∙ sym c.first_unknown.ensures
    ∙ ap (option_map (λ name. name.now)) c.in-Some.is in
    unknown-reported c.in_ok-no_rule_line-in-Some.field-0 file (g.T.Source.left c.args.text.now)
    (parser_rules c.args.parser) (start_named c.args.options.now) c.args.options.now.memo c.args.options.now.steps
    printing.all printing.form nodes printing.with_bytes c.in-Some.name.now accepts first (c.in_ok-no_rule_line-in-Some.ensures file)

pub read_and_parse-requires-clause-known : goal.read_and_parse-requires-clause-known
read_and_parse-requires-clause-known g c =
    sym (ap (λ (l : List Rule). first_unknown l (nodes_asked c.args.printing.nodes)) c.grammar.ensures)
    ∙ sym c.first_unknown.ensures ∙ ap (option_map (λ name. name.now)) c.in-None.is
