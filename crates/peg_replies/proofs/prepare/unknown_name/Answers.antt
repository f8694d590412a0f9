use Rattle.std.proofs.Common.{◌≡◌, ◌∙◌, List, None, Some, ap, option_map, subst, sym}
use Rattle.peg_json.specs.Lines.{IsReply, line_bytes}
use Rattle.peg_json.specs.Reply.{Refused}
use Rattle.peg_json.specs.Statuses.{status_code}
use Rattle.peg_json.proofs.ParseLemmas.{start-given}
use Rattle.peg_parser.specs.Cause.{NoSuchStart}
use Rattle.peg_parser.specs.Parser.{parser_rules, start_named}
use Rattle.peg_semantics.specs.Rules.{Rule}
use Rattle.peg_semantics.specs.Starts.{start_name}
use Rattle.peg_replies.specs.Commands.{nodes_asked}
use Rattle.peg_replies.specs.PrintedNodes.{first_unknown}
use Rattle.peg_replies.proofs.ParsedLines.{given-name}
use Rattle.peg_replies.proofs.PreparedLemmas.{none-some, rule-refuses, start-refuses}
use Rattle.peg_replies.proofs.prepare.unknown_name.Goals as goal

pub returns-in-Some : goal.returns-in-Some
returns-in-Some c file accepts =
    let printing = c.args.printing in
    let options = c.args.options.now in
    let rules = parser_rules c.args.parser.now in
    let nodes = nodes_asked printing.nodes in
    let first : first_unknown rules nodes ≡ Some c.in-Some.name.now =
    sym (ap (λ (l : List Rule). first_unknown l nodes) c.grammar.ensures) ∙ sym c.first_unknown.ensures
    ∙ ap (option_map (λ name. name.now)) c.in-Some.is in
    rule-refuses c.in_ok-no_rule_line.field-0 file rules (start_named options) options.memo options.steps printing.all
    printing.form nodes printing.with_bytes c.in-Some.name.now accepts first (c.in_ok-no_rule_line.ensures file)

pub returns : goal.returns
returns c file accepts =
    let printing = c.args.printing in
    let options = c.args.options.now in
    let rules = parser_rules c.args.parser.now in
    let nodes = nodes_asked printing.nodes in
    let start = start_named options in
    let known : first_unknown rules nodes ≡ None =
    sym (ap (λ (l : List Rule). first_unknown l nodes) c.grammar.ensures) ∙ sym c.first_unknown.ensures
    ∙ ap (option_map (λ name. name.now)) c.in_default.is in
    let none = none-some (start_name rules start) (sym c.has_start.ensures ∙ c.if-has_start.false) in
    let named = start-given rules start none in
    let same : c.unwrap_or.result.now ≡ named.0 =
    ap (λ name. name.now) c.unwrap_or.ensures ∙ given-name (λ name. name.now) options.start _ named.0 named.1 in
    start-refuses c.in_ok-no_start_line.field-0 file rules start options.memo options.steps printing.all printing.form
    nodes printing.with_bytes named.0 accepts known named.1 none (subst (λ name.
    IsReply file (Refused (NoSuchStart name)) (line_bytes c.in_ok-no_start_line.field-0)
    (status_code c.in_ok-no_start_line.field-0.status)) same (c.in_ok-no_start_line.ensures file))
