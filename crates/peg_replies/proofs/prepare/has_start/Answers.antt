use Rattle.std.proofs.Common.{◌∙◌, List, ap, bytes_eq, option_map, position}
use Rattle.peg_parser.specs.Parser.{parser_rules, start_named}
use Rattle.peg_semantics.specs.Rules.{Rule, names}
use Rattle.peg_replies.proofs.ListedNames.{start-known}
use Rattle.peg_replies.proofs.prepare.has_start.Goals as goal

pub returns-in-Some : goal.returns-in-Some
returns-in-Some c =
    let name = c.in-Some.name.now in
    let found = c.rule_number.ensures
    ∙ ap (λ (all : List Rule). position (bytes_eq name) (names all)) c.grammar.ensures in
    c.is_some.ensures ∙ start-known (parser_rules c.args.parser.now) (start_named c.args.options.now) name
    c.rule_number.result (ap (option_map (λ name. name.now)) c.in-Some.is) found
