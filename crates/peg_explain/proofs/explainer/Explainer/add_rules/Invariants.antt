use Rattle.std.proofs.Common.{◌≡◌, ◌++◌, map, take}
use Rattle.peg_parser.specs.Parser.{parser_rules}
use Rattle.peg_explain.specs.Explanations.{message_item_of, rule_item}
use Rattle.peg_explain.proofs.explainer.Explainer.add_rules.Given as goal

-- the first rules are added
abbrev pub invariant-rules : goal.invariant-rules
invariant-rules l =
    map message_item_of l.items.items
    ≡ map message_item_of l.initial.items.items ++ map (rule_item (parser_rules l.self.parser.now)) (take l.rule-index l.rules)
