use Rattle.std.proofs.Common.{◌≡◌, drop, map}
use Rattle.peg_parser.specs.Parser.{parser_rules}
use Rattle.peg_explain.specs.Explanations.{in_file_order, message_item_of}
use Rattle.peg_explain.proofs.FileOrderLemmas.{remaining}
use Rattle.peg_explain.proofs.explainer.Explainer.message_items.Given as goal

-- what is added so far, and what remains
abbrev pub invariant-expected : goal.invariant-expected
invariant-expected l =
    remaining (parser_rules l.self.parser.now) l.self.style (map message_item_of l.items.items) l.others
    (drop l.item-index l.expected)
    ≡ in_file_order (parser_rules l.self.parser.now) l.self.style l.rules l.expected
