-- Rules whose nodes trees have.
use Rattle.std.specs.Prelude.{◌≡◌, ℕ, ◌<◌, Bool, List, Some, ◌==◌, length, not, slice_index_or}
use Rattle.peg_parser.specs.Engine.{rules_shown, shown_parser_rules}
use Rattle.peg_tree.specs.Selected.{has_rule}
use Rattle.peg_handle.specs.declared.content.SelectingParser.{SelectingParser}

-- whether bytes show a rule: there is a byte with its number, and it isn't 0
abbrev pub shows : (shown : List ℕ) → (rule : ℕ) → Bool
shows shown rule = not (slice_index_or shown rule 0 == 0)

-- the parser shows the rules of its grammar that the bytes show
abbrev pub Selects : (shown : List ℕ) → SelectingParser → Type 0
Selects shown parser =
    (set : List Bool) × (rules_shown parser.parser ≡ Some set)
    × ((rule : ℕ) → rule < length (shown_parser_rules parser.parser) → has_rule set rule ≡ shows shown rule)
