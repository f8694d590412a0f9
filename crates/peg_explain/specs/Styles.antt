-- How messages write the items that are expected.
use Rattle.std.specs.Prelude.{Bool, not}
use Rattle.peg_explain.specs.declared.style.ItemStyle.{ItemStyle}

-- the style with rules or without, with terminals alone or with names of rules, too
abbrev pub style_of : (rules terminals : Bool) → ItemStyle
style_of rules terminals = record { uses_names = not terminals; shows_rules = rules }
