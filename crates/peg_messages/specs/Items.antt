-- What is expected at a position, as it is written in a message.
use Rattle.std.specs.Prelude.{ℕ, ◌==◌, Bool, false, true, not, ◌&&◌, if◌then◌else◌, List, [], ◌∷◌, ◌++◌}
use Rattle.std.specs.Prelude.{Option, None, Some, codes, slice_range}
use Rattle.std.specs.Option.{option_map}
use Rattle.std.specs.Str.{bytes_eq}
use Rattle.peg_bytes.specs.Extent.{Extent, extent}
use Rattle.peg_messages.specs.Blanks.{after_blanks}
use Rattle.peg_messages.specs.Shown.{shown}
use Rattle.peg_messages.specs.declared.shown.Style.TheVariants.{Spelling}
use Rattle.peg_messages.specs.declared.items.Item.{Item}
use Rattle.peg_messages.specs.declared.items.ItemGroup.{ItemGroup}
use Rattle.peg_messages.specs.declared.items.ItemGroup.TheVariants.{End, Other, Plain}

-- the bytes of a file in an extent
abbrev pub span_bytes : (file : List ℕ) → Extent → List ℕ
span_bytes file span = slice_range file span.start span.end

-- what a predicate `!e` expects, by the bytes of e: `!.` expects the end
abbrev pub negated_text : List ℕ → List ℕ
negated_text operand =
    if bytes_eq operand (codes ".") then codes "the end" else codes "something other than " ++ shown Spelling operand

-- an expression that isn't such a predicate: a dot is any byte
abbrev pub plain_text : List ℕ → List ℕ
plain_text bytes = if bytes_eq bytes (codes ".") then codes "any byte" else shown Spelling bytes

-- an expression, by its bytes in the grammar file; 33 is the byte `!`
abbrev pub spelling_text : List ℕ → List ℕ
spelling_text [] = []
spelling_text (byte ∷ rest) = if byte == 33 then negated_text (after_blanks rest) else plain_text (byte ∷ rest)

-- What an expression expects, by its bytes: `!.` expects the end, `!e` something other than e, and all others
-- themselves.
abbrev pub negated_group : (operand : List ℕ) → ItemGroup
negated_group operand = if bytes_eq operand (codes ".") then End else Other

abbrev pub spelling_group : List ℕ → ItemGroup
spelling_group [] = Plain
spelling_group (byte ∷ rest) = if byte == 33 then negated_group (after_blanks rest) else Plain

-- the same for an item of a grammar file
abbrev pub item_group : (grammar : List ℕ) → Item → ItemGroup
item_group grammar item = spelling_group (span_bytes grammar (extent item.span))

-- whether two groups are the same
abbrev pub is_group : (a b : ItemGroup) → Bool
is_group End End = true
is_group Plain Plain = true
is_group Other Other = true
is_group a b = false

-- an item is written among those of a group, unless it is left out
abbrev pub is_in_group : (grammar : List ℕ) → (group : ItemGroup) → Item → Bool
is_in_group grammar group item = not item.is_left_out && is_group (item_group grammar item) group

-- an item by its name if it has one, otherwise by its bytes in the grammar file
abbrev pub named_text : (spelling : List ℕ) → (name : Option (List ℕ)) → List ℕ
named_text spelling None = spelling_text spelling
named_text spelling (Some name) = name

-- the rule of an item, if it is given
abbrev pub rule_text : Option (List ℕ) → List ℕ
rule_text None = []
rule_text (Some rule) = codes " in " ++ rule

-- an item of a grammar file
unfoldable pub item_text : (grammar : List ℕ) → Item → List ℕ
item_text grammar item =
    named_text (span_bytes grammar (extent item.span)) (option_map (λ name. name.now) item.name)
    ++ rule_text (option_map (λ rule. rule.now) item.rule)
