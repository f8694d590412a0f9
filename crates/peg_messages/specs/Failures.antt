-- The message for a text that doesn't match.
use Rattle.std.specs.Prelude.{ℕ, nat_lt, if◌then◌else◌, List, ◌++◌, codes, filter, length, map, slice_index}
use Rattle.peg_messages.specs.Ends.{end_texts}
use Rattle.peg_messages.specs.Found.{found_text, longest_literal}
use Rattle.peg_messages.specs.Items.{is_in_group, item_text}
use Rattle.peg_messages.specs.Listing.{listed}
use Rattle.peg_messages.specs.Places.{place_text}
use Rattle.peg_messages.specs.Source.{source_lines}
use Rattle.peg_messages.specs.declared.failure.Failure.{Failure}
use Rattle.peg_messages.specs.declared.items.Item.{Item}
use Rattle.peg_messages.specs.declared.items.ItemGroup.{ItemGroup}
use Rattle.peg_messages.specs.declared.items.ItemGroup.TheVariants.{End, Other, Plain}

-- the items of a group that aren't left out, in order, as they are written
abbrev pub group_texts : (group : ItemGroup) → (grammar : List ℕ) → List Item → List (List ℕ)
group_texts group grammar items =
    map (item_text grammar) (filter (is_in_group grammar group) items)

-- What is expected. The end is first, so that no number of other items hides it. What must not follow is last.
abbrev pub expected_texts : Failure → List (List ℕ)
expected_texts failure =
    end_texts failure.is_end_expected ++ (group_texts End failure.grammar.now failure.expected.now
    ++ (group_texts Plain failure.grammar.now failure.expected.now
    ++ group_texts Other failure.grammar.now failure.expected.now))

-- how many bytes of a word are shown as found: as many as the longest expected literal that begins like it has
abbrev pub found_bytes : Failure → ℕ
found_bytes failure =
    if nat_lt failure.at (length failure.text.now)
    then longest_literal failure.grammar.now (slice_index failure.text.now failure.at) failure.expected.now
    else 0

-- the place, what is expected and found there, its line, and a caret below it
abbrev pub failure_message : Failure → List ℕ
failure_message failure =
    place_text failure.name.now failure.lines failure.text.now failure.at
    ++ codes "expected " ++ listed (expected_texts failure)
    ++ codes ", found " ++ found_text failure.text.now failure.at (found_bytes failure) ++ codes "\n"
    ++ source_lines failure.lines failure.text.now failure.at
