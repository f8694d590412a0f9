-- The blame of an expression: its result, with the failures of items outside predicates. An item that fails counts at
-- its own start. This is the project's own definition; the results are those of Ford's relation (Ford 2004, section
-- 3.3).
use Rattle.std.specs.Prelude.{◌≡◌, ℕ, zero, suc, ◌+◌, List, [], Option, None, Some, option_map, option_and_then}
use Rattle.peg_bytes.specs.Extent.{between}
use Rattle.peg_semantics.specs.Form.{Form, Forms, Literal, Class, Any, Name, Seq, Choice, Optional, Star, Plus, Counted}
use Rattle.peg_semantics.specs.Form.{And, Not, End, Then}
use Rattle.peg_semantics.specs.Record.{Recognition, Failed, Matched, Record, Recognizer, failed_at, matched_at, then_at}
use Rattle.peg_semantics.specs.Record.{or_else, star_result, recognize_repeat, as_call, record_in}
use Rattle.peg_semantics.specs.Rules.{Rule, Meaning}
use Rattle.peg_diagnostics.specs.Items.{items, item_meaning_of}

-- the blame of one item, given its result: if the item fails, one failed test of the item at its own start
abbrev pub item_blame : (item position : ℕ) → Recognition → Record
item_blame item position Failed = failed_at item position
item_blame item position (Matched end trees) = record { result = Matched end trees; tests = []; calls = [] }

-- the blame of one item by the record of its expression; no test or call of that record counts
abbrev pub blame_item : Recognizer → Form → (item position : ℕ) → Option Record
blame_item judge e item position = option_map (λ (r : Record). item_blame item position r.result) (judge e 0 position)

-- the items of a sequence, each from the end of the item before
abbrev pub blame_seq : Recognizer → Forms → (item position : ℕ) → Option Record
blame_seq take End item position = Some (matched_at position)
blame_seq take (Then e rest) item position =
    then_at (take e item position) (λ end. blame_seq take rest (item + items e) end)

-- an ordered choice: the first alternative that matches, all tried at the same position
abbrev pub blame_choice : Recognizer → Form → Forms → (item position : ℕ) → Option Record
blame_choice take e End item position = take e item position
blame_choice take e (Then next rest) item position =
    or_else (take e item position) (blame_choice take next rest (item + items e) position)

-- The blame of each form of expression. Terminals and predicates are items, judged by their records. All other forms
-- follow Ford's recognition rules, given the blame of their parts.
abbrev pub blame_table : List Rule → (judge take : Recognizer) → Recognizer
blame_table rules judge take (Literal bytes span) item position = blame_item judge (Literal bytes span) item position
blame_table rules judge take (Class set span) item position = blame_item judge (Class set span) item position
blame_table rules judge take (Any span) item position = blame_item judge (Any span) item position
blame_table rules judge take (Name name span) item position =
    option_and_then (λ (m : Meaning). option_map (as_call m.rule position) (take m.body m.terminal position))
    (item_meaning_of rules name)
blame_table rules judge take (Seq parts span) item position = blame_seq take parts item position
blame_table rules judge take (Choice first rest span) item position = blame_choice take first rest item position
blame_table rules judge take (Optional part span) item position = or_else (take part item position) (Some
    (matched_at position))
blame_table rules judge take (Star part span) item position =
    option_and_then (λ (round : Record). star_result round.result position round (λ end. take
    (Star part span) item end))
    (take part item position)
blame_table rules judge take (Plus part span) item position =
    then_at (take part item position) (λ end. take (Star part span) item end)
blame_table rules judge take (Counted part min max span) item position =
    recognize_repeat (λ at. take part item at) min max position
blame_table rules judge take (And part span) item position = blame_item judge (And part span) item position
blame_table rules judge take (Not part span) item position = blame_item judge (Not part span) item position

-- The blame of an expression at a position in depth n. In depth 0 there is none; else it follows from the blame of the
-- parts in depth n - 1, and for an item from its record in depth n. Tests are pairs of a position and an item.
unfoldable pub blame_in : List Rule → List ℕ → ℕ → Recognizer
blame_in rules text zero e item position = None
blame_in rules text (suc n) e item position =
    blame_table rules (record_in rules text (suc n)) (blame_in rules text n) e item position

-- an expression has blame `r` at a position if it has `r` in some depth
abbrev pub HasBlame : List Rule → List ℕ → Form → (item position : ℕ) → Record → Type 0
HasBlame rules text e item position r = (n : ℕ) × (blame_in rules text n e item position ≡ Some r)

-- `r` is the blame of the text from the start rule of this name
abbrev pub StartHasBlame : List Rule → List ℕ → (start : List ℕ) → Record → Type 0
StartHasBlame rules text start r = HasBlame rules text (Name start (between 0 0)) 0 0 r
