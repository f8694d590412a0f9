-- The serializer events of a list of values.
use Rattle.std.proofs.Common.{◌≡◌, ◌+◌, ◌<◌, ◌≤◌, ℕ, List, [], ◌∷◌, Some, drop, get_or, length, ap, refl, subst, suc, sym, ◌∙◌}
use Rattle.std.proofs.lemmas.List.{drop_all, drop_more}
use Rattle.serde.specs.Event.{Log, Logs, WritesEach}
use Rattle.serde.specs.Event as event
use Rattle.serde_json.specs.Data.{Data, array}
use Rattle.serde_json.specs.Events.{SendsItems, SendsValue, items_len}
use Rattle.serde_json.specs.View.{items_of}

-- the events of consecutive values and the end of a list are the events of the list's items
pub SendsItems-from_each : (list : List Data) (old mid new : Log) → WritesEach SendsValue list old mid
    → Logs mid new event.seq_ends → SendsItems (items_of list) old new
SendsItems-from_each [] old mid new each ends = subst (λ log. Logs log new event.seq_ends) each ends
SendsItems-from_each (value ∷ list) old mid new each ends =
    (each.0, each.1, SendsItems-from_each list each.0 mid new each.2 ends)

-- a list has one item for each value
pub items_len-items_of : (list : List Data) → items_len (items_of list) ≡ length list
items_len-items_of [] = refl
items_len-items_of (value ∷ list) = ap suc (items_len-items_of list)

-- one more item of a list is serialized
pub item-sent : (list : List Data) (at : ℕ) (value other : Data) → at < length list → get_or list at other ≡ value
    → (old mid last : Log) → SendsValue value old mid → SendsItems (items_of (drop (at + 1) list)) mid last
    → SendsItems (items_of (drop at list)) old last
item-sent list at value other within here old mid last sent rest =
    subst (λ l. SendsItems (items_of l) old last)
    (ap (λ v. v ∷ drop (at + 1) list) (sym here) ∙ sym (drop_more list at other within)) (mid, sent, rest)

-- a list whose items are all serialized, between its beginning and its end
pub array-sent : (list : List Data) (at count : ℕ) → length list ≤ at → count ≡ length list → (old first now new : Log)
    → Logs old first (event.seq_begins (Some count))
    → ((last : Log) → SendsItems (items_of (drop at list)) now last → SendsItems (items_of list) first last)
    → Logs now new event.seq_ends → SendsValue (array (items_of list)) old new
array-sent list at count over counted old first now new begins sent ends = (
  first,
  subst (λ n. Logs old first (event.seq_begins (Some n))) (counted ∙ sym (items_len-items_of list)) begins,
  sent new (subst (λ l. SendsItems (items_of l) now new) (sym (drop_all at list over)) ends),
)
