-- Searches in lists of names, by their bytes, and in lists of lists.
use Rattle.std.proofs.Common.{◌≡◌, ℕ, ◌+◌, ◌<◌, Bool, false, if◌then◌else◌, ◌||◌, cond, not, List, [], ◌∷◌, ◌++◌, None, Some}
use Rattle.std.proofs.Common.{map, bytes_eq, string_bytes, length, get_or, drop, find, position, refl, sym, ap, ◌∙◌}
use Rattle.std.specs.List.{list_any, position_or_len}
use Rattle.std.specs.Option.{option_or}
use Rattle.std.specs.String.{string_eq}
use Rattle.std.specs.declared.alloc.Global.{Global}
use Rattle.std.specs.declared.string.String.{String}
use Rattle.indexmap.specs.IndexSet.{insert_key}
use Rattle.peg_grammar.specs.Names.{ended_names}
use Rattle.std.proofs.lemmas.List.{append_assoc, length-map, map_push, at_drop_more}
use Rattle.std.proofs.lemmas.List.Folds.{find-append}

module _ {X Y : Type 0} (f : X → Y) (p : Y → Bool) where
  -- whether the image of some item passes
  pub list_any-map : (xs : List X) → list_any p (map f xs) ≡ list_any (λ x. p (f x)) xs
  list_any-map [] = refl
  list_any-map (x ∷ xs) = ap (λ b. p (f x) || b) (list_any-map xs)

  -- the index of the first item whose image passes, or the length of the list
  pub position_or_len-map : (xs : List X) → position_or_len p (map f xs) ≡ position_or_len (λ x. p (f x)) xs
  position_or_len-map [] = refl
  position_or_len-map (x ∷ xs) = ap (λ n. cond (not (p (f x))) (1 + n) 0) (position_or_len-map xs)

  -- the index of the first item whose image passes
  pub position-map : (xs : List X) → position p (map f xs) ≡ position (λ x. p (f x)) xs
  position-map xs = rw (position_or_len-map xs, length-map)

module _ {X : Type 0} (p : X → Bool) (xs ys : List X) where
  -- the first match in a prefix is the first match in the whole list
  pub find_front : (x : X) → Some x ≡ find p xs → Some x ≡ find p (xs ++ ys)
  find_front x here = ap (λ o. option_or o (find p ys)) here ∙ sym (find-append p xs ys)

  -- if a prefix has no match, the first match is that of the rest
  pub find_rest : None ≡ find p xs → find p (xs ++ ys) ≡ find p ys
  find_rest none = find-append p xs ys ∙ ap (λ o. option_or o (find p ys)) (sym none)

-- A search through the lists of some items, without a match before index i.
module _ {A X : Type 0} (p : X → Bool) (held : A → List X) (all : List A → List X)
    (more : (item : A) (items : List A) → all (item ∷ items) ≡ held item ++ all items)
    (items : List A) (i : ℕ) (item : A) (within : i < length items) (is : item ≡ get_or items i item)
    (same : find p (all (drop i items)) ≡ find p (all items)) where
  step : find p (all (drop i items)) ≡ find p (held item ++ all (drop (i + 1) items))
  step = at_drop_more (λ l. find p (all l)) items i item within
      ∙ ap (find p) (more (get_or items i item) (drop (i + 1) items))
      ∙ ap (λ a. find p (held a ++ all (drop (i + 1) items))) (sym is)

  -- a match in item i is the first match
  pub found_here : (x : X) → Some x ≡ find p (held item) → Some x ≡ find p (all items)
  found_here x here = find_front p (held item) (all (drop (i + 1) items)) x here ∙ sym step ∙ same

  -- if item i has no match, there is none before the next index
  pub found_later : None ≡ find p (held item) → find p (all (drop (i + 1) items)) ≡ find p (all items)
  found_later none = sym (find_rest p (held item) (all (drop (i + 1) items)) none) ∙ sym step ∙ same

-- a set of texts is searched by bytes
pub ruleset name_steps = (list_any-map, position-map)

-- a text that is not in the set is appended
pub map-insert_key : (texts : List (String Global)) (text : String Global) (bytes : List ℕ) → string_bytes text ≡ bytes
    → list_any (bytes_eq bytes) (map string_bytes texts) ≡ false
    → map string_bytes (insert_key string_eq texts text) ≡ map string_bytes texts ++ bytes ∷ []
map-insert_key texts text bytes is absent =
    let by_bytes = list_any-map string_bytes (bytes_eq (string_bytes text)) texts in
    let new = sym by_bytes ∙ ap (λ b. list_any (bytes_eq b) (map string_bytes texts)) is ∙ absent in
    ap (λ b. map string_bytes (if b then texts else texts ++ text ∷ [])) new
    ∙ map_push string_bytes texts text ∙ ap (λ b. map string_bytes texts ++ b ∷ []) is

-- appending a name appends its bytes and a zero byte
pub ended_names-push : (names : List (List ℕ)) (name : List ℕ)
    → ended_names (names ++ name ∷ []) ≡ (ended_names names ++ name) ++ 0 ∷ []
ended_names-push [] name = refl
ended_names-push (first ∷ names) name =
    ap (λ rest. first ++ 0 ∷ rest) (ended_names-push names name)
    ∙ sym (append_assoc first (0 ∷ (ended_names names ++ name)) (0 ∷ []))
    ∙ ap (λ front. front ++ 0 ∷ []) (sym (append_assoc first (0 ∷ ended_names names) name))
