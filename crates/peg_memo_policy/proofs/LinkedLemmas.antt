-- Results with links: they keep their meaning as long as links do, and operations of the table keep links.
use Rattle.std.proofs.Common.{◌≡◌, ◌≢◌, ℕ, ◌+◌, ◌-◌, ◌<◌, ◌++◌, All, Bool, true, false, cond, IfSome, List, [], ◌∷◌, drop, length, map, set, take, OnOk, is_ok, Option, None, Some, Result, Ok, Err, refl, sym, ap, subst, ◌∙◌, arith, length-append}
use Rattle.std.proofs.lemmas.Bool.{cond-true, cond-false}
use Rattle.std.proofs.Math.Seq.{set-append_seam, take-length}
use Rattle.std.proofs.lemmas.List.{drop_at, length-set, take-map}
use Rattle.std.proofs.lemmas.List.Elements.{All-cons, All-head, All-nil, All-tail, All-take}
use Rattle.std.specs.FinMap as finite
use Rattle.std.specs.Map.{lookup, lookup_entry, remove_entry}
use Rattle.std.specs.Option.{option_map, option_map_or}
use Rattle.lru.specs.LruCache.{LruCache, lru_cache, promoted, put_entries}
use Rattle.peg_memo.proofs.HeldPairs.{entries_in-promoted, get-entries_in, IsPartOf-put_entries, IsPartOf-take}
use Rattle.peg_memo.proofs.Mapped.{lookup-read, promoted-read, put_entries-read}
use Rattle.peg_memo.specs.MemoKey.{key_cmp, key_eq, MemoKey}
use Rattle.peg_memo.specs.MemoMap.{entries_in, IsPartOf, MemoMap}
use Rattle.peg_memo.specs.StoredResult.{StoredMatch, StoredResult}
use Rattle.peg_memo.specs.StoreState.{closed_at, memo_state, with_nodes, IsOfferedAt, IsTouched, StoreState}
use Rattle.peg_nodes.specs.Expansion.{expand, images_of}
use Rattle.peg_nodes.specs.Linked.{link_nodes, nodes_of, IsCut, KeepsLinks, Linked}
use Rattle.peg_nodes.specs.OpenNodes.{AreClosed, IsOpenAt}
use Rattle.peg_nodes.specs.declared.item.Item.{Item}
use Rattle.peg_tree.specs.Rows.{Row}
use Rattle.peg_memo_policy.proofs.Parts.{IsPartOf-stored}
use Rattle.peg_memo_policy.specs.LinkedResults.{linked_pairs, stored_result, AreLinked, IsLinked}
use Rattle.peg_memo_policy.specs.declared.linked_result.LinkedResult.{LinkedResult}
use Rattle.peg_memo_policy.specs.declared.linked_result.LinkedResult.TheVariants.{Failed, Matched}

abbrev pub Entries : Type 0
Entries = List (MemoKey × LinkedResult)

-- all nodes are a cut
pub whole-cut : (nodes : Linked) → IsCut nodes (length (nodes_of nodes))
whole-cut nodes = record {
  kept = length nodes.items;
  within = omega arith;
  counted = ap (λ (items : List Item). length (expand (images_of nodes.stored) items)) (take-length nodes.items);
}

-- ---- links that keep their nodes

module _ (old new : Linked) (keeps : KeepsLinks old new) where
  kept-result : (linked : LinkedResult) → IsLinked old linked → stored_result new linked ≡ stored_result old linked
  kept-result Failed is = refl
  kept-result (Matched end link) is = ap (StoredMatch end) (keeps link is).1

  pub kept-link : (linked : LinkedResult) → IsLinked old linked → IsLinked new linked
  kept-link Failed is = tt
  kept-link (Matched end link) is = (keeps link is).0

  pub kept-pairs : (entries : Entries) → AreLinked old entries → linked_pairs new entries ≡ linked_pairs old entries
  kept-pairs [] are = refl
  kept-pairs (entry ∷ entries) are =
      let P : MemoKey × LinkedResult → Type 0 = λ e. IsLinked old e.1 in
      ap (λ (pairs : List (MemoKey × StoredResult)). (entry.0, stored_result new entry.1) ∷ pairs)
      (kept-pairs entries (All-tail P entry entries are))
      ∙ ap (λ (stored : StoredResult). (entry.0, stored) ∷ linked_pairs old entries)
      (kept-result entry.1 (All-head P entry entries are))

  -- the state with the same table
  pub kept-state : (entries : Entries) (failed : Bool) (nodes : List Row) → AreLinked old entries → nodes_of new ≡ nodes
      → ◌≡◌ {A = StoreState} (record { nodes = nodes_of new; memo = memo_state (entries_in (linked_pairs new entries)) 0 failed })
      (record { nodes = nodes; memo = memo_state (entries_in (linked_pairs old entries)) 0 failed })
  kept-state entries failed nodes are same =
      let with_pairs : List (MemoKey × StoredResult) → StoreState = λ pairs.
      record { nodes = nodes_of new; memo = memo_state (entries_in pairs) 0 failed } in
      let with_these : List Row → StoreState = λ nodes.
      record { nodes = nodes; memo = memo_state (entries_in (linked_pairs old entries)) 0 failed } in
      ap with_pairs (kept-pairs entries are) ∙ ap with_these same

-- ---- the table

by_answer : {P : Type 0} (b : Bool) → (b ≡ true → P) → (b ≡ false → P) → P
by_answer true p q = p refl
by_answer false p q = q refl

module _ (Q : LinkedResult → Type 0) where
  abbrev P : MemoKey × LinkedResult → Type 0
  P entry = Q entry.1

  module _ (test : MemoKey → Bool) where
    found-entry : (entries : Entries) → All P entries → (found : MemoKey × LinkedResult)
        → lookup_entry test entries ≡ Some found → P found
    found-entry [] all found is = cc
    found-entry (entry ∷ entries) all found is =
        by_answer (test entry.0)
        (λ passes.
        let same : Some entry ≡ Some found = sym (cond-true _ (Some entry) (lookup_entry test entries) passes) ∙ is in
        let one : entry ≡ found = cc in
        subst P one (All-head P entry entries all))
        (λ fails. found-entry entries (All-tail P entry entries all) found
        (sym (cond-false _ (Some entry) (lookup_entry test entries) fails) ∙ is))

    pub found-result : (entries : Entries) → All P entries → (found : LinkedResult) → lookup test entries ≡ Some found → Q found
    found-result [] all found is = cc
    found-result (entry ∷ entries) all found is =
        by_answer (test entry.0)
        (λ passes.
        let same : Some entry.1 ≡ Some found = sym (cond-true _ (Some entry.1) (lookup test entries) passes) ∙ is in
        let one : entry.1 ≡ found = cc in
        subst Q one (All-head P entry entries all))
        (λ fails. found-result entries (All-tail P entry entries all) found
        (sym (cond-false _ (Some entry.1) (lookup test entries) fails) ∙ is))

    without-entry : (entries : Entries) → All P entries → All P (remove_entry test entries)
    without-entry [] all = all
    without-entry (entry ∷ entries) all =
        let rest = All-tail P entry entries all in
        by_answer (test entry.0)
        (λ passes. subst (All P) (sym (cond-true _ entries (entry ∷ remove_entry test entries) passes)) rest)
        (λ fails. subst (All P) (sym (cond-false _ entries (entry ∷ remove_entry test entries) fails))
        (All-cons P entry (remove_entry test entries) (All-head P entry entries all) (without-entry entries rest)))

    pub all-promoted : (entries : Entries) → All P entries → All P (promoted test entries)
    all-promoted entries all = by (lookup_entry test entries) refl
      where
        by : (found : Option (MemoKey × LinkedResult)) → lookup_entry test entries ≡ found
            → All P (option_map_or (λ e. e ∷ remove_entry test entries) found entries)
        by None is = all
        by (Some found) is =
            All-cons P found (remove_entry test entries) (found-entry entries all found is) (without-entry entries all)

  pub all-put : (entries : Entries) (capacity : ℕ) (asked : MemoKey) (linked : LinkedResult) → All P entries → Q linked
      → All P (put_entries key_eq (lru_cache entries capacity) asked linked)
  all-put entries capacity asked linked all is = by (lookup_entry (key_eq asked) entries)
    where
      by : (found : Option (MemoKey × LinkedResult))
          → All P (option_map_or (λ e. (e.0, linked) ∷ remove_entry (key_eq asked) entries) found
          ((asked, linked) ∷ take (capacity - 1) entries))
      by None =
          All-cons P (asked, linked) (take (capacity - 1) entries) is (All-take P (capacity - 1) entries all)
      by (Some found) =
          All-cons P (found.0, linked) (remove_entry (key_eq asked) entries) is (without-entry (key_eq asked) entries all)

-- ---- the entries

module _ (nodes : Linked) where
  -- what the table has is an entry
  pub entry-found : (entries : Entries) (asked : MemoKey) (linked : LinkedResult)
      → Some linked ≡ lookup (key_eq asked) entries
      → finite.get (entries_in (linked_pairs nodes entries)) asked ≡ Some (stored_result nodes linked)
  entry-found entries asked linked is =
      get-entries_in (linked_pairs nodes entries) asked
      ∙ lookup-read (stored_result nodes) (key_eq asked) entries
      ∙ ap (option_map (stored_result nodes)) (sym is)

  -- moving an entry to the front changes no entry
  pub entries-promoted : (entries : Entries) (asked : MemoKey)
      → entries_in (linked_pairs nodes (promoted (key_eq asked) entries)) ≡ entries_in (linked_pairs nodes entries)
  entries-promoted entries asked =
      ap entries_in (sym (promoted-read (stored_result nodes) (key_eq asked) entries))
      ∙ entries_in-promoted asked (linked_pairs nodes entries)

  -- each entry was there, or was stored
  pub entries-put : (entries : Entries) (capacity : ℕ) (asked : MemoKey) (linked : LinkedResult)
      → IsPartOf (entries_in (linked_pairs nodes (put_entries key_eq (lru_cache entries capacity) asked linked)))
      (finite.insert (entries_in (linked_pairs nodes entries)) asked (stored_result nodes linked))
  entries-put entries capacity asked linked =
      subst (λ (pairs : List (MemoKey × StoredResult)).
      IsPartOf (entries_in pairs) (finite.insert (entries_in (linked_pairs nodes entries)) asked (stored_result nodes linked)))
      (put_entries-read (stored_result nodes) key_eq (lru_cache entries capacity) asked linked)
      (IsPartOf-put_entries (lru_cache (linked_pairs nodes entries) capacity) asked (stored_result nodes linked))

  -- the first entries are entries
  pub entries-take : (entries : Entries) (count : ℕ)
      → IsPartOf (entries_in (linked_pairs nodes (take count entries))) (entries_in (linked_pairs nodes entries))
  entries-take entries count =
      subst (λ (pairs : List (MemoKey × StoredResult)). IsPartOf (entries_in pairs) (entries_in (linked_pairs nodes entries)))
      (take-map (λ (e : MemoKey × LinkedResult). (e.0, stored_result nodes e.1)) count entries)
      (IsPartOf-take count (linked_pairs nodes entries))

-- no entry is a part of all
pub none-part : (whole : MemoMap) → IsPartOf (entries_in []) whole
none-part whole asked kept found =
    let none : finite.get (entries_in []) asked ≡ None = get-entries_in [] asked in
    let never : ⊥ = cc in
    absurd never

-- ---- a closed node

-- the nodes from the newest open one on are closed once that one is
pub closed-rest : (rows : List Row) (at rule start end : ℕ) → IsOpenAt rows at
    → AreClosed (drop at (closed_at at rows rule start end))
closed-rest rows at rule start end opened =
    let size = length rows - at in
    let row : Row = record { rule = rule; start = start; end = end; size = size } in
    let count = ap length opened.parts ∙ length-append opened.before (opened.newest ∷ opened.after) in
    let index = opened.counted in
    let some : size ≡ 1 + length opened.after = omega arith in
    let is : closed_at at rows rule start end ≡ opened.before ++ row ∷ opened.after =
    ap (λ (n : ℕ). set rows n row) (sym opened.counted)
    ∙ ap (λ (l : List Row). set l (length opened.before) row) opened.parts
    ∙ set-append_seam opened.before opened.newest opened.after row in
    subst AreClosed
    (sym (ap (drop at) is ∙ drop_at opened.before (row ∷ opened.after) at opened.counted))
    (All-cons (λ (r : Row). r.size ≢ 0) row opened.after (λ none. let zero : size ≡ 0 = none in absurd (omega arith))
    opened.are_closed)

-- it has as many nodes as before
pub closed-length : (rows : List Row) (at rule start end : ℕ) → IsOpenAt rows at
    → at < length (closed_at at rows rule start end)
closed-length rows at rule start end opened =
    let count = ap length opened.parts ∙ length-append opened.before (opened.newest ∷ opened.after) in
    let index = opened.counted in
    let same = length-set rows at (record { rule = rule; start = start; end = end; size = length rows - at }) in
    omega arith

-- ---- offers

-- what is offered to a memo that was touched before is offered to the memo before that
pub offered-later : (before middle after : MemoMap) (asked : MemoKey) (stored : StoredResult) (kept one two three : Bool)
    → IsTouched (memo_state before 0 one) (memo_state middle 0 two)
    → IsOfferedAt (memo_state middle 0 two) asked stored kept (memo_state after 0 three)
    → IsOfferedAt (memo_state before 0 one) asked stored kept (memo_state after 0 three)
offered-later before middle after asked stored kept one two three touched offered = record {
  part = IsPartOf-stored before middle after asked stored kept touched.part offered.part;
  all = λ some. absurd (omega arith);
  capacity = refl;
  allocation_failed = λ failed. offered.allocation_failed (touched.allocation_failed failed);
}

-- nothing is stored of what is offered
pub offered-none : (entries : MemoMap) (asked : MemoKey) (stored : StoredResult) (failed : Bool)
    → IsOfferedAt (memo_state entries 0 failed) asked stored false (memo_state entries 0 failed)
offered-none entries asked stored failed = record {
  part = λ other kept found. found;
  all = λ some. absurd (omega arith);
  capacity = refl;
  allocation_failed = λ fails. fails;
}

-- ---- results

pub on-ok : {T E P Q : Type 0} (result : Result T E) → (P → Q) → OnOk result P → OnOk result Q
on-ok (Ok done) gives holds = gives holds
on-ok (Err error) gives holds = tt

pub on-ok-always : {T E P : Type 0} (result : Result T E) → P → OnOk result P
on-ok-always (Ok done) holds = holds
on-ok-always (Err error) holds = tt

pub on-ok-then : {T E P : Type 0} (result : Result T E) → is_ok result ≡ true → OnOk result P → P
on-ok-then (Ok done) is holds = holds
on-ok-then (Err error) is holds = let never : ⊥ = cc in absurd never
