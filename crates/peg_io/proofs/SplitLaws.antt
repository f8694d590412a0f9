-- Laws of the split: it is unique, and the split of a prefix determines the split of the whole input.
use Rattle.std.proofs.Common.{◌≡◌, ℕ, zero, suc, ◌+◌, ◌<◌, ◌≤◌, true, ◌==◌, ◌⊎◌, inl, inr, List, [], ◌++◌, ◌-◌, length, slice_index, take, drop, refl, sym, ap, subst, ◌∙◌, arith, length-append, length-drop}
use Rattle.std.proofs.lemmas.List.{get_or_past, take-append-drop, get_or_append_left, length-take-le, take-append-le, drop-append-le}
use Rattle.std.proofs.lemmas.Bool.{and_parts, eqb-true, cases_lt, cases_order, cases_Bool, both_ways}
use Rattle.peg_io.specs.Split.{line_starts_at, is_separator_at, NoneBefore, IsFirstSeparator, HasNoSeparator, IsSplit, at_separator, without_separator}

-- a separator ends in byte 10
separator_end : (input : List ℕ) (position : ℕ) → is_separator_at input position ≡ true
    → slice_index input (position + 2) ≡ 10
separator_end input position here = eqb-true (slice_index input (position + 2)) 10 (and_parts _ _ here).1

-- the three bytes of a separator are within the input
pub separator_within : (input : List ℕ) (position : ℕ) → is_separator_at input position ≡ true
    → position + 2 < length input
separator_within input position here =
    let end = separator_end input position here in
    elim (cases_lt (position + 2) (length input)) [
      | inl within ↦ within
      | inr past ↦ absurd (omega (arith, get_or_past input (position + 2) 0 past))
    ]

-- an input has at most one first separator
first_separator_same : (input : List ℕ) (one other : ℕ) → IsFirstSeparator input one
    → IsFirstSeparator input other → one ≡ other
first_separator_same input one other first second =
    elim (cases_order one other) [
      | inl same ↦ same
      | inr (inl less) ↦ absurd (both_ways _ (second.first one less) first.here)
      | inr (inr more) ↦ absurd (both_ways _ (first.first other more) second.here)
    ]

-- two splits of one input are equal
pub IsSplit-same : (input before after before' after' : List ℕ) → IsSplit input before after
    → IsSplit input before' after' → (before ≡ before') × (after ≡ after')
IsSplit-same input before after before' after' (at_separator one first b a) (at_separator other second b' a') =
    let same = first_separator_same input one other first second in
    (b ∙ ap (λ position. take position input) same ∙ sym b', a ∙ ap (λ position. drop (position + 3) input) same ∙ sym a')
IsSplit-same input before after before' after' (at_separator one first b a) (without_separator none b' a') =
    absurd (both_ways _ (none one) first.here)
IsSplit-same input before after before' after' (without_separator none b a) (at_separator other second b' a') =
    absurd (both_ways _ (none other) second.here)
IsSplit-same input before after before' after' (without_separator none b a) (without_separator none' b' a') =
    (b ∙ sym b', a ∙ sym a')

-- either there is a first separator, or there is none before the bound
first_below : (input : List ℕ) (bound : ℕ) → ((position : ℕ) × IsFirstSeparator input position) ⊎ NoneBefore input bound
first_below input zero = inr (λ position below. absurd (omega arith))
first_below input (suc bound) =
    elim (first_below input bound) [
      | inl found ↦ inl found
      | inr none ↦ elim (cases_Bool (is_separator_at input bound)) [
        | inl here ↦ inl (bound, record { here = here; first = none })
        | inr missing ↦ inr (λ position below. elim (cases_lt position bound) [
          | inl less ↦ none position less
          | inr limit ↦ let same : position ≡ bound = omega arith in ap (is_separator_at input) same ∙ missing
        ])
      ]
    ]

-- an input has a first separator or no separator
first_or_none : (input : List ℕ) → ((position : ℕ) × IsFirstSeparator input position) ⊎ HasNoSeparator input
first_or_none input =
    elim (first_below input (length input)) [
      | inl found ↦ inl found
      | inr none ↦ inr (λ position. elim (cases_Bool (is_separator_at input position)) [
        | inl here ↦ none position (omega (arith, separator_within input position here))
        | inr missing ↦ missing
      ])
    ]

-- within a prefix, whether a line starts at an offset depends on the prefix alone
line_starts_at-front : (front rest : List ℕ) (position : ℕ) → position ≤ length front
    → line_starts_at (front ++ rest) position ≡ line_starts_at front position
line_starts_at-front front rest zero within = refl
line_starts_at-front front rest (suc before) within =
    ap (λ byte. byte == 10) (get_or_append_left front rest 0 before (omega arith))

-- whether a separator starts at an offset depends only on a prefix that contains its three bytes
pub is_separator_at-front : (front rest : List ℕ) (position : ℕ) → position + 2 < length front
    → is_separator_at (front ++ rest) position ≡ is_separator_at front position
is_separator_at-front front rest position within =
    let start = line_starts_at-front front rest position (omega arith) in
    let one = get_or_append_left front rest 0 position (omega arith) in
    let two = get_or_append_left front rest 0 (position + 1) (omega arith) in
    let three = get_or_append_left front rest 0 (position + 2) within in
    rw (start, one, two, three)

-- What the split of a prefix says about the split of the whole input. A separator in the prefix is also that of the
-- whole, and the bytes after it continue with the rest. Without one, the part before the whole's separator has all of
-- the prefix except for at most two bytes.
pub data SplitOfWhole (front rest before after before' after' : List ℕ) : Type 0 where
  separator_in_front : before' ≡ before → after' ≡ after ++ rest → length before + 3 + length after ≡ length front
      → SplitOfWhole front rest before after before' after'
  separator_further : before ≡ front → after ≡ [] → length front ≤ length before' + 2
      → SplitOfWhole front rest before after before' after'

-- the split of a prefix, and the split of the whole that it determines
pub front_split : (front rest before after : List ℕ) → IsSplit front before after
    → (before' : List ℕ) × (after' : List ℕ) × IsSplit (front ++ rest) before' after'
    × SplitOfWhole front rest before after before' after'
front_split front rest before after (at_separator position found b a) =
    let within = separator_within front position found.here in
    let here = is_separator_at-front front rest position within ∙ found.here in
    let first : NoneBefore (front ++ rest) position = λ earlier less.
    is_separator_at-front front rest earlier (omega arith) ∙ found.first earlier less in
    let fits : position ≤ length front = omega arith in
    let fits_end : position + 3 ≤ length front = omega arith in
    let before_length : length before ≡ position = ap length b ∙ length-take-le position front fits in
    let after_length : length after ≡ length front - (position + 3) = ap length a ∙ length-drop (position + 3) front in (
      take position (front ++ rest),
      drop (position + 3) (front ++ rest),
      at_separator position (record { here = here; first = first }) refl refl,
      separator_in_front (take-append-le position front rest fits ∙ sym b)
          (drop-append-le (position + 3) front rest fits_end ∙ ap (λ bytes. bytes ++ rest) (sym a)) (omega arith),
    )
front_split front rest before after (without_separator none b a) =
    elim (first_or_none (front ++ rest)) [
      | inl found ↦ further found.0 found.1
      | inr missing ↦ (
        front ++ rest,
        [],
        without_separator missing refl refl,
        separator_further b a (omega (arith, length-append front rest)),
      )
    ]
  where
    further : (position : ℕ) → IsFirstSeparator (front ++ rest) position → (before' : List ℕ) × (after' : List ℕ)
        × IsSplit (front ++ rest) before' after' × SplitOfWhole front rest before after before' after'
    further position found =
        let within = separator_within (front ++ rest) position found.here in
        let all_before : length (take position (front ++ rest)) ≡ position =
        length-take-le position (front ++ rest) (omega arith) in
        let long : length front ≤ position + 2 = elim (cases_lt (position + 2) (length front)) [
          | inl less ↦ let seen = is_separator_at-front front rest position less in
              absurd (both_ways _ (none position) (sym seen ∙ found.here))
          | inr limit ↦ limit
        ] in (
          take position (front ++ rest),
          drop (position + 3) (front ++ rest),
          at_separator position found refl refl,
          separator_further b a (omega arith),
        )

-- the same for the first `limit` bytes of an input, as a bounded read returns them
pub first_bytes_split : (input : List ℕ) (limit : ℕ) (before after : List ℕ) → IsSplit (take limit input) before after
    → (before' : List ℕ) × (after' : List ℕ) × IsSplit input before' after'
    × SplitOfWhole (take limit input) (drop limit input) before after before' after'
first_bytes_split input limit before after part =
    let whole = front_split (take limit input) (drop limit input) before after part in
    let all = subst (λ (bytes : List ℕ). IsSplit bytes whole.0 whole.1) (take-append-drop limit input) whole.2 in
    (whole.0, whole.1, all, whole.3)
