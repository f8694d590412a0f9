-- The records ahead of a reader, as it reads and finds.
use Rattle.std.proofs.Common.{◌≡◌, ◌∙◌, ◌+◌, ◌<◌, ℕ, Bool, true, false, cond, List, [], ◌∷◌, ◌++◌, inl, inr, ◌==◌, ap, append_assoc, append-nil, arith, drop, eq-eqb, length, length-append, refl, sym, take}
use Rattle.std.proofs.lemmas.Bool.{cases_lt, ne_eqb}
use Rattle.std.proofs.lemmas.Grind.{common_steps}
use Rattle.std.proofs.lemmas.List.{take-append-drop, take_all}
use Rattle.std.proofs.lemmas.List.Sums.{sum_by-append}
use Rattle.std.specs.List.{count_by}
use Rattle.std.proofs.lemmas.List.Elements.{All-append, All-nil}
use Rattle.peg_records.specs.Ahead.{AreAhead, HasNoEnd, IsGivenFor}
use Rattle.peg_records.specs.Records.{is_end, is_line_feed, line_feeds_found, line_feeds_of, record_of, records}
use Rattle.peg_records.specs.declared.end.RecordEnd.{RecordEnd}
use Rattle.peg_records.specs.declared.end.RecordEnd.TheVariants.{Line, CrLf, Zero}
use Rattle.peg_records.proofs.RecordLemmas.{record-length, records-first, records-last}

-- the line feeds of a record that is found
feeds-found : (end : RecordEnd) (lost : ℕ) (kept front : List ℕ)
    → count_by is_line_feed front ≡ lost + count_by is_line_feed kept
    → line_feeds_found end lost kept ≡ line_feeds_of end (record_of end front)
feeds-found Line lost kept front same = refl
feeds-found CrLf lost kept front same = refl
feeds-found Zero lost kept front same = sym same

-- and of a last one, which has no end
last-found : (end : RecordEnd) (lost : ℕ) (kept front : List ℕ)
    → count_by is_line_feed front ≡ lost + count_by is_line_feed kept
    → line_feeds_found end lost kept ≡ line_feeds_of end front
last-found Line lost kept front same = refl
last-found CrLf lost kept front same = refl
last-found Zero lost kept front same = sym same

module _ (end : RecordEnd) (limit : ℕ) where
  -- nothing is kept of a record
  pub ahead-none : (rest left : List ℕ) → AreAhead end limit 0 [] rest left (records end (rest ++ left))
  ahead-none rest left =
      record {
        front = [];
        given = inl refl;
        endless = All-nil (λ byte. is_end end byte ≡ false);
        counted = refl;
        same = refl;
      }

  -- ---- a record is found

  given-more : (kept front more : List ℕ) → IsGivenFor (limit + 1) kept front
      → IsGivenFor (limit + 1) (kept ++ more) (front ++ more)
  given-more kept front more (inl same) = inl (ap (λ (l : List ℕ). l ++ more) same)
  given-more kept front more (inr long) =
      inr (omega (arith, long.0, length-append kept more), omega (arith, long.1, length-append front more))

  given-record : (given text : List ℕ) → IsGivenFor (limit + 1) given text
      → IsGivenFor limit (record_of end given) (record_of end text)
  given-record given text (inl same) = inl (ap (record_of end) same)
  given-record given text (inr long) =
      inr (omega (arith, long.0, record-length end given), omega (arith, long.1, record-length end text))

  joined : (front part : List ℕ) (byte : ℕ) (rest left : List ℕ)
      → front ++ (part ++ byte ∷ rest ++ left) ≡ front ++ part ++ byte ∷ (rest ++ left)
  joined front part byte rest left =
      ap (λ (l : List ℕ). front ++ l) (append_assoc part (byte ∷ rest) left)
      ∙ sym (append_assoc front part (byte ∷ (rest ++ left)))

  -- line feeds of more bytes
  counted-more : (lost : ℕ) (front kept more : List ℕ)
      → count_by is_line_feed front ≡ lost + count_by is_line_feed kept
      → count_by is_line_feed (front ++ more) ≡ lost + count_by is_line_feed (kept ++ more)
  counted-more lost front kept more same =
      let one = sum_by-append (λ byte. cond (is_line_feed byte) 1 0) front more in
      let two = sum_by-append (λ byte. cond (is_line_feed byte) 1 0) kept more in
      omega (arith, one, two, same)

  -- a record ends after these bytes of the rest
  pub ahead-found : (lost : ℕ) (kept part : List ℕ) (byte : ℕ) (rest left : List ℕ) (ahead : List (List ℕ)) → HasNoEnd end part
      → is_end end byte ≡ true → AreAhead end limit lost kept (part ++ byte ∷ rest) left ahead
      → (text : List ℕ) × (later : List (List ℕ)) × (ahead ≡ text ∷ later)
      × IsGivenFor limit (record_of end (kept ++ part)) text × AreAhead end limit 0 [] rest left later
      × (line_feeds_found end lost (kept ++ part) ≡ line_feeds_of end text)
  ahead-found lost kept part byte rest left ahead none is before = (
    record_of end (before.front ++ part),
    records end (rest ++ left),
    before.same
        ∙ (ap (records end) (joined before.front part byte rest left)
        ∙ records-first end (before.front ++ part) byte (rest ++ left)
        (All-append (λ byte. is_end end byte ≡ false) before.front part before.endless none) is),
    given-record (kept ++ part) (before.front ++ part) (given-more kept before.front part before.given),
    ahead-none rest left,
    feeds-found end lost (kept ++ part) (before.front ++ part) (counted-more lost before.front kept part before.counted),
  )

  -- no record ends in the rest
  pub ahead-searched : (lost : ℕ) (kept rest left : List ℕ) (ahead : List (List ℕ)) → HasNoEnd end rest
      → AreAhead end limit lost kept rest left ahead → AreAhead end limit lost (kept ++ rest) [] left ahead
  ahead-searched lost kept rest left ahead none before = record {
    front = before.front ++ rest;
    given = given-more kept before.front rest before.given;
    endless = All-append (λ byte. is_end end byte ≡ false) before.front rest before.endless none;
    counted = counted-more lost before.front kept rest before.counted;
    same = before.same ∙ ap (records end) (sym (append_assoc before.front rest left));
  }

  -- ---- the last record

  -- something is kept if there is something
  given-empty : (kept front : List ℕ) → IsGivenFor (limit + 1) kept front → length kept ≡ 0 → length front ≡ 0
  given-empty kept front (inl same) none = sym (ap length same) ∙ none
  given-empty kept front (inr long) none = absurd (omega (arith, long.0))

  given-some : (kept front : List ℕ) → IsGivenFor (limit + 1) kept front → 0 < length kept → 0 < length front
  given-some kept front (inl same) some = omega (arith, ap length same)
  given-some kept front (inr long) some = omega (arith, long.1)

  given-last : (kept front : List ℕ) → IsGivenFor (limit + 1) kept front → IsGivenFor limit kept front
  given-last kept front (inl same) = inl same
  given-last kept front (inr long) = inr (omega (arith, long.0), omega (arith, long.1))

  at-end : (lost : ℕ) (kept : List ℕ) (ahead : List (List ℕ)) (before : AreAhead end limit lost kept [] [] ahead)
      → ahead ≡ cond (length before.front == 0) [] (before.front ∷ [])
  at-end lost kept ahead before =
      before.same ∙ (ap (records end) (append-nil before.front) ∙ records-last end before.front before.endless)

  pub ahead-last : (lost : ℕ) (kept : List ℕ) (ahead : List (List ℕ)) → 0 < length kept
      → AreAhead end limit lost kept [] [] ahead
      → (text : List ℕ) × (ahead ≡ text ∷ []) × IsGivenFor limit kept text
      × (line_feeds_found end lost kept ≡ line_feeds_of end text)
  ahead-last lost kept ahead some before = (
    before.front,
    at-end lost kept ahead before
        ∙ ap (λ (b : Bool). cond b [] (before.front ∷ [])) (ne_eqb (length before.front) 0 (λ none.
        let more : 0 < length before.front = given-some kept before.front before.given some in omega arith)),
    given-last kept before.front before.given,
    last-found end lost kept before.front before.counted,
  )

  pub ahead-no_last : (lost : ℕ) (kept : List ℕ) (ahead : List (List ℕ)) → length kept ≡ 0
      → AreAhead end limit lost kept [] [] ahead → ahead ≡ []
  ahead-no_last lost kept ahead none before =
      at-end lost kept ahead before
      ∙ ap (λ (b : Bool). cond b [] (before.front ∷ []))
      (eq-eqb (length before.front) 0 (given-empty kept before.front before.given none))

  -- ---- a block is read

  given-cut : (kept front : List ℕ) → IsGivenFor (limit + 1) kept front → IsGivenFor (limit + 1) (take (limit + 2) kept) front
  given-cut kept front (inl same) = elim (cases_lt (limit + 1) (length kept)) [
    | inl long ↦ inr (grind (arith, common_steps), omega (arith, ap length same))
    | inr short ↦ inl (take_all (limit + 2) kept (omega arith) ∙ same)
  ]
  given-cut kept front (inr long) = inr (grind (arith, common_steps, long.0), long.1)

  -- the start of a record is cut
  pub ahead-cut : (lost : ℕ) (kept left : List ℕ) (ahead : List (List ℕ)) → AreAhead end limit lost kept [] left ahead
      → AreAhead end limit (lost + count_by is_line_feed (drop (limit + 2) kept)) (take (limit + 2) kept) [] left ahead
  ahead-cut lost kept left ahead before = record {
    front = before.front;
    given = given-cut kept before.front before.given;
    endless = before.endless;
    counted =
        let parts = sum_by-append (λ byte. cond (is_line_feed byte) 1 0) (take (limit + 2) kept) (drop (limit + 2) kept) in
        let whole = ap (count_by is_line_feed) (take-append-drop (limit + 2) kept) in
        omega (arith, parts, whole, before.counted);
    same = before.same;
  }

  -- bytes that were left are in memory
  pub ahead-read : (lost : ℕ) (kept block left : List ℕ) (ahead : List (List ℕ))
      → AreAhead end limit lost kept [] (block ++ left) ahead → AreAhead end limit lost kept block left ahead
  ahead-read lost kept block left ahead before = record {
    front = before.front;
    given = before.given;
    endless = before.endless;
    counted = before.counted;
    same = before.same;
  }
