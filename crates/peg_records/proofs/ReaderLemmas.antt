-- The records ahead of a reader, by the parts of the bytes in memory.
use Rattle.std.proofs.Common.{◌≡◌, ◌∙◌, ◌+◌, ◌-◌, ◌<◌, ◌≤◌, ℕ, suc, true, List, [], ◌∷◌, ◌++◌, inl, inr, Option, ap, arith, drop, drop-cons, length, length-drop, min, nat_lt, refl, slice_index, slice_range, subst, sym, take}
use Rattle.std.proofs.Math.Seq.{take-add}
use Rattle.std.proofs.lemmas.Bool.{cases_lt, le-ltb, lt-ltb}
use Rattle.std.proofs.lemmas.Grind.{common_steps}
use Rattle.std.proofs.lemmas.List.{drop-drop, take-append-drop, take-append-le, take_all, take_rest}
use Rattle.std.proofs.lemmas.List.Edits.{paste_all}
use Rattle.std.specs.List.{copy_within, count_by}
use Rattle.memchr.specs.Find.{IsFirstByte, is_byte}
use Rattle.peg_records.specs.Ahead.{AreAhead, HasNoEnd, IsGivenFor}
use Rattle.peg_records.specs.Readers.{EndsWith, record_at}
use Rattle.peg_records.specs.Records.{end_byte, is_end, is_line_feed, line_feeds_found, line_feeds_of, record_of}
use Rattle.peg_records.specs.declared.end.RecordEnd.{RecordEnd}
use Rattle.peg_records.specs.declared.reader.RecordReader.{RecordReader}
use Rattle.peg_records.proofs.AheadLemmas.{ahead-cut, ahead-found, ahead-last, ahead-no_last, ahead-read, ahead-searched}
use Rattle.peg_records.proofs.RecordLemmas.{none-before}

-- no bytes
pub range-none : (xs : List ℕ) (at : ℕ) → slice_range xs at at ≡ []
range-none xs at = ap (λ n. take n (drop at xs)) (let none : at - at ≡ 0 = omega arith in none)

-- two ranges, one after the other
pub range-joined : (xs : List ℕ) (from at more : ℕ) → from ≤ at
    → slice_range xs from (at + more) ≡ slice_range xs from at ++ take more (drop at xs)
range-joined xs from at more within =
    let count : at + more - from ≡ (at - from) + more = omega arith in
    let rest : from + (at - from) ≡ at = omega arith in
    ap (λ n. take n (drop from xs)) count
    ∙ (take-add (at - from) more (drop from xs)
    ∙ ap (λ (l : List ℕ). slice_range xs from at ++ take more l)
    (drop-drop (at - from) from xs ∙ ap (λ n. drop n xs) rest))

-- the bytes before and after the one at an offset of the rest
rest-split : (xs : List ℕ) (at more : ℕ) → at + more < length xs
    → drop at xs ≡ take more (drop at xs) ++ slice_index (drop at xs) more ∷ drop (at + more + 1) xs
rest-split xs at more within =
    let size : more < length (drop at xs) = grind (arith, common_steps) in
    let after : drop (suc more) (drop at xs) ≡ drop (at + more + 1) xs =
    drop-drop (suc more) at xs ∙ ap (λ n. drop n xs) (let same : at + suc more ≡ at + more + 1 = omega arith in same) in
    sym (take-append-drop more (drop at xs))
    ∙ ap (λ (l : List ℕ). take more (drop at xs) ++ l)
    (drop-cons (drop at xs) more 0 size ∙ ap (λ (l : List ℕ). slice_index (drop at xs) more ∷ l) after)

module _ (end : RecordEnd) (limit : ℕ) where
  -- a record ends at an offset of the rest
  pub reader-found : (lost : ℕ) (xs : List ℕ) (start searched more : ℕ) (left : List ℕ) (ahead : List (List ℕ)) → start ≤ searched
      → searched + more < length xs
      → ((k : ℕ) → 0 ≤ k → k < more → ¬ (is_end end (slice_index (drop searched xs) k) ≡ true))
      → is_end end (slice_index (drop searched xs) more) ≡ true
      → AreAhead end limit lost (slice_range xs start searched) (drop searched xs) left ahead
      → (text : List ℕ) × (later : List (List ℕ)) × (ahead ≡ text ∷ later)
      × IsGivenFor limit (record_of end (slice_range xs start (searched + more))) text
      × AreAhead end limit 0 [] (drop (searched + more + 1) xs) left later
      × (line_feeds_found end lost (slice_range xs start (searched + more)) ≡ line_feeds_of end text)
  reader-found lost xs start searched more left ahead order within none is before =
      let rest = drop searched xs in
      let kept = slice_range xs start searched in
      let found = ahead-found end limit lost kept (take more rest) (slice_index rest more) (drop (searched + more + 1) xs) left
      ahead (none-before end rest more none) is
      (subst (λ (l : List ℕ). AreAhead end limit lost kept l left ahead) (rest-split xs searched more within) before) in (
        found.0,
        found.1,
        found.2,
        subst (λ (l : List ℕ). IsGivenFor limit (record_of end l) found.0) (sym (range-joined xs start searched more order))
            found.3,
        found.4,
        ap (line_feeds_found end lost) (range-joined xs start searched more order) ∙ found.5,
      )

  -- no record ends in the rest
  pub reader-searched : (lost : ℕ) (xs : List ℕ) (start searched : ℕ) (left : List ℕ) (ahead : List (List ℕ)) → start ≤ searched
      → searched ≤ length xs → HasNoEnd end (drop searched xs)
      → AreAhead end limit lost (slice_range xs start searched) (drop searched xs) left ahead
      → AreAhead end limit lost (slice_range xs start (length xs)) [] left ahead
  reader-searched lost xs start searched left ahead order within none before =
      let sum : length xs ≡ searched + (length xs - searched) = omega arith in
      let whole : take (length xs - searched) (drop searched xs) ≡ drop searched xs = grind (arith, common_steps) in
      let all : slice_range xs start (length xs) ≡ slice_range xs start searched ++ drop searched xs =
      ap (slice_range xs start) sum
      ∙ (range-joined xs start searched (length xs - searched) order
      ∙ ap (λ (l : List ℕ). slice_range xs start searched ++ l) whole) in
      subst (λ (l : List ℕ). AreAhead end limit lost l [] left ahead) (sym all)
      (ahead-searched end limit lost (slice_range xs start searched) (drop searched xs) left ahead none before)

-- what a search of the rest finds
pub searched-rest : (end : RecordEnd) (xs other : List ℕ) (searched byte : ℕ) (found : Option ℕ) → other ≡ xs
    → byte ≡ end_byte end
    → IsFirstByte (is_byte byte) (take (length other - searched) (drop searched other)) found
    → IsFirstByte (is_end end) (drop searched xs) found
searched-rest end xs other searched byte found same is first =
    subst (λ (l : List ℕ). IsFirstByte (is_end end) l found)
    (ap (λ (l : List ℕ). take (length l - searched) (drop searched l)) same ∙ take_rest xs searched)
    (subst (λ b. IsFirstByte (is_byte b) (take (length other - searched) (drop searched other)) found) is first)

-- the same for other names of the same values
pub ahead-same : (settings others : RecordEnd × ℕ) (lost lost' : ℕ) (kept rest kept' rest' left : List ℕ)
    (ahead : List (List ℕ)) → others ≡ settings → lost' ≡ lost → kept' ≡ kept → rest' ≡ rest
    → AreAhead settings.0 settings.1 lost kept rest left ahead → AreAhead others.0 others.1 lost' kept' rest' left ahead
ahead-same settings others lost lost' kept rest kept' rest' left ahead same is_lost is_kept is_rest before =
    subst (λ (s : RecordEnd × ℕ). AreAhead s.0 s.1 lost' kept' rest' left ahead) (sym same)
    (subst (λ n. AreAhead settings.0 settings.1 n kept' rest' left ahead) (sym is_lost)
    (subst (λ (l : List ℕ). AreAhead settings.0 settings.1 lost l rest' left ahead) (sym is_kept)
    (subst (λ (l : List ℕ). AreAhead settings.0 settings.1 lost kept l left ahead) (sym is_rest) before)))

-- a record at the start of a range
pub range-record : (end : RecordEnd) (xs other : List ℕ) (start at count : ℕ) → other ≡ xs
    → count ≤ length (slice_range other start at)
    → take count (slice_range other start at) ≡ record_of end (slice_range other start at)
    → slice_range xs start (start + count) ≡ record_of end (slice_range xs start at)
range-record end xs other start at count same within is =
    let size : start + count - start ≡ count = omega arith in
    let few : count ≤ at - start = grind (arith, common_steps) in
    let cut : take count (slice_range other start at) ≡ take count (drop start other) = grind (arith, common_steps) in
    ap (λ n. take n (drop start xs)) size
    ∙ (ap (λ (l : List ℕ). take count (drop start l)) (sym same)
    ∙ (sym cut ∙ (is ∙ ap (λ (l : List ℕ). record_of end (slice_range l start at)) same)))

-- if nothing is left to search, all is searched
pub all-searched : (xs : List ℕ) (searched : ℕ) → searched ≤ length xs → drop searched xs ≡ [] → searched ≡ length xs
all-searched xs searched within none =
    let size : length (drop searched xs) ≡ 0 = ap length none in omega (arith, size, length-drop searched xs)

-- the first bytes after a move to the front
pub moved-front : (xs moved : List ℕ) (start len count : ℕ) → len ≡ length xs → start ≤ len → count ≤ len - start
    → moved ≡ take count (copy_within xs start len 0) → moved ≡ take count (drop start xs)
moved-front xs moved start len count is_len order within is =
    let size : len - start ≡ length (drop start xs) = omega (arith, length-drop start xs) in
    let short : count ≤ length (drop start xs) = omega arith in
    is ∙ (ap (take count) (paste_all xs 0 (drop start xs) (len - start) size)
    ∙ take-append-le count (drop start xs) (drop (0 + (len - start)) xs) short)

module _ (end : RecordEnd) (limit : ℕ) where
  -- the last record
  pub reader-last : (lost : ℕ) (after : RecordReader) (xs : List ℕ) (start searched len : ℕ) (ahead : List (List ℕ))
      → start ≤ searched → searched ≤ length xs → drop searched xs ≡ [] → len ≡ length xs
      → AreAhead end limit lost (slice_range xs start searched) (drop searched xs) [] ahead
      → record_at after ≡ slice_range xs start len → (after.end ≡ end) × (after.limit ≡ limit)
      → after.line_feeds ≡ line_feeds_found end lost (slice_range xs start len) → EndsWith (nat_lt start len) after ahead
  reader-last lost after xs start searched len ahead order within none is_len before is_record same is_count =
      let all = all-searched xs searched within none in
      let kept : slice_range xs start searched ≡ slice_range xs start len =
      ap (slice_range xs start) (let e : searched ≡ len = omega arith in e) in
      let whole = subst (λ (l : List ℕ). AreAhead end limit lost l [] [] ahead) kept
      (subst (λ (l : List ℕ). AreAhead end limit lost (slice_range xs start searched) l [] ahead) none before) in
      let size : length (slice_range xs start len) ≡ len - start = grind (arith, common_steps) in
      elim (cases_lt start len) [
        | inl less ↦
            let last = ahead-last end limit lost (slice_range xs start len) ahead (omega arith) whole in
            subst (λ b. EndsWith b after ahead) (sym (lt-ltb start len less)) (
              last.0,
              last.1,
              subst (λ n. IsGivenFor n (record_at after) last.0) (sym same.1)
                  (subst (λ (l : List ℕ). IsGivenFor limit l last.0) (sym is_record) last.2),
              is_count ∙ (last.3 ∙ ap (λ e. line_feeds_of e last.0) (sym same.0)),
            )
        | inr past ↦
            subst (λ b. EndsWith b after ahead) (sym (le-ltb start len past))
            (ahead-no_last end limit lost (slice_range xs start len) ahead (omega arith) whole)
      ]

  -- the bytes that are cut
  dropped : (xs : List ℕ) (start count most len : ℕ) → len ≡ length xs → count ≡ min (len - start) most → start ≤ len
      → drop (start + count) xs ≡ drop most (drop start xs)
  dropped xs start count most len is_len is_count within = elim (cases_lt most (len - start)) [
    | inl long ↦
        let same : count ≡ most = omega arith in
        sym (drop-drop most start xs ∙ ap (λ n. drop n xs) (let e : start + most ≡ start + count = omega arith in e))
    | inr short ↦ grind (arith, common_steps, is_len, is_count, short)
  ]

  -- the start of a record is cut and moved to the front
  pub reader-kept : (lost more : ℕ) (xs moved : List ℕ) (start searched len count size : ℕ) (left : List ℕ) (ahead : List (List ℕ))
      → start ≤ searched → searched ≤ length xs → drop searched xs ≡ [] → len ≡ length xs
      → count ≡ min (len - start) (limit + 2) → moved ≡ take count (copy_within xs start len 0) → size ≡ length moved
      → more ≡ lost + count_by is_line_feed (drop (start + count) xs)
      → AreAhead end limit lost (slice_range xs start searched) (drop searched xs) left ahead
      → AreAhead end limit more (slice_range moved 0 size) (drop size moved) left ahead
  reader-kept lost more xs moved start searched len count size left ahead order within none is_len is_count is_moved is_size
      is_more before =
      let all = all-searched xs searched within none in
      let kept : slice_range xs start searched ≡ drop start xs =
      take_all (searched - start) (drop start xs) (omega (arith, length-drop start xs)) in
      let whole = subst (λ (l : List ℕ). AreAhead end limit lost l [] left ahead) kept
      (subst (λ (l : List ℕ). AreAhead end limit lost (slice_range xs start searched) l left ahead) none before) in
      let few : count ≤ len - start = omega arith in
      let front = moved-front xs moved start len count is_len (omega arith) few is_moved in
      let cut : take count (drop start xs) ≡ take (limit + 2) (drop start xs) = grind (arith, common_steps) in
      let start_all : slice_range moved 0 size ≡ moved = grind (arith, common_steps) in
      let rest : drop size moved ≡ [] = grind (arith, common_steps) in
      let lose : drop (start + count) xs ≡ drop (limit + 2) (drop start xs) = dropped xs start count (limit + 2) len is_len
      is_count (omega arith) in
      ahead-same (end, limit) (end, limit) _ _ _ _ _ _ left ahead refl
      (is_more ∙ ap (λ (l : List ℕ). lost + count_by is_line_feed l) lose) (start_all ∙ (front ∙ cut)) rest
      (ahead-cut end limit lost (drop start xs) left ahead whole)

  -- a block is read
  pub reader-read : (lost : ℕ) (xs held block : List ℕ) (start searched : ℕ) (left later : List ℕ) (ahead : List (List ℕ))
      → start ≤ searched → searched ≤ length xs → drop searched xs ≡ [] → held ≡ xs ++ block → left ≡ block ++ later
      → AreAhead end limit lost (slice_range xs start searched) (drop searched xs) left ahead
      → AreAhead end limit lost (slice_range held start searched) (drop searched held) later ahead
  reader-read lost xs held block start searched left later ahead order within none is_held is_left before =
      let all = all-searched xs searched within none in
      let kept : slice_range held start searched ≡ slice_range xs start searched = grind (arith, common_steps) in
      let rest : drop searched held ≡ block = ap (drop searched) is_held ∙ grind (arith, common_steps) in
      ahead-same (end, limit) (end, limit) lost lost _ _ _ _ later ahead refl refl kept rest
      (ahead-read end limit lost (slice_range xs start searched) block later ahead
      (subst (λ (l : List ℕ). AreAhead end limit lost (slice_range xs start searched) [] l ahead) is_left
      (subst (λ (l : List ℕ). AreAhead end limit lost (slice_range xs start searched) l left ahead) none before)))
