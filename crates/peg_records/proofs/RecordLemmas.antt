-- The records of a stream by its first end.
use Rattle.std.proofs.Common.{◌≡◌, ◌∙◌, ◌+◌, ◌-◌, ◌<◌, ◌≤◌, ℕ, Bool, true, false, cond, List, [], ◌∷◌, ◌++◌, ◌==◌, ap, arith, length, refl, slice_index, take}
use Rattle.std.proofs.lemmas.Bool.{false_from_ne_true}
use Rattle.std.proofs.lemmas.Grind.{common_steps}
use Rattle.std.proofs.lemmas.List.{get_or-take}
use Rattle.std.proofs.lemmas.List.Elements.{All-from_get_or}
use Rattle.std.proofs.lemmas.List.Splits.{length-slice_split, slice_split_at, slice_split_none}
use Rattle.std.specs.List.{slice_split}
use Rattle.peg_records.specs.Ahead.{HasNoEnd}
use Rattle.peg_records.specs.Records.{is_end, record_of, records, records_of_parts}
use Rattle.peg_records.specs.declared.end.RecordEnd.{RecordEnd}
use Rattle.peg_records.specs.declared.end.RecordEnd.TheVariants.{Line, CrLf, Zero}

parts-cons : (end : RecordEnd) (part : List ℕ) (parts : List (List ℕ)) → 0 < length parts
    → records_of_parts end (part ∷ parts) ≡ record_of end part ∷ records_of_parts end parts
parts-cons end part [] some = absurd (omega arith)
parts-cons end part (next ∷ parts) some = refl

-- the first record is before the first end
pub records-first : (end : RecordEnd) (part : List ℕ) (byte : ℕ) (rest : List ℕ) → HasNoEnd end part
    → is_end end byte ≡ true → records end (part ++ byte ∷ rest) ≡ record_of end part ∷ records end rest
records-first end part byte rest none is =
    ap (records_of_parts end) (slice_split_at (is_end end) part byte rest none is)
    ∙ parts-cons end part (slice_split (is_end end) rest) (omega (arith, length-slice_split (is_end end) rest))

-- without an end there is at most one record
pub records-last : (end : RecordEnd) (part : List ℕ) → HasNoEnd end part
    → records end part ≡ cond (length part == 0) [] (part ∷ [])
records-last end part none = ap (records_of_parts end) (slice_split_none (is_end end) part none)

-- a record has at most one byte less than the bytes before its end
pub record-length : (end : RecordEnd) (part : List ℕ) → length part ≤ length (record_of end part) + 1
record-length Line part = omega arith
record-length Zero part = omega arith
record-length CrLf part = by (slice_index part (length part - 1) == 13)
  where
    by : (b : Bool) → length part ≤ length (cond b (take (length part - 1) part) part) + 1
    by true = grind (arith, common_steps)
    by false = omega arith

-- the bytes before the first end have none
pub none-before : (end : RecordEnd) (bytes : List ℕ) (at : ℕ)
    → ((k : ℕ) → 0 ≤ k → k < at → ¬ (is_end end (slice_index bytes k) ≡ true)) → HasNoEnd end (take at bytes)
none-before end bytes at none = All-from_get_or (λ byte. is_end end byte ≡ false) (take at bytes) 0 (λ i within.
    let below : i < at = grind (arith, common_steps) in
    ap (is_end end) (get_or-take at bytes i 0 below)
    ∙ false_from_ne_true (is_end end (slice_index bytes i)) (none i (omega arith) below))

-- bytes without an end
pub none-in : (end : RecordEnd) (bytes : List ℕ)
    → ((k : ℕ) → 0 ≤ k → k < length bytes → ¬ (is_end end (slice_index bytes k) ≡ true)) → HasNoEnd end bytes
none-in end bytes none = All-from_get_or (λ byte. is_end end byte ≡ false) bytes 0
    (λ i within. false_from_ne_true (is_end end (slice_index bytes i)) (none i (omega arith) within))
