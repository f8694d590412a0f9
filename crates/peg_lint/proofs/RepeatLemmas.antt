-- Ranges of a class with bytes of earlier ones.
use Rattle.std.proofs.Common.{◌≡◌, ◌+◌, ◌<◌, ◌≤◌, ◌⊎◌, ◌||◌, inl, inr, ℕ, Bool, true, false, IsTrue, List, refl, sym, subst, arith}
use Rattle.std.proofs.lemmas.Bool.{or_left}
use Rattle.peg_bytes.specs.ByteSet.{Bytes, has}
use Rattle.peg_bytes.specs.Extent.{Extent, between}
use Rattle.peg_metagrammar.specs.Ranges.{Range, holds}
use Rattle.peg_lint.specs.Linting.{AreSeen, HaveCommonByte}
use Rattle.peg_lint.specs.Spelling.{IsRangeAt, IsRangeOfClass, IsRepeatedRange}
use Rattle.peg_lint.proofs.RangeLemmas.{onward, same-bytes, same-length, this-or-later}

-- one of two tests passes
either : (a b : Bool) → IsTrue (a || b) → IsTrue a ⊎ IsTrue b
either true b h = inl refl
either false b h = inr h

second-true : (a b : Bool) → IsTrue b → IsTrue (a || b)
second-true true b h = refl
second-true false b h = h

-- a range of a class, and the bytes of the ranges before it
module _ (file : List ℕ) (class span : Extent) (bytes : Range) (is : IsRangeOfClass file class span bytes) (set : Bytes)
    (seen : AreSeen file class span.start set) where
  pub repeated : HaveCommonByte set bytes → IsRepeatedRange file class span
  repeated common =
      let earlier = seen.sound common.0 common.1 in
      record {
        bytes = bytes;
        is = is;
        earlier = earlier.0;
        earlier_bytes = earlier.1;
        earlier_is = earlier.2;
        before = earlier.3;
        byte = common.0;
        in_it = common.2;
        in_earlier = earlier.4;
      }

  -- an earlier range doesn't begin here
  not_here : (before : Extent) (these : Range) → span.start < span.end → IsRangeOfClass file class before these
      → before.end ≤ span.start → span.start ≤ before.start → ⊥
  not_here before these inside there ends starts =
      let there_ends = there.ends in
      let here_ends = is.ends in
      let same : before.start ≡ span.start = omega (arith, there_ends, ends, starts) in
      let read : IsRangeAt file span.start there.length these =
      subst (λ n. IsRangeAt file n there.length these) same there.read in
      let long = same-length file span.start there.length is.length these bytes read is.read in
      omega (arith, there_ends, here_ends, ends, starts, inside, long)

  pub common : span.start < span.end → IsRepeatedRange file class span → HaveCommonByte set bytes
  common inside repeat =
      let same = same-bytes file span.start repeat.is.length is.length repeat.bytes bytes repeat.is.read is.read in
      let has_it : IsTrue (has set repeat.byte) =
      elim (seen.complete repeat.earlier repeat.earlier_bytes repeat.byte repeat.earlier_is repeat.in_earlier) [
        | inl has ↦ has
        | inr leads ↦
            absurd (not_here repeat.earlier repeat.earlier_bytes inside repeat.earlier_is repeat.before (onward file leads))
      ] in
      (repeat.byte, has_it, subst (λ (r : Range). IsTrue (holds repeat.byte r)) same repeat.in_it)

-- the set with the bytes of one more range
pub AreSeen-next : (file : List ℕ) (class : Extent) (at length : ℕ) (bytes : Range) (old new : Bytes)
    → IsRangeOfClass file class (between at (at + length)) bytes
    → ((byte : ℕ) → has new byte ≡ (has old byte || holds byte bytes)) → AreSeen file class at old
    → AreSeen file class (at + length) new
AreSeen-next file class at length bytes old new is added seen = record {
  sound = λ byte h.
      elim (either (has old byte) (holds byte bytes) (subst IsTrue (added byte) h)) [
        | inl before ↦
            let earlier = seen.sound byte before in
            let ends = earlier.3 in
            (earlier.0, earlier.1, earlier.2, omega (arith, ends), earlier.4)
        | inr here ↦ (between at (at + length), bytes, is, omega arith, here)
      ];
  complete = λ span these byte there h.
      elim (seen.complete span these byte there h) [
        | inl before ↦ inl (subst IsTrue (sym (added byte)) (or_left (has old byte) (holds byte bytes) before))
        | inr leads ↦
            elim (this-or-later file class at length bytes (read_at is.length is.ends is.read) span these there leads) [
              | inl this ↦
                  let here : IsTrue (holds byte bytes) = subst (λ (r : Range). IsTrue (holds byte r)) this.1 h in
                  inl (subst IsTrue (sym (added byte)) (second-true (has old byte) (holds byte bytes) here))
              | inr after ↦ inr after
            ]
      ];
}
  where
    read_at : (long : ℕ) → at + long ≡ at + length → IsRangeAt file at long bytes → IsRangeAt file at length bytes
    read_at long ends read =
        let same : long ≡ length = omega (arith, ends) in
        subst (λ n. IsRangeAt file at n bytes) same read
