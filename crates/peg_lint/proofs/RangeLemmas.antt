-- The ranges of a class, one after another.
use Rattle.std.proofs.Common.{◌≡◌, ◌+◌, ◌<◌, ◌≤◌, ◌⊎◌, inl, inr, ℕ, Bool, IsTrue, List, [], ◌∷◌, None, Some, nat_lt, refl, sym, ap, ◌∙◌, subst, arith}
use Rattle.peg_lexer.specs.Matchers.{PrefixMatch}
use Rattle.peg_bytes.specs.Extent.{Extent, between}
use Rattle.peg_metagrammar.specs.Denotation.{Bytes}
use Rattle.peg_metagrammar.specs.Ranges.{Range, range}
use Rattle.peg_lint.specs.FileWarnings.{IsRangeText}
use Rattle.peg_lint.specs.Habits.{ends_in_bracket, goes_over_signs, text_in}
use Rattle.peg_lint.specs.Linting.{FindsIf, FindsRange, FindsRanges, FindsRangesBefore, FindsRepeat, Keeps}
use Rattle.peg_lint.specs.Spelling.{IsRangeAt, IsRangeOfClass, IsRepeatedRange, RangesBetween, none, one_more, range_match}
use Rattle.peg_lint.specs.Warnings.{HasWarning}
use Rattle.peg_lint.specs.declared.warning.Warning.{Warning}
use Rattle.peg_lint.specs.declared.warning.WarningKind.{WarningKind}
use Rattle.peg_lint.specs.declared.warning.WarningKind.TheVariants as kind
use Rattle.peg_lint.proofs.FileLemmas.{HasWarning-later, less-true}

module _ (file : List ℕ) where
  -- ranges lead onward
  pub onward : {start at : ℕ} → RangesBetween file start at → start ≤ at
  onward none = omega arith
  onward (one_more {at} {length} before read) =
      let so_far = onward before in omega (arith, so_far)

  -- a range at an offset, and ranges from its end to another offset
  abbrev pub BeginsWithRange : (start end : ℕ) → Type 0
  BeginsWithRange start end =
      (length : ℕ) × (bytes : Range) × IsRangeAt file start length bytes × RangesBetween file (start + length) end

  -- the first of consecutive ranges
  pub first-range : {start at : ℕ} → RangesBetween file start at → (at ≡ start) ⊎ BeginsWithRange start at
  first-range none = inl refl
  first-range {start = start} (one_more {at} {length} {bytes} before read) =
      elim (first-range before) [
        | inl same ↦
            let here : IsRangeAt file start length bytes = subst (λ n. IsRangeAt file n length bytes) same read in
            inr (length, bytes, here, subst (λ n. RangesBetween file (start + length) (n + length)) (sym same) none)
        | inr begins ↦ inr (begins.0, begins.1, begins.2, one_more begins.3 read)
      ]

  -- the range at an offset is the only one
  pub same-length : (at length other : ℕ) (bytes these : Range) → IsRangeAt file at length bytes
      → IsRangeAt file at other these → length ≡ other
  same-length at length other bytes these one two =
      let same : Some (range_match bytes length) ≡ Some (range_match these other) = sym one ∙ two in
      let pair : range_match bytes length ≡ range_match these other = cc in
      ap (λ (m : PrefixMatch). m.length) pair

  pub same-bytes : (at length other : ℕ) (bytes these : Range) → IsRangeAt file at length bytes
      → IsRangeAt file at other these → bytes ≡ these
  same-bytes at length other bytes these one two =
      let same : Some (range_match bytes length) ≡ Some (range_match these other) = sym one ∙ two in
      let pair : range_match bytes length ≡ range_match these other = cc in
      let spelled : Bytes bytes ∷ [] ≡ Bytes these ∷ [] = ap (λ (m : PrefixMatch). m.spells) pair in
      cc

  -- a range of a class at an offset or after it, where a range begins: it is that range, or after its end
  pub this-or-later : (class : Extent) (at length : ℕ) (bytes : Range) → IsRangeAt file at length bytes
      → (span : Extent) (these : Range) → IsRangeOfClass file class span these → RangesBetween file at span.start
      → ((span ≡ between at (at + length)) × (these ≡ bytes)) ⊎ RangesBetween file (at + length) span.start
  this-or-later class at length bytes read span these is between_them =
      elim (first-range between_them) [
        | inl here ↦
            let there : IsRangeAt file at is.length these = subst (λ n. IsRangeAt file n is.length these) here is.read in
            let long : is.length ≡ length = same-length at is.length length these bytes there read in
            let end : span.end ≡ at + length = sym is.ends ∙ λ i. here i + long i in
            inl ((λ i. between (here i) (end i)), same-bytes at is.length length these bytes there read)
        | inr begins ↦
            let long : begins.0 ≡ length = same-length at begins.0 length begins.1 bytes begins.2 read in
            inr (subst (λ n. RangesBetween file (at + n) span.start) long begins.3)
      ]

  -- where no range begins that ends within a class, no range of the class follows
  pub no-more : (class : Extent) (at : ℕ)
      → ((length : ℕ) (bytes : Range) → IsRangeAt file at length bytes → class.end < at + length)
      → (span : Extent) (these : Range) → IsRangeOfClass file class span these → RangesBetween file at span.start → ⊥
  no-more class at none_fits span these is between_them =
      elim (first-range between_them) [
        | inl here ↦
            let there : IsRangeAt file at is.length these = subst (λ n. IsRangeAt file n is.length these) here is.read in
            let past = none_fits is.length these there in
            let ends = is.ends in
            let within = is.within in
            absurd (omega (arith, here, past, ends, within))
        | inr begins ↦
            let past = none_fits begins.0 begins.1 begins.2 in
            let more = onward begins.3 in
            let ends = is.ends in
            let within = is.within in
            absurd (omega (arith, past, more, ends, within))
      ]

  -- a class without an inside has no ranges
  pub no-inside : (class span : Extent) (these : Range) → class.end ≤ class.start → IsRangeOfClass file class span these
      → ⊥
  no-inside class span these short is =
      let more = onward is.before in
      let ends = is.ends in
      let within = is.within in
      omega (arith, short, more, ends, within)

  -- ---- the warnings about the ranges

  -- the warnings about one more range are found
  pub FindsRangesBefore-next : (number : ℕ) (class : Extent) (at length : ℕ) (bytes : Range) (l0 l1 : List Warning)
      → IsRangeAt file at length bytes → Keeps l0 l1 → FindsRange file number (between at (at + length)) bytes l1
      → FindsRepeat file number class (between at (at + length)) l1
      → FindsRangesBefore file number class at l0 → FindsRangesBefore file number class (at + length) l1
  FindsRangesBefore-next number class at length bytes l0 l1 read keeps here repeat finds = record {
    reversed = λ span is.
        elim (finds.reversed span is) [
          | inl has ↦ inl (later kind.ReversedRange span has)
          | inr leads ↦
              elim (this-or-later class at length bytes read span (range is.0 is.1) is.2 leads) [
                | inl this ↦
                    inl (subst (λ s. HasWarning l1 kind.ReversedRange number s None) (sym this.0)
                    (here.reversed (this-less (range is.0 is.1) this.1 is.3)))
                | inr after ↦ inr after
              ]
        ];
    to_bracket = of_text ends_in_bracket kind.ClassEndsInRange here.to_bracket finds.to_bracket;
    over_signs = of_text goes_over_signs kind.RangeOverSigns here.over_signs finds.over_signs;
    repeats = λ span is.
        elim (finds.repeats span is) [
          | inl has ↦ inl (later kind.RepeatedByte span has)
          | inr leads ↦
              elim (this-or-later class at length bytes read span is.bytes is.is leads) [
                | inl this ↦
                    inl (subst (λ s. HasWarning l1 kind.RepeatedByte number s None) (sym this.0)
                    (repeat (subst (IsRepeatedRange file class) this.0 is)))
                | inr after ↦ inr after
              ]
        ];
  }
    where
      later : (what : WarningKind) (span : Extent) → HasWarning l0 what number span None
          → HasWarning l1 what number span None
      later what span has = HasWarning-later l0 l1 keeps what number span None has

      this-less : (these : Range) → these ≡ bytes → these.high < these.low → IsTrue (nat_lt bytes.high bytes.low)
      this-less these same h =
          subst (λ (r : Range). IsTrue (nat_lt r.high r.low)) same (less-true these.high these.low h)

      of_text : (test : List ℕ → Bool) (what : WarningKind)
          → FindsIf (test (text_in file (between at (at + length)))) what number (between at (at + length)) l1
          → ((span : Extent) → IsRangeText test file class span
          → HasWarning l0 what number span None ⊎ RangesBetween file at span.start)
          → (span : Extent) → IsRangeText test file class span
          → HasWarning l1 what number span None ⊎ RangesBetween file (at + length) span.start
      of_text test what found before span is =
          elim (before span is) [
            | inl has ↦ inl (later what span has)
            | inr leads ↦
                elim (this-or-later class at length bytes read span is.0 is.1 leads) [
                  | inl this ↦
                      inl (subst (λ s. HasWarning l1 what number s None) (sym this.0)
                      (found (subst (λ s. IsTrue (test (text_in file s))) this.0 is.2)))
                  | inr after ↦ inr after
                ]
          ]

  -- all ranges are found where no more begins
  pub FindsRanges-all : (number : ℕ) (class : Extent) (at : ℕ) (found : List Warning)
      → ((length : ℕ) (bytes : Range) → IsRangeAt file at length bytes → class.end < at + length)
      → FindsRangesBefore file number class at found → FindsRanges file number class found
  FindsRanges-all number class at found none_fits finds = record {
    reversed = λ span is.
        elim (finds.reversed span is) [
          | inl has ↦ has
          | inr leads ↦ absurd (no-more class at none_fits span (range is.0 is.1) is.2 leads)
        ];
    to_bracket = λ span is.
        elim (finds.to_bracket span is) [
          | inl has ↦ has
          | inr leads ↦ absurd (no-more class at none_fits span is.0 is.1 leads)
        ];
    over_signs = λ span is.
        elim (finds.over_signs span is) [
          | inl has ↦ has
          | inr leads ↦ absurd (no-more class at none_fits span is.0 is.1 leads)
        ];
    repeats = λ span is.
        elim (finds.repeats span is) [
          | inl has ↦ has
          | inr leads ↦ absurd (no-more class at none_fits span is.bytes is.is leads)
        ];
  }

  -- a class without an inside has no warning about ranges
  pub FindsRanges-none : (number : ℕ) (class : Extent) (found : List Warning) → class.end ≤ class.start
      → FindsRanges file number class found
  FindsRanges-none number class found short = record {
    reversed = λ span is. absurd (no-inside class span (range is.0 is.1) short is.2);
    to_bracket = λ span is. absurd (no-inside class span is.0 short is.1);
    over_signs = λ span is. absurd (no-inside class span is.0 short is.1);
    repeats = λ span is. absurd (no-inside class span is.bytes short is.is);
  }
