-- Warnings that are sorted by their numbers, without equal ones.
use Rattle.std.proofs.Common.{◌≡◌, ◌≢◌, ◌<◌, ◌≤◌, ◌+◌, ◌⊎◌, inl, inr, ℕ, Bool, cond, List, [], ◌∷◌, All, AllPairs, length, slice_index_or, None, Option, Some, nat_eq, refl, sym, ap, ◌∙◌, subst, arith}
use Rattle.std.proofs.lemmas.Bool.{cases_lt}
use Rattle.std.proofs.lemmas.Cmp.{by_ranked, nat_list_cmp_total, on_equiv, nat_list_eq_equiv, on_total, ranked, tied_itself}
use Rattle.std.proofs.lemmas.List.Elements.{All-contains, Contains-get_or}
use Rattle.std.proofs.lemmas.List.Kept.{AllPairs-cons, Contains-dedup, Contains-from_dedup, IsStrictlySortedBy-dedup}
use Rattle.std.proofs.lemmas.List.Sorted.{Contains-permutation, IsPermutation-sym}
use Rattle.std.proofs.lemmas.Map.Keys.{sorted_tail}
use Rattle.std.proofs.lemmas.Map.Views.{All-after_first}
use Rattle.std.specs.Cmp.{IsEquivalence, IsTotalOrder}
use Rattle.std.specs.Cmp.Lexicographic.{pointwise, same_text, slice_cmp, texts_ties}
use Rattle.std.specs.List.{dedup}
use Rattle.std.specs.List.Sorted.{IsPermutation, IsSortedByKey, IsStrictlySortedBy}
use Rattle.std.proofs.Common.{Ordering}
use Rattle.std.specs.declared.cmp.Ordering.TheVariants.{Less, Equal}
use mathlib.Core.HLevel.{is_prop→PathP}
use native.Mathlib.Bridge.{le_prop}
use Rattle.std.specs.Ordering.{nat_cmp, ordering_index, ordering_then}
use Rattle.peg_bytes.specs.declared.span.Span.{Span}
use Rattle.peg_lint.specs.Linting.{HaveSameWarnings, cause_key, key_of}
use Rattle.peg_lint.specs.Warnings.{AreDistinct, IsInWrittenOrder, rank_of}
use Rattle.peg_lint.specs.declared.warning.Warning.{Warning}
use Rattle.peg_lint.specs.declared.warning.WarningKind.{WarningKind}
use Rattle.peg_lint.specs.declared.warning.WarningKind.TheVariants as kind

-- ---- warnings with the same numbers are equal

-- the kind at a place
abbrev kind_at : ℕ → WarningKind
kind_at n =
    cond (nat_eq n 0) kind.UnusedRule (cond (nat_eq n 1) kind.NeverMatches (cond (nat_eq n 2) kind.NeverTried
    (cond (nat_eq n 3) kind.AlwaysFails (cond (nat_eq n 4) kind.NoEffect (cond (nat_eq n 5) kind.SameAlternative
    (cond (nat_eq n 6) kind.Shadowed (cond (nat_eq n 7) kind.NeverStops (cond (nat_eq n 8) kind.NeverFollows
    (cond (nat_eq n 9) kind.TakesNothing (cond (nat_eq n 10) kind.ReversedRange
    (cond (nat_eq n 11) kind.EmptyAlternative (cond (nat_eq n 12) kind.AnyAtEnd
    (cond (nat_eq n 13) kind.ClassBeginsWithCaret (cond (nat_eq n 14) kind.ClassEndsInRange
    (cond (nat_eq n 15) kind.RangeOverSigns (cond (nat_eq n 16) kind.HoldsLineEnd
    (cond (nat_eq n 17) kind.HighBytesInClass
    (cond (nat_eq n 18) kind.BlanksInClass kind.RepeatedByte))))))))))))))))))

kind_at-rank : (what : WarningKind) → kind_at (rank_of what) ≡ what
kind_at-rank kind.UnusedRule = refl
kind_at-rank kind.NeverMatches = refl
kind_at-rank kind.NeverTried = refl
kind_at-rank kind.AlwaysFails = refl
kind_at-rank kind.NoEffect = refl
kind_at-rank kind.SameAlternative = refl
kind_at-rank kind.Shadowed = refl
kind_at-rank kind.NeverStops = refl
kind_at-rank kind.NeverFollows = refl
kind_at-rank kind.TakesNothing = refl
kind_at-rank kind.ReversedRange = refl
kind_at-rank kind.EmptyAlternative = refl
kind_at-rank kind.AnyAtEnd = refl
kind_at-rank kind.ClassBeginsWithCaret = refl
kind_at-rank kind.ClassEndsInRange = refl
kind_at-rank kind.RangeOverSigns = refl
kind_at-rank kind.HoldsLineEnd = refl
kind_at-rank kind.HighBytesInClass = refl
kind_at-rank kind.BlanksInClass = refl
kind_at-rank kind.RepeatedByte = refl

kind-same : (a b : WarningKind) → rank_of a ≡ rank_of b → a ≡ b
kind-same a b h = sym (kind_at-rank a) ∙ ap kind_at h ∙ kind_at-rank b

span-same : (a b : Span) → a.start ≡ b.start → a.end ≡ b.end → a ≡ b
span-same a b starts ends = λ i. record {
  start = starts i;
  end = ends i;
  ordered = is_prop→PathP (λ j. starts j ≤ ends j) (λ j. le_prop) a.ordered b.ordered i;
}

-- the number at a place of a list
abbrev at : ℕ → List ℕ → ℕ
at k numbers = slice_index_or numbers k 0

cause-same : (a b : Option Span) → at 0 (cause_key a) ≡ at 0 (cause_key b) → at 1 (cause_key a) ≡ at 1 (cause_key b)
    → at 2 (cause_key a) ≡ at 2 (cause_key b) → a ≡ b
cause-same None None some starts ends = refl
cause-same None (Some b) some starts ends = absurd (omega (arith, some))
cause-same (Some a) None some starts ends = absurd (omega (arith, some))
cause-same (Some a) (Some b) some starts ends = ap Some (span-same a b starts ends)

warning-same : (a b : Warning) → a.kind ≡ b.kind → a.rule ≡ b.rule → a.span ≡ b.span → a.by ≡ b.by → a ≡ b
warning-same a b kinds rules spans causes =
    λ i. record { kind = kinds i; rule = rules i; span = spans i; by = causes i }

key-same : (a b : Warning) → key_of a ≡ key_of b → a ≡ b
key-same a b h =
    warning-same a b (kind-same a.kind b.kind (ap (at 1) h)) (ap (at 3) h)
    (span-same a.span b.span (ap (at 0) h) (ap (at 2) h))
    (cause-same a.by b.by (ap (at 4) h) (ap (at 5) h) (ap (at 6) h))

-- ---- the order of the numbers

abbrev order : Warning → Warning → Ordering
order a b = slice_cmp nat_cmp (key_of a) (key_of b)

order-total : IsTotalOrder order
order-total = on_total key_of nat_list_cmp_total

-- whether two warnings have the same numbers
abbrev pub has_same_key : Warning → Warning → Bool
has_same_key a b = pointwise nat_eq (key_of a) (key_of b)

has_same_key-laws : IsEquivalence has_same_key
has_same_key-laws = on_equiv key_of nat_list_eq_equiv

then-less : (a b : ℕ) (rest : Ordering) → ordering_then (nat_cmp a b) rest ≡ Less
    → (a < b) ⊎ ((a ≡ b) × (rest ≡ Less))
then-less a b rest h =
    by_ranked (a < b) (a ≡ b) (b < a) (nat_cmp a b) (ranked a b (nat_cmp a b) refl)
    (λ is below. inl below)
    (λ is same. inr (same, sym (ap (λ o. ordering_then o rest) is) ∙ h))
    (λ is above. absurd (
    let bad : 2 ≡ 0 = ap ordering_index (sym (ap (λ o. ordering_then o rest) is) ∙ h) in omega (arith, bad)))

-- what one warning before another says of their numbers
record IsBefore (a b : Warning) : Type 0 where
  starts : a.span.start ≤ b.span.start
  kinds : a.span.start ≡ b.span.start → rank_of a.kind ≤ rank_of b.kind
  ends : a.span.start ≡ b.span.start → a.kind ≡ b.kind → a.span.end ≤ b.span.end

before-less : (a b : Warning) → order a b ≡ Less → IsBefore a b
before-less a b h = elim (then-less a.span.start b.span.start _ h) [
  | inl below ↦ record {
    starts = omega (arith, below);
    kinds = λ same. absurd (omega (arith, below, same));
    ends = λ same what. absurd (omega (arith, below, same));
  }
  | inr (start, more) ↦ elim (then-less (rank_of a.kind) (rank_of b.kind) _ more) [
    | inl below ↦ record {
      starts = omega (arith, start);
      kinds = λ same. omega (arith, below);
      ends = λ same what. absurd (let ranks = ap rank_of what in omega (arith, below, ranks));
    }
    | inr (rank, rest) ↦ record {
      starts = omega (arith, start);
      kinds = λ same. omega (arith, rank);
      ends = λ same what. elim (then-less a.span.end b.span.end _ rest) [
        | inl below ↦ omega (arith, below)
        | inr (end, last) ↦ omega (arith, end)
      ];
    }
  ]
]

-- each of the warnings is before the later ones
all_pairs-less : (warnings : List Warning) → IsStrictlySortedBy order warnings
    → AllPairs (λ (a b : Warning). order a b ≡ Less) warnings
all_pairs-less [] up = λ i j d less within. absurd (omega (arith, within))
all_pairs-less (first ∷ rest) up =
    AllPairs-cons (λ (a b : Warning). order a b ≡ Less) first rest (All-after_first order first rest up)
    (all_pairs-less rest (sorted_tail order first rest up))

less-apart : (a b : Warning) → order a b ≡ Less → a ≢ b
less-apart a b h same =
    let tied : order a b ≡ Equal = subst (λ w. order a w ≡ Equal) same (tied_itself order-total a) in
    let bad : 1 ≡ 0 = ap ordering_index (sym tied ∙ h) in
    omega (arith, bad)

-- ---- sorted warnings without equal ones

-- a warning of a list
abbrev nth : List Warning → ℕ → Warning → Warning
nth warnings k d = slice_index_or warnings k d

module _ (sorted : List Warning) (up : IsSortedByKey key_of (slice_cmp nat_cmp) sorted) where
  abbrev kept : List Warning
  kept = dedup has_same_key sorted

  less : AllPairs (λ (a b : Warning). order a b ≡ Less) kept
  less = all_pairs-less kept
      (IsStrictlySortedBy-dedup order-total (λ a b. texts_ties (key_of a) (key_of b)) sorted up)

  pub dedup-distinct : AreDistinct (dedup has_same_key sorted)
  dedup-distinct i j d before within = less-apart (nth kept i d) (nth kept j d) (less i j d before within)

  pairs : (i j : ℕ) (d : Warning) → i < j → j < length kept → IsBefore (nth kept i d) (nth kept j d)
  pairs i j d before within = before-less (nth kept i d) (nth kept j d) (less i j d before within)

  starts-up : (i j : ℕ) (d : Warning) → i ≤ j → j < length kept
      → (nth kept i d).span.start ≤ (nth kept j d).span.start
  starts-up i j d before within = elim (cases_lt i j) [
    | inl earlier ↦ (pairs i j d earlier within).starts
    | inr other ↦
        let same : i ≡ j = omega (arith, before, other) in
        subst (λ n. (nth kept i d).span.start ≤ (nth kept n d).span.start) same (omega arith)
  ]

  pub dedup-in_order : IsInWrittenOrder (dedup has_same_key sorted)
  dedup-in_order = record {
    starts = starts-up;
    kinds = λ k d within. (pairs k (k + 1) d (omega arith) within).kinds;
    ends = λ k d within. (pairs k (k + 1) d (omega arith) within).ends;
  }

-- what is left is what was there
pub dedup-same : (warnings sorted : List Warning) → IsPermutation warnings sorted
    → HaveSameWarnings warnings (dedup has_same_key sorted)
dedup-same warnings sorted moved = (
  λ warning in_it. Contains-dedup has_same_key-laws
      (λ a b h. key-same a b (same_text (key_of a) (key_of b) (sym h))) sorted warning
      (Contains-permutation warnings sorted warning moved in_it),
  λ warning in_it. Contains-permutation sorted warnings warning (IsPermutation-sym warnings sorted moved)
      (Contains-from_dedup has_same_key sorted warning in_it),
)

-- what is true of all warnings of a list is true of all warnings of one with the same warnings
pub All-same_warnings : (P : Warning → Type 0) (earlier later : List Warning) → HaveSameWarnings earlier later
    → All P earlier → All P later
All-same_warnings P earlier later same all = λ k d within.
    All-contains P earlier (nth later k d) all (same.1 (nth later k d) (Contains-get_or later k d within))
