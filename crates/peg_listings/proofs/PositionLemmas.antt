-- The line ends up to an offset, and those up to the next one.
use Rattle.std.proofs.Common.{◌≡◌, ℕ, zero, suc, ◌+◌, ◌≤◌, ◌==◌, ◌&&◌, ◌||◌, not, if◌then◌else◌, nat_le, Bool, true, false}
use Rattle.std.proofs.Common.{List, [], ◌∷◌, ◌++◌, length, drop, filter, arith, refl, sym, ◌∙◌, ap, eqb-true, append-nil}
use Rattle.std.proofs.Common.{length-append}
use Rattle.std.proofs.lemmas.Bool.{le-leb, lt-leb}
use Rattle.peg_bytes.specs.EndsLine.{ends_line}
use Rattle.peg_bytes.specs.Place.{carriage_return, line_feed, line_ends, ends_up_to, line_at, last_or}

-- bytes that begin with LF begin with a complete line end
line_ends-line_feed : (place : ℕ) (rest : List ℕ)
    → line_ends place (line_feed ∷ rest) ≡ (place + 1) ∷ line_ends (place + 1) rest
unfolding line_ends
line_ends-line_feed place [] = refl
line_ends-line_feed place (second ∷ rest) = refl

-- CR LF as one line end gives the same line ends as LF alone after the CR
at_once : (place first second : ℕ) (rest : List ℕ) → first ≡ carriage_return → second ≡ line_feed
    → (place + 2) ∷ line_ends (place + 2) rest ≡ line_ends (place + 1) (second ∷ rest)
at_once place first second rest cr lf =
    let after : place + 2 ≡ (place + 1) + 1 = omega arith in
    ap (λ p. p ∷ line_ends p rest) after ∙ sym (line_ends-line_feed (place + 1) rest)
    ∙ ap (λ b. line_ends (place + 1) (b ∷ rest)) (sym lf)

-- the tests of two bytes in the order of the definition agree with those in the order of the code
by_tests : (cr lf next : Bool) (both one none : List ℕ)
    → (cr ≡ true → next ≡ true → (lf ≡ false) × (both ≡ none))
    → (if cr && next then both else if lf || cr then one else none)
    ≡ (if lf || (cr && not next) then one else none)
by_tests true true true both one none pair = let bad = (pair refl refl).0 in cc
by_tests true false true both one none pair = (pair refl refl).1
by_tests true true false both one none pair = refl
by_tests true false false both one none pair = refl
by_tests false true next both one none pair = refl
by_tests false false next both one none pair = refl

-- the line ends of some bytes: one that the first byte completes, if it does, and those of the other bytes
line_ends-first : (place first : ℕ) (rest : List ℕ) → line_ends place (first ∷ rest)
    ≡ (if ends_line (first ∷ rest) then (place + 1) ∷ line_ends (place + 1) rest else line_ends (place + 1) rest)
unfolding line_ends
line_ends-first place first [] = refl
line_ends-first place first (second ∷ rest) =
    by_tests (first == carriage_return) (first == line_feed) (second == line_feed)
    ((place + 2) ∷ line_ends (place + 2) rest) ((place + 1) ∷ line_ends (place + 1) (second ∷ rest))
    (line_ends (place + 1) (second ∷ rest)) pair
  where
    pair : (first == carriage_return) ≡ true → (second == line_feed) ≡ true
        → ((first == line_feed) ≡ false)
        × ((place + 2) ∷ line_ends (place + 2) rest ≡ line_ends (place + 1) (second ∷ rest))
    pair cr lf = (
      ap (λ b. b == line_feed) (eqb-true first carriage_return cr),
      at_once place first second rest (eqb-true first carriage_return cr) (eqb-true second line_feed lf),
    )

-- the line ends of these bytes that are complete at or before offset `at`
abbrev within : (at place : ℕ) → List ℕ → List ℕ
within at place bytes = filter (λ end. nat_le end at) (line_ends place bytes)

-- the same by whether the first byte completes one
within-first : (at place first : ℕ) (rest : List ℕ) → within at place (first ∷ rest)
    ≡ filter (λ end. nat_le end at)
    (if ends_line (first ∷ rest) then (place + 1) ∷ line_ends (place + 1) rest else line_ends (place + 1) rest)
within-first at place first rest = ap (filter (λ end. nat_le end at)) (line_ends-first place first rest)

-- a line end that is complete at `at` is kept
kept : (at end : ℕ) (ends : List ℕ) → end ≤ at
    → filter (λ e. nat_le e at) (end ∷ ends) ≡ end ∷ filter (λ e. nat_le e at) ends
kept at end ends low =
    ap (λ b. if b then end ∷ filter (λ e. nat_le e at) ends else filter (λ e. nat_le e at) ends) (le-leb end at low)

-- no line end is complete before its first byte
within-none : (at place : ℕ) (bytes : List ℕ) → at ≤ place → within at place bytes ≡ []
unfolding line_ends
within-none at place [] low = refl
within-none at place (first ∷ rest) low =
    within-first at place first rest
    ∙ by (ends_line (first ∷ rest)) (within-none at (place + 1) rest (omega arith))
  where
    by : (b : Bool) → within at (place + 1) rest ≡ [] → filter (λ end. nat_le end at)
        (if b then (place + 1) ∷ line_ends (place + 1) rest else line_ends (place + 1) rest) ≡ []
    by true none =
        ap (λ b. if b then (place + 1) ∷ within at (place + 1) rest else within at (place + 1) rest)
        (lt-leb (place + 1) at (omega arith)) ∙ none
    by false none = none

-- the line end that the first of these bytes completes, if it does
abbrev pub one_end : (end : ℕ) → List ℕ → List ℕ
one_end end bytes = if ends_line bytes then end ∷ [] else []

-- the line ends up to the offset after `at`, which is the offset of byte number `count`
within-next : (count at place : ℕ) (bytes : List ℕ) → at ≡ place + count
    → within (at + 1) place bytes ≡ within at place bytes ++ one_end (at + 1) (drop count bytes)
unfolding line_ends
within-next zero at place [] is = refl
within-next (suc count) at place [] is = refl
within-next zero at place (first ∷ rest) is =
    within-first (at + 1) place first rest ∙ by (ends_line (first ∷ rest))
    ∙ ap (λ (l : List ℕ). l ++ one_end (at + 1) (first ∷ rest))
    (sym (within-none at place (first ∷ rest) (omega (arith, is))))
  where
    none : within (at + 1) (place + 1) rest ≡ []
    none = within-none (at + 1) (place + 1) rest (omega (arith, is))

    same : place + 1 ≡ at + 1
    same = omega (arith, is)

    by : (b : Bool) → filter (λ end. nat_le end (at + 1))
        (if b then (place + 1) ∷ line_ends (place + 1) rest else line_ends (place + 1) rest)
        ≡ (if b then (at + 1) ∷ [] else [])
    by true =
        kept (at + 1) (place + 1) (line_ends (place + 1) rest) (omega (arith, is))
        ∙ ap (λ (l : List ℕ). (place + 1) ∷ l) none ∙ ap (λ (n : ℕ). n ∷ []) same
    by false = none
within-next (suc count) at place (first ∷ rest) is =
    within-first (at + 1) place first rest
    ∙ by (ends_line (first ∷ rest)) (within-next count at (place + 1) rest (omega (arith, is)))
    ∙ ap (λ (l : List ℕ). l ++ one_end (at + 1) (drop count rest)) (sym (within-first at place first rest))
  where
    by : (b : Bool)
        → within (at + 1) (place + 1) rest ≡ within at (place + 1) rest ++ one_end (at + 1) (drop count rest)
        → filter (λ end. nat_le end (at + 1))
        (if b then (place + 1) ∷ line_ends (place + 1) rest else line_ends (place + 1) rest)
        ≡ filter (λ end. nat_le end at)
        (if b then (place + 1) ∷ line_ends (place + 1) rest else line_ends (place + 1) rest)
        ++ one_end (at + 1) (drop count rest)
    by true next =
        kept (at + 1) (place + 1) (line_ends (place + 1) rest) (omega (arith, is))
        ∙ ap (λ (l : List ℕ). (place + 1) ∷ l) next
        ∙ ap (λ (l : List ℕ). l ++ one_end (at + 1) (drop count rest))
        (sym (kept at (place + 1) (line_ends (place + 1) rest) (omega (arith, is))))
    by false next = next

-- the last offset of a list with one more
last_or-append : (place end : ℕ) (ends : List ℕ) → last_or place (ends ++ end ∷ []) ≡ end
last_or-append place end [] = refl
last_or-append place end (first ∷ rest) = last_or-append first end rest

-- One byte further in a file.
module _ (file : List ℕ) (at : ℕ) where
  ends : ends_up_to file (at + 1) ≡ ends_up_to file at ++ one_end (at + 1) (drop at file)
  ends = within-next at at 0 file (omega arith)

  -- the byte completes a line end
  module _ (is : ends_line (drop at file) ≡ true) where
    one : ends_up_to file (at + 1) ≡ ends_up_to file at ++ (at + 1) ∷ []
    one = ends ∙ ap (λ (b : Bool). ends_up_to file at ++ (if b then (at + 1) ∷ [] else [])) is

    pub line-one : line_at file (at + 1) ≡ line_at file at + 1
    line-one = omega (arith, ap length one, length-append (ends_up_to file at) ((at + 1) ∷ []))

    pub start-one : last_or 0 (ends_up_to file (at + 1)) ≡ at + 1
    start-one = ap (last_or 0) one ∙ last_or-append 0 (at + 1) (ends_up_to file at)

  -- the byte completes no line end
  module _ (is : ends_line (drop at file) ≡ false) where
    none : ends_up_to file (at + 1) ≡ ends_up_to file at
    none =
        ends ∙ ap (λ (b : Bool). ends_up_to file at ++ (if b then (at + 1) ∷ [] else [])) is
        ∙ append-nil (ends_up_to file at)

    pub line-none : line_at file (at + 1) ≡ line_at file at
    line-none = ap (λ (l : List ℕ). 1 + length l) none

    pub start-none : last_or 0 (ends_up_to file (at + 1)) ≡ last_or 0 (ends_up_to file at)
    start-none = ap (last_or 0) none

-- no line ends before the first byte of a file
pub no_ends : (file : List ℕ) → ends_up_to file 0 ≡ []
no_ends file = within-none 0 0 file (omega arith)
