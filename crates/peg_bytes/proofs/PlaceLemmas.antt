-- Line ends byte by byte, as the code finds them.
use Rattle.std.proofs.Common.{◌≡◌, ℕ, ◌+◌, ◌<◌, ◌≤◌, ◌==◌, ◌&&◌, ◌||◌, not, if◌then◌else◌, nat_le, Bool, true, false}
use Rattle.std.proofs.Common.{List, [], ◌∷◌, length, get_or, drop, filter, arith, refl, sym, ◌∙◌, ap, add-one, eqb-true}
use Rattle.std.proofs.Math.Seq.{drop-cons}
use Rattle.std.proofs.lemmas.Bool.{le-leb, lt-leb}
use Rattle.peg_bytes.specs.EndsLine.{ends_line}
use Rattle.peg_bytes.specs.Place.{carriage_return, line_feed, line_ends}

-- bytes that begin with LF begin with a complete line end
line_ends-line_feed : (place : ℕ) (rest : List ℕ)
    → line_ends place (line_feed ∷ rest) ≡ (place + 1) ∷ line_ends (place + 1) rest
unfolding line_ends
line_ends-line_feed place [] = refl
line_ends-line_feed place (second ∷ rest) = refl

-- CR LF as one line end gives the same line ends as LF alone after the CR
at_once : (place first second : ℕ) (rest : List ℕ) → first ≡ carriage_return → second ≡ line_feed
    → (place + 2) ∷ line_ends (place + 2) rest ≡ line_ends (place + 1) (second ∷ rest)
at_once place first second rest cr lf =
    let following : place + 2 ≡ (place + 1) + 1 = omega arith in
    ap (λ p. p ∷ line_ends p rest) following ∙ sym (line_ends-line_feed (place + 1) rest)
    ∙ ap (λ b. line_ends (place + 1) (b ∷ rest)) (sym lf)

-- the tests of two bytes in the order of the definition agree with those in the order of the code
by_tests : (cr lf next : Bool) (both one none : List ℕ)
    → (cr ≡ true → next ≡ true → (lf ≡ false) × (both ≡ none))
    → (if cr && next then both else if lf || cr then one else none)
    ≡ (if lf || (cr && not next) then one else none)
by_tests true true true both one none pair = let bad = (pair refl refl).0 in cc
by_tests true false true both one none pair = (pair refl refl).1
by_tests true true false both one none pair = refl
by_tests true false false both one none pair = refl
by_tests false true next both one none pair = refl
by_tests false false next both one none pair = refl

-- the line ends of some bytes: one that the first byte completes, if it does, and those of the other bytes
pub line_ends-first : (place first : ℕ) (rest : List ℕ) → line_ends place (first ∷ rest)
    ≡ (if ends_line (first ∷ rest) then (place + 1) ∷ line_ends (place + 1) rest else line_ends (place + 1) rest)
unfolding line_ends
line_ends-first place first [] = refl
line_ends-first place first (second ∷ rest) =
    by_tests (first == carriage_return) (first == line_feed) (second == line_feed)
    ((place + 2) ∷ line_ends (place + 2) rest) ((place + 1) ∷ line_ends (place + 1) (second ∷ rest))
    (line_ends (place + 1) (second ∷ rest)) pair
  where
    pair : (first == carriage_return) ≡ true → (second == line_feed) ≡ true
        → ((first == line_feed) ≡ false)
        × ((place + 2) ∷ line_ends (place + 2) rest ≡ line_ends (place + 1) (second ∷ rest))
    pair cr lf = (
      ap (λ b. b == line_feed) (eqb-true first carriage_return cr),
      at_once place first second rest (eqb-true first carriage_return cr) (eqb-true second line_feed lf),
    )

-- the line ends of these bytes that are complete at or before offset `at`
abbrev pub ends_within : ℕ → ℕ → List ℕ → List ℕ
ends_within at place bytes = filter (λ end. nat_le end at) (line_ends place bytes)

-- no line end is complete before its first byte
pub ends_within-following : (at place : ℕ) (bytes : List ℕ) → at ≤ place → ends_within at place bytes ≡ []
unfolding line_ends
ends_within-following at place [] h = refl
ends_within-following at place (first ∷ rest) h =
    ap (filter (λ end. nat_le end at)) (line_ends-first place first rest)
    ∙ by (ends_line (first ∷ rest)) (ends_within-following at (place + 1) rest (omega arith))
  where
    by : (b : Bool) → ends_within at (place + 1) rest ≡ [] → filter (λ end. nat_le end at)
        (if b then (place + 1) ∷ line_ends (place + 1) rest else line_ends (place + 1) rest) ≡ []
    by true following =
        ap (λ b. if b then (place + 1) ∷ ends_within at (place + 1) rest else ends_within at (place + 1) rest)
        (lt-leb (place + 1) at (omega arith)) ∙ following
    by false following = following

-- One byte further in a file.
module _ (file : List ℕ) (at next : ℕ) (within : next < length file) (before : next < at) where
  -- the bytes from offset `next` on, split into the first and the rest
  from_here : drop next file ≡ get_or file next 0 ∷ drop (next + 1) file
  from_here = drop-cons file next 0 within ∙ ap (λ n. get_or file next 0 ∷ drop n file) (sym (add-one next))

  -- the line ends from offset `next` on, by whether the byte there completes one
  opened : ends_within at next (drop next file) ≡ filter (λ end. nat_le end at)
      (if ends_line (drop next file) then (next + 1) ∷ line_ends (next + 1) (drop (next + 1) file)
      else line_ends (next + 1) (drop (next + 1) file))
  opened =
      ap (ends_within at next) from_here
      ∙ ap (filter (λ end. nat_le end at)) (line_ends-first next (get_or file next 0) (drop (next + 1) file))
      ∙ ap (λ b. filter (λ end. nat_le end at) (if b then (next + 1) ∷ line_ends (next + 1) (drop (next + 1) file)
      else line_ends (next + 1) (drop (next + 1) file))) (ap ends_line (sym from_here))

  -- the byte completes a line end
  pub ends_within-one : ends_line (drop next file) ≡ true
      → ends_within at next (drop next file) ≡ (next + 1) ∷ ends_within at (next + 1) (drop (next + 1) file)
  ends_within-one is =
      opened
      ∙ ap (λ b. filter (λ end. nat_le end at) (if b then (next + 1) ∷ line_ends (next + 1) (drop (next + 1) file)
      else line_ends (next + 1) (drop (next + 1) file))) is
      ∙ ap (λ b. if b then (next + 1) ∷ ends_within at (next + 1) (drop (next + 1) file)
      else ends_within at (next + 1) (drop (next + 1) file)) (le-leb (next + 1) at (omega arith))

  -- the byte completes no line end
  pub ends_within-none : ends_line (drop next file) ≡ false
      → ends_within at next (drop next file) ≡ ends_within at (next + 1) (drop (next + 1) file)
  ends_within-none is =
      opened
      ∙ ap (λ b. filter (λ end. nat_le end at) (if b then (next + 1) ∷ line_ends (next + 1) (drop (next + 1) file)
      else line_ends (next + 1) (drop (next + 1) file))) is
