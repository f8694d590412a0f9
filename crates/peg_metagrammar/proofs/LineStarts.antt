-- The lines of the metagrammar's text start where the lengths in the code say.
use Rattle.std.proofs.Common.{◌≡◌, ℕ, zero, suc, ◌+◌, ◌≤◌, ◌<◌, List, [], ◌∷◌, ◌++◌, take, length, get_or, refl, sym, ap, ◌∙◌, subst, arith}
use Rattle.std.proofs.lemmas.List.{length-append}
use Rattle.peg_metagrammar.specs.FigureText.{figure_lines, text_of_lines, line_start}

-- the lengths of lines, each with its LF
abbrev lengths_of : List (List ℕ) → List ℕ
lengths_of [] = []
lengths_of (line ∷ rest) = (length line + 1) ∷ lengths_of rest

abbrev pub lengths : List ℕ
lengths =
    41 ∷ 46 ∷ 41 ∷ 20 ∷ 30 ∷ 52 ∷ 81 ∷ 44 ∷ 24 ∷ 32 ∷ 71 ∷ 39 ∷ 30 ∷ 110 ∷ 26 ∷ 21 ∷ 19 ∷ 19 ∷ 24 ∷ 20 ∷ 20 ∷ 46 ∷ 17 ∷ 20
    ∷ 21 ∷ 19 ∷ 30 ∷ 41 ∷ 32 ∷ 34 ∷ 16 ∷ []

lengths-same : lengths_of figure_lines ≡ lengths
unfolding figure_lines
lengths-same = refl

figure_lines-31 : length figure_lines ≡ 31
unfolding figure_lines
figure_lines-31 = refl

-- a text of lines is longer by the length of one more line
one_more : (lines : List (List ℕ)) (i : ℕ) → i < length lines
    → length (text_of_lines (take (suc i) lines)) ≡ length (text_of_lines (take i lines)) + get_or (lengths_of lines) i 0
one_more [] i small = omega (arith, small)
one_more (line ∷ lines) zero small =
    let first : length (text_of_lines (take (suc zero) (line ∷ lines))) ≡ length ((line ++ 10 ∷ []) ++ []) = refl in
    let none : length (text_of_lines (take zero (line ∷ lines))) ≡ 0 = refl in
    let its : get_or (lengths_of (line ∷ lines)) zero 0 ≡ length line + 1 = refl in
    omega (arith, first, none, its, length-append (line ++ 10 ∷ []) [], length-append line (10 ∷ []))
one_more (line ∷ lines) (suc i) small =
    omega (
      arith,
      length-append (line ++ 10 ∷ []) (text_of_lines (take (suc i) lines)),
      length-append (line ++ 10 ∷ []) (text_of_lines (take i lines)),
      one_more lines i (omega (arith, small)),
    )

starts_after : (i : ℕ) → i < 31 → line_start (suc i) ≡ line_start i + get_or lengths i 0
unfolding line_start
starts_after i small =
    one_more figure_lines i (omega (arith, figure_lines-31, small))
    ∙ ap (λ (l : List ℕ). length (text_of_lines (take i figure_lines)) + get_or l i 0) lengths-same

pub next_start : (i : ℕ) → i < 31 → line_start (i + 1) ≡ line_start i + get_or lengths i 0
next_start i small = let next : i + 1 ≡ suc i = omega arith in ap line_start next ∙ starts_after i small

-- the first lines are no longer than all lines
first_lines : (lines : List (List ℕ)) (i : ℕ) → length (text_of_lines (take i lines)) ≤ length (text_of_lines lines)
first_lines [] zero = omega arith
first_lines [] (suc i) = omega arith
first_lines (line ∷ lines) zero = omega arith
first_lines (line ∷ lines) (suc i) =
    omega (
      arith,
      length-append (line ++ 10 ∷ []) (text_of_lines (take i lines)),
      length-append (line ++ 10 ∷ []) (text_of_lines lines),
      first_lines lines i,
    )

text-length : length (text_of_lines figure_lines) ≡ 1086
unfolding figure_lines
text-length = refl

pub start-small : (i : ℕ) → line_start i ≤ 1086
unfolding line_start
start-small i = omega (arith, first_lines figure_lines i, text-length)

pub no_line_before : 0 ≡ line_start 0
unfolding line_start
no_line_before = refl
