-- What the texts of literals and classes denote, as the code's loops compute it, and names as strings.
use Rattle.std.proofs.Common.{◌≡◌, ℕ, zero, suc, ◌+◌, ◌-◌, ◌<◌, ◌≤◌, Bool, true, false, if◌then◌else◌, ◌==◌, ◌||◌, List, [], ◌∷◌, ◌++◌, length, take, drop, get_or, codes}
use Rattle.std.proofs.Common.{Option, None, Some, option_map, option_and_then, is_some, IsTrue, nat_eq, refl, sym, ap, ◌∙◌, append_assoc, append-nil, subst, arith}
use Rattle.std.proofs.lemmas.Bool.Decides.{nat_tests}
use Rattle.std.proofs.lemmas.List.{drop-drop}
use Rattle.std.proofs.lemmas.Str.{IsUtf8-from_ascii}
use Rattle.std.specs.List.{starts_with}
use Rattle.std.specs.Str.{IsUtf8}
use Rattle.peg_lexer.specs.Lexical.{begins_name, is_digit, in_name, identifier, quoted_char, up_to_quote, quoted, literal, classed_range, class, is_quote}
use Rattle.peg_lexer.specs.LexicalCode.{char_piece, range_piece, spells_of}
use Rattle.peg_lexer.specs.Matchers.{PrefixMatch, Matcher, literal_bytes, satisfy, seq_matcher, or_piece, star, many, many_after, and_more, concat_matches, plain}
use Rattle.peg_metagrammar.specs.Ranges.{Range}
use Rattle.peg_metagrammar.specs.RangesCode.{range_of}
use Rattle.peg_metagrammar.specs.Denotation.{Denotation, bytes_in, ranges_in}
use Rattle.peg_lexer.specs.declared.scan_literals.Char.{Char}
use Rattle.peg_lexer.specs.declared.scan_literals.SpelledRange.{SpelledRange}
use Rattle.peg_lexer.proofs.PieceLemmas.{from, from-drop, length-from, many-none, many-some}
use Rattle.peg_lexer.proofs.PieceSizes.{IsBlank, blank-one, blank-literal_bytes, followed_parts}

-- the progress of a loop over matches: the parts so far and the remaining parts are all parts
pub record Spelled {X : Type 0} (pick : List Denotation → List X) (find : Matcher) (rest : List ℕ) (at : ℕ) (so_far : List X) : Type 0 where
  pub within : at ≤ length rest
  pub same : pick (many find rest).spells ≡ so_far ++ pick (many find (drop at rest)).spells

pub spelled-none : {X : Type 0} (pick : List Denotation → List X) (find : Matcher) (rest : List ℕ) → Spelled pick find rest 0 []
spelled-none pick find rest = record { within = omega arith; same = refl }

-- if the next match is nonempty, it is the first of the remaining matches
next-piece : (find : Matcher) (rest : List ℕ) (at : ℕ) (piece : PrefixMatch) → find (from at rest) ≡ Some piece
    → 0 < piece.length → piece.length ≤ length (from at rest)
    → many find (drop at rest) ≡ concat_matches piece (many find (drop (at + piece.length) rest))
next-piece find rest at piece found long fits =
    let size : length (from at rest) ≡ length (drop at rest) = ap length (from-drop at rest) in
    let within : piece.length ≤ length (drop at rest) = omega (arith, size) in
    many-some find (drop at rest) piece (ap find (sym (from-drop at rest)) ∙ found) long within
    ∙ ap (λ bytes. concat_matches piece (many find bytes)) (drop-drop piece.length at rest)

pub bytes-one : (find : Matcher) (rest : List ℕ) (at : ℕ) (char : Char) (bytes : List ℕ) → Spelled bytes_in find rest at bytes
    → Some (char_piece char) ≡ find (from at rest) → 0 < char.length → char.length ≤ length (from at rest)
    → Spelled bytes_in find rest (at + char.length) (bytes ++ char.byte ∷ [])
bytes-one find rest at char bytes s found long fits = record {
  within = omega (arith, length-from at rest, s.within);
  same =
      s.same ∙ (ap (λ (p : PrefixMatch). bytes ++ bytes_in p.spells) (next-piece find rest at (char_piece char) (sym found) long fits)
      ∙ sym (append_assoc bytes (char.byte ∷ []) (bytes_in (many find (drop (at + char.length) rest)).spells)));
}

pub ranges-one : (find : Matcher) (rest : List ℕ) (at : ℕ) (item : SpelledRange) (ranges : List Range) → Spelled ranges_in find rest at ranges
    → Some (range_piece item) ≡ find (from at rest) → 0 < item.length → item.length ≤ length (from at rest)
    → Spelled ranges_in find rest (at + item.length) (ranges ++ range_of item.bytes ∷ [])
ranges-one find rest at item ranges s found long fits = record {
  within = omega (arith, length-from at rest, s.within);
  same =
      s.same ∙ (ap (λ (p : PrefixMatch). ranges ++ ranges_in p.spells) (next-piece find rest at (range_piece item) (sym found) long fits)
      ∙ sym (append_assoc ranges (range_of item.bytes ∷ []) (ranges_in (many find (drop (at + item.length) rest)).spells)));
}

-- if no match comes next, all parts are found
pub spelled-all : {X : Type 0} (pick : List Denotation → List X) → pick [] ≡ [] → (find : Matcher) (rest : List ℕ) (at : ℕ) (so_far : List X)
    → Spelled pick find rest at so_far → None ≡ find (from at rest) → so_far ≡ pick (many find rest).spells
spelled-all pick empty find rest at so_far s none =
    let gone : many find (drop at rest) ≡ plain 0 = many-none find (drop at rest) (ap find (sym (from-drop at rest)) ∙ sym none) in
    sym (s.same ∙ (ap (λ (p : PrefixMatch). so_far ++ pick p.spells) gone ∙ (ap (λ l. so_far ++ l) empty ∙ append-nil so_far)))

-- ---- whole literals and classes

-- matches between two delimiters denote what the matches denote
between_signs : (opening find closing : Matcher) → IsBlank opening → IsBlank closing → (rest : List ℕ) (whole : PrefixMatch)
    → ((piece : PrefixMatch) → opening rest ≡ Some piece → piece.length ≡ 1)
    → seq_matcher opening (seq_matcher (star find) closing) rest ≡ Some whole → whole.spells ≡ (many find (drop 1 rest)).spells
between_signs opening find closing first last rest whole one found =
    let parts = followed_parts opening (seq_matcher (star find) closing) rest whole found in
    let following = drop parts.0.length rest in
    let inner = followed_parts (star find) closing following parts.1 parts.3 in
    let pieces : many find following ≡ inner.0 = some_is inner.2 in
    let blank : inner.1.spells ≡ [] = last.blank (drop inner.0.length following) inner.1 inner.3 in
    let inside : parts.1.spells ≡ inner.0.spells =
    inner.5 ∙ (ap (λ (l : List Denotation). inner.0.spells ++ l) blank ∙ append-nil inner.0.spells) in
    let at_one : drop parts.0.length rest ≡ drop 1 rest = ap (λ n. drop n rest) (one parts.0 parts.2) in
    parts.5 ∙ (ap (λ (l : List Denotation). l ++ parts.1.spells) (first.blank rest parts.0 parts.2)
    ∙ (inside ∙ (ap (λ (p : PrefixMatch). p.spells) (sym pieces) ∙ ap (λ bytes. (many find bytes).spells) at_one)))
  where
    some_is : {a b : PrefixMatch} → Some a ≡ Some b → a ≡ b
    some_is e = cc

-- a byte that passes a test is a match of one byte
one_byte : (test : ℕ → Bool) (rest : List ℕ) (piece : PrefixMatch) → satisfy test rest ≡ Some piece → piece.length ≡ 1
one_byte test [] piece found = cc
one_byte test (byte ∷ rest) piece found = by (test byte) found
  where
    by : (t : Bool) → (if t then Some (plain 1) else None) ≡ Some piece → piece.length ≡ 1
    by true found = let same : plain 1 ≡ piece = cc in sym (ap (λ (p : PrefixMatch). p.length) same)
    by false found = cc

quoted_spells : (quote : ℕ) (rest : List ℕ) (whole : PrefixMatch) → quoted quote rest ≡ Some whole
    → whole.spells ≡ (many (quoted_char quote) (drop 1 rest)).spells
unfolding quoted
quoted_spells quote rest whole found =
    between_signs (satisfy (is_quote quote)) (quoted_char quote) (satisfy (is_quote quote)) (blank-one (is_quote quote))
    (blank-one (is_quote quote)) rest whole (one_byte (is_quote quote) rest) found

same_byte : (a b : ℕ) → (a == b) ≡ true → a ≡ b
same_byte a b is = grind (arith, nat_tests)

-- a quoted text begins with the quote
begins_quoted : (quote byte : ℕ) (inside : List ℕ) (whole : PrefixMatch) → quoted quote (byte ∷ inside) ≡ Some whole → byte ≡ quote
unfolding quoted
begins_quoted quote byte inside whole found = by (byte == quote) refl found
  where
    by : (t : Bool) → (byte == quote) ≡ t → option_and_then
        (λ (p : PrefixMatch). option_map (concat_matches p) (up_to_quote quote (drop p.length (byte ∷ inside))))
        (if t then Some (plain 1) else None) ≡ Some whole → byte ≡ quote
    by true is found = same_byte byte quote is
    by false is found = cc

pub literal-inside : (byte : ℕ) (inside : List ℕ) → IsTrue (is_some (literal (byte ∷ inside)))
    → bytes_in (many (quoted_char byte) inside).spells ≡ bytes_in (spells_of (literal (byte ∷ inside)))
unfolding literal
literal-inside byte inside is = by (quoted 39 (byte ∷ inside)) (quoted 34 (byte ∷ inside)) refl refl is
  where
    one : (quote : ℕ) (whole : PrefixMatch) → quoted quote (byte ∷ inside) ≡ Some whole
        → bytes_in (many (quoted_char byte) inside).spells ≡ bytes_in whole.spells
    one quote whole found =
        ap (λ b. bytes_in (many (quoted_char b) inside).spells) (begins_quoted quote byte inside whole found)
        ∙ ap bytes_in (sym (quoted_spells quote (byte ∷ inside) whole found))

    by : (x y : Option PrefixMatch) → quoted 39 (byte ∷ inside) ≡ x → quoted 34 (byte ∷ inside) ≡ y → IsTrue (is_some (or_piece x y))
        → bytes_in (many (quoted_char byte) inside).spells ≡ bytes_in (spells_of (or_piece x y))
    by None None a b is = cc
    by None (Some whole) a b is = one 34 whole b
    by (Some whole) y a b is = one 39 whole a

bracket_size : (rest : List ℕ) (piece : PrefixMatch) → literal_bytes (codes "[") rest ≡ Some piece → piece.length ≡ 1
bracket_size rest piece found = size (starts_with nat_eq rest (codes "[")) found
  where
    size : (t : Bool) → (if t then Some (plain 1) else None) ≡ Some piece → piece.length ≡ 1
    size true found = let same : plain 1 ≡ piece = cc in sym (ap (λ (p : PrefixMatch). p.length) same)
    size false found = cc

class_spells : (rest : List ℕ) (whole : PrefixMatch) → class rest ≡ Some whole
    → whole.spells ≡ (many classed_range (drop 1 rest)).spells
unfolding class
class_spells rest whole found =
    between_signs (literal_bytes (codes "[")) classed_range (literal_bytes (codes "]")) (blank-literal_bytes (codes "[")) (blank-literal_bytes (codes "]"))
    rest whole (bracket_size rest) found

pub class-inside : (byte : ℕ) (inside : List ℕ) → IsTrue (is_some (class (byte ∷ inside)))
    → ranges_in (many classed_range inside).spells ≡ ranges_in (spells_of (class (byte ∷ inside)))
class-inside byte inside is = by (class (byte ∷ inside)) refl is
  where
    by : (x : Option PrefixMatch) → class (byte ∷ inside) ≡ x → IsTrue (is_some x)
        → ranges_in (many classed_range inside).spells ≡ ranges_in (spells_of x)
    by None found is = cc
    by (Some whole) found is = ap ranges_in (sym (class_spells (byte ∷ inside) whole found))

-- the same for the bytes that the code reads
pub no_literal : (rest : List ℕ) → length rest < 1 → IsTrue (is_some (literal rest)) → ⊥
unfolding literal quoted
no_literal [] short is = cc
no_literal (byte ∷ rest) short is = omega arith

pub literal-text : (rest : List ℕ) → 1 ≤ length rest → IsTrue (is_some (literal rest))
    → bytes_in (many (quoted_char (get_or rest 0 0)) (from 1 rest)).spells ≡ bytes_in (spells_of (literal rest))
literal-text [] long is = absurd (omega arith)
literal-text (byte ∷ inside) long is =
    ap (λ l. bytes_in (many (quoted_char byte) l).spells) (from-drop 1 (byte ∷ inside)) ∙ literal-inside byte inside is

pub no_class : (rest : List ℕ) → length rest < 1 → IsTrue (is_some (class rest)) → ⊥
unfolding class
no_class [] short is = cc
no_class (byte ∷ rest) short is = omega arith

pub class-text : (rest : List ℕ) → 1 ≤ length rest → IsTrue (is_some (class rest))
    → ranges_in (many classed_range (from 1 rest)).spells ≡ ranges_in (spells_of (class rest))
class-text [] long is = absurd (omega arith)
class-text (byte ∷ inside) long is =
    ap (λ l. ranges_in (many classed_range l).spells) (from-drop 1 (byte ∷ inside)) ∙ class-inside byte inside is

-- ---- names

in_name_small : (byte : ℕ) → (begins_name byte || is_digit byte) ≡ true → byte < 128
in_name_small byte is = grind (arith, nat_tests)

small_before : (byte : ℕ) (bytes : List ℕ) → byte < 128 → ((i : ℕ) → get_or bytes i 0 < 128) → (i : ℕ)
    → get_or (byte ∷ bytes) i 0 < 128
small_before byte bytes here more zero = here
small_before byte bytes here more (suc i) = more i

-- bytes that continue a name are below 128
name_bytes_small : (rest : List ℕ) (i : ℕ) → get_or (take (many in_name rest).length rest) i 0 < 128
unfolding many_after
name_bytes_small [] i = omega arith
name_bytes_small (byte ∷ rest) i =
    by (begins_name byte) (is_digit byte) refl refl (small_one (name_bytes_small rest))
  where
    small_one : ((j : ℕ) → get_or (take (many in_name rest).length rest) j 0 < 128) → byte < 128
        → get_or (take (1 + (many in_name rest).length) (byte ∷ rest)) i 0 < 128
    small_one more small =
        let one : 1 + (many in_name rest).length ≡ suc (many in_name rest).length = omega arith in
        subst (λ n. get_or (take n (byte ∷ rest)) i 0 < 128) (sym one)
        (small_before byte (take (many in_name rest).length rest) small more i)

    by : (s t : Bool) → begins_name byte ≡ s → is_digit byte ≡ t
        → (byte < 128 → get_or (take (1 + (many in_name rest).length) (byte ∷ rest)) i 0 < 128)
        → get_or (take (and_more (or_piece (if s then Some (plain 1) else None) (if t then Some (plain 1) else None))
        (λ (piece : PrefixMatch). many_after in_name rest (piece.length - 1))).length (byte ∷ rest)) i 0 < 128
    by true t a b more = more (in_name_small byte (ap (λ s. s || is_digit byte) a))
    by false true a b more = more (in_name_small byte (λ j. a j || b j))
    by false false a b more = omega arith

-- a name is valid UTF-8
pub name-is_text : (rest : List ℕ) (piece : PrefixMatch) → identifier rest ≡ Some piece → IsUtf8 (take piece.length rest)
unfolding identifier
name-is_text [] piece found = cc
name-is_text (byte ∷ rest) piece found = by (begins_name byte) refl found
  where
    by : (t : Bool) → begins_name byte ≡ t → option_and_then
        (λ (p : PrefixMatch). option_map (concat_matches p) (star in_name (drop p.length (byte ∷ rest))))
        (if t then Some (plain 1) else None) ≡ Some piece → IsUtf8 (take piece.length (byte ∷ rest))
    by false is found = cc
    by true is found =
        let same : concat_matches (plain 1) (many in_name rest) ≡ piece = cc in
        let size : piece.length ≡ suc (many in_name rest).length = sym (ap (λ (p : PrefixMatch). p.length) same) ∙ omega arith in
        let small : byte < 128 = in_name_small byte (ap (λ s. s || is_digit byte) is) in
        subst (λ n. IsUtf8 (take n (byte ∷ rest))) (sym size)
        (IsUtf8-from_ascii (byte ∷ take (many in_name rest).length rest)
        (small_before byte (take (many in_name rest).length rest) small (name_bytes_small rest)))
