-- What the texts of counts denote, as the code reads them.
use Rattle.std.proofs.Common.{◌≡◌, ℕ, ◌+◌, ◌<◌, Bool, true, false, List, [], ◌∷◌, ◌++◌, length, map, take, drop, codes}
use Rattle.std.proofs.Common.{Option, None, Some, option_map, option_and_then, nat_eq, append-nil, refl, sym, ap, ◌∙◌, arith}
use Rattle.std.proofs.lemmas.List.{drop-drop}
use Rattle.std.specs.List.{starts_with}
use Rattle.peg_lexer.specs.Lexical.{is_digit, digit, digits, number, second_number, after_number, count}
use Rattle.peg_lexer.specs.LexicalCode.{saturated_number, saturated_bounds, NumbersView, numbers_found, CountView, count_found}
use Rattle.peg_lexer.specs.Matchers.{PrefixMatch, plain, concat_matches, literal_bytes, or_piece, many, many_after}
use Rattle.peg_metagrammar.specs.Denotation.{Denotation, Byte, Bytes, Numeral, Word, Sign, Expression, Definition, decimal, numerals_in, Bounds, bounds, bounds_spelled}
use Rattle.peg_lexer.proofs.PieceLemmas.{from, from-drop}

-- ---- numbers

abbrev pub numbers_seen : List ℕ → ℕ → NumbersView
numbers_seen numbers length = record { numbers = numbers; length = length }

-- if no digit comes next, there is no number
digits-none : (rest : List ℕ) → (many digit rest).length ≡ 0 → digits rest ≡ None
unfolding many_after
digits-none [] none = refl
digits-none (byte ∷ rest) none = by (is_digit byte) refl
  where
    by : (t : Bool) → is_digit byte ≡ t → digits (byte ∷ rest) ≡ None
    by true is =
        let one : (many digit (byte ∷ rest)).length ≡ 1 + (many digit rest).length = rw is refl in
        absurd (omega arith)
    by false is = rw is refl

-- the digits of a number are all digits that come next
digits-some : (rest : List ℕ) → 0 < (many digit rest).length → digits rest ≡ Some (many digit rest)
unfolding many_after
digits-some [] some = absurd (omega arith)
digits-some (byte ∷ rest) some = by (is_digit byte) refl
  where
    by : (t : Bool) → is_digit byte ≡ t → digits (byte ∷ rest) ≡ Some (many digit (byte ∷ rest))
    by true is = rw is refl
    by false is =
        let none : (many digit (byte ∷ rest)).length ≡ 0 = rw is refl in
        absurd (omega arith)

pub number-none : (rest : List ℕ) → (many digit rest).length ≡ 0 → None ≡ option_map numbers_found (number rest)
unfolding number
number-none rest none = rw (digits-none rest none) refl

pub number-some : (rest : List ℕ) (n value : ℕ) → n ≡ (many digit rest).length → 0 < n → value ≡ saturated_number (decimal (take n rest))
    → Some (numbers_seen (value ∷ []) n) ≡ option_map numbers_found (number rest)
unfolding number
number-some rest n value size some is =
    let found : digits rest ≡ Some (many digit rest) = digits-some rest (omega (arith, size)) in
    rw (found, is, size) refl

-- ---- the rest of a count after its first number

-- a match followed by the closing brace
closed : (y : PrefixMatch) (m : ℕ) (numbers : List ℕ) → numbers_seen numbers m ≡ numbers_found y
    → Some (numbers_found (concat_matches y (plain 1))) ≡ Some (numbers_seen numbers (m + 1))
closed y m numbers same =
    ap (λ (l : List Denotation). Some (numbers_seen (map saturated_number (numerals_in l)) (y.length + 1))) (append-nil y.spells)
    ∙ ap (λ (seen : NumbersView). Some (numbers_seen seen.numbers (seen.length + 1))) (sym same)

abbrev pub brace_at : ℕ → List ℕ → Bool
brace_at at rest = starts_with nat_eq (drop at rest) (codes "}")

module _ (r : List ℕ) where
  abbrev pub following : Option PrefixMatch → Option NumbersView
  following x = option_map numbers_found (option_and_then (λ (y : PrefixMatch).
      option_map (concat_matches y) (literal_bytes (codes "}") (drop y.length r))) (or_piece x (Some (plain 0))))

  brace_following : (m : ℕ) (numbers : List ℕ) (t : Bool) → brace_at m r ≡ t → (y : PrefixMatch)
      → numbers_seen numbers m ≡ numbers_found y → brace_at y.length r ≡ t
  brace_following m numbers t brace y same =
      ap (λ (seen : NumbersView). brace_at seen.length r) (sym same) ∙ brace

  pub following-two : (m second : ℕ) → Some (numbers_seen (second ∷ []) m) ≡ option_map numbers_found (second_number r)
      → brace_at m r ≡ true → Some (numbers_seen (second ∷ []) (m + 1)) ≡ option_map numbers_found (after_number r)
  following-two m second found brace = sym (by (second_number r) found)
    where
      by : (x : Option PrefixMatch) → Some (numbers_seen (second ∷ []) m) ≡ option_map numbers_found x
          → following x ≡ Some (numbers_seen (second ∷ []) (m + 1))
      by None found = cc
      by (Some y) found =
          let same : numbers_seen (second ∷ []) m ≡ numbers_found y = cc in
          rw (brace_following m (second ∷ []) true brace y same) (closed y m (second ∷ []) same)

  pub following-one : None ≡ option_map numbers_found (second_number r) → brace_at 0 r ≡ true
      → Some (numbers_seen [] 1) ≡ option_map numbers_found (after_number r)
  following-one none brace = sym (by (second_number r) none)
    where
      by : (x : Option PrefixMatch) → None ≡ option_map numbers_found x → following x ≡ Some (numbers_seen [] 1)
      by None found = rw brace refl
      by (Some y) found = cc

  pub following-unclosed : (m second : ℕ) → Some (numbers_seen (second ∷ []) m) ≡ option_map numbers_found (second_number r)
      → brace_at m r ≡ false → None ≡ option_map numbers_found (after_number r)
  following-unclosed m second found brace = sym (by (second_number r) found)
    where
      by : (x : Option PrefixMatch) → Some (numbers_seen (second ∷ []) m) ≡ option_map numbers_found x → following x ≡ None
      by None found = cc
      by (Some y) found =
          let same : numbers_seen (second ∷ []) m ≡ numbers_found y = cc in
          rw (brace_following m (second ∷ []) false brace y same) refl

  pub following-none : None ≡ option_map numbers_found (second_number r) → brace_at 0 r ≡ false
      → None ≡ option_map numbers_found (after_number r)
  following-none none brace = sym (by (second_number r) none)
    where
      by : (x : Option PrefixMatch) → None ≡ option_map numbers_found x → following x ≡ None
      by None found = rw brace refl
      by (Some y) found = cc

-- ---- what the code reads from an index on

pub number-from : (rest : List ℕ) (at : ℕ) (x : Option NumbersView) → x ≡ option_map numbers_found (number (from at rest))
    → x ≡ option_map numbers_found (number (drop at rest))
number-from rest at x is = is ∙ ap (λ r. option_map numbers_found (number r)) (from-drop at rest)

pub second-from : (rest : List ℕ) (at : ℕ) (x : Option NumbersView)
    → x ≡ option_map numbers_found (second_number (from at rest))
    → x ≡ option_map numbers_found (second_number (drop at rest))
second-from rest at x is = is ∙ ap (λ r. option_map numbers_found (second_number r)) (from-drop at rest)

pub brace-from : (rest : List ℕ) (at m end : ℕ) (t : Bool) → end ≡ at + m
    → t ≡ starts_with nat_eq (from end rest) (codes "}") → brace_at m (drop at rest) ≡ t
brace-from rest at m end t ends is =
    ap (λ r. starts_with nat_eq r (codes "}")) (drop-drop m at rest ∙ ap (λ n. drop n rest) (sym ends)
    ∙ sym (from-drop end rest)) ∙ sym is

-- ---- counts

numerals_in-append : (a b : List Denotation) → numerals_in (a ++ b) ≡ numerals_in a ++ numerals_in b
numerals_in-append [] b = refl
numerals_in-append (Byte byte ∷ a) b = numerals_in-append a b
numerals_in-append (Bytes bytes ∷ a) b = numerals_in-append a b
numerals_in-append (Numeral value ∷ a) b = ap (λ (l : List ℕ). value ∷ l) (numerals_in-append a b)
numerals_in-append (Word name span ∷ a) b = numerals_in-append a b
numerals_in-append (Sign form ∷ a) b = numerals_in-append a b
numerals_in-append (Expression form ∷ a) b = numerals_in-append a b
numerals_in-append (Definition rule ∷ a) b = numerals_in-append a b

-- the bounds given by one or two numbers
abbrev pub bounds_from : ℕ → List ℕ → Bounds
bounds_from first [] = bounds first first
bounds_from first (second ∷ more) = bounds first second

bounds-saturated_number : (numbers others : List ℕ) (value : ℕ) (more : List ℕ) → value ∷ [] ≡ map saturated_number numbers → more ≡ map saturated_number others
    → bounds_from value more ≡ saturated_bounds (bounds_spelled (numbers ++ others))
bounds-saturated_number [] others value more same also = cc
bounds-saturated_number (number ∷ other ∷ rest) others value more same also = cc
bounds-saturated_number (number ∷ []) [] value more same also =
    let is : value ≡ saturated_number number = cc in ap (bounds_from value) also ∙ ap (λ n. bounds n n) is
bounds-saturated_number (number ∷ []) (other ∷ rest) value more same also =
    let is : value ≡ saturated_number number = cc in ap (bounds_from value) also ∙ ap (λ n. bounds n (saturated_number other)) is

abbrev pub seen_count : Bounds → ℕ → CountView
seen_count bounds length = record { bounds = bounds; length = length }

module _ (rest : List ℕ) where
  abbrev inner : Option PrefixMatch → Option PrefixMatch
  inner x = option_and_then (λ (x : PrefixMatch). option_map (concat_matches x) (after_number (drop x.length (drop 1 rest)))) x

  abbrev whole : Option PrefixMatch → Option CountView
  whole x = option_map count_found (option_map (concat_matches (plain 1)) x)

  at_following : (n value : ℕ) (x : PrefixMatch) → numbers_seen (value ∷ []) n ≡ numbers_found x
      → drop x.length (drop 1 rest) ≡ drop (1 + n) rest
  at_following n value x same =
      drop-drop x.length 1 rest ∙ ap (λ (seen : NumbersView). drop (1 + seen.length) rest) (sym same)

  pub count-some : (n m value : ℕ) (more : List ℕ) → starts_with nat_eq rest (codes "{") ≡ true
      → Some (numbers_seen (value ∷ []) n) ≡ option_map numbers_found (number (drop 1 rest))
      → Some (numbers_seen more m) ≡ option_map numbers_found (after_number (drop (1 + n) rest))
      → Some (seen_count (bounds_from value more) (1 + n + m)) ≡ option_map count_found (count rest)
  unfolding count
  count-some n m value more opens first next = rw opens (sym (by (number (drop 1 rest)) first))
    where
      joined : (x y : PrefixMatch) → numbers_seen (value ∷ []) n ≡ numbers_found x → numbers_seen more m ≡ numbers_found y
          → Some (count_found (concat_matches (plain 1) (concat_matches x y))) ≡ Some (seen_count (bounds_from value more) (1 + n + m))
      joined x y same also =
          let size : 1 + (x.length + y.length) ≡ 1 + n + m =
          omega (arith, ap (λ (s : NumbersView). s.length) same, ap (λ (s : NumbersView). s.length) also) in
          let stated_so : bounds_from value more ≡ saturated_bounds (bounds_spelled (numerals_in (x.spells ++ y.spells))) =
          bounds-saturated_number (numerals_in x.spells) (numerals_in y.spells) value more (ap (λ (s : NumbersView). s.numbers) same)
          (ap (λ (s : NumbersView). s.numbers) also)
          ∙ ap (λ (l : List ℕ). saturated_bounds (bounds_spelled l)) (sym (numerals_in-append x.spells y.spells)) in
          ap (λ l. Some (seen_count (saturated_bounds (bounds_spelled (numerals_in (x.spells ++ y.spells)))) l)) size
          ∙ ap (λ (b : Bounds). Some (seen_count b (1 + n + m))) (sym stated_so)

      by : (x : Option PrefixMatch) → Some (numbers_seen (value ∷ []) n) ≡ option_map numbers_found x
          → whole (inner x) ≡ Some (seen_count (bounds_from value more) (1 + n + m))
      by None found = cc
      by (Some x) found =
          let same : numbers_seen (value ∷ []) n ≡ numbers_found x = cc in
          later x same (after_number (drop x.length (drop 1 rest)))
          (next ∙ ap (λ r. option_map numbers_found (after_number r)) (sym (at_following n value x same)))
        where
          later : (x : PrefixMatch) → numbers_seen (value ∷ []) n ≡ numbers_found x → (y : Option PrefixMatch)
              → Some (numbers_seen more m) ≡ option_map numbers_found y
              → whole (option_map (concat_matches x) y) ≡ Some (seen_count (bounds_from value more) (1 + n + m))
          later x same None found = cc
          later x same (Some y) found =
              let also : numbers_seen more m ≡ numbers_found y = cc in joined x y same also

  pub count-none : (n value : ℕ) → starts_with nat_eq rest (codes "{") ≡ true
      → Some (numbers_seen (value ∷ []) n) ≡ option_map numbers_found (number (drop 1 rest))
      → None ≡ option_map numbers_found (after_number (drop (1 + n) rest)) → None ≡ option_map count_found (count rest)
  unfolding count
  count-none n value opens first next = rw opens (sym (by (number (drop 1 rest)) first))
    where
      by : (x : Option PrefixMatch) → Some (numbers_seen (value ∷ []) n) ≡ option_map numbers_found x → whole (inner x) ≡ None
      by None found = cc
      by (Some x) found =
          let same : numbers_seen (value ∷ []) n ≡ numbers_found x = cc in
          later x (after_number (drop x.length (drop 1 rest)))
          (next ∙ ap (λ r. option_map numbers_found (after_number r)) (sym (at_following n value x same)))
        where
          later : (x : PrefixMatch) → (y : Option PrefixMatch) → None ≡ option_map numbers_found y
              → whole (option_map (concat_matches x) y) ≡ None
          later x None found = refl
          later x (Some y) found = cc

  pub count-empty : starts_with nat_eq rest (codes "{") ≡ true → None ≡ option_map numbers_found (number (drop 1 rest))
      → None ≡ option_map count_found (count rest)
  unfolding count
  count-empty opens none = rw opens (sym (by (number (drop 1 rest)) none))
    where
      by : (x : Option PrefixMatch) → None ≡ option_map numbers_found x → whole (inner x) ≡ None
      by None found = refl
      by (Some x) found = cc

  pub count-closed : starts_with nat_eq rest (codes "{") ≡ false → None ≡ option_map count_found (count rest)
  unfolding count
  count-closed opens = rw opens refl
