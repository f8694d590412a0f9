-- The lengths of matches: positive, and within the bytes.
use Rattle.std.proofs.Common.{◌≡◌, ℕ, zero, suc, ◌+◌, ◌<◌, ◌≤◌, Bool, true, false, List, [], ◌∷◌, ◌++◌, length, drop, Option, None, Some}
use Rattle.std.proofs.Common.{option_map, option_and_then, if◌then◌else◌, nat_eq, ◌==◌, refl, sym, ap, ◌∙◌, arith, length-drop}
use Rattle.std.specs.List.{starts_with}
use Rattle.std.proofs.lemmas.Bool.{and_parts}
use Rattle.peg_lexer.specs.Matchers.{PrefixMatch, Matcher, plain, concat_matches, literal_bytes, satisfy, seq_matcher, or_piece, or_matcher, none_of, not_followed, optional_matcher, many, star}
use Rattle.peg_metagrammar.specs.Denotation.{Denotation}
use Rattle.peg_lexer.proofs.PieceLemmas.{many-none, many-some}
use Rattle.peg_lexer.proofs.Takes.{IsLong, node_of, noded}

pub record Fits (find : Matcher) : Type 0 where
  pub fits : (rest : List ℕ) (piece : PrefixMatch) → find rest ≡ Some piece → piece.length ≤ length rest

pub record HasBytes (find : Matcher) : Type 0 where
  pub some : (rest : List ℕ) (piece : PrefixMatch) → find rest ≡ Some piece → 0 < piece.length

pub is_long : {find : Matcher} → HasBytes find → Fits find → IsLong find
is_long a b = record { some = a.some; fits = b.fits }

-- ---- bytes

-- some bytes are at least as long as their prefix
starts_with-fits : (bytes rest : List ℕ) → starts_with nat_eq rest bytes ≡ true → length bytes ≤ length rest
starts_with-fits [] rest is = omega arith
starts_with-fits (b ∷ bs) [] is = cc
starts_with-fits (b ∷ bs) (c ∷ rest) is = omega (
  arith,
  starts_with-fits bs rest
      (and_parts (b == c) (starts_with nat_eq rest bs) is).1,
)

pub fits-literal_bytes : (bytes : List ℕ) → Fits (literal_bytes bytes)
fits-literal_bytes bytes = record { fits = λ rest piece found. by rest piece (starts_with nat_eq rest bytes) refl found }
  where
    by : (rest : List ℕ) (piece : PrefixMatch) (t : Bool) → starts_with nat_eq rest bytes ≡ t
        → (if t then Some (plain (length bytes)) else None) ≡ Some piece → piece.length ≤ length rest
    by rest piece true is found =
        let same : plain (length bytes) ≡ piece = cc in
        omega (arith, starts_with-fits bytes rest is, ap (λ (p : PrefixMatch). p.length) same)
    by rest piece false is found = cc

pub has-literal_bytes : (bytes : List ℕ) → 0 < length bytes → HasBytes (literal_bytes bytes)
has-literal_bytes bytes long = record { some = λ rest piece found. by piece (starts_with nat_eq rest bytes) found }
  where
    by : (piece : PrefixMatch) (t : Bool) → (if t then Some (plain (length bytes)) else None) ≡ Some piece → 0 < piece.length
    by piece true found =
        let same : plain (length bytes) ≡ piece = cc in omega (arith, ap (λ (p : PrefixMatch). p.length) same)
    by piece false found = cc

one_size : (test : ℕ → Bool) (rest : List ℕ) (piece : PrefixMatch) → satisfy test rest ≡ Some piece → (piece.length ≡ 1)
    × (0 < length rest)
one_size test [] piece found = cc
one_size test (byte ∷ rest) piece found = (by (test byte) found, omega arith)
  where
    by : (t : Bool) → (if t then Some (plain 1) else None) ≡ Some piece → piece.length ≡ 1
    by true found = let same : plain 1 ≡ piece = cc in sym (ap (λ (p : PrefixMatch). p.length) same)
    by false found = cc

pub fits-one : (test : ℕ → Bool) → Fits (satisfy test)
fits-one test = record {
  fits = λ rest piece found. let by = one_size test rest piece found in omega
      (arith, by.0, by.1);
}

pub has-one : (test : ℕ → Bool) → HasBytes (satisfy test)
has-one test = record { some = λ rest piece found. let by = one_size test rest piece found in omega (arith, by.0) }

-- ---- one match after another

-- the two matches of a sequence
pub followed_parts : (first next : Matcher) (rest : List ℕ) (piece : PrefixMatch) → seq_matcher first next rest ≡ Some piece
    → (x : PrefixMatch) × (y : PrefixMatch) × (first rest ≡ Some x) × (next (drop x.length rest) ≡ Some y)
    × (piece.length ≡ x.length + y.length) × (piece.spells ≡ x.spells ++ y.spells)
followed_parts first next rest piece found = by (first rest) refl found
  where
    by : (x : Option PrefixMatch) → first rest ≡ x → option_and_then
        (λ (p : PrefixMatch). option_map (concat_matches p) (next (drop p.length rest))) x ≡ Some piece → (x : PrefixMatch) × (y : PrefixMatch)
        × (first rest ≡ Some x) × (next (drop x.length rest) ≡ Some y) × (piece.length ≡ x.length + y.length)
        × (piece.spells ≡ x.spells ++ y.spells)
    by None is found = cc
    by (Some x) is found = later (next (drop x.length rest)) refl found
      where
        later : (y : Option PrefixMatch) → next (drop x.length rest) ≡ y → option_map (concat_matches x) y ≡ Some piece → (x : PrefixMatch)
            × (y : PrefixMatch) × (first rest ≡ Some x) × (next (drop x.length rest) ≡ Some y)
            × (piece.length ≡ x.length + y.length) × (piece.spells ≡ x.spells ++ y.spells)
        later None is_next found = cc
        later (Some y) is_next found =
            let same : concat_matches x y ≡ piece = cc in (
              x,
              y,
              is,
              is_next,
              sym (ap (λ (p : PrefixMatch). p.length) same),
              sym
                  (ap (λ (p : PrefixMatch). p.spells) same),
            )

pub fits-seq_matcher : {first next : Matcher} → Fits first → Fits next → Fits (seq_matcher first next)
fits-seq_matcher {first} {next} a b = record {
  fits = λ rest piece found.
      let by = followed_parts first next rest piece found in
      omega
      (arith, a.fits rest by.0 by.2, b.fits (drop by.0.length rest) by.1 by.3, length-drop by.0.length rest, by.4);
}

pub has-first : {first : Matcher} (next : Matcher) → HasBytes first → HasBytes (seq_matcher first next)
has-first {first} next a = record {
  some = λ rest piece found.
      let by = followed_parts first next rest piece found in omega (arith, a.some rest by.0 by.2, by.4);
}

pub has-next : (first : Matcher) {next : Matcher} → HasBytes next → HasBytes (seq_matcher first next)
has-next first {next} b = record {
  some = λ rest piece found.
      let by = followed_parts first next rest piece found in
      omega (arith, b.some (drop by.0.length rest) by.1 by.3, by.4);
}

-- ---- alternatives

pub fits-or_matcher : {first other : Matcher} → Fits first → Fits other → Fits (or_matcher first other)
fits-or_matcher {first} {other} a b = record { fits = λ rest piece found. by rest piece (first rest) refl found }
  where
    by : (rest : List ℕ) (piece : PrefixMatch) (x : Option PrefixMatch) → first rest ≡ x → or_piece x (other rest) ≡ Some piece
        → piece.length ≤ length rest
    by rest piece None is found = b.fits rest piece found
    by rest piece (Some x) is found = a.fits rest piece (is ∙ found)

pub has-or_matcher : {first other : Matcher} → HasBytes first → HasBytes other → HasBytes (or_matcher first other)
has-or_matcher {first} {other} a b = record { some = λ rest piece found. by rest piece (first rest) refl found }
  where
    by : (rest : List ℕ) (piece : PrefixMatch) (x : Option PrefixMatch) → first rest ≡ x → or_piece x (other rest) ≡ Some piece
        → 0 < piece.length
    by rest piece None is found = b.some rest piece found
    by rest piece (Some x) is found = a.some rest piece (is ∙ found)

-- ---- operators

nothing_fits : (rest : List ℕ) (piece : PrefixMatch) → Some (plain 0) ≡ Some piece → piece.length ≤ length rest
nothing_fits rest piece found =
    let same : plain 0 ≡ piece = cc in omega (arith, ap (λ (p : PrefixMatch). p.length) same)

pub fits-not_followed : (find : Matcher) → Fits (not_followed find)
fits-not_followed find = record { fits = λ rest piece found. by rest piece (find rest) found }
  where
    by : (rest : List ℕ) (piece : PrefixMatch) (x : Option PrefixMatch) → none_of x ≡ Some piece → piece.length ≤ length rest
    by rest piece None found = nothing_fits rest piece found
    by rest piece (Some x) found = cc

pub fits-optional_matcher : {find : Matcher} → Fits find → Fits (optional_matcher find)
fits-optional_matcher {find} a = record { fits = λ rest piece found. by rest piece (find rest) refl found }
  where
    by : (rest : List ℕ) (piece : PrefixMatch) (x : Option PrefixMatch) → find rest ≡ x → or_piece x (Some (plain 0)) ≡ Some piece
        → piece.length ≤ length rest
    by rest piece None is found = nothing_fits rest piece found
    by rest piece (Some x) is found = a.fits rest piece (is ∙ found)

-- ---- repetition

rounds_fit : {find : Matcher} → IsLong find → (n : ℕ) (rest : List ℕ) → length rest ≤ n → (x : Option PrefixMatch) → find rest
    ≡ x → (many find rest).length ≤ length rest
rounds_fit {find} long n rest left None is =
    omega (arith, ap (λ (p : PrefixMatch). p.length) (many-none find rest is))
rounds_fit {find} long zero rest left (Some x) is =
    absurd (omega (arith, long.some rest x is, long.fits rest x is))
rounds_fit {find} long (suc n) rest left (Some x) is =
    let bytes = long.some rest x is in
    let within = long.fits rest x is in
    let fewer : length (drop x.length rest) ≤ n = omega (arith, length-drop x.length rest) in
    let more = rounds_fit long n (drop x.length rest) fewer (find (drop x.length rest)) refl in
    omega (arith, ap (λ (p : PrefixMatch). p.length) (many-some find rest x is bytes within), length-drop x.length rest, more)

pub fits-star : {find : Matcher} → IsLong find → Fits (star find)
fits-star {find} long = record {
  fits = λ rest piece found.
      let same : many find rest ≡ piece = cc in
      omega (
        arith,
        rounds_fit long (length rest) rest (omega arith) (find rest) refl,
        ap
            (λ (p : PrefixMatch). p.length) same,
      );
}

-- ---- nodes

noded_length : (spell : List ℕ → List Denotation → List Denotation) (find : Matcher) (rest : List ℕ) (piece : PrefixMatch)
    → noded spell find rest ≡ Some piece → (x : PrefixMatch) × (find rest ≡ Some x) × (piece.length ≡ x.length)
noded_length spell find rest piece found = by (find rest) refl found
  where
    by : (x : Option PrefixMatch) → find rest ≡ x → option_map (node_of spell rest) x ≡ Some piece → (x : PrefixMatch)
        × (find rest ≡ Some x) × (piece.length ≡ x.length)
    by None is found = cc
    by (Some x) is found =
        let same : node_of spell rest x ≡ piece = cc in (x, is, sym (ap (λ (p : PrefixMatch). p.length) same))

pub fits-noded : {find : Matcher} (spell : List ℕ → List Denotation → List Denotation) → Fits find → Fits (noded spell find)
fits-noded {find} spell a = record {
  fits = λ rest piece found.
      let by = noded_length spell find rest piece found in omega (arith, a.fits rest by.0 by.1, by.2);
}

pub has-noded : {find : Matcher} (spell : List ℕ → List Denotation → List Denotation) → HasBytes find
    → HasBytes (noded spell find)
has-noded {find} spell a = record {
  some = λ rest piece found.
      let by = noded_length spell find rest piece found in omega (arith, a.some rest by.0 by.1, by.2);
}

-- ---- matches that denote nothing

pub record IsBlank (find : Matcher) : Type 0 where
  pub blank : (rest : List ℕ) (piece : PrefixMatch) → find rest ≡ Some piece → piece.spells ≡ []

plain_blank : (n : ℕ) (piece : PrefixMatch) → Some (plain n) ≡ Some piece → piece.spells ≡ []
plain_blank n piece found =
    let same : plain n ≡ piece = cc in sym (ap (λ (p : PrefixMatch). p.spells) same)

pub blank-literal_bytes : (bytes : List ℕ) → IsBlank (literal_bytes bytes)
blank-literal_bytes bytes = record { blank = λ rest piece found. by piece (starts_with nat_eq rest bytes) found }
  where
    by : (piece : PrefixMatch) (t : Bool) → (if t then Some (plain (length bytes)) else None) ≡ Some piece → piece.spells ≡ []
    by piece true found = plain_blank (length bytes) piece found
    by piece false found = cc

pub blank-one : (test : ℕ → Bool) → IsBlank (satisfy test)
blank-one test = record { blank = λ rest piece found. at rest piece found }
  where
    by : (piece : PrefixMatch) (t : Bool) → (if t then Some (plain 1) else None) ≡ Some piece → piece.spells ≡ []
    by piece true found = plain_blank 1 piece found
    by piece false found = cc

    at : (rest : List ℕ) (piece : PrefixMatch) → satisfy test rest ≡ Some piece → piece.spells ≡ []
    at [] piece found = cc
    at (byte ∷ rest) piece found = by piece (test byte) found

pub blank-seq_matcher : {first next : Matcher} → IsBlank first → IsBlank next → IsBlank (seq_matcher first next)
blank-seq_matcher {first} {next} a b = record {
  blank = λ rest piece found.
      let by = followed_parts first next rest piece found in
      by.5 ∙ (ap (λ (pieces : List Denotation). pieces ++ by.1.spells) (a.blank rest by.0 by.2)
      ∙ b.blank (drop by.0.length rest) by.1 by.3);
}

pub blank-or_matcher : {first other : Matcher} → IsBlank first → IsBlank other → IsBlank (or_matcher first other)
blank-or_matcher {first} {other} a b = record { blank = λ rest piece found. by rest piece (first rest) refl found }
  where
    by : (rest : List ℕ) (piece : PrefixMatch) (x : Option PrefixMatch) → first rest ≡ x → or_piece x (other rest) ≡ Some piece
        → piece.spells ≡ []
    by rest piece None is found = b.blank rest piece found
    by rest piece (Some x) is found = a.blank rest piece (is ∙ found)

pub blank-not_followed : (find : Matcher) → IsBlank (not_followed find)
blank-not_followed find = record { blank = λ rest piece found. by piece (find rest) found }
  where
    by : (piece : PrefixMatch) (x : Option PrefixMatch) → none_of x ≡ Some piece → piece.spells ≡ []
    by piece None found = plain_blank 0 piece found
    by piece (Some x) found = cc

pub blank-many : {find : Matcher} → IsLong find → IsBlank find → (n : ℕ) (rest : List ℕ) → length rest ≤ n
    → (x : Option PrefixMatch) → find rest ≡ x → (many find rest).spells ≡ []
blank-many {find} long blank n rest left None is = ap (λ (p : PrefixMatch). p.spells) (many-none find rest is)
blank-many {find} long blank zero rest left (Some x) is =
    absurd (omega (arith, long.some rest x is, long.fits rest x is))
blank-many {find} long blank (suc n) rest left (Some x) is =
    let bytes = long.some rest x is in
    let within = long.fits rest x is in
    let fewer : length (drop x.length rest) ≤ n = omega (arith, length-drop x.length rest) in
    let more = blank-many long blank n (drop x.length rest) fewer (find (drop x.length rest)) refl in
    ap (λ (p : PrefixMatch). p.spells) (many-some find rest x is bytes within)
    ∙ (ap (λ (pieces : List Denotation). pieces ++ (many find (drop x.length rest)).spells) (blank.blank rest x is)
    ∙ more)

pub blank-star : {find : Matcher} → IsLong find → IsBlank find → IsBlank (star find)
blank-star {find} long a = record {
  blank = λ rest piece found.
      let same : many find rest ≡ piece = cc in
      sym (ap (λ (p : PrefixMatch). p.spells) same) ∙ blank-many long a (length rest) rest (omega arith) (find rest) refl;
}
