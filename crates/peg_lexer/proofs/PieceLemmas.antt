-- Repeated matches.
use Rattle.std.proofs.Common.{◌≡◌, ℕ, zero, suc, ◌+◌, ◌-◌, ◌<◌, ◌≤◌, List, [], ◌∷◌, length, take, drop, Option, None, Some}
use Rattle.std.proofs.Common.{refl, sym, ap, ◌∙◌, arith, length-drop}
use Rattle.std.proofs.lemmas.List.{drop-drop, take_all}
use Rattle.peg_lexer.specs.Matchers.{PrefixMatch, Matcher, plain, concat_matches, match_length, seq_matcher, many_after, many}

-- skipping bytes is dropping them
pub many_following-drop : (find : Matcher) (bytes : List ℕ) (skipped : ℕ) → many_after find bytes skipped
    ≡ many find (drop skipped bytes)
unfolding many_after
many_following-drop find [] zero = refl
many_following-drop find [] (suc skipped) = refl
many_following-drop find (byte ∷ bytes) zero = refl
many_following-drop find (byte ∷ bytes) (suc skipped) = many_following-drop find bytes skipped

-- without a first match there are no matches
pub many-none : (find : Matcher) (bytes : List ℕ) → find bytes ≡ None → many find bytes ≡ plain 0
unfolding many_after
many-none find [] none = refl
many-none find (byte ∷ bytes) none = rw none refl

-- the repeated matches are the first match and the repeated matches after it
pub many-some : (find : Matcher) (bytes : List ℕ) (piece : PrefixMatch) → find bytes ≡ Some piece → 0 < piece.length
    → piece.length ≤ length bytes → many find bytes ≡ concat_matches piece (many find (drop piece.length bytes))
unfolding many_after
many-some find [] piece found long fits = absurd (omega arith)
many-some find (byte ∷ bytes) piece found long fits =
    let e : piece.length ≡ suc (piece.length - 1) = omega arith in
    rw found (ap (concat_matches piece) (many_following-drop find bytes (piece.length - 1)
    ∙ ap (λ n. many find (drop n (byte ∷ bytes))) (sym e)))

-- a match of the given length
has_length : (found : Option PrefixMatch) (n : ℕ) → match_length found ≡ Some n → (piece : PrefixMatch) × (found ≡ Some piece)
    × (piece.length ≡ n)
has_length None n e = cc
has_length (Some piece) n e = (piece, refl, cc)

no_length : (found : Option PrefixMatch) → match_length found ≡ None → found ≡ None
no_length None e = refl
no_length (Some piece) e = cc

-- the progress of a loop: it has passed `at` bytes, and the remaining matches come from the remaining bytes
pub record Passed (find : Matcher) (rest : List ℕ) (at : ℕ) : Type 0 where
  pub within : at ≤ length rest
  pub same : (many find rest).length ≡ at + (many find (drop at rest)).length

pub Passed-none : (find : Matcher) (rest : List ℕ) → Passed find rest 0
Passed-none find rest = record { within = omega arith; same = omega arith }

-- the bytes from an index on, as the code slices them
abbrev pub from : ℕ → List ℕ → List ℕ
from at rest = take (length rest - at) (drop at rest)

pub from-drop : (at : ℕ) (rest : List ℕ) → from at rest ≡ drop at rest
from-drop at rest = take_all (length rest - at) (drop at rest) (omega (arith, length-drop at rest))

pub length-from : (at : ℕ) (rest : List ℕ) → length (from at rest) ≡ length rest - at
length-from at rest = ap length (from-drop at rest) ∙ length-drop at rest

pub Passed-one : (find : Matcher) (rest : List ℕ) (at n : ℕ) → Passed find rest at → Some n
    ≡ match_length (find (from at rest)) → 0 < n → n ≤ length (from at rest) → Passed find rest (at + n)
Passed-one find rest at n passed found long fits =
    let piece = has_length (find (drop at rest)) n (ap (λ bytes. match_length (find bytes)) (sym (from-drop at rest))
    ∙ sym found) in
    let size : length (from at rest) ≡ length (drop at rest) = ap length (from-drop at rest) in
    let positive : 0 < piece.0.length = omega (arith, piece.2) in
    let within : piece.0.length ≤ length (drop at rest) = omega (arith, piece.2) in
    let more = many-some find (drop at rest) piece.0 piece.1 positive within in
    let following : drop piece.0.length (drop at rest) ≡ drop (at + n) rest = ap (λ k. drop k (drop at rest)) piece.2
    ∙ drop-drop n at rest in
    let left : (many find (drop at rest)).length ≡ piece.0.length + (many find (drop (at + n) rest)).length =
    ap (λ (p : PrefixMatch). p.length) more ∙ ap (λ bytes. piece.0.length + (many find bytes).length) following in
    record {
      within = omega (arith, length-drop at rest, passed.within);
      same = omega
          (arith, left, piece.2, passed.same);
    }

pub Passed-all : (find : Matcher) (rest : List ℕ) (at : ℕ) → Passed find rest at → None
    ≡ match_length (find (from at rest)) → at ≡ (many find rest).length
Passed-all find rest at passed none =
    let gone : match_length (find (drop at rest)) ≡ None = ap (λ bytes. match_length (find bytes)) (sym (from-drop at rest))
    ∙ sym none in
    let left : (many find (drop at rest)).length ≡ 0 =
    ap (λ (p : PrefixMatch). p.length) (many-none find (drop at rest) (no_length (find (drop at rest)) gone)) in
    omega (arith, left, passed.same)

-- a match that no second match follows; and a match that a second match follows
pub seq_matcher-stops : (first next : Matcher) (rest : List ℕ) (n : ℕ) → Some n ≡ match_length (first rest) → None
    ≡ match_length (next (from n rest)) → None ≡ match_length (seq_matcher first next rest)
seq_matcher-stops first next rest n found none =
    let piece = has_length (first rest) n (sym found) in
    let gone : next (drop piece.0.length rest) ≡ None =
    ap (λ k. next (drop k rest)) piece.2 ∙ (ap next (sym (from-drop n rest))
    ∙ no_length (next (from n rest)) (sym none)) in
    rw (piece.1, gone) refl

pub seq_matcher-goes : (first next : Matcher) (rest : List ℕ) (n m : ℕ) → Some n ≡ match_length (first rest) → Some m
    ≡ match_length (next (from n rest)) → Some (n + m) ≡ match_length (seq_matcher first next rest)
seq_matcher-goes first next rest n m found more =
    let piece = has_length (first rest) n (sym found) in
    let following = has_length (next (from n rest)) m (sym more) in
    let same : next (drop piece.0.length rest) ≡ Some following.0 =
    ap (λ k. next (drop k rest)) piece.2 ∙ (ap next (sym (from-drop n rest)) ∙ following.1) in
    rw (piece.1, same) (ap (λ k. Some k) (omega (arith, piece.2, following.2)))
