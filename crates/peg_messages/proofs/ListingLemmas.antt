-- Texts one by one.
use Rattle.std.proofs.Common.{◌≡◌, ℕ, zero, suc, ◌+◌, ◌-◌, ◌^◌, ◌<◌, ◌≤◌, Bool, true, false, not, ◌||◌, if◌then◌else◌}
use Rattle.std.proofs.Common.{List, [], ◌∷◌, ◌++◌, length, take, append-nil, append_assoc}
use Rattle.std.proofs.Common.{refl, sym, ap, ◌∙◌, arith, lit≤}
use Rattle.std.proofs.lemmas.List.{length_push}
use Rattle.std.proofs.lemmas.List.Folds.{list_any-append}
use Rattle.std.proofs.lemmas.Slice.Eq.{bytes_eq-Decides}
use Rattle.std.specs.List.{filter}
use Rattle.std.specs.Str.{bytes_eq}
use Rattle.peg_messages.specs.Listing.{distinct, first_texts, is_among, other_count}
use Rattle.peg_messages.specs.Listings.{IsListed, IsListing, bytes_of_each}
use Rattle.peg_messages.specs.declared.listing.Listing.{Listing}

-- the texts of a list that are none of the first different texts of all
abbrev pub others_in : (all rest : List (List ℕ)) → List (List ℕ)
others_in all rest = filter (λ text. not (is_among (first_texts all) text)) rest

take-nil : {X : Type 0} (n : ℕ) → take n (let e : List X = [] in e) ≡ []
take-nil zero = refl
take-nil (suc n) = refl

-- all texts are still to be listed
pub IsListing-start : (all : List (List ℕ)) → IsListing [] 0 all all
IsListing-start all = record {
  kept = refl;
  others = omega arith;
  few = lit≤ tt;
}

-- one of the first texts is among those that begin with it
among-first : (texts tail : List (List ℕ)) (text : List ℕ) → is_among texts text ≡ true
    → is_among (texts ++ tail) text ≡ true
among-first texts tail text is =
    list_any-append (λ other. bytes_eq other text) texts tail
    ∙ ap (λ b. b || is_among tail text) is

or-true : (b : Bool) → (b || true) ≡ true
or-true true = refl
or-true false = refl

among-last : (texts : List (List ℕ)) (text : List ℕ) → is_among (texts ++ text ∷ []) text ≡ true
among-last texts text =
    list_any-append (λ other. bytes_eq other text) texts (text ∷ [])
    ∙ (ap (λ b. is_among texts text || (b || false)) ((bytes_eq-Decides text text).1 refl)
    ∙ or-true (is_among texts text))

-- a text that is among the first texts is counted as none of the others
not-counted : (all rest : List (List ℕ)) (text : List ℕ) → is_among (first_texts all) text ≡ true
    → others_in all (text ∷ rest) ≡ others_in all rest
not-counted all rest text is =
    ap (λ b. if not b then text ∷ others_in all rest else others_in all rest) is

counted : (all rest : List (List ℕ)) (text : List ℕ) → is_among (first_texts all) text ≡ false
    → others_in all (text ∷ rest) ≡ text ∷ others_in all rest
counted all rest text is =
    ap (λ b. if not b then text ∷ others_in all rest else others_in all rest) is

-- a text that is kept already
pub IsListing-same : (texts rest all : List (List ℕ)) (more : ℕ) (text : List ℕ) → is_among texts text ≡ true
    → IsListing texts more (text ∷ rest) all → IsListing texts more rest all
IsListing-same texts rest all more text is so = record {
  kept = sym (ap (λ b. texts ++ take (64 - length texts)
      (if b then distinct texts rest else text ∷ distinct (texts ++ text ∷ []) rest)) is) ∙ so.kept;
  others = ap (λ l. more + length l) (sym (not-counted all rest text among)) ∙ so.others;
  few = so.few;
}
  where
    among : is_among (first_texts all) text ≡ true
    among = ap (λ l. is_among l text) (sym so.kept) ∙ among-first texts _ text is

suc-less : (n : ℕ) → suc n - 1 ≡ n
suc-less n = omega arith

take-less : {X : Type 0} (n : ℕ) (x : X) (xs : List X) → 0 < n → take n (x ∷ xs) ≡ x ∷ take (n - 1) xs
take-less zero x xs some = absurd (omega arith)
take-less (suc n) x xs some = ap (λ k. x ∷ take k xs) (sym (suc-less n))

-- a new text, while there is room for it
pub IsListing-kept : (texts rest all : List (List ℕ)) (more : ℕ) (text : List ℕ) → is_among texts text ≡ false
    → length texts < 64 → IsListing texts more (text ∷ rest) all → IsListing (texts ++ text ∷ []) more rest all
IsListing-kept texts rest all more text new room so = record {
  kept = kept;
  others = ap (λ l. more + length l) (sym (not-counted all rest text among)) ∙ so.others;
  few = omega (arith, length_push texts text);
}
  where
    left : 64 - length texts - 1 ≡ 64 - length (texts ++ text ∷ [])
    left = omega (arith, length_push texts text)

    tail : List (List ℕ)
    tail = distinct (texts ++ text ∷ []) rest

    kept : (texts ++ text ∷ []) ++ take (64 - length (texts ++ text ∷ [])) tail ≡ first_texts all
    kept =
        append_assoc texts (text ∷ []) (take (64 - length (texts ++ text ∷ [])) tail)
        ∙ (ap (λ n. texts ++ text ∷ take n tail) (sym left)
        ∙ (ap (λ l. texts ++ l) (sym (take-less (64 - length texts) text tail (omega arith)))
        ∙ (sym (ap (λ b. texts ++ take (64 - length texts) (if b then distinct texts rest else text ∷ tail)) new)
        ∙ so.kept)))

    among : is_among (first_texts all) text ≡ true
    among =
        ap (λ l. is_among l text) (sym kept)
        ∙ among-first (texts ++ text ∷ []) (take (64 - length (texts ++ text ∷ [])) tail) text (among-last texts text)

full : (texts tail : List (List ℕ)) → 64 ≤ length texts → texts ++ take (64 - length texts) tail ≡ texts
full texts tail all =
    let none : 64 - length texts ≡ 0 = omega arith in
    ap (λ n. texts ++ take n tail) none ∙ append-nil texts

-- a new text, without room for it
pub IsListing-left_out : (texts rest all : List (List ℕ)) (more : ℕ) (text : List ℕ) → is_among texts text ≡ false
    → 64 ≤ length texts → IsListing texts more (text ∷ rest) all → IsListing texts (more + 1) rest all
IsListing-left_out texts rest all more text new without so = record {
  kept = full texts (distinct texts rest) without ∙ same;
  others = omega (arith, so.others, ap length (counted all rest text other));
  few = so.few;
}
  where
    same : texts ≡ first_texts all
    same = sym (full texts (distinct texts (text ∷ rest)) without) ∙ so.kept

    other : is_among (first_texts all) text ≡ false
    other = ap (λ l. is_among l text) (sym same) ∙ new

-- no text is left
pub IsListing-end : (texts all : List (List ℕ)) (more : ℕ) → IsListing texts more [] all
    → (texts ≡ first_texts all) × (more ≡ other_count all)
IsListing-end texts all more so = (
  sym (append-nil texts) ∙ (ap (λ l. texts ++ l) (sym (take-nil (64 - length texts))) ∙ so.kept),
  omega (arith, so.others),
)

-- nothing is left to be listed
pub IsListed-end : (listing : Listing) (all : List (List ℕ))
    → IsListing (bytes_of_each listing.kept.items) listing.others [] all → listing.others ≤ 2 ^ 34
    → length listing.kept.items ≤ 64 → IsListed all listing
IsListed-end listing all so bound few =
    let texts = bytes_of_each listing.kept.items in
    record {
      texts = sym (ap (λ l. texts ++ l) (take-nil {X = List ℕ} (64 - length texts)) ∙ append-nil texts) ∙ so.kept;
      others = omega (arith, so.others);
      few = few;
      bound = bound;
    }
