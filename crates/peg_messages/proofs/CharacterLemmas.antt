-- Characters one by one.
use Rattle.std.proofs.Common.{◌≡◌, ℕ, zero, suc, ◌-◌, ◌<◌, ◌≤◌, Bool, true, false, if◌then◌else◌, List, [], ◌∷◌, ◌++◌}
use Rattle.std.proofs.Common.{length, take, drop, refl, sym, ap, ◌∙◌, arith, inl, inr, lit≤}
use Rattle.std.proofs.Common.{append_assoc, Result, Ok, Err, is_ok}
use Rattle.std.proofs.lemmas.Bool.{cases_Bool, cases_lt}
use Rattle.std.proofs.lemmas.List.{take_all, take_rest}
use Rattle.std.proofs.lemmas.Str.{IsUtf8-from_is_utf8, is_utf8-from_IsUtf8}
use Rattle.std.specs.Prelude.{MatchResult}
use denote.Ref.{Bor}
use Rattle.std.specs.List.{flat_map}
use Rattle.std.specs.Str.{IsUtf8, is_utf8}
use Rattle.peg_messages.specs.Characters.{character_len, characters, characters_after}
use Rattle.peg_messages.specs.Shown.{shown, shown_character}
use Rattle.peg_messages.specs.declared.shown.Style.{Style}

-- a length by four tests is at least 1
some_by_tests : (a b c d : Bool) → 1 ≤ (if a then 1 else if b then 2 else if c then 3 else if d then 4 else 1)
some_by_tests true b c d = lit≤ tt
some_by_tests false true c d = lit≤ tt
some_by_tests false false true d = lit≤ tt
some_by_tests false false false true = lit≤ tt
some_by_tests false false false false = lit≤ tt

pub character_len-some : (bytes : List ℕ) → 1 ≤ character_len bytes
unfolding character_len
character_len-some bytes =
    some_by_tests (is_utf8 (take 1 bytes)) (is_utf8 (take 2 bytes)) (is_utf8 (take 3 bytes)) (is_utf8 (take 4 bytes))

-- bytes are as long as the first of their beginnings that is UTF-8
pub long_enough : (n : ℕ) (bytes : List ℕ) → is_utf8 (take n bytes) ≡ false → is_utf8 (take (suc n) bytes) ≡ true
    → suc n ≤ length bytes
long_enough n bytes fails is = elim (cases_lt n (length bytes)) [
  | inl more ↦ omega arith
  | inr all ↦
      let one = take_all n bytes all in
      let other = take_all (suc n) bytes (omega arith) in
      let same : is_utf8 (take n bytes) ≡ is_utf8 (take (suc n) bytes) = ap is_utf8 (one ∙ sym other) in
      cc
]

-- the characters after some bytes that belong to an earlier one
after-drop : (bytes : List ℕ) (taken : ℕ) → characters_after bytes taken ≡ characters (drop taken bytes)
after-drop [] zero = refl
after-drop [] (suc taken) = refl
after-drop (byte ∷ rest) zero = refl
after-drop (byte ∷ rest) (suc taken) = after-drop rest taken

suc-less : (n : ℕ) → suc n - 1 ≡ n
suc-less n = omega arith

drop-less : (n byte : ℕ) (rest : List ℕ) → 1 ≤ n → drop (n - 1) rest ≡ drop n (byte ∷ rest)
drop-less zero byte rest some = absurd (omega arith)
drop-less (suc n) byte rest some = ap (λ k. drop k rest) (suc-less n)

-- the first character, and those of the bytes after it
pub shown-step : (style : Style) (bytes : List ℕ) → 0 < length bytes → shown style bytes
    ≡ shown_character style (take (character_len bytes) bytes) ++ shown style (drop (character_len bytes) bytes)
shown-step style [] some = absurd (omega arith)
shown-step style (byte ∷ rest) some =
    let n = character_len (byte ∷ rest) in
    ap (λ cs. shown_character style (take n (byte ∷ rest)) ++ flat_map (shown_character style) cs)
    (after-drop rest (n - 1) ∙ ap characters (drop-less n byte rest (character_len-some (byte ∷ rest))))

-- one more character is written
pub shown-more : (style : Style) (out new rest whole : List ℕ) (n : ℕ) → n ≡ character_len rest → 0 < length rest
    → new ≡ out ++ shown_character style (take n rest) → out ++ shown style rest ≡ whole
    → new ++ shown style (take (length rest - n) (drop n rest)) ≡ whole
shown-more style out new rest whole n is some added before =
    ap (λ l. new ++ shown style l) (take_rest rest n)
    ∙ (ap (λ l. l ++ shown style (drop n rest)) added
    ∙ (append_assoc out (shown_character style (take n rest)) (shown style (drop n rest))
    ∙ (ap (λ k. out ++ (shown_character style (take k rest) ++ shown style (drop k rest))) is
    ∙ (ap (λ l. out ++ l) (sym (shown-step style rest some)) ∙ before))))

-- what `from_utf8` says
pub utf8-test : {E : Type 0} (Q : E → Type 0) (bytes : List ℕ) (r : Result (Bor (List ℕ)) E)
    → MatchResult r (λ s. (s.now ≡ bytes) × IsUtf8 bytes) (λ e. ¬ (IsUtf8 bytes) × Q e) → is_ok r ≡ is_utf8 bytes
utf8-test Q bytes (Ok s) says = sym (is_utf8-from_IsUtf8 bytes says.1)
utf8-test Q bytes (Err e) says = elim (cases_Bool (is_utf8 bytes)) [
  | inl is ↦ absurd (says.0 (IsUtf8-from_is_utf8 bytes is))
  | inr other ↦ sym other
]
