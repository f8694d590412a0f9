-- The bytes that the Chars of the printed figure denote. None of them has an x after a backslash.
use Rattle.std.proofs.Common.{◌≡◌, ℕ, zero, suc, ◌+◌, ◌-◌, Bool, true, false, ◌==◌, nat_eq, List, [], ◌∷◌, take, drop, codes}
use Rattle.std.proofs.Common.{if◌then◌else◌, refl, sym, ap, ◌∙◌, subst, arith}
use Rattle.std.proofs.lemmas.Bool.Decides.{nat_tests}
use Rattle.std.specs.List.{starts_with}
use Rattle.peg_bytes.specs.Extent.{between}
use Rattle.peg_tree.specs.Trees.{Trees, NoTrees, Tree}
use Rattle.peg_semantics.specs.Form.{Name}
use Rattle.peg_semantics.specs.Record.{Failed, Matched}
use Rattle.peg_semantics.proofs.Derivations.{Derives, DerivesItems, DerivesFirst, derived, one_result}
use Rattle.peg_semantics.proofs.ResultSteps.{begins_with, passes_any}
use Rattle.peg_metagrammar.specs.Denotation.{is_octal, octal, hexadecimal, byte_spelled, part}
use Rattle.peg_metagrammar.specs.SimpleEscapes.{simple_escape}
use Rattle.peg_notation.specs.PrintedFigure.{MatchesPrinted, printed_figure, printed_byte}
use Rattle.peg_notation.proofs.PrintedRules.{Old, no_escape, printed-meaning_of}

-- an end that is one byte after the start
one_byte : (file : List ℕ) (p end : ℕ) → end ≡ p + 1 → end - p ≡ 1
one_byte file p end is = omega arith

abbrev none : List ℕ
none = []

taken_none : (n : ℕ) → take n none ≡ none
taken_none zero = refl
taken_none (suc n) = refl

-- without a backslash, a Char is one byte
alone : (file : List ℕ) (p byte : ℕ) (rest : List ℕ) → drop p file ≡ byte ∷ rest → (byte == 92) ≡ false → (end : ℕ)
    (trees : Trees) → Old file (Name (codes "Char") (between 0 0)) p (Matched end trees) → end ≡ p + 1
alone file p byte rest is other end trees d =
    let no_backslash : starts_with nat_eq (drop p file) (codes "\\") ≡ false =
    ap (λ l. starts_with nat_eq l (codes "\\")) is ∙ differs in
    let one : Old file (Name (codes "Char") (between 0 0)) p (Matched (p + 1) (Tree 13 p (p + 1) NoTrees NoTrees)) =
    Derives.name_matched (printed-meaning_of file).1 (Derives.choice
    (DerivesFirst.alternative_failed
    (Derives.sequence (DerivesItems.items_failed (Derives.literal_failed no_backslash)))
    (DerivesFirst.alternative_failed
    (Derives.sequence (DerivesItems.items_failed (Derives.literal_failed no_backslash)))
    (DerivesFirst.alternative_failed
    (Derives.sequence (DerivesItems.items_failed (Derives.literal_failed no_backslash)))
    (DerivesFirst.alternative_last (Derives.sequence
    (DerivesItems.items_then (Derives.not_matched (Derives.literal_failed no_backslash))
    (DerivesItems.items_then (Derives.any_matched (ap (begins_with passes_any) is) refl) DerivesItems.items_none refl)
    refl))))))) refl in
    let same : Matched end trees ≡ Matched (p + 1) (Tree 13 p (p + 1) NoTrees NoTrees) = one_result d one in
    cc
  where
    differs : starts_with nat_eq (byte ∷ rest) (codes "\\") ≡ false
    differs = grind (arith, nat_tests)

-- a text whose second byte isn't an x
no_x : (first sign : ℕ) (digits : List ℕ) → (sign == 120) ≡ false
    → byte_spelled (first ∷ sign ∷ digits) ≡ printed_byte (first ∷ sign ∷ digits)
no_x first sign digits other =
    ap (λ (b : Bool). if b then hexadecimal digits
    else (if is_octal sign then octal (sign ∷ digits) else simple_escape sign)) other

-- the start of a text with a backslash
following_backslash : (sign : ℕ) (rest : List ℕ) (n : ℕ) → (sign == 120) ≡ false
    → byte_spelled (take n (92 ∷ sign ∷ rest)) ≡ printed_byte (take n (92 ∷ sign ∷ rest))
following_backslash sign rest zero other = refl
following_backslash sign rest (suc zero) other = refl
following_backslash sign rest (suc (suc n)) other = no_x 92 sign (take n rest) other

pub printed-spelling : (file : List ℕ) (start end : ℕ) (trees : Trees)
    → MatchesPrinted file (codes "Char") start end trees
    → byte_spelled (part file start end) ≡ printed_byte (part file start end)
printed-spelling file start end trees m = by (drop start file) refl
  where
    d : Old file (Name (codes "Char") (between 0 0)) start (Matched end trees)
    d = subst (Old file (Name (codes "Char") (between 0 0)) start) m.2
        (derived printed_figure file m.1.0 (Name (codes "Char") (between 0 0)) 0 start m.0 m.1.1)

    escape : (sign : ℕ) (rest : List ℕ) (b : Bool) → (sign == 120) ≡ b → drop start file ≡ 92 ∷ sign ∷ rest
        → byte_spelled (take (end - start) (92 ∷ sign ∷ rest)) ≡ printed_byte (take (end - start) (92 ∷ sign ∷ rest))
    escape sign rest false other is = following_backslash sign rest (end - start) other
    escape sign rest true same is =
        let sign_is : sign ≡ 120 = grind (arith, nat_tests) in
        let failed = no_escape file start rest (is ∙ ap (λ s. 92 ∷ s ∷ rest) sign_is) in
        let dead = Derives.name_failed (printed-meaning_of file).1 failed in
        let none : Matched end trees ≡ Failed = one_result d dead in
        cc

    first : (byte : ℕ) (rest : List ℕ) (b : Bool) → (byte == 92) ≡ b → drop start file ≡ byte ∷ rest
        → byte_spelled (take (end - start) (byte ∷ rest)) ≡ printed_byte (take (end - start) (byte ∷ rest))
    first byte rest false other is =
        let one : end - start ≡ 1 = one_byte file start end (alone file start byte rest is other end trees d) in
        subst (λ n. byte_spelled (take n (byte ∷ rest)) ≡ printed_byte (take n (byte ∷ rest))) (sym one) refl
    first byte rest true same is =
        let byte_is : byte ≡ 92 = grind (arith, nat_tests) in
        subst (λ b. byte_spelled (take (end - start) (b ∷ rest)) ≡ printed_byte (take (end - start) (b ∷ rest)))
        (sym byte_is) (backslash rest (is ∙ ap (λ b. b ∷ rest) byte_is))
      where
        single : (n : ℕ) → byte_spelled (take n (92 ∷ [])) ≡ printed_byte (take n (92 ∷ []))
        single zero = refl
        single (suc n) = ap (λ l. byte_spelled (92 ∷ l)) (taken_none n) ∙ sym (ap (λ l. printed_byte (92 ∷ l)) (taken_none n))

        backslash : (rest : List ℕ) → drop start file ≡ 92 ∷ rest
            → byte_spelled (take (end - start) (92 ∷ rest)) ≡ printed_byte (take (end - start) (92 ∷ rest))
        backslash [] is = single (end - start)
        backslash (sign ∷ more) is = escape sign more (sign == 120) refl is

    by : (l : List ℕ) → drop start file ≡ l → byte_spelled (part file start end) ≡ printed_byte (part file start end)
    by l is =
        subst (λ l. byte_spelled (take (end - start) l) ≡ printed_byte (take (end - start) l)) (sym is) (shown l is)
      where
        shown : (l : List ℕ) → drop start file ≡ l
            → byte_spelled (take (end - start) l) ≡ printed_byte (take (end - start) l)
        shown [] is =
            ap byte_spelled (taken_none (end - start)) ∙ sym (ap printed_byte (taken_none (end - start)))
        shown (byte ∷ rest) is = first byte rest (byte == 92) refl is
