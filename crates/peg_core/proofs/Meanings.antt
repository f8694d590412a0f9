-- A name denotes a rule, whose number is the index of the core form of its body.
use Rattle.std.proofs.Common.{◌≡◌, ℕ, suc, ◌+◌, Bool, true, false, if◌then◌else◌, List, [], ◌∷◌, length, None, Some, option_map, unwrap_or, slice_get, bytes_eq, refl, sym, ap, ◌∙◌, zero-add, arith}
use Rattle.std.proofs.lemmas.Option.{slice_get_past}
use Rattle.peg_semantics.specs.Form.{terminals}
use Rattle.peg_semantics.specs.Rules.{Rule, Meaning, meaning_from, meaning_of}
use Rattle.peg_core.specs.CoreForm.{core_form, core_bodies_from, core_bodies, number_of}

-- a name denotes the rule with this number after the first, and the core form of its body is at this index
abbrev IsMeaningAt : List Rule → (rule terminal : ℕ) → List Rule → Meaning → Type 0
IsMeaningAt rules rule terminal some m =
    (i : ℕ) × (m.rule ≡ i + rule) × (slice_get (core_bodies_from rules terminal some) i ≡ Some (core_form rules m.terminal m.body))

meaning_from-at : (rules : List Rule) (rule terminal : ℕ) (some : List Rule) (name : List ℕ) (m : Meaning)
    → meaning_from rule terminal some name ≡ Some m → IsMeaningAt rules rule terminal some m
meaning_from-at rules rule terminal [] name m is = cc
meaning_from-at rules rule terminal (r ∷ rs) name m is =
    by (bytes_eq name r.name) (meaning_from-at rules (rule + 1) (terminal + terminals r.body) rs name m) is
  where
    first : Meaning
    first = record { rule = rule; terminal = terminal; body = r.body }

    by : (b : Bool)
        → (meaning_from (rule + 1) (terminal + terminals r.body) rs name ≡ Some m
        → IsMeaningAt rules (rule + 1) (terminal + terminals r.body) rs m)
        → (if b then Some first else meaning_from (rule + 1) (terminal + terminals r.body) rs name) ≡ Some m
        → IsMeaningAt rules rule terminal (r ∷ rs) m
    by true later found =
        let same : first ≡ m = cc in (
          0,
          sym (ap (λ (m : Meaning). m.rule) same) ∙ sym (zero-add rule),
          ap (λ (m : Meaning). Some (core_form rules m.terminal m.body)) same,
        )
    by false later found =
        let following = later found in
        (suc following.0, omega (arith, following.1), following.2)

length-core_bodies_from : (rules : List Rule) (terminal : ℕ) (some : List Rule)
    → length (core_bodies_from rules terminal some) ≡ length some
length-core_bodies_from rules terminal [] = refl
length-core_bodies_from rules terminal (r ∷ rs) =
    ap suc (length-core_bodies_from rules (terminal + terminals r.body) rs)

pub length-core_bodies : (rules : List Rule) → length (core_bodies rules) ≡ length rules
length-core_bodies rules = length-core_bodies_from rules 0 rules

-- the number of a name that denotes a rule is the rule's
pub number_of-meaning_of : (rules : List Rule) (name : List ℕ) (m : Meaning) → meaning_of rules name ≡ Some m
    → number_of rules name ≡ m.rule
number_of-meaning_of rules name m is = ap (λ o. unwrap_or (option_map (λ (m : Meaning). m.rule) o) (length rules)) is

-- and the core form of the rule's body is at this index
pub body-meaning_of : (rules : List Rule) (name : List ℕ) (m : Meaning) → meaning_of rules name ≡ Some m
    → slice_get (core_bodies rules) (number_of rules name) ≡ Some (core_form rules m.terminal m.body)
body-meaning_of rules name m is =
    let at = meaning_from-at rules 0 0 rules name m is in
    let number : number_of rules name ≡ at.0 = number_of-meaning_of rules name m is ∙ omega (arith, at.1) in
    ap (slice_get (core_bodies rules)) number ∙ at.2

-- a name that denotes no rule has the number of rules as its number
pub body-unmeant : (rules : List Rule) (name : List ℕ) → meaning_of rules name ≡ None
    → slice_get (core_bodies rules) (number_of rules name) ≡ None
body-unmeant rules name is =
    let number : number_of rules name ≡ length rules = ap (λ o. unwrap_or (option_map (λ (m : Meaning). m.rule) o) (length rules)) is in
    ap (slice_get (core_bodies rules)) number
    ∙ slice_get_past (core_bodies rules) (length rules) (omega (arith, length-core_bodies rules))
