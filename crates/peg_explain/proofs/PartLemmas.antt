-- The items that are a part of a rule that fails at once.
use Rattle.std.proofs.Common.{◌≡◌, ◌∙◌, ℕ, ◌+◌, ◌<◌, ◌==◌, Bool, true, false, ◌&&◌, ◌||◌, List, ap, get_or, length, refl, sym, take}
use Rattle.std.specs.List.{list_any}
use Rattle.std.specs.Prelude.{nat_lt}
use Rattle.peg_explain.specs.Names.{fails_at_once, has_failed, is_expected_by, is_part}
use Rattle.peg_explain.specs.declared.names.Rest.{Rest}
use Rattle.peg_explain.proofs.SelectedLemmas.{any-more, or-within}

-- the item is expected by a rest
abbrev pub is_in : Rest → (item : ℕ) → Bool
is_in rest item = list_any (λ (failed : ℕ). failed == item) rest.outcome.expected.items

at-once : (failed start among : Bool) → (failed && start) ≡ true → (failed && (start && among)) ≡ among
at-once true true among is = refl
at-once true false among is = absurd (let bad : false ≡ true = is in cc)
at-once false start among is = absurd (let bad : false ≡ true = is in cc)

not-at-once : (failed start among : Bool) → (failed && start) ≡ false → (failed && (start && among)) ≡ false
not-at-once true true among is = absurd (let bad : true ≡ false = is in cc)
not-at-once true false among is = refl
not-at-once false start among is = refl

pub or-no : (b : Bool) → (b || false) ≡ b
or-no true = refl
or-no false = refl

module _ (rests : List Rest) (items index : ℕ) (rest : Rest) where
  -- one more rest
  pub part-more : (item : ℕ) → index < length rests → rest ≡ get_or rests index rest
      → is_part (take (index + 1) rests) items item
      ≡ ((list_any (λ rest. has_failed rest.outcome.result && is_expected_by rest item) (take index rests)
      || (has_failed rest.outcome.result && is_expected_by rest item)) && nat_lt item items)
  part-more item within is =
      ap (λ (b : Bool). b && nat_lt item items)
      (any-more (λ rest. has_failed rest.outcome.result && is_expected_by rest item) rests index rest within is)

  pub part-next : (item : ℕ) → index < length rests → rest ≡ get_or rests index rest
      → (is_part (take index rests) items item
      || ((has_failed rest.outcome.result && is_expected_by rest item) && nat_lt item items))
      ≡ is_part (take (index + 1) rests) items item
  part-next item within is =
      or-within (list_any (λ rest. has_failed rest.outcome.result && is_expected_by rest item) (take index rests))
      (has_failed rest.outcome.result && is_expected_by rest item) (nat_lt item items)
      ∙ sym (part-more item within is)

-- what a rest adds, if its rule fails at once
pub part-added : (rest : Rest) (item : ℕ) → true ≡ fails_at_once rest
    → is_in rest item ≡ (has_failed rest.outcome.result && is_expected_by rest item)
part-added rest item fails =
    sym (at-once (has_failed rest.outcome.result) (rest.outcome.far == 0) (is_in rest item) (sym fails))

-- a rest adds nothing, if its rule doesn't
pub part-kept : (rest : Rest) (item : ℕ) (before within : Bool) → false ≡ fails_at_once rest
    → before ≡ (before || ((has_failed rest.outcome.result && is_expected_by rest item) && within))
part-kept rest item before within stays =
    sym (ap (λ (b : Bool). before || (b && within))
    (not-at-once (has_failed rest.outcome.result) (rest.outcome.far == 0) (is_in rest item) (sym stays))
    ∙ or-no before)
