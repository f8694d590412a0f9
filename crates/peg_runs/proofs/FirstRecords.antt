-- Each form that has a record has a least depth with one.
use Rattle.std.proofs.Common.{◌≡◌, ℕ, zero, suc, ◌+◌, ◌-◌, ◌≤◌, List, Option, None, Some, refl, ◌∙◌, ap, subst, arith}
use Rattle.peg_semantics.specs.Record.{Record}
use Rattle.peg_core.specs.CoreForm.{CoreForm}
use Rattle.peg_core.specs.CoreRecord.{core_record_in}
use Rattle.peg_core.proofs.CoreRounds.{core_record_in-more, core_record_in-later}
use Rattle.peg_runs.specs.Running.{IsFirstRecord}

module _ (bodies : List CoreForm) (text : List ℕ) (form : CoreForm) (position : ℕ) where
  -- a record at a depth is one at greater depths
  pub record_later : (fewer n : ℕ) (r : Record) → fewer ≤ n → core_record_in bodies text fewer form position ≡ Some r
      → core_record_in bodies text n form position ≡ Some r
  record_later fewer n r least is =
      let same : n - fewer + fewer ≡ n = omega arith in
      subst (λ (k : ℕ). core_record_in bodies text k form position ≡ Some r) same
      (core_record_in-later bodies text (n - fewer) fewer form position r is)

  -- if there is none at depth n, there is none at a lower depth
  none_earlier : (fewer n : ℕ) → fewer ≤ n → core_record_in bodies text n form position ≡ None
      → core_record_in bodies text fewer form position ≡ None
  none_earlier fewer n least none = by (core_record_in bodies text fewer form position) refl
    where
      by : (o : Option Record) → core_record_in bodies text fewer form position ≡ o
          → core_record_in bodies text fewer form position ≡ None
      by None is = is
      by (Some r) is = let later = record_later fewer n r least is in cc

  pub first_record : (n : ℕ) (r : Record) → core_record_in bodies text n form position ≡ Some r
      → (m : ℕ) × (m ≤ n) × IsFirstRecord bodies text m form position r
  unfolding core_record_in
  first_record zero r is = cc
  first_record (suc n) r is = by (core_record_in bodies text n form position) refl (first_record n)
    where
      by : (o : Option Record) → core_record_in bodies text n form position ≡ o
          → ((r : Record) → core_record_in bodies text n form position ≡ Some r
          → (m : ℕ) × (m ≤ n) × IsFirstRecord bodies text m form position r)
          → (m : ℕ) × (m ≤ suc n) × IsFirstRecord bodies text m form position r
      by None none earlier =
          let here : suc n ≤ suc n = omega arith in (
            suc n,
            here,
            record {
              recorded = is;
              none_before = λ fewer less. let least : fewer ≤ n = omega arith in none_earlier fewer n least none;
            },
          )
      by (Some s) some earlier =
          let later = core_record_in-more bodies text n form position s some in
          let same : s ≡ r = cc in
          let first = earlier r (some ∙ ap (λ (r : Record). Some r) same) in
          let within : first.0 ≤ n = first.1 in
          let least : first.0 ≤ suc n = omega arith in
          (first.0, least, first.2)
