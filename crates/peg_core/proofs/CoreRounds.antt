-- Core records in n are also records in n + 1, so a form has at most one record at a position. The same holds for
-- outcomes and well-formed forms in n rounds.
use Rattle.std.proofs.Common.{◌≡◌, ℕ, zero, suc, ◌+◌, List, Option, None, Some, ap, slice_get, option_map, zero-add, suc-add, add_comm}
use Rattle.peg_semantics.specs.AbstractOutcomes.{CanAll, no_outcome}
use Rattle.peg_semantics.specs.Record.{Record, star_result, if_failed, with_result, as_call}
use Rattle.peg_semantics.proofs.RecordLemmas.{Extends, Extends-refl, Extends-none, Extends-map, Extends-and_then, Extends-then_at, Extends-or_else, Extends-star_result}
use Rattle.peg_semantics.proofs.RoundsLemmas.{CanAll-refl, CanAll-no_outcome, CanAll-seq_outcome, CanAll-choice_outcome, CanAll-star_outcome, CanAll-not_outcome}
use Rattle.peg_core.specs.CoreForm.{CoreForm, Empty, Test, Rule, Seq, Choice, Star, Not}
use Rattle.peg_core.specs.CoreRecord.{CoreRecognizer, core_table, core_record_in, IsCoreRecord}
use Rattle.peg_core.specs.CoreOutcomes.{CoreOutcomeOf, outcome_of_body, core_can_table, core_can_in, CorePredicate, BodyIs, CoreWellFormedTable, IsCoreWellFormedIn}

-- ---- records

-- if one function extends another, so does the table over it
module _ (take more : CoreRecognizer) (h : (form : CoreForm) (position : ℕ) → Extends (take form position) (more form position)) where
  Extends-core_table : (bodies : List CoreForm) (text : List ℕ) (form : CoreForm) (position : ℕ)
      → Extends (core_table bodies text take form position) (core_table bodies text more form position)
  Extends-core_table bodies text Empty position = Extends-refl (core_table bodies text take Empty position)
  Extends-core_table bodies text (Test set terminal) position =
      Extends-refl (core_table bodies text take (Test set terminal) position)
  Extends-core_table bodies text (Rule rule) position =
      Extends-and_then
      (λ (body : CoreForm). option_map (as_call rule position) (take body position))
      (λ (body : CoreForm). option_map (as_call rule position) (more body position))
      (slice_get bodies rule) (slice_get bodies rule)
      (λ body. Extends-map (as_call rule position) (take body position) (more body position) (h body position))
      (Extends-refl (slice_get bodies rule))
  Extends-core_table bodies text (Seq first rest) position =
      Extends-then_at (take first position) (more first position) (λ end. take rest end) (λ end. more rest end)
      (h first position) (λ end. h rest end)
  Extends-core_table bodies text (Choice first rest) position =
      Extends-or_else (take first position) (more first position) (take rest position) (more rest position) (h first position) (h rest position)
  Extends-core_table bodies text (Star part origin) position =
      Extends-and_then
      (λ (round : Record). star_result round.result position round (λ end. take (Star part origin) end))
      (λ (round : Record). star_result round.result position round (λ end. more (Star part origin) end))
      (take part position) (more part position)
      (λ round. Extends-star_result round.result position round (λ end. take (Star part origin) end)
      (λ end. more (Star part origin) end) (λ end. h (Star part origin) end))
      (h part position)
  Extends-core_table bodies text (Not part) position =
      Extends-map (λ (r : Record). with_result r (if_failed r.result position)) (take part position) (more part position) (h part position)

-- a record in n is also the record in n + 1
pub core_record_in-more : (bodies : List CoreForm) (text : List ℕ) (n : ℕ) (form : CoreForm) (position : ℕ)
    → Extends (core_record_in bodies text n form position) (core_record_in bodies text (suc n) form position)
unfolding core_record_in
core_record_in-more bodies text zero form position = Extends-none (core_record_in bodies text (suc zero) form position)
core_record_in-more bodies text (suc n) form position =
    Extends-core_table (core_record_in bodies text n) (core_record_in bodies text (suc n)) (core_record_in-more bodies text n)
    bodies text form position

-- and in each greater number
pub core_record_in-later : (bodies : List CoreForm) (text : List ℕ) (more n : ℕ) (form : CoreForm) (position : ℕ)
    → Extends (core_record_in bodies text n form position) (core_record_in bodies text (more + n) form position)
core_record_in-later bodies text zero n form position r h = rw zero-add h
core_record_in-later bodies text (suc more) n form position r h =
    rw suc-add
    (core_record_in-more bodies text (more + n) form position r (core_record_in-later bodies text more n form position r h))

-- a form has at most one record at a position
pub one_core_record : (bodies : List CoreForm) (text : List ℕ) (form : CoreForm) (position : ℕ) (r s : Record)
    → IsCoreRecord bodies text form position r → IsCoreRecord bodies text form position s → r ≡ s
one_core_record bodies text form position r s a b =
    let first = core_record_in-later bodies text b.0 a.0 form position r a.1 in
    let second = core_record_in-later bodies text a.0 b.0 form position s b.1 in
    let same : b.0 + a.0 ≡ a.0 + b.0 = add_comm b.0 a.0 in
    let meet : core_record_in bodies text (b.0 + a.0) form position ≡ core_record_in bodies text (a.0 + b.0) form position = ap (λ k. core_record_in bodies text k form position) same in
    cc

-- ---- abstract outcomes

module _ (judge more : CoreOutcomeOf) (h : (form : CoreForm) → CanAll (judge form) (more form)) where
  CanAll-body : (body : Option CoreForm) → CanAll (outcome_of_body judge body) (outcome_of_body more body)
  CanAll-body None = CanAll-refl no_outcome
  CanAll-body (Some body) = h body

  CanAll-core_can_table : (bodies : List CoreForm) (form : CoreForm)
      → CanAll (core_can_table bodies judge form) (core_can_table bodies more form)
  CanAll-core_can_table bodies Empty = CanAll-refl (core_can_table bodies judge Empty)
  CanAll-core_can_table bodies (Test set terminal) = CanAll-refl (core_can_table bodies judge (Test set terminal))
  CanAll-core_can_table bodies (Rule rule) = CanAll-body (slice_get bodies rule)
  CanAll-core_can_table bodies (Seq first rest) =
      CanAll-seq_outcome (judge first) (judge rest) (more first) (more rest) (h first) (h rest)
  CanAll-core_can_table bodies (Choice first rest) =
      CanAll-choice_outcome (judge first) (judge rest) (more first) (more rest) (h first) (h rest)
  CanAll-core_can_table bodies (Star part origin) = CanAll-star_outcome (judge part) (more part) (h part)
  CanAll-core_can_table bodies (Not part) = CanAll-not_outcome (judge part) (more part) (h part)

-- the outcomes of a form in n rounds are also outcomes in n + 1
pub core_can_in-more : (bodies : List CoreForm) (n : ℕ) (form : CoreForm)
    → CanAll (core_can_in bodies n form) (core_can_in bodies (suc n) form)
unfolding core_can_in
core_can_in-more bodies zero form = CanAll-no_outcome (core_can_in bodies (suc zero) form)
core_can_in-more bodies (suc n) form =
    CanAll-core_can_table (core_can_in bodies n) (core_can_in bodies (suc n)) (core_can_in-more bodies n) bodies form

-- ---- well-formed forms

module _ (Is More : CorePredicate) (h : (form : CoreForm) → Is form → More form) where
  BodyIs-more : (body : Option CoreForm) → BodyIs Is body → BodyIs More body
  BodyIs-more None is = is
  BodyIs-more (Some body) is = h body is

  CoreWellFormedTable-more : (bodies : List CoreForm) (form : CoreForm) → CoreWellFormedTable bodies Is form
      → CoreWellFormedTable bodies More form
  CoreWellFormedTable-more bodies Empty is = is
  CoreWellFormedTable-more bodies (Test set terminal) is = is
  CoreWellFormedTable-more bodies (Rule rule) is = BodyIs-more (slice_get bodies rule) is
  CoreWellFormedTable-more bodies (Seq first rest) is = (h first is.0, λ gives. h rest (is.1 gives))
  CoreWellFormedTable-more bodies (Choice first rest) is = (h first is.0, h rest is.1)
  CoreWellFormedTable-more bodies (Star part origin) is = (h part is.0, is.1)
  CoreWellFormedTable-more bodies (Not part) is = h part is

-- a form that is well-formed in n rounds is so in n + 1
pub IsCoreWellFormedIn-more : (bodies : List CoreForm) (n : ℕ) (form : CoreForm) → IsCoreWellFormedIn bodies n form
    → IsCoreWellFormedIn bodies (suc n) form
unfolding IsCoreWellFormedIn
IsCoreWellFormedIn-more bodies zero form is = absurd is
IsCoreWellFormedIn-more bodies (suc n) form is =
    CoreWellFormedTable-more (IsCoreWellFormedIn bodies n) (IsCoreWellFormedIn bodies (suc n))
    (IsCoreWellFormedIn-more bodies n) bodies form is

-- and in each greater number
pub IsCoreWellFormedIn-later : (bodies : List CoreForm) (more n : ℕ) (form : CoreForm) → IsCoreWellFormedIn bodies n form
    → IsCoreWellFormedIn bodies (more + n) form
IsCoreWellFormedIn-later bodies zero n form is = rw zero-add is
IsCoreWellFormedIn-later bodies (suc more) n form is =
    rw suc-add
    (IsCoreWellFormedIn-more bodies (more + n) form (IsCoreWellFormedIn-later bodies more n form is))
