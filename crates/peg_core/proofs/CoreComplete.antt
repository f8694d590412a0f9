-- Well-formed core forms are complete (Ford 2004, section 3.6): each has a record at each position of each text. The
-- proof is by induction on the bytes that are left, and at one position on the rounds in which the form is well-formed.
-- A part that is tried after some byte is at a later position. A part that is tried after none is well-formed in fewer
-- rounds.
use Rattle.std.proofs.Common.{◌≡◌, ◌≢◌, ℕ, zero, suc, ◌+◌, ◌-◌, ◌*◌, ◌<◌, ◌≤◌, inl, inr, List, All, length, get_or}
use Rattle.std.proofs.Common.{slice_get, Option, None, Some, option_map, option_and_then}
use Rattle.std.proofs.Common.{refl, sym, ap, ◌∙◌, subst, arith, suc-add, one-add}
use Rattle.std.proofs.Math.Nat.{suc-mul}
use Rattle.peg_tree.specs.Trees.{Trees}
use Rattle.peg_semantics.specs.Record.{Recognition, Failed, Matched, Record, after_both, prepend_trees, then_result, then_at}
use Rattle.peg_semantics.specs.Record.{choice_result, or_else, star_result, as_call, if_failed, with_result}
use Rattle.peg_core.specs.CoreForm.{CoreForm, Empty, Test, Rule, Seq, Choice, Star, Not}
use Rattle.peg_core.specs.CoreOutcomes.{CoreGivesNothing, CorePredicate, BodyIs, CoreWellFormedTable, IsCoreWellFormedIn}
use Rattle.peg_core.specs.CoreRecord.{CoreRecognizer, core_table, core_record_in}
use Rattle.peg_core.specs.Layout.{Desugared, bodies_of, form_at}
use Rattle.peg_core.specs.RecordDepth.{max_rounds, FormsHaveRecords, CallsHaveRecords}
use Rattle.peg_core.specs.FormsOfNodes.{AllAreFormsOfNodes}
use Rattle.peg_core.proofs.CoreRounds.{core_record_in-later}
use Rattle.peg_core.proofs.CoreShown.{none_or_some, core_result-shows}
use Rattle.peg_core.proofs.CoreWithin.{core_record_in-ends}
use Rattle.peg_core.proofs.FormsAmong.{IsAmong, PartsAre, parts-among, held-among, body-known, body-among}

-- there is a record
abbrev Has : Option Record → Type 0
Has tried = (r : Record) × (tried ≡ Some r)

-- the next expression has a record at the end of a match
abbrev HasNext : Recognition → (ℕ → Option Record) → Type 0
HasNext result next = (end : ℕ) (trees : Trees) → result ≡ Matched end trees → Has (next end)

-- ---- each combinator of the recognition table has a record if its parts have

has-map : (change : Record → Record) (tried : Option Record) → Has tried → Has (option_map change tried)
has-map change tried has = (change has.0, ap (option_map change) has.1)

has-then_result : (result : Recognition) (part : Record) (next : ℕ → Option Record) → HasNext result next
    → Has (then_result result part next)
has-then_result Failed part next more = (part, refl)
has-then_result (Matched end trees) part next more =
    has-map (λ more. after_both part more (prepend_trees trees more.result)) (next end) (more end trees refl)

has-then_at : (tried : Option Record) (next : ℕ → Option Record) (has : Has tried) → HasNext has.0.result next
    → Has (then_at tried next)
has-then_at tried next has more =
    subst (λ tried. Has (then_at tried next)) (sym has.1) (has-then_result has.0.result has.0 next more)

has-choice_result : (result : Recognition) (part : Record) (other : Option Record) → Has other
    → Has (choice_result result part other)
has-choice_result Failed part other has = has-map (λ more. after_both part more more.result) other has
has-choice_result (Matched end trees) part other has = (part, refl)

has-or_else : (tried other : Option Record) → Has tried → Has other → Has (or_else tried other)
has-or_else tried other has more =
    subst (λ tried. Has (or_else tried other)) (sym has.1) (has-choice_result has.0.result has.0 other more)

has-star_result : (result : Recognition) (position : ℕ) (part : Record) (next : ℕ → Option Record) → HasNext result next
    → Has (star_result result position part next)
has-star_result Failed position part next more = (_, refl)
has-star_result (Matched end trees) position part next more = has-then_result (Matched end trees) part next more

has-rounds : (tried : Option Record) (position : ℕ) (next : ℕ → Option Record) (has : Has tried)
    → HasNext has.0.result next
    → Has (option_and_then (λ (round : Record). star_result round.result position round next) tried)
has-rounds tried position next has more =
    subst (λ tried. Has (option_and_then (λ (round : Record). star_result round.result position round next) tried))
    (sym has.1) (has-star_result has.0.result position has.0 next more)

has-use : (take : CoreRecognizer) (rule position : ℕ) (body : CoreForm) (known : Option CoreForm) → known ≡ Some body
    → Has (take body position)
    → Has (option_and_then (λ (body : CoreForm). option_map (as_call rule position) (take body position)) known)
has-use take rule position body known is has =
    subst (λ known. Has (option_and_then (λ (body : CoreForm). option_map (as_call rule position) (take body position)) known))
    (sym is) (has-map (as_call rule position) (take body position) has)

-- ---- well-formed forms

-- A match within the text ends within it, at its start or later. If it ends at its start, 0 is an outcome of the form.
record Reached (bodies : List CoreForm) (text : List ℕ) (form : CoreForm) (position end : ℕ) : Type 0 where
  onward : position ≤ end
  within : end ≤ length text
  idle : end ≡ position → CoreGivesNothing bodies form

reached : (bodies : List CoreForm) (text : List ℕ) (n : ℕ) (form : CoreForm) (position end : ℕ) (trees : Trees)
    (r : Record) → position ≤ length text → core_record_in bodies text n form position ≡ Some r
    → r.result ≡ Matched end trees → Reached bodies text form position end
reached bodies text n form position end trees r here is matched =
    let shown = core_result-shows bodies text n form position r (Matched end trees) is matched in
    record {
      onward = shown.onward;
      within = core_record_in-ends bodies text n form position end trees r here is matched;
      idle = λ same. (n, shown.nothing same);
    }

-- a record in a smaller number is one in a greater number
has-more : (bodies : List CoreForm) (text : List ℕ) (few many : ℕ) (form : CoreForm) (position : ℕ) → few ≤ many
    → Has (core_record_in bodies text few form position) → Has (core_record_in bodies text many form position)
has-more bodies text few many form position most has =
    let later = core_record_in-later bodies text (many - few) few form position has.0 has.1 in
    let same : many - few + few ≡ many = omega (arith, most) in
    (has.0, subst (λ n. core_record_in bodies text n form position ≡ Some has.0) same later)

module _ (core : Desugared) (text : List ℕ) (spelled : AllAreFormsOfNodes core)
    (within : All (λ body. body < length core.forms) core.bodies) where
  -- Forms that are well-formed in fewer rounds have records here, and all forms have records at later positions. Then
  -- the forms that the rules for well-formed forms build from them have records here.
  module _ (n position : ℕ) (here : position ≤ length text) (Is : CorePredicate)
      (now : (form : CoreForm) → Is form → IsAmong core.forms form
      → Has (core_record_in (bodies_of core) text n form position))
      (later : (end : ℕ) → position < end → end ≤ length text → (form : CoreForm) → IsAmong core.forms form
      → Has (core_record_in (bodies_of core) text n form end)) where
    -- The next expression after a matched part has a record. It is here if the part consumed nothing, and later
    -- otherwise.
    has-next : (part next : CoreForm) (has : Has (core_record_in (bodies_of core) text n part position))
        → IsAmong core.forms next
        → (CoreGivesNothing (bodies_of core) part → Has (core_record_in (bodies_of core) text n next position))
        → HasNext has.0.result (λ end. core_record_in (bodies_of core) text n next end)
    has-next part next has among idle end trees matched =
        let r = reached (bodies_of core) text n part position end trees has.0 here has.1 matched in
        elim (none_or_some position end r.onward) [
          | inl none ↦
              subst (λ at. Has (core_record_in (bodies_of core) text n next at)) (sym none) (idle (r.idle none))
          | inr some ↦ later end some r.within next among
        ]

    has-body : (rule : ℕ) (body : Option CoreForm) → slice_get (bodies_of core) rule ≡ body → BodyIs Is body
        → Has (core_table (bodies_of core) text (core_record_in (bodies_of core) text n) (Rule rule) position)
    has-body rule None known is = absurd is
    has-body rule (Some body) known is =
        has-use (core_record_in (bodies_of core) text n) rule position body (slice_get (bodies_of core) rule) known
        (now body is (body-among core within rule body known))

    has-table : (form : CoreForm) → CoreWellFormedTable (bodies_of core) Is form → IsAmong core.forms form
        → PartsAre (IsAmong core.forms) form
        → Has (core_table (bodies_of core) text (core_record_in (bodies_of core) text n) form position)
    has-table Empty is among parts = (_, refl)
    has-table (Test set terminal) is among parts = (_, refl)
    has-table (Rule rule) is among parts = has-body rule (slice_get (bodies_of core) rule) refl is
    has-table (Seq first rest) is among parts =
        let has = now first is.0 parts.0 in
        has-then_at (core_record_in (bodies_of core) text n first position)
        (λ end. core_record_in (bodies_of core) text n rest end) has
        (has-next first rest has parts.1 (λ gives. now rest (is.1 gives) parts.1))
    has-table (Choice first rest) is among parts =
        has-or_else (core_record_in (bodies_of core) text n first position)
        (core_record_in (bodies_of core) text n rest position) (now first is.0 parts.0) (now rest is.1 parts.1)
    has-table (Star part origin) is among parts =
        let has = now part is.0 parts in
        has-rounds (core_record_in (bodies_of core) text n part position) position
        (λ end. core_record_in (bodies_of core) text n (Star part origin) end) has
        (has-next part (Star part origin) has among (λ gives. absurd (is.1 gives)))
    has-table (Not part) is among parts =
        has-map (λ (r : Record). with_result r (if_failed r.result position))
        (core_record_in (bodies_of core) text n part position) (now part is parts)

  -- Let all forms have records at later positions in n. A form that is well-formed in some rounds has a record here in
  -- n and that many more.
  has-here : (n position : ℕ) → position ≤ length text
      → ((end : ℕ) → position < end → end ≤ length text → (form : CoreForm) → IsAmong core.forms form
      → Has (core_record_in (bodies_of core) text n form end))
      → (rounds : ℕ) (form : CoreForm) → IsCoreWellFormedIn (bodies_of core) rounds form → IsAmong core.forms form
      → Has (core_record_in (bodies_of core) text (rounds + n) form position)
  unfolding IsCoreWellFormedIn core_record_in
  has-here n position here later zero form is among = absurd is
  has-here n position here later (suc rounds) form is among =
      let more = λ (end : ℕ) (less : position < end) (ends : end ≤ length text) (form : CoreForm)
      (among : IsAmong core.forms form).
      has-more (bodies_of core) text n (rounds + n) form end (omega arith) (later end less ends form among) in
      rw suc-add
      (has-table (rounds + n) position here (IsCoreWellFormedIn (bodies_of core) rounds)
      (has-here n position here later rounds) more form is among
      (parts-among core.forms (length core.bodies) (length core.spans) spelled form among))

  module _ (rounds : ℕ) (fine : All (IsCoreWellFormedIn (bodies_of core) rounds) core.forms) where
    -- a form has a record at a position with this number of bytes left
    bytes_left : (left position : ℕ) → position ≤ length text → length text ≤ left + position → (form : CoreForm)
        → IsAmong core.forms form
        → Has (core_record_in (bodies_of core) text (rounds + left * (1 + rounds)) form position)
    bytes_left zero position here most form among =
        has-here (zero * (1 + rounds)) position here (λ end less ends. absurd (omega (arith, less, ends, most))) rounds
        form (held-among (IsCoreWellFormedIn (bodies_of core) rounds) core.forms fine form among) among
    bytes_left (suc left) position here most form among =
        let deeper : rounds + left * (1 + rounds) ≤ suc left * (1 + rounds) =
        omega (arith, suc-mul left (1 + rounds)) in
        let later = λ (end : ℕ) (less : position < end) (ends : end ≤ length text) (form : CoreForm)
        (among : IsAmong core.forms form).
        has-more (bodies_of core) text (rounds + left * (1 + rounds)) (suc left * (1 + rounds)) form end deeper
        (bytes_left left end ends (omega (arith, less, most)) form among) in
        has-here (suc left * (1 + rounds)) position here later rounds form
        (held-among (IsCoreWellFormedIn (bodies_of core) rounds) core.forms fine form among) among

    -- so it has one at each position of the text
    has-record : (position : ℕ) → position ≤ length text → (form : CoreForm) → IsAmong core.forms form
        → Has (core_record_in (bodies_of core) text (max_rounds rounds text) form position)
    has-record position here form among =
        let one : 1 + length text ≡ suc (length text) = omega arith in
        let deeper : rounds + length text * (1 + rounds) ≤ (1 + length text) * (1 + rounds) =
        omega (arith, ap (λ k. k * (1 + rounds)) one, suc-mul (length text) (1 + rounds)) in
        has-more (bodies_of core) text (rounds + length text * (1 + rounds)) (max_rounds rounds text) form position deeper
        (bytes_left (length text) position here (omega arith) form among)

    -- and so has a call of a rule
    has-use_record : (rule position : ℕ) → rule < length core.bodies → position ≤ length text
        → Has (core_record_in (bodies_of core) text (1 + max_rounds rounds text) (Rule rule) position)
    unfolding core_record_in
    has-use_record rule position less here =
        let body = form_at core.forms (get_or core.bodies rule 0) in
        let known = body-known core rule less in
        rw (one-add (max_rounds rounds text))
        (has-use (core_record_in (bodies_of core) text (max_rounds rounds text)) rule position body
        (slice_get (bodies_of core) rule) known
        (has-record position here body (body-among core within rule body known)))

-- a record that exists isn't None
has-some : (tried : Option Record) → Has tried → tried ≢ None
has-some tried has none = let bad : Some has.0 ≡ None = sym has.1 ∙ none in cc

-- ---- the law

pub forms-have_records : (core : Desugared) (rounds : ℕ) → AllAreFormsOfNodes core
    → All (λ body. body < length core.forms) core.bodies → All (IsCoreWellFormedIn (bodies_of core) rounds) core.forms
    → (text : List ℕ) → FormsHaveRecords core text (max_rounds rounds text)
forms-have_records core rounds spelled within fine text number position less here =
    has-some (core_record_in (bodies_of core) text (max_rounds rounds text) (form_at core.forms number) position)
    (has-record core text spelled within rounds fine position here (form_at core.forms number) (number, less, refl))

pub calls-have_records : (core : Desugared) (rounds : ℕ) → AllAreFormsOfNodes core
    → All (λ body. body < length core.forms) core.bodies → All (IsCoreWellFormedIn (bodies_of core) rounds) core.forms
    → (text : List ℕ) → CallsHaveRecords core text (1 + max_rounds rounds text)
calls-have_records core rounds spelled within fine text rule position less here =
    has-some (core_record_in (bodies_of core) text (1 + max_rounds rounds text) (Rule rule) position)
    (has-use_record core text spelled within rounds fine rule position less here)
