use Rattle.std.proofs.Common.{◌≡◌, ◌+◌, ◌<◌, ◌≤◌, inl, inr, ℕ, zero, suc, List, [], ◌∷◌, ◌++◌, length, map, slice_get, Some, sym, ap, ◌∙◌, subst, arith}
use Rattle.std.proofs.lemmas.Bool.{cases_lt}
use Rattle.std.proofs.lemmas.List.{length-map}
use Rattle.peg_bytes.specs.Extent.{Extent, extent}
use Rattle.peg_check.specs.Cans.{can_of}
use Rattle.peg_grammar.specs.Written.{form_of}
use Rattle.peg_semantics.specs.AbstractOutcomes.{Can}
use Rattle.peg_semantics.specs.Form.{Choice, Form, forms}
use Rattle.peg_semantics.specs.Rules.{Rule}
use Rattle.peg_lint.specs.Linting.{Adds, AreFirstCertain, FindsUntried, FindsUntriedFrom, Keeps, can_at}
use Rattle.peg_lint.specs.Outcomes.{AreOutcomes}
use Rattle.peg_lint.specs.Warnings.{HasWarning, IsTrueWarning, extent_of}
use Rattle.peg_lint.specs.declared.warning.Warning.{Warning}
use Rattle.peg_lint.specs.declared.warning.WarningKind.TheVariants as kind
use Rattle.peg_lint.proofs.ChoiceLemmas.{before, certain-excluded, form-at, none-untried, outcome-at, some-at, untried-at, untried-from}
use Rattle.peg_lint.proofs.FileLemmas.{Adds-push, Adds-same, Adds-then, Adds-weaker, HasWarning-later, HasWarning-push}
use Rattle.peg_lint.proofs.alternatives.add_never_tried.Goals as goal

same-form : (e f : Form) → Some e ≡ Some f → e ≡ f
same-form e f same = cc

-- the warnings about one more alternative
untried-more : (number : ℕ) (rest : List Form) (low i : ℕ) (by : Extent) (e : Form) (l0 l1 : List Warning) → Keeps l0 l1
    → slice_get rest i ≡ Some e → FindsUntriedFrom number rest low i by l0
    → HasWarning l1 kind.NeverTried number (extent_of e) (Some by) → FindsUntriedFrom number rest low (i + 1) by l1
untried-more number rest low i by e l0 l1 keeps there so_far here k later above below at =
    elim (cases_lt k i) [
      | inl less ↦
          HasWarning-later l0 l1 keeps kind.NeverTried number (extent_of later) (Some by) (so_far k later above less at)
      | inr more ↦
          let same : k ≡ i = omega (arith, below, more) in
          let is : e ≡ later = same-form e later (sym there ∙ (sym (ap (slice_get rest) same) ∙ at)) in
          subst (λ (f : Form). HasWarning l1 kind.NeverTried number (extent_of f) (Some by)) is here
    ]

-- the warnings about all alternatives after the first one that cannot fail
all-untried : (rules : List Rule) (number : ℕ) (first : Form) (rest : List Form) (cans : List Can) (n i : ℕ) (one : Form)
    (span by : Extent) (found : List Warning) → AreOutcomes rules (forms (first ∷ rest)) cans → AreFirstCertain cans n
    → slice_get (first ∷ rest) n ≡ Some one → extent_of one ≡ by → length rest ≤ i
    → FindsUntriedFrom number rest n i by found → FindsUntried rules number (Choice first (forms rest) span) found
all-untried rules number first rest cans n i one span by found are certain at by_is past finds earlier later is =
    let place = untried-at rules (first ∷ rest) cans n earlier later are certain.certain certain.before is in
    let same : one ≡ earlier = same-form one earlier (sym at ∙ place.2) in
    let by_at : by ≡ extent_of earlier = sym by_is ∙ ap extent_of same in
    subst (λ b. HasWarning found kind.NeverTried number (extent_of later) (Some b)) by_at (behind place.0 place.1 place.3)
  where
    some-within : (es : List Form) (k : ℕ) → slice_get es k ≡ Some later → k < length es
    some-within [] k there = cc
    some-within (e ∷ es) zero there = omega arith
    some-within (e ∷ es) (suc k) there = let more = some-within es k there in omega (arith, more)

    behind : (j : ℕ) → n < j → slice_get (first ∷ rest) j ≡ Some later
        → HasWarning found kind.NeverTried number (extent_of later) (Some by)
    behind zero less there = absurd (omega (arith, less))
    behind (suc k) less there =
        let within = some-within rest k there in
        finds k later (omega (arith, less)) (omega (arith, within, past)) there

pub returns-in_default : goal.returns-in_default
returns-in_default c = λ rules span choice.
    let first = form_of c.args.first.now in
    let rest = map form_of c.args.rest.now in
    let cans = can_of c.args.can ∷ map can_of c.args.cans.now in
    Adds-same rules (FindsUntried rules c.args.rule (Choice first (forms rest) span)) c.args.found.now.items
    (λ earlier later is. absurd (none-untried rules (first ∷ rest) cans earlier later
    (choice.first_outcome, choice.outcomes) c.in_default.ensures.none is))

pub alternatives-init : goal.alternatives-init
alternatives-init c = λ rules span choice.
    Adds-same rules (FindsUntriedFrom c.args.rule (map form_of c.args.rest.now) c.in-Some.number c.in-Some.number
    (extent c.span_of-by.result)) c.args.found.now.items
    (λ k later low high at. absurd (omega (arith, low, high)))

pub alternatives-preserved : goal.alternatives-preserved
alternatives-preserved c = λ rules span choice.
    let first = form_of c.args.first.now in
    let others = map form_of c.args.rest.now in
    let cans = can_of c.args.can ∷ map can_of c.args.cans.now in
    let number = c.args.rule in
    let items = c.args.first.now ∷ c.args.rest.now in
    let n = c.in-Some.number in
    let i = c.alternatives.index in
    let one = c.alternative_at.result.now in
    let later = c.index-rest-index.result in
    let by = extent c.span_of-by.result in
    let l0 = c.args.found.now.items in
    let l1 = c.alternatives.found.items in
    let l2 = c.push.new.self.items in
    let certain = c.in-Some.ensures.some in
    let are : AreOutcomes rules (forms (first ∷ others)) cans = (choice.first_outcome, choice.outcomes) in
    let within : i < length c.args.rest.now = omega (arith, c.alternatives-test.true) in
    let less : n < suc i = omega (arith, c.alternatives.auto.index) in
    let at_later = some-at c.args.rest.now i later within c.index-rest-index.is in
    let at = form-at items n one c.alternative_at.ensures in
    let there = form-at c.args.rest.now i later at_later in
    let untried = untried-from rules (first ∷ others) cans n (suc i) (form_of one) (form_of later) are less at there
    certain.certain certain.before in
    let excluded = certain-excluded rules (form_of one) (can_at cans n)
    (outcome-at rules (first ∷ others) cans n (form_of one) are at) certain.certain in
    let w : Warning = record {
      kind = kind.NeverTried;
      rule = number;
      span = c.span_of.result;
      by = Some c.span_of-by.result;
    } in
    let by_is = ap (λ s. Some s) (sym c.span_of-by.ensures) in
    let says : (start : ℕ) → IsTrueWarning rules start w = λ start. (
      (
        Choice first (forms others) span,
        form_of one,
        form_of later,
        choice.part,
        before items n (suc i) one later less c.alternative_at.ensures at_later,
        sym c.span_of.ensures,
        by_is,
        c.excluded_outcomes_never_happen.ensures.fails rules (form_of one) excluded,
      ),
      record {
        choice = Choice first (forms others) span;
        earlier = form_of one;
        later = form_of later;
        part = choice.part;
        untried = untried;
        span_is = sym c.span_of.ensures;
        by_is = by_is;
      },
    ) in
    let Here = λ (l : List Warning). HasWarning l kind.NeverTried number (extent_of (form_of later)) (Some by) in
    let pushed : Adds rules Here l1 l2 =
    subst (Adds rules Here l1) (sym c.in_ok-push.ensures.items)
    (Adds-push rules Here l1 w says
    (subst (λ s. HasWarning (l1 ++ w ∷ []) kind.NeverTried number s (Some by)) c.span_of.ensures (HasWarning-push l1 w))) in
    Adds-then rules (FindsUntriedFrom number others n i by) Here (FindsUntriedFrom number others n (i + 1) by) l0 l1 l2
    (c.alternatives.invariant rules span choice) pushed
    (λ keeps a b. untried-more number others n i by (form_of later) l1 l2 keeps there a b)

pub returns : goal.returns
returns c = λ rules span choice.
    let first = form_of c.args.first.now in
    let others = map form_of c.args.rest.now in
    let cans = can_of c.args.can ∷ map can_of c.args.cans.now in
    let number = c.args.rule in
    let items = c.args.first.now ∷ c.args.rest.now in
    let n = c.in-Some.number in
    let i = c.alternatives.index in
    let one = c.alternative_at.result.now in
    let by = extent c.span_of-by.result in
    let past : length others ≤ i = omega (arith, c.alternatives-test.false, length-map c.args.rest.now form_of) in
    Adds-weaker rules (FindsUntriedFrom number others n i by) (FindsUntried rules number (Choice first (forms others) span))
    c.args.found.now.items c.alternatives.found.items
    (λ finds. all-untried rules number first others cans n i (form_of one) span by c.alternatives.found.items
    (choice.first_outcome, choice.outcomes) c.in-Some.ensures.some (form-at items n one c.alternative_at.ensures)
    (sym c.span_of-by.ensures) past finds)
    (c.alternatives.invariant rules span choice)
