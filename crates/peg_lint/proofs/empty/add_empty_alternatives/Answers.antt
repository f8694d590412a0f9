use Rattle.std.proofs.Common.{◌≡◌, ◌+◌, ◌<◌, ◌≤◌, inl, inr, ℕ, List, ◌∷◌, None, Some, length, map, slice_get, refl, sym, ◌∙◌, ap, subst, arith}
use Rattle.std.proofs.lemmas.Bool.{cases_lt}
use Rattle.std.proofs.lemmas.List.{length-map}
use Rattle.peg_bytes.specs.Extent.{Extent, extent}
use Rattle.peg_grammar.specs.Written.{form_of}
use Rattle.peg_semantics.specs.Form.{Choice, End, Form, Seq, Then, forms}
use Rattle.peg_lint.specs.FileWarnings.{IsEmptyAlternative}
use Rattle.peg_lint.specs.Linting.{AddsIn, FindsEmpty, FindsEmptyBefore, Keeps}
use Rattle.peg_lint.specs.Warnings.{ComesBefore, HasWarning}
use Rattle.peg_lint.specs.declared.warning.Warning.{Warning}
use Rattle.peg_lint.specs.declared.warning.WarningKind.TheVariants as kind
use Rattle.peg_lint.proofs.ChoiceLemmas.{before-some, comes-before-at, form-at}
use Rattle.peg_lint.proofs.FileLemmas.{AddsIn-push, AddsIn-same, AddsIn-then, AddsIn-weaker, HasWarning-later, HasWarning-push}
use Rattle.peg_lint.proofs.empty.add_empty_alternatives.Goals as goal

-- the warnings about one more alternative
before-more : (number : ℕ) (first : Form) (rest : List Form) (i : ℕ) (l0 l1 : List Warning) → Keeps l0 l1
    → FindsEmptyBefore number first rest i l0
    → ((span : Extent) → slice_get (first ∷ rest) i ≡ Some (Seq End span)
    → HasWarning l1 kind.EmptyAlternative number span None)
    → FindsEmptyBefore number first rest (i + 1) l1
before-more number first rest i l0 l1 keeps so_far here k span less at =
    elim (cases_lt k i) [
      | inl before ↦ HasWarning-later l0 l1 keeps kind.EmptyAlternative number span None (so_far k span before at)
      | inr after ↦
          let same : k ≡ i = omega (arith, less, after) in
          here span (sym (ap (slice_get (first ∷ rest)) same) ∙ at)
    ]

-- the warnings about all alternatives but the last
all-before : (number : ℕ) (first : Form) (rest : List Form) (i : ℕ) (span : Extent) (found : List Warning)
    → length rest ≤ i → FindsEmptyBefore number first rest i found → FindsEmpty number (Choice first (forms rest) span) found
all-before number first rest i span found past so_far empty later is =
    let at = comes-before-at (first ∷ rest) (Seq End empty) later is in
    so_far at.0 empty (omega (arith, past, at.1)) at.2

same-span : (span other : Extent) → Seq End span ≡ Seq End other → span ≡ other
same-span span other same = cc

same-form : (e f : Form) → Some e ≡ Some f → e ≡ f
same-form e f same = cc

pub alternatives-init : goal.alternatives-init
alternatives-init c file rules span part =
    let first = form_of c.args.first.now in
    let rest = map form_of c.args.rest.now in
    AddsIn-same file rules (FindsEmptyBefore c.args.rule first rest 0) c.args.found.now.items
    (λ k span less at. absurd (omega (arith, less)))

pub alternatives-preserved : goal.alternatives-preserved
alternatives-preserved c file rules span part =
    let first = form_of c.args.first.now in
    let others = map form_of c.args.rest.now in
    let rest = forms others in
    let number = c.args.rule in
    let items = c.args.first.now ∷ c.args.rest.now in
    let earlier = c.alternative_at-earlier.result.now in
    let i = c.alternatives.index in
    let old = c.args.found.now.items in
    let found = c.alternatives.found.items in
    let w : Warning = record { kind = kind.EmptyAlternative; rule = c.args.rule; span = c.in-Some.span; by = None } in
    let within : i + 1 < length items = omega (arith, c.alternatives-test.true) in
    let next = before-some items i earlier within c.alternative_at-earlier.ensures in
    let says : IsEmptyAlternative rules number (extent c.in-Some.span) = (
      Choice first rest span,
      next.0,
      part,
      subst (λ (e : Form). ComesBefore (Then first rest) e next.0) c.in-Some.ensures.some next.1,
    ) in
    let Before = FindsEmptyBefore number first others i in
    let Here = λ (l : List Warning). HasWarning l kind.EmptyAlternative number (extent c.in-Some.span) None in
    let After = FindsEmptyBefore number first others (i + 1) in
    let there = form-at items i earlier c.alternative_at-earlier.ensures in
    let pushed : AddsIn file rules Here found c.push.new.self.items =
    subst (AddsIn file rules Here found) (sym c.in_ok-push.ensures.items)
    (AddsIn-push file rules Here found w (says, refl) (HasWarning-push found w)) in
    AddsIn-then file rules Before Here After old found c.push.new.self.items
    (c.alternatives.invariant file rules span part) pushed
    (λ keeps a b. before-more number first others i found c.push.new.self.items keeps a
    (λ empty at. subst (λ s. HasWarning c.push.new.self.items kind.EmptyAlternative number s None)
    (same-span (extent c.in-Some.span) empty (sym c.in-Some.ensures.some
    ∙ same-form (form_of earlier) (Seq End empty) (sym there ∙ at))) b))

pub alternatives-preserved-in_default : goal.alternatives-preserved-in_default
alternatives-preserved-in_default c file rules span part =
    let first = form_of c.args.first.now in
    let others = map form_of c.args.rest.now in
    let number = c.args.rule in
    let items = c.args.first.now ∷ c.args.rest.now in
    let earlier = c.alternative_at-earlier.result.now in
    let i = c.alternatives.index in
    let old = c.args.found.now.items in
    let found = c.alternatives.found.items in
    let there = form-at items i earlier c.alternative_at-earlier.ensures in
    let none-there : (span : Extent) → form_of earlier ≡ Seq End span → ⊥ =
    c.in_default.ensures.none in
    AddsIn-weaker file rules (FindsEmptyBefore number first others i) (FindsEmptyBefore number first others (i + 1)) old
    found
    (λ so_far. before-more number first others i found found (λ w in_it. in_it) so_far
    (λ empty at. absurd (none-there empty (same-form (form_of earlier) (Seq End empty) (sym there ∙ at)))))
    (c.alternatives.invariant file rules span part)

pub returns : goal.returns
returns c file rules span part =
    let first = form_of c.args.first.now in
    let others = map form_of c.args.rest.now in
    AddsIn-weaker file rules (FindsEmptyBefore c.args.rule first others c.alternatives.index)
    (FindsEmpty c.args.rule (Choice first (forms others) span)) c.args.found.now.items c.alternatives.found.items
    (λ so_far. all-before c.args.rule first others c.alternatives.index span c.alternatives.found.items
    (omega (arith, c.alternatives-test.false, length-map c.args.rest.now form_of)) so_far)
    (c.alternatives.invariant file rules span part)
