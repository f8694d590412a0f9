use Rattle.std.proofs.Common.{◌≡◌, ℕ, ◌+◌, ◌<◌, ◌⊎◌, inl, inr, List, None, Some, get_or, length, option_map, slice_get, refl, sym, ap, ◌∙◌, subst, arith}
use Rattle.std.proofs.lemmas.Bool.{cases_eq}
use Rattle.std.proofs.lemmas.List.{get_or_default, length-map}
use Rattle.peg_bytes.specs.Extent.{Extent, extent}
use Rattle.peg_core.specs.CoreForm.{CoreForm, Star}
use Rattle.peg_core.specs.CoreLoops.{IsCoreEmptyLoop, IsSubformOf}
use Rattle.peg_core.specs.CoreOutcomes.{CoreGivesNothing, BodyIs}
use Rattle.peg_core.specs.FormsOfNodes.{AllAreFormsOfNodes}
use Rattle.peg_core.specs.Layout.{Desugared, bodies_of, form_at}
use Rattle.peg_check.specs.EmptyLoops.{AreFirstLoops, IsLoop, entry_at, loops_of, no_loops}
use Rattle.peg_check.specs.FirstLoops.{HasFirstLoop}
use Rattle.peg_check.specs.declared.loops.Loop.{Loop}
use Rattle.peg_check.specs.declared.loops.LoopEntry.{LoopEntry}
use Rattle.peg_check.proofs.DepLemmas.{body-form}
use Rattle.peg_check.proofs.FirstLoopLemmas.{none-first, some-first, none-loops, loop-named, loop-body, has-refuted}
use Rattle.peg_check.proofs.PathLemmas.{has-body}
use Rattle.peg_check.proofs.loops.empty_loop.Goals as goal

-- the entry of a rule's body
module _ (core : Desugared) (spelled : AllAreFormsOfNodes core) (entries : List LoopEntry)
    (are : AreFirstLoops core entries) (rule body : ℕ) (there : slice_get core.bodies rule ≡ Some body)
    (inside : body < length core.forms) (within : body < length entries) (entry : LoopEntry)
    (is : entry ≡ get_or entries body entry) where
  firsts : option_map extent (entry_at entries body).first ≡ option_map extent entry.first
  firsts = ap (λ (e : LoopEntry). option_map extent e.first) (get_or_default entries body no_loops entry within ∙ sym is)

  found : (loop : Loop) → loop.rule ≡ rule → entry.first ≡ Some loop.span
      → ((before : ℕ) (other : Extent) → before < rule → ¬ IsCoreEmptyLoop (bodies_of core) before other)
      → IsLoop core loop
  found loop named some none =
      let first = firsts ∙ ap (option_map extent) some in
      let has = some-first (bodies_of core) (form_at core.forms body) (loops_of (entry_at entries body)) (extent loop.span) (are body within) first in
      record {
        named = subst (λ r. IsCoreEmptyLoop (bodies_of core) r (extent loop.span)) (sym named) (loop-named core spelled rule body (extent loop.span) there has);
        refuted = has-refuted core spelled body (extent loop.span) inside has;
        first = record {
          first = subst (λ r. BodyIs (HasFirstLoop (bodies_of core) (extent loop.span)) (slice_get (bodies_of core) r)) (sym named)
              (subst (BodyIs (HasFirstLoop (bodies_of core) (extent loop.span))) (sym (body-form core rule body there))
              (loops_of (entry_at entries body), are body within, first));
          earlier = λ before other less. none before other (omega (arith, less, named));
        };
      }

  passed : entry.first ≡ None
      → ((before : ℕ) (other : Extent) → before < rule → ¬ IsCoreEmptyLoop (bodies_of core) before other)
      → (before : ℕ) (other : Extent) → before < rule + 1 → ¬ IsCoreEmptyLoop (bodies_of core) before other
  passed nothing none before other less loop = by (cases_eq before rule)
    where
      by : (before ≡ rule) ⊎ (before ≡ rule → ⊥) → ⊥
      by (inl same) =
          let has = loop-body core spelled rule body other there (subst (λ r. IsCoreEmptyLoop (bodies_of core) r other) same loop) in
          none-first (bodies_of core) (form_at core.forms body) (loops_of (entry_at entries body)) (are body within)
          (firsts ∙ ap (option_map extent) nothing) has.0 other has.1.0 has.1.1
      by (inr differs) = none before other (omega arith) loop

pub returns-in-Some : goal.returns-in-Some
returns-in-Some c =
    let entries = c.in_ok-entries.ensures in
    found c.args.core.now entries.spelled c.in_ok-entries.entries.items entries.first c.loop-rule.rule c.body.result c.body.ensures.number
    c.body.ensures.within (omega (arith, c.body.ensures.within, entries.count)) c.index.result.now c.index.ensures
    (record { rule = c.loop-rule.rule; span = c.in-Some.span }) refl c.in-Some.is c.loop-rule.invariant

pub loop-rule-preserved : goal.loop-rule-preserved
loop-rule-preserved c =
    let entries = c.in_ok-entries.ensures in
    passed c.args.core.now entries.spelled c.in_ok-entries.entries.items entries.first c.loop-rule.rule c.body.result c.body.ensures.number
    c.body.ensures.within (omega (arith, c.body.ensures.within, entries.count)) c.index.result.now c.index.ensures
    c.in_default.is c.loop-rule.invariant

pub returns : goal.returns
returns c =
    let core = c.args.core.now in
    let none = λ (rule : ℕ) (origin : Extent) (loop : IsCoreEmptyLoop (bodies_of core) rule origin).
    let less = has-body (bodies_of core) (λ body. (part : CoreForm) × (IsSubformOf (Star part origin) body × CoreGivesNothing (bodies_of core) part)) rule loop in
    let counted = length-map core.bodies (form_at core.forms) in
    c.loop-rule.invariant rule origin (omega (arith, less, counted, c.loop-rule-test.false, c.rules-rule-end.ensures.count)) loop in
    (none, none-loops core c.in_ok-entries.ensures.owned none)
