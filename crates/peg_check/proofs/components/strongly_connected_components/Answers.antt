use Rattle.std.proofs.Common.{◌≡◌, ℕ, ◌<◌, ◌⊎◌, inl, inr, List, ◌++◌, length, get_or, take, drop, refl, sym, ap, ◌∙◌, subst, arith}
use Rattle.peg_check.specs.Distances.{AreOrdered}
use Rattle.peg_check.proofs.WholeWrites.{whole-written}
use Rattle.peg_check.proofs.Worklist.{all_taken}
use Rattle.peg_check.proofs.components.strongly_connected_components.Goals as goal

pub roots-preserved : goal.roots-preserved
roots-preserved c =
    let deps = c.args.well_formedness.now in
    let old = c.roots.labels.items in
    let new = c.label_reachable.new.labels in
    let rest = c.pop.new.self.items in
    let was = c.roots.invariant in
    let labelled = c.in_ok-label_reachable.ensures in
    let lent : c.deref_mut.result.now ≡ old = c.deref_mut.ensures.value in
    let counted : length new ≡ length old = labelled.count ∙ ap length lent in
    let same : new ≡ take c.roots.labels.len (new ++ drop (length new) old) =
    sym (whole-written c.roots.labels.len old new new c.roots.labels.ok.0 refl counted) in
    let ordered : AreOrdered deps new =
    labelled.ordered deps (sym (ap length lent ∙ was.count)) c.in_ok-reverse_deps.ensures.dependents
    (subst (AreOrdered deps) (sym lent) was.ordered) in
    let earlier : (number : ℕ) → (get_or new number 0 ≡ 0) ⊎ (length rest < get_or new number 0) =
    λ number. elim (labelled.earlier number) [ inl none ↦ inl none | inr has ↦ inr (omega (arith, has, c.len.ensures)) ] in
    record {
      count = ap length (sym same) ∙ (counted ∙ was.count);
      order = all_taken (λ k. k < length deps) c.roots.order.items rest c.in-Some.root c.in-Some.ensures.items was.order;
      earlier = λ number. subst (λ (l : List ℕ). (get_or l number 0 ≡ 0) ⊎ (length rest < get_or l number 0)) same (earlier number);
      ordered = subst (AreOrdered deps) same ordered;
    }
