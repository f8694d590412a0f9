use Rattle.std.proofs.Common.{◌≡◌, ◌<◌, All, ◌∷◌, [], length, get_or, set, ap, sym, ◌∙◌, subst, arith, length-append}
use Rattle.std.proofs.lemmas.List.{length-set}
use Rattle.peg_check.specs.declared.dependency.Dependency.TheVariants as dep
use Rattle.peg_check.specs.Cans.{nothing_known}
use Rattle.peg_check.proofs.LabelLemmas.{unlabelled, fewer-unlabelled, awaited-same, awaited-labelled, earlier-labelled}
use Rattle.peg_check.proofs.MarkLemmas.{work-falls}
use Rattle.peg_check.proofs.Worklist.{all_taken, last_taken}
use Rattle.peg_check.proofs.components.label_reachable.Goals as goal

pub push_dependents-requires-clause-forms : goal.push_dependents-requires-clause-forms
push_dependents-requires-clause-forms c =
    let labels = c.dependents.labels in
    let rest = c.pop.new.self.items in
    subst (λ n. All (λ k. k < n) rest) (c.dependents.invariant.count ∙ sym c.requires.chains.forms)
    (all_taken (λ k. k < length labels) c.dependents.pending.items rest c.in-Some.number c.in-Some.ensures.items c.dependents.invariant.within)

pub dependents-preserved-then-labels-number-gt0 : goal.dependents-preserved-then-labels-number-gt0
dependents-preserved-then-labels-number-gt0 c =
    let labels = c.dependents.labels in
    let pending = c.dependents.pending.items in
    let rest = c.pop.new.self.items in
    let number = c.in-Some.number in
    let was = c.dependents.invariant in
    record {
      count = was.count;
      within = all_taken (λ k. k < length labels) pending rest number c.in-Some.ensures.items was.within;
      earlier = was.earlier;
      awaited = λ well_formedness counted all ordered.
          awaited-same labels c.args.label number pending rest c.in-Some.ensures.items well_formedness was.earlier
          c.if-labels-number-gt0.true (was.awaited well_formedness counted all ordered);
    }

pub dependents-preserved : goal.dependents-preserved
dependents-preserved c =
    let labels = c.dependents.labels in
    let label = c.args.label in
    let pending = c.dependents.pending.items in
    let rest = c.pop.new.self.items in
    let number = c.in-Some.number in
    let taken = c.in-Some.ensures.items in
    let was = c.dependents.invariant in
    let after = c.push_dependents.new.pending.items in
    let pushed = c.in_ok-push_dependents.ensures in
    let within : number < length labels = last_taken (λ k. k < length labels) pending rest number taken was.within in
    let none : get_or labels number 0 ≡ 0 = omega (arith, c.if-labels-number-gt0.false) in
    let same : length (set labels number label) ≡ length c.args.labels.now = length-set labels number label ∙ was.count in
    record {
      count = same;
      within = subst (λ n. All (λ k. k < n) after) (c.requires.chains.forms ∙ sym same) pushed.forms;
      earlier = earlier-labelled labels label number pending rest taken within c.requires.some none was.earlier;
      awaited = λ well_formedness counted all ordered.
          awaited-labelled labels label number pending rest taken within c.requires.some none well_formedness after pushed.kept
          (λ k below needs. pushed.dependents k (all k (dep.Constant nothing_known) number below needs))
          (was.awaited well_formedness counted all ordered);
    }

pub dependents-smaller : goal.dependents-smaller
dependents-smaller c =
    let labels = c.dependents.labels in
    let number = c.in-Some.number in
    let label = c.args.label in
    let rest = c.pop.new.self.items in
    let entries = length c.args.reverse_deps.now.entries.items in
    let within : number < length labels = last_taken (λ k. k < length labels) c.dependents.pending.items rest number c.in-Some.ensures.items c.dependents.invariant.within in
    let none : get_or labels number 0 ≡ 0 = omega (arith, c.if-labels-number-gt0.false) in
    let one = fewer-unlabelled labels number label within c.requires.some none in
    let falls = work-falls (unlabelled (set labels number label)) (unlabelled labels) entries (length rest) (length c.push_dependents.new.pending.items) one c.in_ok-push_dependents.ensures.few in
    omega (arith, falls, ap length c.in-Some.ensures.items, length-append rest (number ∷ []))
