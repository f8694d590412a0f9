use Rattle.std.proofs.Common.{replicate, inr, inl, ◌≡◌, ℕ, ◌+◌, ◌*◌, ◌<◌, ◌++◌, ◌∷◌, [], All, true, false, List, Bool, length, take, drop, set, sym, refl, ap, ◌∙◌, subst, arith, length-append}
use Rattle.std.specs.List.{sum_by}
use Rattle.std.proofs.lemmas.List.{length-set}
use Rattle.peg_check.specs.Dependencies.{DependsOn, dep_at}
use Rattle.peg_check.specs.Marks.{is_marked, AllMarked, HasUnmarkedDep}
use Rattle.peg_check.specs.Fixpoint.{one_unless}
use Rattle.peg_check.specs.declared.dependency.Dependency.TheVariants as dep
use Rattle.peg_check.specs.Cans.{nothing_known}
use Rattle.peg_check.proofs.MarkLemmas.{fewer-first_unmarked, work-falls, none-marked, most-first_unmarked, Rounds, Rounds-all, AreWaiting, Rounds-marked, AreWaiting-same, AreWaiting-marked}
use Rattle.peg_check.proofs.Worklist.{all_taken, last_taken}
use Rattle.peg_check.proofs.WholeWrites.{whole-written}
use Rattle.peg_check.proofs.marks.well_formed_marks.Goals as goal
use Rattle.peg_check.proofs.marks.well_formed_marks.Goals.{In-Some, After-try_mark-more}

-- the form that was taken from the list is one of the forms
taken : (c : In-Some) → c.in-Some.number < length c.args.well_formedness.now
taken c =
    last_taken (λ k. k < length c.args.well_formedness.now) c.looks.pending.items c.pop.new.self.items c.in-Some.number c.in-Some.ensures.items c.looks.invariant.within

within : (c : After-try_mark-more) → c.in-Some.number < length c.args.well_formedness.now
within c =
    last_taken (λ k. k < length c.args.well_formedness.now) c.looks.pending.items c.pop.new.self.items c.in-Some.number c.in-Some.ensures.items c.looks.invariant.within

pub bounds-well_formedness-number : goal.bounds-well_formedness-number
bounds-well_formedness-number c = taken (goal.at.bounds-well_formedness-number c).In-Some

pub try_mark-more-requires-clause-within : goal.try_mark-more-requires-clause-within
try_mark-more-requires-clause-within c =
    let at = (goal.at.try_mark-more-requires-clause-within c).In-Some in
    omega (arith, taken at, ap length c.deref_mut.ensures.value, c.looks.invariant.count)

-- at first no form is marked
pub looks-init : goal.looks-init
looks-init c =
    let marks = c.in_ok-marks.marks.items in
    let items : marks ≡ replicate (length c.args.well_formedness.now) false = c.in_ok-marks.ensures.items_if_clones_equal (λ y is. is) in
    record {
      count = omega (arith, c.in_ok-marks.ensures.len, c.in_ok-marks.marks.ok.0);
      within = c.in_ok-pending.ensures.within;
      rounds = (
        0,
        omega (arith, most-first_unmarked marks),
        λ number marked. let bad : false ≡ true = sym (none-marked (length c.args.well_formedness.now) number) ∙ (ap (λ (m : List Bool). is_marked m number) (sym items) ∙ marked) in cc,
      );
      awaited = λ number below first_unmarked. inl (c.in_ok-pending.ensures.all number below);
    }

-- at the end no form is pending
pub returns : goal.returns
returns c =
    let well_formedness = c.args.well_formedness.now in
    let marks = c.looks.marks.items in
    let none : length c.looks.pending.items ≡ 0 = omega (arith, c.in_default.ensures.cases.0, c.looks.pending.ok.0) in
    record {
      count = c.looks.invariant.count;
      rounds = Rounds-all well_formedness marks c.looks.invariant.count c.looks.invariant.rounds;
      left = λ number below first_unmarked. elim (c.looks.invariant.awaited number below first_unmarked) [ inl had ↦ absurd (let bad : had.0 < length c.looks.pending.items = had.1 in omega (arith, bad, none)) | inr some ↦ some ];
    }

pub push_dependents-requires-clause-forms : goal.push_dependents-requires-clause-forms
push_dependents-requires-clause-forms c =
    let well_formedness = c.args.well_formedness.now in
    subst (λ n. All (λ k. k < n) c.pop.new.self.items) (sym c.in_ok-reverse_deps.ensures.chains.forms)
    (all_taken (λ k. k < length well_formedness) c.looks.pending.items c.pop.new.self.items c.in-Some.number c.in-Some.ensures.items c.looks.invariant.within)

-- no form was newly marked
pub looks-preserved-then-not-more : goal.looks-preserved-then-not-more
looks-preserved-then-not-more c =
    let well_formedness = c.args.well_formedness.now in
    let marks = c.looks.marks.items in
    let number = c.in-Some.number in
    let pending = c.looks.pending.items in
    let rest = c.pop.new.self.items in
    let taken = c.in-Some.ensures.items in
    let same : c.try_mark-more.new.marks ≡ marks = c.if-not-more.ensures.marked ∙ c.deref_mut.ensures.value in
    let now = whole-written c.looks.marks.len marks c.try_mark-more.new.marks marks c.looks.marks.ok.0 same refl in
    record {
      count = ap length now ∙ c.looks.invariant.count;
      within = all_taken (λ k. k < length well_formedness) pending rest number taken c.looks.invariant.within;
      rounds = subst (Rounds well_formedness) (sym now) c.looks.invariant.rounds;
      awaited = subst (λ (m : List Bool). AreWaiting well_formedness m rest) (sym now) (AreWaiting-same well_formedness marks number pending rest taken c.looks.invariant.awaited (subst (λ (m : List Bool). is_marked m number ≡ false → HasUnmarkedDep m (dep_at well_formedness number)) same c.if-not-more.ensures.left));
    }

-- one more form is marked
marked : (c : After-try_mark-more) → c.try_mark-more.new.marks ≡ set c.deref_mut.result.now c.in-Some.number true
    → take c.looks.marks.len (c.try_mark-more.new.marks ++ drop (length c.try_mark-more.new.marks) c.looks.marks.items)
    ≡ set c.looks.marks.items c.in-Some.number true
marked c is =
    let marks = c.looks.marks.items in
    let number = c.in-Some.number in
    whole-written c.looks.marks.len marks c.try_mark-more.new.marks (set marks number true) c.looks.marks.ok.0
    (is ∙ ap (λ (m : List Bool). set m number true) c.deref_mut.ensures.value) (length-set marks number true)

pub looks-preserved : goal.looks-preserved
looks-preserved c =
    let at = (goal.at.looks-preserved c).After-try_mark-more in
    let well_formedness = c.args.well_formedness.now in
    let marks = c.looks.marks.items in
    let number = c.in-Some.number in
    let pending = c.looks.pending.items in
    let rest = c.pop.new.self.items in
    let after = c.push_dependents.new.pending.items in
    let taken = c.in-Some.ensures.items in
    let newly = c.if-not-more.ensures.marked in
    let now = marked at newly.now in
    let below : number < length marks = omega (arith, within at, c.looks.invariant.count) in
    let was : is_marked marks number ≡ false = ap (λ (m : List Bool). is_marked m number) (sym c.deref_mut.ensures.value) ∙ newly.was in
    let dependents = λ (k : ℕ) (small : k < length well_formedness) (goes : DependsOn (dep_at well_formedness k) number). c.in_ok-push_dependents.ensures.dependents k (c.in_ok-reverse_deps.ensures.dependents k (dep.Constant nothing_known) number small goes) in
    record {
      count = ap length now ∙ (length-set marks number true ∙ c.looks.invariant.count);
      within = subst (λ n. All (λ k. k < n) after) c.in_ok-reverse_deps.ensures.chains.forms c.in_ok-push_dependents.ensures.forms;
      rounds = subst (Rounds well_formedness) (sym now) (Rounds-marked well_formedness marks number below was (subst (λ (m : List Bool). AllMarked m (dep_at well_formedness number)) c.deref_mut.ensures.value newly.all) c.looks.invariant.rounds);
      awaited = subst (λ (m : List Bool). AreWaiting well_formedness m after) (sym now) (AreWaiting-marked well_formedness marks number pending rest taken c.looks.invariant.awaited below after c.in_ok-push_dependents.ensures.kept dependents);
    }

pub looks-smaller : goal.looks-smaller
looks-smaller c =
    let at = (goal.at.looks-smaller c).After-try_mark-more in
    let marks = c.looks.marks.items in
    let number = c.in-Some.number in
    let rest = c.pop.new.self.items in
    let entries = length c.in_ok-reverse_deps.reverse_deps.entries.items in
    let now = marked at c.if-not-more.ensures.marked.now in
    let below : number < length marks = omega (arith, within at, c.looks.invariant.count) in
    let was : is_marked marks number ≡ false = ap (λ (m : List Bool). is_marked m number) (sym c.deref_mut.ensures.value) ∙ c.if-not-more.ensures.marked.was in
    let one : sum_by one_unless (set marks number true) + 1 ≡ sum_by one_unless marks = fewer-first_unmarked marks number below was in
    let falls = work-falls (sum_by one_unless (set marks number true)) (sum_by one_unless marks) entries (length rest) (length c.push_dependents.new.pending.items) one c.in_ok-push_dependents.ensures.few in
    omega (arith, falls, ap (λ (m : List Bool). sum_by one_unless m * (entries + 1)) now, ap length c.in-Some.ensures.items, length-append rest (number ∷ []))
