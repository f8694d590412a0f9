use Rattle.std.proofs.Common.{◌≡◌, ℕ, ◌<◌, ◌++◌, inl, inr, All, List, length, map, take, drop, get_or, sym, ap, ◌∙◌, subst, arith}
use Rattle.std.proofs.lemmas.Bool.{OnFalse_at}
use Rattle.std.proofs.lemmas.List.{length-map, length-set}
use Rattle.peg_core.specs.Layout.{form_at}
use Rattle.peg_check.specs.Cans.{can_of, can_at, nothing_known}
use Rattle.peg_check.specs.Exact.{IsExactTable}
use Rattle.peg_check.specs.Dependencies.{DepFits, DependsOn, IsDependencyOf, dep_at, outcome_by}
use Rattle.peg_check.specs.Fixpoint.{union_of, updated_at}
use Rattle.peg_check.specs.declared.can.Can as code
use Rattle.peg_check.specs.declared.dependency.Dependency.{Dependency}
use Rattle.peg_check.specs.declared.dependency.Dependency.TheVariants as dep
use Rattle.peg_check.proofs.OutcomeLemmas.{table-outcomes}
use Rattle.peg_check.proofs.OutcomeTables.{linked_at, link_at_read, Holds, Holds-looked, AreClosed, exact}
use Rattle.peg_check.proofs.Worklist.{AreAwaited, awaited-same, awaited-more, all_taken, last_taken, whole-looked, whole-same}
use Rattle.peg_check.proofs.table.table_of.Goals as goal
use Rattle.peg_check.proofs.table.table_of.Goals.{After-update-more, After-drop-deps-2}

pub reverse_deps_of-requires-clause-few : goal.reverse_deps_of-requires-clause-few
reverse_deps_of-requires-clause-few c =
    omega (arith, ap length c.deref.ensures.value, c.in_ok-deps.ensures.count, c.len-count.ensures.count, c.len-count.ensures.most)

-- the form that was taken from the list is one of the forms
pub index-requires : goal.index-requires
index-requires c =
    let forms = c.args.core.now.forms in
    let below : c.in-Some.number < length forms = last_taken (λ k. k < length forms) c.looks.pending.items c.pop.new.self.items c.in-Some.number c.in-Some.ensures.items c.looks.invariant.within in
    omega (arith, below, c.in_ok-deps.ensures.count, c.in_ok-deps.deps.ok.0)

pub update-more-requires-clause-fits : goal.update-more-requires-clause-fits
update-more-requires-clause-fits c =
    let core = c.args.core.now in
    let below : c.in-Some.number < length core.forms = last_taken (λ k. k < length core.forms) c.looks.pending.items c.pop.new.self.items c.in-Some.number c.in-Some.ensures.items c.looks.invariant.within in
    let counted : length c.deref_mut.result.now ≡ length core.forms = ap length c.deref_mut.ensures.value ∙ c.looks.invariant.count in
    let linked = linked_at core c.in_ok-deps.deps.items c.in-Some.number c.index.result.now c.in_ok-deps.ensures.linked c.in_ok-deps.ensures.count below c.index.ensures in
    subst (λ n. DepFits n c.index.result.now) (sym counted) linked.fits

pub update-more-requires-clause-within : goal.update-more-requires-clause-within
update-more-requires-clause-within c =
    let forms = c.args.core.now.forms in
    let below : c.in-Some.number < length forms = last_taken (λ k. k < length forms) c.looks.pending.items c.pop.new.self.items c.in-Some.number c.in-Some.ensures.items c.looks.invariant.within in
    omega (arith, below, ap length c.deref_mut.ensures.value, c.looks.invariant.count)

pub push_dependents-requires-clause-forms : goal.push_dependents-requires-clause-forms
push_dependents-requires-clause-forms c =
    let forms = c.args.core.now.forms in
    let counted : length forms ≡ length c.in_ok-reverse_deps.reverse_deps.newest.items = omega (arith, ap length c.deref.ensures.value, c.in_ok-deps.ensures.count, c.in_ok-reverse_deps.ensures.chains.forms) in
    subst (λ n. All (λ k. k < n) c.pop.new.self.items) counted
    (all_taken (λ k. k < length forms) c.looks.pending.items c.pop.new.self.items c.in-Some.number c.in-Some.ensures.items c.looks.invariant.within)

-- ---- after an update

within : (c : After-update-more) → c.in-Some.number < length c.args.core.now.forms
within c =
    last_taken (λ k. k < length c.args.core.now.forms) c.looks.pending.items c.pop.new.self.items c.in-Some.number c.in-Some.ensures.items c.looks.invariant.within

linked : (c : After-update-more) → IsDependencyOf c.args.core.now (form_at c.args.core.now.forms c.in-Some.number) (dep_at c.in_ok-deps.deps.items c.in-Some.number)
linked c =
    c.in_ok-deps.ensures.linked c.in-Some.number (dep.Constant nothing_known) (omega (arith, within c, c.in_ok-deps.ensures.count))

-- the entries
entries : (c : After-update-more)
    → take c.looks.entries.len (c.update-more.new.cans ++ drop (length c.update-more.new.cans) c.looks.entries.items)
    ≡ updated_at c.looks.entries.items (dep_at c.in_ok-deps.deps.items c.in-Some.number) c.in-Some.number
entries c =
    let below : c.in-Some.number < length c.in_ok-deps.deps.items = omega (arith, within c, c.in_ok-deps.ensures.count) in
    whole-looked c.looks.entries.len c.in-Some.number c.looks.entries.items c.deref_mut.result.now c.update-more.new.cans c.index.result.now
    (dep_at c.in_ok-deps.deps.items c.in-Some.number) c.looks.entries.ok.0 c.deref_mut.ensures.value
    (link_at_read c.in_ok-deps.deps.items c.in-Some.number c.index.result.now below c.index.ensures) c.update-more.ensures.looked

-- nothing is new if the entries are the same
pub looks-preserved-then-not-more : goal.looks-preserved-then-not-more
looks-preserved-then-not-more c =
    let at = (goal.at.looks-preserved-then-not-more c).After-update-more in
    let core = c.args.core.now in
    let deps = c.in_ok-deps.deps.items in
    let cans = c.looks.entries.items in
    let number = c.in-Some.number in
    let pending = c.looks.pending.items in
    let rest = c.pop.new.self.items in
    let taken = c.in-Some.ensures.items in
    let now = entries at in
    let same : updated_at cans (dep_at deps number) number ≡ cans = sym now ∙ whole-same c.looks.entries.len cans c.update-more.new.cans c.looks.entries.ok.0 (OnFalse_at c.if-not-more.true c.update-more.ensures.same ∙ c.deref_mut.ensures.value) in
    let below : number < length cans = omega (arith, within at, c.looks.invariant.count) in
    record {
      count = ap length (now ∙ same) ∙ c.looks.invariant.count;
      within = all_taken (λ k. k < length core.forms) pending rest number taken c.looks.invariant.within;
      holds = subst (Holds core) (sym (now ∙ same)) c.looks.invariant.holds;
      awaited = subst (λ (l : List code.Can). AreAwaited (length core.forms) deps l rest) (sym (now ∙ same)) (awaited-same (length core.forms) deps cans number below pending rest taken c.looks.invariant.awaited same);
    }

-- the forms that depend on a changed one are pending again
pub looks-preserved : goal.looks-preserved
looks-preserved c =
    let at = (goal.at.looks-preserved c).After-update-more in
    let core = c.args.core.now in
    let deps = c.in_ok-deps.deps.items in
    let cans = c.looks.entries.items in
    let number = c.in-Some.number in
    let pending = c.looks.pending.items in
    let rest = c.pop.new.self.items in
    let after = c.push_dependents.new.pending.items in
    let taken = c.in-Some.ensures.items in
    let now = entries at in
    let below : number < length cans = omega (arith, within at, c.looks.invariant.count) in
    let counted : length c.in_ok-reverse_deps.reverse_deps.newest.items ≡ length core.forms = omega (arith, ap length c.deref.ensures.value, c.in_ok-deps.ensures.count, c.in_ok-reverse_deps.ensures.chains.forms) in
    let many : length c.deref.result.now ≡ length core.forms = ap length c.deref.ensures.value ∙ c.in_ok-deps.ensures.count in
    let dependents = λ (k : ℕ) (small : k < length core.forms) (goes : DependsOn (dep_at deps k) number). c.in_ok-push_dependents.ensures.dependents k (c.in_ok-reverse_deps.ensures.dependents k (dep.Constant nothing_known) number (omega (arith, many)) (subst (λ (l : List Dependency). DependsOn (dep_at l k) number) (sym c.deref.ensures.value) goes)) in
    record {
      count = ap length now ∙ (length-set cans number (union_of (get_or cans number nothing_known) (outcome_by (can_at cans) (dep_at deps number))) ∙ c.looks.invariant.count);
      within = subst (λ n. All (λ k. k < n) after) counted c.in_ok-push_dependents.ensures.forms;
      holds = subst (Holds core) (sym now) (Holds-looked core cans number (dep_at deps number) below (linked at) c.looks.invariant.holds);
      awaited = subst (λ (l : List code.Can). AreAwaited (length core.forms) deps l after) (sym now) (awaited-more (length core.forms) deps cans number below pending rest taken c.looks.invariant.awaited after c.in_ok-push_dependents.ensures.kept dependents);
    }

-- an exact table
exact_table : (c : After-drop-deps-2) → IsExactTable c.args.core.now (map can_of c.looks.entries.items)
exact_table c =
    let core = c.args.core.now in
    let deps = c.in_ok-deps.deps.items in
    let cans = c.looks.entries.items in
    let none : length c.looks.pending.items ≡ 0 = omega (arith, c.in_default.ensures.cases.0, c.looks.pending.ok.0) in
    let closed : AreClosed core deps cans = λ k below. elim (c.looks.invariant.awaited k below) [ inl had ↦ absurd (let bad : had.0 < length c.looks.pending.items = had.1 in omega (arith, bad, none)) | inr is ↦ is ] in
    record {
      count = length-map cans can_of ∙ c.looks.invariant.count;
      exact = exact core deps cans c.in_ok-deps.ensures.count c.looks.invariant.count c.in_ok-deps.ensures.linked closed c.looks.invariant.holds;
    }

pub returns-clause-exact : goal.returns-clause-exact
returns-clause-exact c = exact_table c

-- each body is one of the forms
pub returns-clause-rules : goal.returns-clause-rules
returns-clause-rules c = λ rules are.
    table-outcomes rules c.args.core.now (map can_of c.looks.entries.items) are c.len-count.ensures.bodies
    (exact_table c)
