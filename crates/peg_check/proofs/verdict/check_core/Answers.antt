use Rattle.std.proofs.Common.{◌≡◌, ◌<◌, All, Option, Vec, Global, ℕ, MatchOption, Some, length, subst}
use Rattle.std.proofs.lemmas.List.{length-map}
use Rattle.peg_core.specs.CoreForm.{CoreForm, Star}
use Rattle.peg_core.specs.CoreLoops.{IsCoreLeftCycle, IsSubformOf}
use Rattle.peg_core.specs.CoreOutcomes.{CoreGivesNothing}
use Rattle.peg_core.specs.Layout.{bodies_of, Desugared, form_at}
use Rattle.peg_bytes.specs.Extent.{extent}
use Rattle.peg_check.specs.EmptyLoops.{IsLoopFree, IsLoop}
use Rattle.peg_check.specs.LeastCycles.{IsLeastCycle}
use Rattle.peg_check.specs.Verdicts.{AreWellFormedIn, IsSimpleLeftCycle}
use Rattle.peg_check.specs.declared.loops.Loop.{Loop}
use Rattle.peg_check.proofs.PathLemmas.{has-body, cycle-bodies}
use Rattle.peg_check.proofs.Refutations.{cycle-refuted}
use Rattle.peg_check.proofs.verdict.check_core.Goals as goal

-- the loop, if one was found
found : (core : Desugared) (o : Option Loop) (loop : Loop) → o ≡ Some loop → MatchOption o (IsLoopFree core) (IsLoop core)
    → IsLoop core loop
found core o loop is h = subst (λ (p : Option Loop). MatchOption p (IsLoopFree core) (IsLoop core)) is h

-- there are as many bodies as rules
counted : (core : Desugared) → length (bodies_of core) ≡ length core.bodies
counted core = length-map core.bodies (form_at core.forms)

pub returns-in-Some-clause-refused : goal.returns-in-Some-clause-refused
returns-in-Some-clause-refused c =
    let core = c.args.core.now in
    let loop = found core c.in_ok-rule.field-0 c.in-Some.field-0 c.in-Some.is c.in_ok-rule.ensures in
    (loop.named, loop.refuted)

pub returns-in-Some-clause-first_core_loop : goal.returns-in-Some-clause-first_core_loop
returns-in-Some-clause-first_core_loop c =
    (found c.args.core.now c.in_ok-rule.field-0 c.in-Some.field-0 c.in-Some.is c.in_ok-rule.ensures).first

pub returns-in-Some-clause-named : goal.returns-in-Some-clause-named
returns-in-Some-clause-named c =
    let core = c.args.core.now in
    let loop = found core c.in_ok-rule.field-0 c.in-Some.field-0 c.in-Some.is c.in_ok-rule.ensures in
    let span = c.in-Some.field-0.span in
    subst (λ n. c.in-Some.field-0.rule < n) (counted core)
    (has-body (bodies_of core) (λ body. (part : CoreForm) × (IsSubformOf (Star part (extent span)) body × CoreGivesNothing (bodies_of core) part)) c.in-Some.field-0.rule loop.named)

-- the cycle, if one was found
named : (core : Desugared) (o : Option (Vec ℕ Global)) (path : Vec ℕ Global) → o ≡ Some path
    → MatchOption o (AreWellFormedIn (length core.forms) core)
    (λ p. IsSimpleLeftCycle (bodies_of core) p.items × IsLeastCycle (IsCoreLeftCycle (bodies_of core)) p.items)
    → IsSimpleLeftCycle (bodies_of core) path.items × IsLeastCycle (IsCoreLeftCycle (bodies_of core)) path.items
named core o path is h =
    subst (λ (p : Option (Vec ℕ Global)). MatchOption p (AreWellFormedIn (length core.forms) core) (λ q. IsSimpleLeftCycle (bodies_of core) q.items × IsLeastCycle (IsCoreLeftCycle (bodies_of core)) q.items)) is h

pub returns-in-Some-2-clause-refused : goal.returns-in-Some-2-clause-refused
returns-in-Some-2-clause-refused c =
    let core = c.args.core.now in
    let none : IsLoopFree core = subst (λ (o : Option Loop). MatchOption o (IsLoopFree core) (IsLoop core)) c.in-None.is c.in_ok-rule.ensures in
    let cycle = named core c.in_ok-path-in-None.field-0 c.in-Some-2.path c.in-Some-2.is c.in_ok-path-in-None.ensures in
    (none.0, cycle.0.0, cycle-refuted core c.in-Some-2.path.items cycle.0.0, cycle.0.1)

pub returns-in-Some-2-clause-named : goal.returns-in-Some-2-clause-named
returns-in-Some-2-clause-named c =
    let core = c.args.core.now in
    let cycle = named core c.in_ok-path-in-None.field-0 c.in-Some-2.path c.in-Some-2.is c.in_ok-path-in-None.ensures in
    subst (λ n. All (λ rule. rule < n) c.in-Some-2.path.items) (counted core)
    (cycle-bodies (bodies_of core) c.in-Some-2.path.items cycle.0.0)

pub returns-in-Some-2-clause-least_core_cycle : goal.returns-in-Some-2-clause-least_core_cycle
returns-in-Some-2-clause-least_core_cycle c =
    (named c.args.core.now c.in_ok-path-in-None.field-0 c.in-Some-2.path c.in-Some-2.is c.in_ok-path-in-None.ensures).1
