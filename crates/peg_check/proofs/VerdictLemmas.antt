-- What a fault of core forms says of them, and of the grammar that they come from.
use Rattle.std.proofs.Common.{◌↔◌, ℕ, List, ◌∷◌, All, Result, Ok, Err, IfErr, IsErrAnd, IsErrOf, IsOk, OnOk, refl, sym, subst}
use Rattle.peg_bytes.specs.Extent.{Extent, extent}
use Rattle.peg_core.specs.CoreForm.{CoreForm, core_bodies}
use Rattle.peg_core.specs.CoreLoops.{IsCoreEmptyLoop, IsCoreLeftCycle}
use Rattle.peg_core.specs.CoreOutcomes.{IsCoreWellFormed}
use Rattle.peg_core.specs.CoreParts.{AreCoreFormsOf}
use Rattle.peg_core.specs.Layout.{Desugared, bodies_of}
use Rattle.peg_core.proofs.PartsLemmas.{grammar-right, grammar-fine}
use Rattle.peg_core.proofs.SugarLoops.{IsEmptyLoop-to_core, IsEmptyLoop-from_core}
use Rattle.peg_core.proofs.SugarMeets.{IsLeftCycle-from_core, IsLeftCycle-to_core}
use Rattle.peg_semantics.specs.Loops.{IsEmptyLoop, IsLeftCycle}
use Rattle.peg_semantics.specs.Rules.{Rule}
use Rattle.peg_semantics.specs.WellFormed.{IsWellFormedGrammar}
use Rattle.peg_check.specs.LeastCycles.{IsLeastCycle, NamesLeastCoreCycle, NamesLeastCycle}
use Rattle.peg_check.specs.Verdicts.{AreWellFormed, HasEmptyLoop, HasNoEmptyLoop, IsFaultOf, IsIllFormedBy}
use Rattle.peg_check.specs.Verdicts.{NamesEmptyLoop, NamesLeftCycle}
use Rattle.peg_check.specs.declared.fault.CheckFault.{CheckFault}
use Rattle.peg_check.specs.declared.fault.CheckFault.TheVariants.{EmptyLoop, LeftRecursion, Memory}

-- ---- unless an allocation fails, each result is returned if it is true

module _ {A : Type 0} (core : Desugared) where
  pub empty_loop-where : (answer : Result A CheckFault) → OnOk answer (HasNoEmptyLoop core)
      → IfErr answer (IsFaultOf core) → (IsErrOf answer Memory → ⊥)
      → (IsErrAnd answer NamesEmptyLoop ↔ HasEmptyLoop core)
  empty_loop-where (Ok checked) none fault some = (λ agrees. absurd agrees, λ has. absurd (none has.0 has.1 has.2))
  empty_loop-where (Err (EmptyLoop rule span)) none fault some =
      (λ agrees. (rule, extent span, fault.0), λ has. tt)
  empty_loop-where (Err (LeftRecursion path)) none fault some =
      (λ agrees. absurd agrees, λ has. absurd (fault.0 has.0 has.1 has.2))
  empty_loop-where (Err Memory) none fault some = absurd (some refl)

  pub left_cycle-where : (answer : Result A CheckFault) → OnOk answer (AreWellFormed core)
      → IfErr answer (IsFaultOf core) → (IsErrOf answer Memory → ⊥)
      → (IsErrAnd answer NamesLeftCycle ↔ (HasNoEmptyLoop core × (AreWellFormed core → ⊥)))
  left_cycle-where (Ok checked) all fault some = (λ agrees. absurd agrees, λ none. absurd (none.1 all))
  left_cycle-where (Err (EmptyLoop rule span)) all fault some =
      (λ agrees. absurd agrees, λ none. absurd (none.0 rule (extent span) fault.0))
  left_cycle-where (Err (LeftRecursion path)) all fault some = (λ agrees. (fault.0, fault.2), λ none. tt)
  left_cycle-where (Err Memory) all fault some = absurd (some refl)

  pub accepted-where : (answer : Result A CheckFault) → OnOk answer (AreWellFormed core)
      → IfErr answer (IsFaultOf core) → (IsErrOf answer Memory → ⊥) → (IsOk answer ↔ AreWellFormed core)
  accepted-where (Ok checked) all fault some = (λ ok. all, λ fine. refl)
  accepted-where (Err (EmptyLoop rule span)) all fault some = (λ ok. cc, λ fine. absurd (fault.1 fine))
  accepted-where (Err (LeftRecursion path)) all fault some = (λ ok. cc, λ fine. absurd (fault.2 fine))
  accepted-where (Err Memory) all fault some = absurd (some refl)

-- ---- the grammar

module _ (rules : List Rule) (core : Desugared) (are : AreCoreFormsOf rules core) where
  pub grammar-from_core : AreWellFormed core → IsWellFormedGrammar rules
  grammar-from_core all =
      grammar-fine rules
      (subst (λ (forms : List CoreForm). All (IsCoreWellFormed (core_bodies rules)) forms) are.forms
      (subst (λ (bodies : List CoreForm). All (IsCoreWellFormed bodies) core.forms) are.bodies all))

  core-from_grammar : IsWellFormedGrammar rules → AreWellFormed core
  core-from_grammar all =
      subst (λ (bodies : List CoreForm). All (IsCoreWellFormed bodies) core.forms) (sym are.bodies)
      (subst (λ (forms : List CoreForm). All (IsCoreWellFormed (core_bodies rules)) forms) (sym are.forms)
      (grammar-right rules all))

  loop-from_core : (rule : ℕ) (span : Extent) → IsCoreEmptyLoop (bodies_of core) rule span → IsEmptyLoop rules rule span
  loop-from_core rule span loop =
      IsEmptyLoop-from_core rules span rule
      (subst (λ (bodies : List CoreForm). IsCoreEmptyLoop bodies rule span) are.bodies loop)

  loop-to_core : (rule : ℕ) (span : Extent) → IsEmptyLoop rules rule span → IsCoreEmptyLoop (bodies_of core) rule span
  loop-to_core rule span loop =
      subst (λ (bodies : List CoreForm). IsCoreEmptyLoop bodies rule span) (sym are.bodies)
      (IsEmptyLoop-to_core rules span rule loop)

  cycle-from_core : (path : List ℕ) → IsCoreLeftCycle (bodies_of core) path → IsLeftCycle rules path
  cycle-from_core path cycle =
      IsLeftCycle-from_core rules path (subst (λ (bodies : List CoreForm). IsCoreLeftCycle bodies path) are.bodies cycle)

  cycle-to_core : (path : List ℕ) → IsLeftCycle rules path → IsCoreLeftCycle (bodies_of core) path
  cycle-to_core path cycle =
      subst (λ (bodies : List CoreForm). IsCoreLeftCycle bodies path) (sym are.bodies) (IsLeftCycle-to_core rules path cycle)

  pub ill_formed-from_core : (why : CheckFault) → IsFaultOf core why → IsIllFormedBy rules why
  ill_formed-from_core (EmptyLoop rule span) fault =
      (λ all. fault.1 (core-from_grammar all), loop-from_core rule (extent span) fault.0)
  ill_formed-from_core (LeftRecursion path) fault = (
    λ all. fault.2 (core-from_grammar all),
    λ rule span loop. fault.0 rule span (loop-to_core rule span loop),
    cycle-from_core path.items fault.1,
    fault.3,
  )
  ill_formed-from_core Memory fault = tt

  -- the least cycle of core forms is that of the rules
  least-from_core : (path : List ℕ) → IsLeastCycle (IsCoreLeftCycle (bodies_of core)) path → IsLeastCycle (IsLeftCycle rules) path
  least-from_core path least = record {
    rule = least.rule;
    more = least.more;
    is = least.is;
    cycle = cycle-from_core (least.rule ∷ least.more) least.cycle;
    least_rule = λ other rest cycle. least.least_rule other rest (cycle-to_core (other ∷ rest) cycle);
    shortest = λ rest cycle. least.shortest rest (cycle-to_core (least.rule ∷ rest) cycle);
    first = λ rest cycle counted. least.first rest (cycle-to_core (least.rule ∷ rest) cycle) counted;
  }

  pub names_least-from_core : (why : CheckFault) → NamesLeastCoreCycle (bodies_of core) why → NamesLeastCycle rules why
  names_least-from_core (EmptyLoop rule span) least = tt
  names_least-from_core (LeftRecursion path) least = least-from_core path.items least
  names_least-from_core Memory least = tt
