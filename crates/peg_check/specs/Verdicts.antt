-- Whether core forms are well-formed, and why not; and the same for the grammar that they come from.
use Rattle.std.specs.Prelude.{◌≢◌, ℕ, ◌<◌, List, All, AllPairs}
use Rattle.peg_bytes.specs.Extent.{Extent, extent}
use Rattle.peg_core.specs.CoreForm.{CoreForm}
use Rattle.peg_core.specs.CoreLoops.{IsCoreEmptyLoop, IsCoreLeftCycle}
use Rattle.peg_core.specs.CoreOutcomes.{IsCoreWellFormedIn, IsCoreWellFormed}
use Rattle.peg_core.specs.Layout.{Desugared, bodies_of}
use Rattle.peg_semantics.specs.Loops.{IsEmptyLoop, IsLeftCycle}
use Rattle.peg_semantics.specs.Rules.{Rule}
use Rattle.peg_semantics.specs.WellFormed.{IsWellFormedGrammar}
use Rattle.peg_check.specs.declared.fault.CheckFault.{CheckFault}
use Rattle.peg_check.specs.declared.fault.CheckFault.TheVariants.{EmptyLoop, LeftRecursion, Memory}

-- each core form is well-formed
abbrev pub AreWellFormed : Desugared → Type 0
AreWellFormed core = All (IsCoreWellFormed (bodies_of core)) core.forms

-- each core form is well-formed in n rounds
abbrev pub AreWellFormedIn : ℕ → Desugared → Type 0
AreWellFormedIn n core = All (IsCoreWellFormedIn (bodies_of core) n) core.forms

-- some rule has an empty loop
abbrev pub HasEmptyLoop : Desugared → Type 0
HasEmptyLoop core = (rule : ℕ) × (origin : Extent) × IsCoreEmptyLoop (bodies_of core) rule origin

-- no rule has an empty loop
abbrev pub HasNoEmptyLoop : Desugared → Type 0
HasNoEmptyLoop core = (rule : ℕ) (origin : Extent) → ¬ IsCoreEmptyLoop (bodies_of core) rule origin

-- there is no left cycle
abbrev pub HasNoLeftCycle : Desugared → Type 0
HasNoLeftCycle core = (path : List ℕ) → ¬ IsCoreLeftCycle (bodies_of core) path

-- no number occurs twice
abbrev pub AllDiffer : List ℕ → Type 0
AllDiffer numbers = AllPairs (λ first second. first ≢ second) numbers

-- a left cycle in which no rule occurs twice
abbrev pub IsSimpleLeftCycle : List CoreForm → List ℕ → Type 0
IsSimpleLeftCycle bodies path = IsCoreLeftCycle bodies path × AllDiffer path

-- A fault is true of core forms. Out of memory may come with any.
abbrev pub IsFaultOf : Desugared → CheckFault → Type 0
IsFaultOf core (EmptyLoop rule span) = IsCoreEmptyLoop (bodies_of core) rule (extent span) × ¬ AreWellFormed core
IsFaultOf core (LeftRecursion path) =
    HasNoEmptyLoop core × IsCoreLeftCycle (bodies_of core) path.items × ¬ AreWellFormed core × AllDiffer path.items
IsFaultOf core Memory = Unit {0}

-- a fault names an empty loop
abbrev pub NamesEmptyLoop : CheckFault → Type 0
NamesEmptyLoop (EmptyLoop rule span) = Unit {0}
NamesEmptyLoop (LeftRecursion path) = ⊥
NamesEmptyLoop Memory = ⊥

-- a fault names a left cycle
abbrev pub NamesLeftCycle : CheckFault → Type 0
NamesLeftCycle (EmptyLoop rule span) = ⊥
NamesLeftCycle (LeftRecursion path) = Unit {0}
NamesLeftCycle Memory = ⊥

-- A fault is true of a grammar with these rules. Out of memory says nothing.
abbrev pub IsIllFormedBy : List Rule → CheckFault → Type 0
IsIllFormedBy rules (EmptyLoop rule span) = ¬ IsWellFormedGrammar rules × IsEmptyLoop rules rule (extent span)
IsIllFormedBy rules (LeftRecursion path) =
    ¬ IsWellFormedGrammar rules × ((rule : ℕ) (span : Extent) → ¬ IsEmptyLoop rules rule span)
    × IsLeftCycle rules path.items × AllDiffer path.items
IsIllFormedBy rules Memory = Unit {0}

-- the rules that a fault names are among the first `count`
abbrev pub NamesRules : (count : ℕ) → CheckFault → Type 0
NamesRules count (EmptyLoop rule span) = rule < count
NamesRules count (LeftRecursion path) = All (λ rule. rule < count) path.items
NamesRules count Memory = Unit {0}
