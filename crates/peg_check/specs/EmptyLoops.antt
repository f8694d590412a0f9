-- Describes code: empty loops by the numbers of forms.
use Rattle.std.specs.Prelude.{◌≡◌, ℕ, ◌<◌, List, None, length, option_map, slice_index_or}
use Rattle.peg_bytes.specs.Extent.{Extent, extent}
use Rattle.peg_core.specs.CoreForm.{CoreForm, Star}
use Rattle.peg_core.specs.CoreLoops.{IsCoreEmptyLoop}
use Rattle.peg_core.specs.CoreOutcomes.{CoreGivesNothing}
use Rattle.peg_core.specs.Layout.{bodies_of, Desugared, form_at}
use Rattle.peg_check.specs.FirstLoops.{FormLoops, IsFirstCoreLoop, IsFirstCoreEmptyLoop}
use Rattle.peg_check.specs.Verdicts.{AreWellFormed, HasNoEmptyLoop}
use Rattle.peg_check.specs.declared.loops.LoopEntry.{LoopEntry}
use Rattle.peg_check.specs.declared.loops.Loop.{Loop}

-- the form with a number is a star whose part can succeed without consuming a byte
abbrev pub IsLoopAt : Desugared → ℕ → Type 0
IsLoopAt core number =
    (part : CoreForm) × (origin : Extent) × (form_at core.forms number ≡ Star part origin)
    × CoreGivesNothing (bodies_of core) part

-- a reported loop is the first empty loop of the first rule that has one
pub record IsLoop (core : Desugared) (found : Loop) : Type 0 where
  pub named : IsCoreEmptyLoop (bodies_of core) found.rule (extent found.span)
  pub refuted : ¬ AreWellFormed core
  pub first : IsFirstCoreEmptyLoop (bodies_of core) found.rule (extent found.span)

-- no form is an empty loop
abbrev pub HasNoLoop : Desugared → Type 0
HasNoLoop core = (number : ℕ) → number < length core.forms → ¬ IsLoopAt core number

-- no rule has an empty loop, and no form is one
abbrev pub IsLoopFree : Desugared → Type 0
IsLoopFree core = HasNoEmptyLoop core × HasNoLoop core

-- the spans of a form's entry
abbrev pub loops_of : LoopEntry → FormLoops
loops_of entry = record { first = option_map extent entry.first; in_part = option_map extent entry.in_part }

-- an entry that names no loop
abbrev pub no_loops : LoopEntry
no_loops = record { first = None; in_part = None }

-- the entry of the form with a number
abbrev pub entry_at : List LoopEntry → ℕ → LoopEntry
entry_at entries number = slice_index_or entries number no_loops

-- each entry names the first empty loops of its form
abbrev pub AreFirstLoops : Desugared → List LoopEntry → Type 0
AreFirstLoops core entries = (number : ℕ) → number < length entries
    → IsFirstCoreLoop (bodies_of core) (form_at core.forms number) (loops_of (entry_at entries number))
