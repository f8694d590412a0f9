-- The stars and pluses of a rule in written order, and the first of them that can repeat on the empty string (Ford
-- 2004, section 3.6). Expressions come before their parts, parts from left to right, and rules in order.
use Rattle.std.specs.Prelude.{◌≡◌, ◌⊎◌, ℕ, ◌<◌, List, [], ◌∷◌, ◌++◌, All, Option, None, Some, slice_get}
use Rattle.peg_bytes.specs.Extent.{Extent}
use Rattle.peg_semantics.specs.AbstractOutcomes.{GivesNothing}
use Rattle.peg_semantics.specs.Form.{Form, Forms, Literal, Class, Any, Name, Seq, Choice, Optional, Star, Plus, Counted}
use Rattle.peg_semantics.specs.Form.{And, Not, End, Then}
use Rattle.peg_semantics.specs.Loops.{IsEmptyLoop}
use Rattle.peg_semantics.specs.Rules.{Rule}

-- a star or plus: its part, and its span in the file
pub record WrittenLoop : Type 0 where
  pub part : Form
  pub span : Extent

-- The stars and pluses of an expression in written order: an expression before its parts, parts from left to right.
abbrev mutual
  pub loops_written : Form → List WrittenLoop
  loops_written (Literal bytes span) = []
  loops_written (Class set span) = []
  loops_written (Any span) = []
  loops_written (Name name span) = []
  loops_written (Seq items span) = loops_written_by_all items
  loops_written (Choice first rest span) = loops_written first ++ loops_written_by_all rest
  loops_written (Optional part span) = loops_written part
  loops_written (Star part span) = record { part = part; span = span } ∷ loops_written part
  loops_written (Plus part span) = record { part = part; span = span } ∷ loops_written part
  loops_written (Counted part min max span) = loops_written part
  loops_written (And part span) = loops_written part
  loops_written (Not part span) = loops_written part

  pub loops_written_by_all : Forms → List WrittenLoop
  loops_written_by_all End = []
  loops_written_by_all (Then e rest) = loops_written e ++ loops_written_by_all rest

-- the span of the first of these loops whose part gives 0; `None` if there is no such loop
abbrev pub IsFirstIdle : List Rule → List WrittenLoop → (first : Option Extent) → Type 0
IsFirstIdle rules [] first = first ≡ None
IsFirstIdle rules (loop ∷ more) first =
    (GivesNothing rules loop.part × (first ≡ Some loop.span))
    ⊎ (¬ GivesNothing rules loop.part × IsFirstIdle rules more first)

-- Rule `number` is the first rule that has an empty loop, and its first one in written order has this span.
pub record IsFirstEmptyLoop (rules : List Rule) (number : ℕ) (span : Extent) : Type 0 where
  pub rule : Rule
  pub numbered : slice_get rules number ≡ Some rule
  pub first : IsFirstIdle rules (loops_written rule.body) (Some span)
  pub earlier : (before : ℕ) (other : Extent) → before < number → ¬ IsEmptyLoop rules before other

-- one of these loops has this span
abbrev pub HasSpan : List WrittenLoop → Extent → Type 0
HasSpan [] span = ⊥
HasSpan (loop ∷ more) span = (loop.span ≡ span) ⊎ HasSpan more span

-- no two of these loops have the same span
abbrev pub HaveOwnSpans : List WrittenLoop → Type 0
HaveOwnSpans [] = Unit {0}
HaveOwnSpans (loop ∷ more) = ¬ HasSpan more loop.span × HaveOwnSpans more

-- No two stars or pluses of a rule have the same span, as in a file. So a span names one of them.
abbrev pub SpansNameLoops : List Rule → Type 0
SpansNameLoops rules = All (λ (rule : Rule). HaveOwnSpans (loops_written rule.body)) rules
