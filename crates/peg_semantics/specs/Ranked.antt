-- Sufficient evidence of well-formedness (Ford 2004, section 3.6): a table of outcomes and a ranking of the rules.
use Rattle.std.specs.Prelude.{◌≡◌, ℕ, ◌<◌, All, List, true, false}
use Rattle.peg_semantics.specs.AbstractOutcomes.{CanAll, OutcomeOf, can_table}
use Rattle.peg_semantics.specs.Form.{Form, Literal, Class, Any, Name, Seq, Choice, Optional, Star, Plus, Counted, And, Not}
use Rattle.peg_semantics.specs.Loops.{LeftCallsBy}
use Rattle.peg_semantics.specs.Rules.{Rule}
use Rattle.peg_semantics.specs.WellFormed.{FormPredicate, subexpressions}

-- an expression gives 0 by the table
abbrev pub NullableBy : OutcomeOf → FormPredicate
NullableBy judge e = (judge e).nothing ≡ true

-- the expression is not a star or plus whose part gives 0 by the table
abbrev pub RepeatsNonEmpty : OutcomeOf → FormPredicate
RepeatsNonEmpty judge (Literal bytes span) = Unit {0}
RepeatsNonEmpty judge (Class set span) = Unit {0}
RepeatsNonEmpty judge (Any span) = Unit {0}
RepeatsNonEmpty judge (Name name span) = Unit {0}
RepeatsNonEmpty judge (Seq items span) = Unit {0}
RepeatsNonEmpty judge (Choice first rest span) = Unit {0}
RepeatsNonEmpty judge (Optional part span) = Unit {0}
RepeatsNonEmpty judge (Star part span) = (judge part).nothing ≡ false
RepeatsNonEmpty judge (Plus part span) = (judge part).nothing ≡ false
RepeatsNonEmpty judge (Counted part min max span) = Unit {0}
RepeatsNonEmpty judge (And part span) = Unit {0}
RepeatsNonEmpty judge (Not part span) = Unit {0}

-- The table is closed under Ford's rules, so it contains every abstract outcome. By the table, no star or plus has a
-- part that gives 0, and every rule left-calls only rules of lower rank.
pub record IsRanked (rules : List Rule) (judge : OutcomeOf) (rank : ℕ → ℕ) : Type 0 where
  pub closed : (e : Form) → CanAll (can_table rules judge e) (judge e)
  pub loops : All (λ (rule : Rule). All (RepeatsNonEmpty judge) (subexpressions rule.body)) rules
  pub falls : (first second : ℕ) → LeftCallsBy rules (NullableBy judge) first second → rank second < rank first
