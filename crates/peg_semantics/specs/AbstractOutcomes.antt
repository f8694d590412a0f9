-- The abstract outcomes of expressions as written (Ford 2004, section 3.5): whether an expression can match the empty
-- string, match a byte or more, or fail, on any text. Ford's rules are extended to the sugared expressions.
use Rattle.std.specs.Prelude.{◌≡◌, ℕ, zero, suc, Bool, true, false, ◌&&◌, ◌||◌, List, [], ◌∷◌, Option, None, Some}
use Rattle.peg_bytes.specs.ByteSet.{Bytes, has_some}
use Rattle.peg_semantics.specs.Form.{Form, Forms, Literal, Class, Any, Name, Seq, Choice, Optional, Star, Plus, Counted}
use Rattle.peg_semantics.specs.Form.{And, Not, End, Then}
use Rattle.peg_semantics.specs.Rules.{Rule, Meaning, meaning_of}

-- Ford's three outcomes: 0 (succeeds without consuming), 1 (succeeds and consumes) and f (fails)
pub record Can : Type 0 where
  pub nothing : Bool
  pub something : Bool
  pub fails : Bool

-- no outcome: the start of the iteration
abbrev pub no_outcome : Can
no_outcome = record { nothing = false; something = false; fails = false }

-- the outcomes of the empty expression
abbrev pub always_empty : Can
always_empty = record { nothing = true; something = false; fails = false }

-- the outcomes of a nonempty literal or of any
abbrev pub consumes_or_fails : Can
consumes_or_fails = record { nothing = false; something = true; fails = true }

-- the outcomes of a class; the empty class can only fail
abbrev pub can_of_set : Bytes → Can
can_of_set set = record { nothing = false; something = has_some set; fails = true }

-- whether the expression can succeed: match the empty string or something
abbrev pub succeeds : Can → Bool
succeeds can = can.nothing || can.something

-- The outcomes of a sequence of two expressions. 0: both give 0. 1: both succeed and one of them gives 1. f: the first
-- fails, or the first succeeds and the second fails.
abbrev pub seq_outcome : Can → Can → Can
seq_outcome first rest = record {
  nothing = first.nothing && rest.nothing;
  something = succeeds first && succeeds rest && (first.something || rest.something);
  fails = first.fails || (succeeds first && rest.fails);
}

-- the outcomes of a choice: 0 and 1 as the first alternative; if the first fails, also all outcomes of the second
abbrev pub choice_outcome : Can → Can → Can
choice_outcome first rest = record {
  nothing = first.nothing || (first.fails && rest.nothing);
  something = first.something || (first.fails && rest.something);
  fails = first.fails && rest.fails;
}

-- the outcomes of an optional part
abbrev pub optional_outcome : Can → Can
optional_outcome part = record { nothing = part.nothing || part.fails; something = part.something; fails = false }

-- the outcomes of a star: 0 if the part can fail, 1 if the part gives 1
abbrev pub star_outcome : Can → Can
star_outcome part = record { nothing = part.fails; something = part.something; fails = false }

-- the outcomes of a plus: the part once, then the star
abbrev pub plus_outcome : Can → Can
plus_outcome part = record { nothing = part.nothing && part.fails; something = part.something; fails = part.fails }

-- The outcomes of a count. With max 0 nothing is matched. While min is above 0 the part is required; after that the
-- part and the rest are optional.
abbrev pub repeat_outcome : Can → (min max : ℕ) → Can
repeat_outcome part min zero = always_empty
repeat_outcome part zero (suc max) = optional_outcome (seq_outcome part (repeat_outcome part zero max))
repeat_outcome part (suc min) (suc max) = seq_outcome part (repeat_outcome part min max)

-- the outcomes of the predicates `&e` and `!e`
abbrev pub and_outcome : Can → Can
and_outcome part = record { nothing = succeeds part; something = false; fails = part.fails }

abbrev pub not_outcome : Can → Can
not_outcome part = record { nothing = part.fails; something = false; fails = succeeds part }

-- an assignment of outcomes to expressions
abbrev pub OutcomeOf : Type 0
OutcomeOf = Form → Can

-- the outcomes of the items of a sequence
abbrev pub outcome_of_items : OutcomeOf → Forms → Can
outcome_of_items judge End = always_empty
outcome_of_items judge (Then e rest) = seq_outcome (judge e) (outcome_of_items judge rest)

-- the outcomes of the alternatives of a choice
abbrev pub outcome_of_choice : OutcomeOf → Form → Forms → Can
outcome_of_choice judge e End = judge e
outcome_of_choice judge e (Then next rest) = choice_outcome (judge e) (outcome_of_choice judge next rest)

-- the outcomes of the rule that a name refers to; none for an undefined name
abbrev pub outcome_of_meaning : OutcomeOf → Option Meaning → Can
outcome_of_meaning judge None = no_outcome
outcome_of_meaning judge (Some m) = judge m.body

-- Ford's rules, one line for each form of expression, given the outcomes of its parts
abbrev pub can_table : List Rule → OutcomeOf → OutcomeOf
can_table rules judge (Literal [] span) = always_empty
can_table rules judge (Literal (b ∷ bs) span) = consumes_or_fails
can_table rules judge (Class set span) = can_of_set set
can_table rules judge (Any span) = consumes_or_fails
can_table rules judge (Name name span) = outcome_of_meaning judge (meaning_of rules name)
can_table rules judge (Seq items span) = outcome_of_items judge items
can_table rules judge (Choice first rest span) = outcome_of_choice judge first rest
can_table rules judge (Optional part span) = optional_outcome (judge part)
can_table rules judge (Star part span) = star_outcome (judge part)
can_table rules judge (Plus part span) = plus_outcome (judge part)
can_table rules judge (Counted part min max span) = repeat_outcome (judge part) min max
can_table rules judge (And part span) = and_outcome (judge part)
can_table rules judge (Not part span) = not_outcome (judge part)

-- The outcomes of an expression after n rounds of iteration: none in round 0; else by Ford's rules from the outcomes in
-- round n - 1.
unfoldable pub can_in : List Rule → ℕ → OutcomeOf
can_in rules zero e = no_outcome
can_in rules (suc n) e = can_table rules (can_in rules n) e

-- Ford's outcomes are the least relation closed under his rules: an outcome holds if it holds in some round.
abbrev pub GivesNothing : List Rule → Form → Type 0
GivesNothing rules e = (n : ℕ) × ((can_in rules n e).nothing ≡ true)

abbrev pub GivesSomething : List Rule → Form → Type 0
GivesSomething rules e = (n : ℕ) × ((can_in rules n e).something ≡ true)

abbrev pub CanFail : List Rule → Form → Type 0
CanFail rules e = (n : ℕ) × ((can_in rules n e).fails ≡ true)

-- every outcome of the first is an outcome of the second
pub record CanAll (first second : Can) : Type 0 where
  pub nothing : first.nothing ≡ true → second.nothing ≡ true
  pub something : first.something ≡ true → second.something ≡ true
  pub fails : first.fails ≡ true → second.fails ≡ true
