-- Well-formed expressions and grammars (Ford 2004, section 3.6), for expressions as written.
use Rattle.std.specs.Prelude.{ℕ, zero, suc, List, [], ◌∷◌, ◌++◌, All, Option, None, Some}
use Rattle.peg_semantics.specs.Form.{Form, Forms, Literal, Class, Any, Name, Seq, Choice, Optional, Star, Plus, Counted}
use Rattle.peg_semantics.specs.Form.{And, Not, End, Then}
use Rattle.peg_semantics.specs.Rules.{Rule, Meaning, meaning_of}
use Rattle.peg_semantics.specs.AbstractOutcomes.{GivesNothing}

-- a property of expressions
abbrev pub FormPredicate : Type 1
FormPredicate = Form → Type 0

-- the items of a sequence: the first has the property, and if it gives 0, so do the rest
abbrev pub ItemsAre : List Rule → FormPredicate → Forms → Type 0
ItemsAre rules Is End = Unit {0}
ItemsAre rules Is (Then e rest) = Is e × (GivesNothing rules e → ItemsAre rules Is rest)

-- all of the expressions have the property
abbrev pub AllAre : FormPredicate → Forms → Type 0
AllAre Is End = Unit {0}
AllAre Is (Then e rest) = Is e × AllAre Is rest

-- the name refers to a rule whose expression has the property
abbrev pub MeaningIs : FormPredicate → Option Meaning → Type 0
MeaningIs Is None = ⊥
MeaningIs Is (Some m) = Is m.body

-- the part of a star or a plus has the property and does not give 0
abbrev pub RepeatsWell : List Rule → FormPredicate → Form → Type 0
RepeatsWell rules Is part = Is part × ¬ GivesNothing rules part

-- Ford's rules, one line for each form of expression, given the property of its parts
abbrev pub WellFormedTable : List Rule → FormPredicate → FormPredicate
WellFormedTable rules Is (Literal bytes span) = Unit {0}
WellFormedTable rules Is (Class set span) = Unit {0}
WellFormedTable rules Is (Any span) = Unit {0}
WellFormedTable rules Is (Name name span) = MeaningIs Is (meaning_of rules name)
WellFormedTable rules Is (Seq items span) = ItemsAre rules Is items
WellFormedTable rules Is (Choice first rest span) = Is first × AllAre Is rest
WellFormedTable rules Is (Optional part span) = Is part
WellFormedTable rules Is (Star part span) = RepeatsWell rules Is part
WellFormedTable rules Is (Plus part span) = RepeatsWell rules Is part
WellFormedTable rules Is (Counted part min max span) = Is part
WellFormedTable rules Is (And part span) = Is part
WellFormedTable rules Is (Not part span) = Is part

-- Well-formed in n rounds: in round 0 no expression is; else by Ford's rules from round n - 1.
unfoldable pub IsWellFormedIn : List Rule → ℕ → FormPredicate
IsWellFormedIn rules zero e = ⊥
IsWellFormedIn rules (suc n) e = WellFormedTable rules (IsWellFormedIn rules n) e

-- Ford's well-formed expressions are the least set closed under his rules: those well-formed in some round.
abbrev pub IsWellFormed : List Rule → Form → Type 0
IsWellFormed rules e = (n : ℕ) × IsWellFormedIn rules n e

-- The proper subexpressions of an expression, in written order.
abbrev mutual
  pub below : Form → List Form
  below (Literal bytes span) = []
  below (Class set span) = []
  below (Any span) = []
  below (Name name span) = []
  below (Seq items span) = below_all items
  below (Choice first rest span) = first ∷ (below first ++ below_all rest)
  below (Optional part span) = part ∷ below part
  below (Star part span) = part ∷ below part
  below (Plus part span) = part ∷ below part
  below (Counted part min max span) = part ∷ below part
  below (And part span) = part ∷ below part
  below (Not part span) = part ∷ below part

  pub below_all : Forms → List Form
  below_all End = []
  below_all (Then e rest) = e ∷ (below e ++ below_all rest)

-- the subexpressions of an expression, itself first
abbrev pub subexpressions : Form → List Form
subexpressions e = e ∷ below e

-- a grammar is well-formed if every subexpression of every rule is well-formed, called or not
abbrev pub IsWellFormedGrammar : List Rule → Type 0
IsWellFormedGrammar rules =
    All (λ (rule : Rule). All (IsWellFormed rules) (subexpressions rule.body)) rules
