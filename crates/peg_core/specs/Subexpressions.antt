-- The written subexpressions of rules, each with the number of its first terminal, and the core stars of expressions.
use Rattle.std.specs.Prelude.{ℕ, ◌+◌, Bool, true, false, List, [], ◌∷◌, ◌++◌}
use Rattle.peg_semantics.specs.Form.{Form, Forms, End, Then, terminals}
use Rattle.peg_semantics.specs.Form as written
use Rattle.peg_semantics.specs.Rules as grammar
use Rattle.peg_core.specs.CoreForm.{CoreForm, Empty, Test, Rule, Seq, Choice, Star, Not, core_form}

-- an expression, and the number of its first terminal
pub record Numbered : Type 0 where
  pub terminal : ℕ
  pub form : Form

abbrev pub numbered_as : (terminal : ℕ) → Form → Numbered
numbered_as terminal e = record { terminal = terminal; form = e }

-- The proper subexpressions of an expression, in written order.
abbrev mutual
  pub numbered_below : (terminal : ℕ) → Form → List Numbered
  numbered_below terminal (written.Literal bytes span) = []
  numbered_below terminal (written.Class set span) = []
  numbered_below terminal (written.Any span) = []
  numbered_below terminal (written.Name name span) = []
  numbered_below terminal (written.Seq items span) = numbered_below_all terminal items
  numbered_below terminal (written.Choice first rest span) =
      numbered_as terminal first
      ∷ (numbered_below terminal first ++ numbered_below_all (terminal + terminals first) rest)
  numbered_below terminal (written.Optional part span) = numbered_as terminal part ∷ numbered_below terminal part
  numbered_below terminal (written.Star part span) = numbered_as terminal part ∷ numbered_below terminal part
  numbered_below terminal (written.Plus part span) = numbered_as terminal part ∷ numbered_below terminal part
  numbered_below terminal (written.Counted part min max span) =
      numbered_as terminal part ∷ numbered_below terminal part
  numbered_below terminal (written.And part span) = numbered_as terminal part ∷ numbered_below terminal part
  numbered_below terminal (written.Not part span) = numbered_as terminal part ∷ numbered_below terminal part

  pub numbered_below_all : (terminal : ℕ) → Forms → List Numbered
  numbered_below_all terminal End = []
  numbered_below_all terminal (Then e rest) =
      numbered_as terminal e ∷ (numbered_below terminal e ++ numbered_below_all (terminal + terminals e) rest)

-- the subexpressions of an expression, itself first
abbrev pub numbered_in : (terminal : ℕ) → Form → List Numbered
numbered_in terminal e = numbered_as terminal e ∷ numbered_below terminal e

-- the subexpressions of these rules; `terminal` is the number of their first terminal
abbrev pub numbered_from : (terminal : ℕ) → List grammar.Rule → List Numbered
numbered_from terminal [] = []
numbered_from terminal (rule ∷ more) =
    numbered_in terminal rule.body ++ numbered_from (terminal + terminals rule.body) more

-- the subexpressions of all rules, in written order
abbrev pub numbered_subexpressions : List grammar.Rule → List Numbered
numbered_subexpressions rules = numbered_from 0 rules

-- The core stars of the written stars and pluses in an expression, those of its parts first. Each has the core form of
-- its part, and the span of the star or plus.
abbrev mutual
  pub core_stars : List grammar.Rule → (terminal : ℕ) → Form → List CoreForm
  core_stars rules terminal (written.Literal bytes span) = []
  core_stars rules terminal (written.Class set span) = []
  core_stars rules terminal (written.Any span) = []
  core_stars rules terminal (written.Name name span) = []
  core_stars rules terminal (written.Seq items span) = core_stars_of_all rules terminal items
  core_stars rules terminal (written.Choice first rest span) =
      core_stars rules terminal first ++ core_stars_of_all rules (terminal + terminals first) rest
  core_stars rules terminal (written.Optional part span) = core_stars rules terminal part
  core_stars rules terminal (written.Star part span) =
      core_stars rules terminal part ++ Star (core_form rules terminal part) span ∷ []
  core_stars rules terminal (written.Plus part span) =
      core_stars rules terminal part ++ Star (core_form rules terminal part) span ∷ []
  core_stars rules terminal (written.Counted part min max span) = core_stars rules terminal part
  core_stars rules terminal (written.And part span) = core_stars rules terminal part
  core_stars rules terminal (written.Not part span) = core_stars rules terminal part

  pub core_stars_of_all : List grammar.Rule → (terminal : ℕ) → Forms → List CoreForm
  core_stars_of_all rules terminal End = []
  core_stars_of_all rules terminal (Then e rest) =
      core_stars rules terminal e ++ core_stars_of_all rules (terminal + terminals e) rest

-- the core stars of these rules; `terminal` is the number of their first terminal
abbrev pub core_stars_from : List grammar.Rule → (terminal : ℕ) → List grammar.Rule → List CoreForm
core_stars_from rules terminal [] = []
core_stars_from rules terminal (rule ∷ more) =
    core_stars rules terminal rule.body ++ core_stars_from rules (terminal + terminals rule.body) more

-- the core stars of all rules
abbrev pub all_core_stars : List grammar.Rule → List CoreForm
all_core_stars rules = core_stars_from rules 0 rules

-- whether a core form is a star
abbrev pub is_star : CoreForm → Bool
is_star Empty = false
is_star (Test set terminal) = false
is_star (Rule rule) = false
is_star (Seq first rest) = false
is_star (Choice first rest) = false
is_star (Star part origin) = true
is_star (Not part) = false
