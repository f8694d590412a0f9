-- The core forms of a written expression: those of its parts, then its own, itself last. The part of a plus occurs once
-- and is named twice. The part of a count occurs once and is named by each iteration.
use Rattle.std.specs.Prelude.{◌≡◌, ℕ, zero, suc, ◌+◌, ◌-◌, Bool, List, [], ◌∷◌, ◌++◌}
use Rattle.std.specs.List.{list_all}
use Rattle.peg_bytes.specs.ByteSet.{all_bytes}
use Rattle.peg_bytes.specs.Extent.{Extent}
use Rattle.peg_semantics.specs.Form.{Form, Forms, End, Then, Reference, Count, terminals}
use Rattle.peg_semantics.specs.Form as written
use Rattle.peg_semantics.specs.Grammar.{is_in_range}
use Rattle.peg_semantics.specs.Rules.{is_defined}
use Rattle.peg_semantics.specs.Rules as grammar
use Rattle.peg_core.specs.CoreForm.{CoreForm, Empty, Test, Rule, Seq, Choice, Star, Not, in_order, one_of, tests_of}
use Rattle.peg_core.specs.CoreForm.{unfolded, left_out, number_of, core_form, core_forms, core_bodies}
use Rattle.peg_core.specs.Layout.{Desugared, bodies_of}

-- the sequences that forms in order nest to, the shortest first
abbrev pub sequences_from : CoreForm → List CoreForm → List CoreForm
sequences_from first [] = []
sequences_from first (next ∷ rest) = sequences_from next rest ++ Seq first (in_order next rest) ∷ []

-- the same; for no forms, the empty expression
abbrev pub sequences_of : List CoreForm → List CoreForm
sequences_of [] = Empty ∷ []
sequences_of (first ∷ rest) = sequences_from first rest

-- the choices that forms nest to, the shortest first
abbrev pub choices_of : CoreForm → List CoreForm → List CoreForm
choices_of first [] = []
choices_of first (next ∷ rest) = choices_of next rest ++ Choice first (one_of next rest) ∷ []

-- the forms of an optional part
abbrev pub optional_forms : CoreForm → List CoreForm
optional_forms part = Empty ∷ Choice part Empty ∷ []

-- the forms of a plus
abbrev pub plus_forms : CoreForm → Extent → List CoreForm
plus_forms part origin = Star part origin ∷ Seq part (Star part origin) ∷ []

-- the iterations of a count, the innermost first
abbrev pub rounds_of : CoreForm → (min max : ℕ) → List CoreForm
rounds_of part min zero = []
rounds_of part zero (suc max) =
    rounds_of part zero max ++ Seq part (unfolded part zero max) ∷ unfolded part zero (suc max) ∷ []
rounds_of part (suc min) (suc max) = rounds_of part min max ++ unfolded part (suc min) (suc max) ∷ []

-- the forms of a count: the empty expression, and the iterations
abbrev pub count_forms : CoreForm → (min max : ℕ) → List CoreForm
count_forms part min zero = Empty ∷ Choice Empty part ∷ []
count_forms part min (suc max) = Empty ∷ rounds_of part (min - left_out part min) (suc (max - left_out part min))

-- the forms of an and-predicate
abbrev pub and_forms : CoreForm → List CoreForm
and_forms part = Not part ∷ Not (Not part) ∷ []

-- The core forms of an expression whose first terminal has this number.
abbrev mutual
  pub core_parts : List grammar.Rule → (terminal : ℕ) → Form → List CoreForm
  core_parts rules terminal (written.Literal bytes span) =
      tests_of terminal bytes ++ sequences_of (tests_of terminal bytes)
  core_parts rules terminal (written.Class set span) = Test set terminal ∷ []
  core_parts rules terminal (written.Any span) = Test all_bytes terminal ∷ []
  core_parts rules terminal (written.Name name span) = Rule (number_of rules name) ∷ []
  core_parts rules terminal (written.Seq items span) =
      core_parts_of_all rules terminal items ++ sequences_of (core_forms rules terminal items)
  core_parts rules terminal (written.Choice first rest span) =
      core_parts rules terminal first
      ++ core_parts_of_all rules (terminal + terminals first) rest
      ++ choices_of (core_form rules terminal first) (core_forms rules (terminal + terminals first) rest)
  core_parts rules terminal (written.Optional part span) =
      core_parts rules terminal part ++ optional_forms (core_form rules terminal part)
  core_parts rules terminal (written.Star part span) =
      core_parts rules terminal part ++ Star (core_form rules terminal part) span ∷ []
  core_parts rules terminal (written.Plus part span) =
      core_parts rules terminal part ++ plus_forms (core_form rules terminal part) span
  core_parts rules terminal (written.Counted part min max span) =
      core_parts rules terminal part ++ count_forms (core_form rules terminal part) min max
  core_parts rules terminal (written.And part span) =
      core_parts rules terminal part ++ and_forms (core_form rules terminal part)
  core_parts rules terminal (written.Not part span) =
      core_parts rules terminal part ++ Not (core_form rules terminal part) ∷ []

  pub core_parts_of_all : List grammar.Rule → (terminal : ℕ) → Forms → List CoreForm
  core_parts_of_all rules terminal End = []
  core_parts_of_all rules terminal (Then e rest) =
      core_parts rules terminal e ++ core_parts_of_all rules (terminal + terminals e) rest

-- the core forms of these rules; `terminal` is the number of their first terminal
abbrev pub core_parts_from : List grammar.Rule → (terminal : ℕ) → List grammar.Rule → List CoreForm
core_parts_from rules terminal [] = []
core_parts_from rules terminal (rule ∷ more) =
    core_parts rules terminal rule.body ++ core_parts_from rules (terminal + terminals rule.body) more

-- the core forms of all rules
abbrev pub all_core_parts : List grammar.Rule → List CoreForm
all_core_parts rules = core_parts_from rules 0 rules

-- the forms are those of a grammar with these rules, and the bodies are those of the rules
pub record AreCoreFormsOf (rules : List grammar.Rule) (core : Desugared) : Type 0 where
  pub forms : core.forms ≡ all_core_parts rules
  pub bodies : bodies_of core ≡ core_bodies rules

-- whether all these names are defined
abbrev pub are_defined : List grammar.Rule → List Reference → Bool
are_defined rules references = list_all (λ (reference : Reference). is_defined rules reference.name) references

-- whether all these counts are in range
abbrev pub are_in_range : List Count → Bool
are_in_range counts = list_all is_in_range counts
