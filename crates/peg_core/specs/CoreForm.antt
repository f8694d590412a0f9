-- Ford's core forms (Ford 2004, section 3.1), and the core form of a written expression by desugaring (section 3.2).
use Rattle.std.specs.Prelude.{ℕ, zero, suc, ◌+◌, ◌-◌, Bool, true, false, ◌&&◌, if◌then◌else◌}
use Rattle.std.specs.Prelude.{List, [], ◌∷◌, map, length, option_map, unwrap_or}
use Rattle.peg_bytes.specs.ByteSet.{Bytes, only, all_bytes}
use Rattle.peg_bytes.specs.Extent.{Extent}
use Rattle.peg_semantics.specs.Form.{Form, Forms, End, Then, terminals}
use Rattle.peg_semantics.specs.Form as written
use Rattle.peg_semantics.specs.Rules.{Meaning, meaning_of}
use Rattle.peg_semantics.specs.Rules as grammar

-- The empty expression, a test of a byte, a rule by its number, a sequence, a choice, a star, and a not-predicate. A
-- test has the number of its terminal, and a star has the span of the written star or plus.
pub data CoreForm : Type 0 where
  Empty : CoreForm
  Test : (set : Bytes) → (terminal : ℕ) → CoreForm
  Rule : (rule : ℕ) → CoreForm
  Seq : (first rest : CoreForm) → CoreForm
  Choice : (first rest : CoreForm) → CoreForm
  Star : (part : CoreForm) → (origin : Extent) → CoreForm
  Not : (part : CoreForm) → CoreForm

-- the sequence of a form and those after it, nested to the right
abbrev pub in_order : CoreForm → List CoreForm → CoreForm
in_order first [] = first
in_order first (next ∷ rest) = Seq first (in_order next rest)

-- the sequence of some forms; the empty expression if there are none
abbrev pub all_in_order : List CoreForm → CoreForm
all_in_order [] = Empty
all_in_order (first ∷ rest) = in_order first rest

-- the choice of a form and those after it, nested to the right
abbrev pub one_of : CoreForm → List CoreForm → CoreForm
one_of first [] = first
one_of first (next ∷ rest) = Choice first (one_of next rest)

-- the tests of a literal's bytes, all with the literal's number
abbrev pub tests_of : (terminal : ℕ) → List ℕ → List CoreForm
tests_of terminal bytes = map (λ byte. Test (only byte) terminal) bytes

-- a part at least min and at most max times: first the iterations that must match, and nested in them the optional ones
abbrev pub unfolded : CoreForm → (min max : ℕ) → CoreForm
unfolded part min zero = Empty
unfolded part zero (suc max) = Choice (Seq part (unfolded part zero max)) Empty
unfolded part (suc min) (suc max) = Seq part (unfolded part min max)

-- whether a form is built of empty expressions alone: it is one, or a sequence of two such forms
abbrev pub is_all_empty : CoreForm → Bool
is_all_empty Empty = true
is_all_empty (Test set terminal) = false
is_all_empty (Rule rule) = false
is_all_empty (Seq first rest) = is_all_empty first && is_all_empty rest
is_all_empty (Choice first rest) = false
is_all_empty (Star part origin) = false
is_all_empty (Not part) = false

-- How many iterations of a count are left out. If the part is built of empty expressions alone, these are the ones
-- after the first that must match: they match the empty string and never fail. Of any other part none is left out.
abbrev pub left_out : CoreForm → (min : ℕ) → ℕ
left_out part min = if is_all_empty part then min - 1 else 0

-- A count is unfolded, without the iterations that are left out. With max 0, which no grammar has, the part is an
-- alternative after the empty expression and never tried. So the part of each count is checked, whatever its numbers.
abbrev pub count_form : CoreForm → (min max : ℕ) → CoreForm
count_form part min zero = Choice Empty part
count_form part min (suc max) = unfolded part (min - left_out part min) (suc (max - left_out part min))

-- the number of the rule that a name denotes; the number of rules if it denotes none
abbrev pub number_of : List grammar.Rule → List ℕ → ℕ
number_of rules name = unwrap_or (option_map (λ (m : Meaning). m.rule) (meaning_of rules name)) (length rules)

-- The core form of an expression whose first terminal has this number. `e?` is `e / ''`, `e+` is `e e*`, and `&e` is
-- `!(!e)`. A count is unfolded, a literal is the sequence of its bytes, and a class or `.` is one test of a byte.
abbrev mutual
  pub core_form : List grammar.Rule → (terminal : ℕ) → Form → CoreForm
  core_form rules terminal (written.Literal bytes span) = all_in_order (tests_of terminal bytes)
  core_form rules terminal (written.Class set span) = Test set terminal
  core_form rules terminal (written.Any span) = Test all_bytes terminal
  core_form rules terminal (written.Name name span) = Rule (number_of rules name)
  core_form rules terminal (written.Seq items span) = all_in_order (core_forms rules terminal items)
  core_form rules terminal (written.Choice first rest span) =
      one_of (core_form rules terminal first) (core_forms rules (terminal + terminals first) rest)
  core_form rules terminal (written.Optional part span) = Choice (core_form rules terminal part) Empty
  core_form rules terminal (written.Star part span) = Star (core_form rules terminal part) span
  core_form rules terminal (written.Plus part span) =
      Seq (core_form rules terminal part) (Star (core_form rules terminal part) span)
  core_form rules terminal (written.Counted part min max span) = count_form (core_form rules terminal part) min max
  core_form rules terminal (written.And part span) = Not (Not (core_form rules terminal part))
  core_form rules terminal (written.Not part span) = Not (core_form rules terminal part)

  pub core_forms : List grammar.Rule → (terminal : ℕ) → Forms → List CoreForm
  core_forms rules terminal End = []
  core_forms rules terminal (Then e rest) =
      core_form rules terminal e ∷ core_forms rules (terminal + terminals e) rest

-- the core forms of the bodies of these rules; `terminal` is the number of their first terminal
abbrev pub core_bodies_from : List grammar.Rule → (terminal : ℕ) → List grammar.Rule → List CoreForm
core_bodies_from rules terminal [] = []
core_bodies_from rules terminal (rule ∷ more) =
    core_form rules terminal rule.body ∷ core_bodies_from rules (terminal + terminals rule.body) more

-- the core form of each rule's expression
abbrev pub core_bodies : List grammar.Rule → List CoreForm
core_bodies rules = core_bodies_from rules 0 rules
