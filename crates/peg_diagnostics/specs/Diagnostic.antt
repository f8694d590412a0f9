-- The diagnostic grammar of rules. It recognizes the same texts, and each item that fails there also fails a test of an
-- added empty class at the item's own start. An empty class never matches, so the results stay the same.
use Rattle.std.specs.Prelude.{ℕ, false, List, [], ◌∷◌, ◌++◌, map, replicate, All, Contains}
use Rattle.peg_bytes.specs.ByteSet.{Bytes}
use Rattle.peg_bytes.specs.Extent.{Extent}
use Rattle.peg_semantics.specs.Form.{Form, Forms, Literal, Class, Any, Name, Seq, Choice, Optional, Star, Plus, Counted}
use Rattle.peg_semantics.specs.Form.{And, Not, End, Then}
use Rattle.peg_semantics.specs.Rules.{Rule, names}

-- the name of a rule's quiet copy: the rule's name, then `!`, which no identifier contains
abbrev pub quiet_name : List ℕ → List ℕ
quiet_name name = name ++ 33 ∷ []

-- An expression with each name that it refers to changed by a function.
abbrev mutual
  pub rename : (List ℕ → List ℕ) → Form → Form
  rename new (Literal bytes span) = Literal bytes span
  rename new (Class set span) = Class set span
  rename new (Any span) = Any span
  rename new (Name name span) = Name (new name) span
  rename new (Seq items span) = Seq (rename_all new items) span
  rename new (Choice first rest span) = Choice (rename new first) (rename_all new rest) span
  rename new (Optional part span) = Optional (rename new part) span
  rename new (Star part span) = Star (rename new part) span
  rename new (Plus part span) = Plus (rename new part) span
  rename new (Counted part min max span) = Counted (rename new part) min max span
  rename new (And part span) = And (rename new part) span
  rename new (Not part span) = Not (rename new part) span

  pub rename_all : (List ℕ → List ℕ) → Forms → Forms
  rename_all new End = End
  rename_all new (Then e rest) = Then (rename new e) (rename_all new rest)

-- an expression inside a predicate: each name becomes that of the quiet copy, and nothing is added
abbrev pub quiet : Form → Form
quiet e = rename quiet_name e

-- the empty set of bytes
unfoldable pub no_bytes : Bytes
no_bytes = replicate 256 false

-- the expression, or else an empty class, which always fails at the same position; all three have the same span
abbrev pub or_fail : Form → Extent → Form
or_fail e span = Choice e (Then (Class no_bytes span) End) span

-- An expression outside predicates: an empty class is added to each terminal and to each predicate.
abbrev mutual
  pub loud : Form → Form
  loud (Literal bytes span) = or_fail (Literal bytes span) span
  loud (Class set span) = or_fail (Class set span) span
  loud (Any span) = or_fail (Any span) span
  loud (Name name span) = Name name span
  loud (Seq items span) = Seq (loud_all items) span
  loud (Choice first rest span) = Choice (loud first) (loud_all rest) span
  loud (Optional part span) = Optional (loud part) span
  loud (Star part span) = Star (loud part) span
  loud (Plus part span) = Plus (loud part) span
  loud (Counted part min max span) = Counted (loud part) min max span
  loud (And part span) = or_fail (And (quiet part) span) span
  loud (Not part span) = or_fail (Not (quiet part) span) span

  pub loud_all : Forms → Forms
  loud_all End = End
  loud_all (Then e rest) = Then (loud e) (loud_all rest)

-- the extent of an expression in the file
abbrev pub form_extent : Form → Extent
form_extent (Literal bytes span) = span
form_extent (Class set span) = span
form_extent (Any span) = span
form_extent (Name name span) = span
form_extent (Seq items span) = span
form_extent (Choice first rest span) = span
form_extent (Optional part span) = span
form_extent (Star part span) = span
form_extent (Plus part span) = span
form_extent (Counted part min max span) = span
form_extent (And part span) = span
form_extent (Not part span) = span

-- A rule with its expression made loud, and the quiet copy of a rule. Both have the extent of the rule's expression in
-- place of that of its name, since a copy's name is not in the file.
abbrev pub loud_rule : Rule → Rule
loud_rule rule = record { name = rule.name; span = form_extent rule.body; body = loud rule.body }

abbrev pub quiet_rule : Rule → Rule
quiet_rule rule = record { name = quiet_name rule.name; span = form_extent rule.body; body = quiet rule.body }

-- all rules made loud, in order, and then the quiet copies of all rules, in order
abbrev pub diagnostic_rules : List Rule → List Rule
diagnostic_rules rules = map loud_rule rules ++ map quiet_rule rules

-- no rule has a name with `!`, as for all names that are identifiers
abbrev pub HaveNoMark : List Rule → Type 0
HaveNoMark rules = All (λ (name : List ℕ). ¬ Contains name 33) (names rules)
