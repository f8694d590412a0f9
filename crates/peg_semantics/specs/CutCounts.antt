-- Rules with their counts cut to at most one iteration. Abstract outcomes, well-formed expressions and loops depend
-- only on whether a count's numbers are 0 (Ford 2004, sections 3.5 and 3.6). So they stay the same.
use Rattle.std.specs.Prelude.{ℕ, zero, suc, List, map}
use Rattle.peg_semantics.specs.Form.{Form, Forms, Literal, Class, Any, Name, Seq, Choice, Optional, Star, Plus, Counted}
use Rattle.peg_semantics.specs.Form.{And, Not, End, Then}
use Rattle.peg_semantics.specs.Rules.{Rule}

-- 0 for 0, and 1 for any other number
abbrev pub at_most_one : ℕ → ℕ
at_most_one zero = 0
at_most_one (suc n) = 1

-- An expression whose counts are cut: each number of a count is at most 1.
abbrev mutual
  pub cut_counts : Form → Form
  cut_counts (Literal bytes span) = Literal bytes span
  cut_counts (Class set span) = Class set span
  cut_counts (Any span) = Any span
  cut_counts (Name name span) = Name name span
  cut_counts (Seq items span) = Seq (cut_all_counts items) span
  cut_counts (Choice first rest span) = Choice (cut_counts first) (cut_all_counts rest) span
  cut_counts (Optional part span) = Optional (cut_counts part) span
  cut_counts (Star part span) = Star (cut_counts part) span
  cut_counts (Plus part span) = Plus (cut_counts part) span
  cut_counts (Counted part min max span) = Counted (cut_counts part) (at_most_one min) (at_most_one max) span
  cut_counts (And part span) = And (cut_counts part) span
  cut_counts (Not part span) = Not (cut_counts part) span

  pub cut_all_counts : Forms → Forms
  cut_all_counts End = End
  cut_all_counts (Then e rest) = Then (cut_counts e) (cut_all_counts rest)

-- a rule whose expression is cut
abbrev pub cut_rule : Rule → Rule
cut_rule rule = record { name = rule.name; span = rule.span; body = cut_counts rule.body }

abbrev pub cut_rules : List Rule → List Rule
cut_rules rules = map cut_rule rules
