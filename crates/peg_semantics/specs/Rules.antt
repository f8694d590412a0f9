-- Rules, and the rule that a name refers to (Ford 2004, section 3.1: nonterminals and rules).
use Rattle.std.specs.Prelude.{ℕ, ◌+◌, Bool, List, [], ◌∷◌, map, length, sum_by, flat_map, slice_get, Option, None, Some}
use Rattle.std.specs.Prelude.{option_map, unwrap_or, if◌then◌else◌, bytes_eq}
use Rattle.std.specs.List.{list_any}
use Rattle.peg_bytes.specs.Extent.{Extent}
use Rattle.peg_semantics.specs.Form.{Form, Reference, Count, terminals, names_used, counts_written, form_weight}

-- a rule: its name, the span of the name in the file, and its expression
pub record Rule : Type 0 where
  pub name : List ℕ
  pub span : Extent
  pub body : Form

-- the names of the rules, in order
abbrev pub names : List Rule → List (List ℕ)
names rules = map (λ rule. rule.name) rules

-- the name of a rule, with its span
abbrev pub defined_at : Rule → Reference
defined_at rule = record { name = rule.name; span = rule.span }

-- the names that the rules refer to, in written order
abbrev pub references : List Rule → List Reference
references rules = flat_map (λ rule. names_used rule.body) rules

-- the counts in the rules, in written order
abbrev pub counts : List Rule → List Count
counts rules = flat_map (λ rule. counts_written rule.body) rules

-- the name of rule number `rule`, or no bytes if there is no such rule
abbrev pub name_of : List Rule → ℕ → List ℕ
name_of rules rule = unwrap_or (option_map (λ r. r.name) (slice_get rules rule)) []

-- whether a rule has the given name
abbrev pub is_defined : List Rule → List ℕ → Bool
is_defined rules name = list_any (bytes_eq name) (names rules)

-- the weight of a grammar: the number of rules, of expressions and of bytes in literals
abbrev pub weight_of : List Rule → ℕ
weight_of rules = length rules + sum_by (λ rule. form_weight rule.body) rules

-- what a name refers to: its rule's number, the number of that rule's first terminal, and the rule's expression
pub record Meaning : Type 0 where
  pub rule : ℕ
  pub terminal : ℕ
  pub body : Form

-- The first rule of the given name, if the first rule of the list has number `rule` and first terminal `terminal`.
-- Terminals are numbered from 0 in written order, rule by rule and left to right.
abbrev pub meaning_from : ℕ → ℕ → List Rule → List ℕ → Option Meaning
meaning_from rule terminal [] name = None
meaning_from rule terminal (r ∷ rs) name =
    if bytes_eq name r.name
    then Some (record { rule = rule; terminal = terminal; body = r.body })
    else meaning_from (rule + 1) (terminal + terminals r.body) rs name

-- the rule that a name refers to in a grammar
abbrev pub meaning_of : List Rule → List ℕ → Option Meaning
meaning_of rules name = meaning_from 0 0 rules name
