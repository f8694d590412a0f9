-- Outcomes whose numbers are those of a grammar.
use Rattle.std.specs.Prelude.{ℕ, ◌<◌, List, length, All}
use Rattle.peg_semantics.specs.Rules.{Rule}
use Rattle.peg_semantics.specs.Terminals.{extents_of_terminals}
use Rattle.peg_tree.specs.Nodes.{RulesBelow}
use Rattle.peg_tree.specs.declared.outcome.Outcome.{Outcome}
use Rattle.peg_tree.specs.declared.outcome.Parsed.{Parsed}
use Rattle.peg_tree.specs.declared.outcome.Parsed.TheVariants as parsed

-- the rule numbers of an outcome's tree are below `rules`
abbrev pub ResultFits : (rules : ℕ) → Parsed → Type 0
ResultFits rules parsed.Failed = Unit {0}
ResultFits rules (parsed.Matched end tree) = RulesBelow rules tree

-- an outcome whose tree has rule numbers of the grammar, and whose terminals are the grammar's
pub record Fits (rules : List Rule) (outcome : Outcome) : Type 0 where
  pub tree : ResultFits (length rules) outcome.result
  pub terminals : All (λ terminal. terminal < length (extents_of_terminals rules)) outcome.expected.items

-- the same with indices into a list of terminals
pub record FitsAmong (rules : List Rule) (terminals : List ℕ) (outcome : Outcome) : Type 0 where
  pub tree : ResultFits (length rules) outcome.result
  pub indices : All (λ index. index < length terminals) outcome.expected.items
