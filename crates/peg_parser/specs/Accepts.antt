-- Which grammar files are accepted.
use Rattle.std.specs.Prelude.{ℕ, ◌≤◌, List, length}
use Rattle.peg_semantics.specs.Grammar.{IsGrammar, max_parts}
use Rattle.peg_semantics.specs.Rules.{Rule, weight_of}
use Rattle.peg_semantics.specs.WellFormed.{IsWellFormedGrammar}
use Rattle.peg_core.specs.CoreForm.{core_bodies}
use Rattle.peg_code.specs.Code.{program_code}
use Rattle.peg_code.specs.Compiled.{max_instructions}
use Rattle.peg_metagrammar.specs.Notation.{max_file_bytes}
use Rattle.peg_metagrammar.specs.Nesting.{max_open}
use Rattle.peg_notation.specs.Reads.{IsReadingWithin}

-- a file within the limits is in the notation, and these rules are its reading
pub record IsRead (file : List ℕ) (rules : List Rule) : Type 0 where
  pub within : length file ≤ max_file_bytes
  pub reading : IsReadingWithin max_open file rules

-- the rules are a grammar whose weight is within the limit
pub record IsAcceptedGrammar (rules : List Rule) : Type 0 where
  pub grammar : IsGrammar rules
  pub light : weight_of rules ≤ max_parts

-- the number of instructions of a grammar's code, compiled from its desugared expressions
abbrev pub code_size : List Rule → ℕ
code_size rules = length (program_code (core_bodies rules))

-- the reading of an accepted file: a well-formed grammar whose code is within the limit
pub record Accepts (file : List ℕ) (rules : List Rule) : Type 0 where
  pub read : IsRead file rules
  pub taken : IsAcceptedGrammar rules
  pub well_formed : IsWellFormedGrammar rules
  pub small : code_size rules ≤ max_instructions
