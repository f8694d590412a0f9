-- Why a grammar has no parser of blame.
use Rattle.std.specs.Prelude.{◌≢◌, ℕ, ◌<◌, ◌≤◌, AllPairs, List}
use Rattle.peg_code.specs.Compiled.{max_instructions}
use Rattle.peg_diagnostics.specs.Diagnostic.{HaveNoMark, diagnostic_rules}
use Rattle.peg_grammar.specs.declared.fault.GrammarFault.{GrammarFault}
use Rattle.peg_grammar.specs.declared.fault.GrammarFault.TheVariants as grammar
use Rattle.peg_parser.specs.Accepts.{code_size}
use Rattle.peg_semantics.specs.Grammar.{max_parts}
use Rattle.peg_semantics.specs.Rules.{Rule, names, weight_of}
use Rattle.peg_semantics.specs.WellFormed.{IsWellFormedGrammar}
use Rattle.peg_blame.specs.declared.fault.BlameFault.{BlameFault}
use Rattle.peg_blame.specs.declared.fault.BlameFault.TheVariants.{NotWellFormed, MarkedName, TooManyParts, CodeTooLarge}
use Rattle.peg_blame.specs.declared.fault.BlameFault.TheVariants.{Memory}

-- Whether a fault is true of rules. A failed allocation is possible for any rules.
abbrev pub IsBlameRefusal : List Rule → BlameFault → Type 0
IsBlameRefusal rules NotWellFormed = ¬ IsWellFormedGrammar rules
IsBlameRefusal rules MarkedName = ¬ HaveNoMark rules
IsBlameRefusal rules TooManyParts = max_parts < weight_of (diagnostic_rules rules)
IsBlameRefusal rules CodeTooLarge = max_instructions < code_size (diagnostic_rules rules)
IsBlameRefusal rules Memory = Unit {0}

-- Rules that have a parser of blame, if no allocation fails: they are well-formed, and their diagnostic grammar has
-- distinct names and is within the limits. If no name contains an exclamation mark, its names are distinct.
pub record CanBeBlamed (rules : List Rule) : Type 0 where
  pub well_formed : ∥ IsWellFormedGrammar rules ∥₁
  pub distinct : AllPairs (λ (a b : List ℕ). a ≢ b) (names (diagnostic_rules rules))
  pub light : weight_of (diagnostic_rules rules) ≤ max_parts
  pub small : code_size (diagnostic_rules rules) ≤ max_instructions

-- Describes code: the same for rules whose parser can't be made
abbrev pub IsParserRefusal : List Rule → BlameFault → Type 0
IsParserRefusal rules NotWellFormed = ¬ IsWellFormedGrammar rules
IsParserRefusal rules MarkedName = ⊥
IsParserRefusal rules TooManyParts = ⊥
IsParserRefusal rules CodeTooLarge = max_instructions < code_size rules
IsParserRefusal rules Memory = Unit {0}

-- Describes code: the fault that a fault of the diagnostic grammar becomes
abbrev pub of_grammar : GrammarFault → BlameFault
of_grammar grammar.Memory = Memory
of_grammar grammar.TooManyParts = TooManyParts
of_grammar other = MarkedName
