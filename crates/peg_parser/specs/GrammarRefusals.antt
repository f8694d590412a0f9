-- Why a grammar has no parser, if it isn't read from a file.
use Rattle.std.specs.Prelude.{◌≡◌, ◌<◌, List, length}
use Rattle.peg_check.specs.FirstLoops.{NamesFirstLoop}
use Rattle.peg_check.specs.LeastCycles.{NamesLeastCycle}
use Rattle.peg_check.specs.Verdicts.{IsIllFormedBy, NamesRules}
use Rattle.peg_code.specs.Compiled.{max_instructions}
use Rattle.peg_grammar.specs.GrammarRules.{rules_in}
use Rattle.peg_semantics.specs.Rules.{Rule}
use Rattle.peg_semantics.specs.WellFormed.{IsWellFormedGrammar}
use Rattle.peg_semantics.specs.WrittenLoops.{SpansNameLoops}
use Rattle.peg_parser.specs.Accepts.{code_size}
use Rattle.peg_parser.specs.declared.refusal.Refusal.{Refusal}
use Rattle.peg_parser.specs.declared.refusal.Refusal.TheVariants.{Notation, Grammar, NotWellFormed, CodeTooLarge, Memory}

-- Whether a refusal is true of a grammar with these rules. It is not well-formed, or else its code is over the limit. A
-- left cycle is the least one, and an empty loop is the first one if spans tell the loops of a rule apart. A failed
-- allocation is possible for any.
abbrev pub IsRefusalOfGrammar : List Rule → Refusal → Type 0
IsRefusalOfGrammar rules (Notation why) = ⊥
IsRefusalOfGrammar rules (Grammar why) = ⊥
IsRefusalOfGrammar rules (NotWellFormed why grammar) =
    ¬ IsWellFormedGrammar rules × IsIllFormedBy rules why × NamesRules (length rules) why × (rules_in grammar ≡ rules)
    × NamesLeastCycle rules why × (SpansNameLoops rules → NamesFirstLoop rules why)
IsRefusalOfGrammar rules CodeTooLarge = IsWellFormedGrammar rules × (max_instructions < code_size rules)
IsRefusalOfGrammar rules Memory = Unit {0}
