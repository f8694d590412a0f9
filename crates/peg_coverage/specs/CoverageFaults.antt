-- Why a grammar has no parser of coverage.
use Rattle.std.specs.Prelude.{◌<◌, List}
use Rattle.peg_code.specs.Compiled.{max_instructions}
use Rattle.peg_diagnostics.specs.Diagnostic.{HaveNoMark}
use Rattle.peg_diagnostics.specs.Marked.{marked_rules}
use Rattle.peg_grammar.specs.declared.fault.GrammarFault.{GrammarFault}
use Rattle.peg_grammar.specs.declared.fault.GrammarFault.TheVariants as grammar
use Rattle.peg_parser.specs.Accepts.{code_size}
use Rattle.peg_semantics.specs.Grammar.{max_parts}
use Rattle.peg_semantics.specs.Rules.{Rule, weight_of}
use Rattle.peg_coverage.specs.declared.fault.CoverageFault.{CoverageFault}
use Rattle.peg_coverage.specs.declared.fault.CoverageFault.TheVariants.{MarkedName, TooManyParts, CodeTooLarge, Memory}

-- Whether a fault is true of well-formed rules. A failed allocation is possible for any rules.
abbrev pub IsCoverageRefusal : List Rule → CoverageFault → Type 0
IsCoverageRefusal rules MarkedName = ¬ HaveNoMark rules
IsCoverageRefusal rules TooManyParts = max_parts < weight_of (marked_rules rules)
IsCoverageRefusal rules CodeTooLarge = max_instructions < code_size (marked_rules rules)
IsCoverageRefusal rules Memory = Unit {0}

-- Describes code: the same for well-formed rules whose parser can't be made
abbrev pub IsParserRefusal : List Rule → CoverageFault → Type 0
IsParserRefusal rules MarkedName = ⊥
IsParserRefusal rules TooManyParts = ⊥
IsParserRefusal rules CodeTooLarge = max_instructions < code_size rules
IsParserRefusal rules Memory = Unit {0}

-- Describes code: the fault that a fault of the marked grammar becomes
abbrev pub of_grammar : GrammarFault → CoverageFault
of_grammar grammar.Memory = Memory
of_grammar grammar.TooManyParts = TooManyParts
of_grammar other = MarkedName
