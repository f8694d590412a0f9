-- Which errors are possible for a diagnostic grammar whose names are distinct.
use Rattle.peg_grammar.specs.declared.fault.GrammarFault.{GrammarFault}
use Rattle.peg_grammar.specs.declared.fault.GrammarFault.TheVariants.{NoRule, Duplicate, Undefined, TooManyParts}
use Rattle.peg_grammar.specs.declared.fault.GrammarFault.TheVariants.{BadCount, Memory}

-- the fault is a failed allocation or a weight over the maximum
abbrev pub IsMemoryOrTooMany : GrammarFault → Type 0
IsMemoryOrTooMany NoRule = ⊥
IsMemoryOrTooMany (Duplicate name span) = ⊥
IsMemoryOrTooMany (Undefined name span) = ⊥
IsMemoryOrTooMany (BadCount span) = ⊥
IsMemoryOrTooMany TooManyParts = Unit {0}
IsMemoryOrTooMany Memory = Unit {0}
