-- Why definitions are rejected.
use Rattle.std.specs.Prelude.{◌≡◌, ◌<◌, List, [], None, Some, option_map, string_bytes}
use Rattle.peg_bytes.specs.Extent.{extent}
use Rattle.peg_semantics.specs.Rules.{Rule, weight_of}
use Rattle.peg_semantics.specs.Grammar.{IsGrammar, max_parts, first_bad_count, first_duplicate, first_undefined}
use Rattle.peg_grammar.specs.declared.fault.GrammarFault.{GrammarFault}
use Rattle.peg_grammar.specs.declared.fault.GrammarFault.TheVariants.{NoRule, Duplicate, Undefined, TooManyParts}
use Rattle.peg_grammar.specs.declared.fault.GrammarFault.TheVariants.{BadCount, Memory}

-- Whether a fault is true of rules. A failed allocation is possible for any rules.
abbrev pub IsRefusedBy : List Rule → GrammarFault → Type 0
IsRefusedBy rules NoRule = rules ≡ []
IsRefusedBy rules (Duplicate name span) =
    first_duplicate rules ≡ Some (record { name = string_bytes name; span = extent span })
IsRefusedBy rules (Undefined name span) =
    (first_duplicate rules ≡ None)
    × (first_undefined rules ≡ Some (record { name = string_bytes name; span = extent span }))
IsRefusedBy rules (BadCount span) =
    (first_duplicate rules ≡ None)
    × (first_undefined rules ≡ None)
    × (option_map (λ count. count.span) (first_bad_count rules) ≡ Some (extent span))
IsRefusedBy rules TooManyParts = IsGrammar rules × (max_parts < weight_of rules)
IsRefusedBy rules Memory = Unit {0}
