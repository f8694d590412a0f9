-- A grammar is refused only for its weight or a failed allocation.
use Rattle.std.proofs.Common.{List, IfErr, Result, Ok, Err, option_map, ap}
use Rattle.std.proofs.Math.Logic.{∥∥₁_elim}
use Rattle.peg_semantics.specs.Grammar.{IsGrammar}
use Rattle.peg_semantics.specs.Rules.{Rule}
use Rattle.peg_semantics.proofs.GrammarLemmas.{searches_from_IsGrammar}
use Rattle.peg_grammar.specs.Refusal.{IsRefusedBy}
use Rattle.peg_grammar.specs.declared.fault.GrammarFault.{GrammarFault}
use Rattle.peg_grammar.specs.declared.fault.GrammarFault.TheVariants.{NoRule, Duplicate, Undefined, TooManyParts}
use Rattle.peg_grammar.specs.declared.fault.GrammarFault.TheVariants.{BadCount, Memory}
use Rattle.peg_diagnostics.specs.Diagnostic.{diagnostic_rules, HaveNoMark}
use Rattle.peg_diagnostics.specs.Refusal.{IsMemoryOrTooMany}
use Rattle.peg_diagnostics.proofs.DiagnosticGrammar.{IsGrammar-diagnostic}

memory_or_too_many : (rules : List Rule) → IsGrammar rules → (fault : GrammarFault) → IsRefusedBy rules fault
    → IsMemoryOrTooMany fault
memory_or_too_many rules is NoRule refused = is.some refused
memory_or_too_many rules is (Duplicate name span) refused = let none = (searches_from_IsGrammar rules is).1 in cc
memory_or_too_many rules is (Undefined name span) refused =
    let none = (searches_from_IsGrammar rules is).2 in let some = refused.1 in cc
memory_or_too_many rules is (BadCount span) refused =
    let none = ap (option_map (λ count. count.span)) (searches_from_IsGrammar rules is).3 in let some = refused.2 in cc
memory_or_too_many rules is TooManyParts refused = tt
memory_or_too_many rules is Memory refused = tt

IfErr-memory : {T : Type 0} (r : Result T GrammarFault) (rules : List Rule) → IsGrammar rules
    → IfErr r (IsRefusedBy rules) → IfErr r IsMemoryOrTooMany
IfErr-memory (Ok x) rules is refused = tt
IfErr-memory (Err fault) rules is refused = memory_or_too_many rules is fault refused

memory_is_prop : (fault : GrammarFault) → IsProp (IsMemoryOrTooMany fault)
memory_is_prop NoRule = hlevel
memory_is_prop (Duplicate name span) = hlevel
memory_is_prop (Undefined name span) = hlevel
memory_is_prop (BadCount span) = hlevel
memory_is_prop TooManyParts = hlevel
memory_is_prop Memory = hlevel

IfErr-prop : {T : Type 0} (r : Result T GrammarFault) → IsProp (IfErr r IsMemoryOrTooMany)
IfErr-prop (Ok x) = hlevel
IfErr-prop (Err fault) = memory_is_prop fault

-- the errors of rules that are a grammar if others are
pub other_refusal : {T : Type 0} (r : Result T GrammarFault) (rules others : List Rule) → ∥ IsGrammar rules ∥₁
    → (IsGrammar rules → IsGrammar others) → IfErr r (IsRefusedBy others) → IfErr r IsMemoryOrTooMany
other_refusal r rules others grammar to refused =
    ∥∥₁_elim grammar (IfErr-prop r) (λ is. IfErr-memory r others (to is) refused)

-- the errors of a diagnostic grammar whose rules have no mark in their names
pub plain_refusal : {T : Type 0} (r : Result T GrammarFault) (rules : List Rule) → ∥ IsGrammar rules ∥₁
    → HaveNoMark rules → IfErr r (IsRefusedBy (diagnostic_rules rules)) → IfErr r IsMemoryOrTooMany
plain_refusal r rules grammar unmarked refused =
    other_refusal r rules (diagnostic_rules rules) grammar (λ is. IsGrammar-diagnostic rules is unmarked) refused
