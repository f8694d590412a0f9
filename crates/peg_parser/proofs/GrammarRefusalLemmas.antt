-- The faults of the check and of the compiler are refusals of the grammar.
use Rattle.std.proofs.Common.{◌≡◌, ◌<◌, List, Result, Ok, Err, length, refl, subst, sym}
use Rattle.std.specs.Prelude.{IfErr, IsErrAnd}
use Rattle.peg_check.specs.FirstLoops.{NamesFirstLoop}
use Rattle.peg_check.specs.LeastCycles.{NamesLeastCycle}
use Rattle.peg_check.specs.Verdicts.{IsIllFormedBy, NamesRules}
use Rattle.peg_check.specs.declared.fault.CheckFault.{CheckFault}
use Rattle.peg_check.specs.declared.fault.CheckFault.TheVariants as check
use Rattle.peg_code.specs.Compiled.{max_instructions}
use Rattle.peg_code.specs.declared.fault.CodeFault.{CodeFault}
use Rattle.peg_code.specs.declared.fault.CodeFault.TheVariants as code
use Rattle.peg_grammar.specs.GrammarRules.{rules_in}
use Rattle.peg_grammar.specs.declared.grammar.Grammar.{Grammar}
use Rattle.peg_semantics.specs.Rules.{Rule}
use Rattle.peg_semantics.specs.WellFormed.{IsWellFormedGrammar}
use Rattle.peg_semantics.specs.WrittenLoops.{SpansNameLoops}
use Rattle.peg_parser.specs.Accepts.{code_size}
use Rattle.peg_parser.specs.Faults.{from_check, of_code}
use Rattle.peg_parser.specs.GrammarRefusals.{IsRefusalOfGrammar}
use Rattle.peg_parser.specs.declared.refusal.Refusal.{Refusal}

pub refused-check : (grammar : Grammar) (why : CheckFault) → IsIllFormedBy (rules_in grammar) why
    → NamesRules (length (rules_in grammar)) why → NamesLeastCycle (rules_in grammar) why
    → (SpansNameLoops (rules_in grammar) → NamesFirstLoop (rules_in grammar) why)
    → IsRefusalOfGrammar (rules_in grammar) (from_check why grammar)
refused-check grammar (check.EmptyLoop rule span) ill named least first = (ill.0, ill, named, refl, least, first)
refused-check grammar (check.LeftRecursion path) ill named least first = (ill.0, ill, named, refl, least, first)
refused-check grammar check.Memory ill named least first = tt

pub refused-code : (rules : List Rule) (why : CodeFault) → IsWellFormedGrammar rules
    → (why ≡ code.CodeTooLarge → max_instructions < code_size rules) → IsRefusalOfGrammar rules (of_code why)
refused-code rules code.CodeTooLarge formed over = (formed, over refl)
refused-code rules code.Memory formed over = tt

-- an error that is a refusal
pub refused-error : {X : Type 0} (rules : List Rule) (result : Result X Refusal) (why : Refusal)
    → IsErrAnd result (λ other. other ≡ why) → IsRefusalOfGrammar rules why → IfErr result (IsRefusalOfGrammar rules)
refused-error rules (Ok parser) why is refused = tt
refused-error rules (Err other) why is refused = subst (IsRefusalOfGrammar rules) (sym is) refused
