use Rattle.std.proofs.Common.{◌≡◌, inr, ℕ, List, ap, length, subst, sym, ◌∙◌}
use Rattle.peg_check.specs.FirstLoops.{NamesFirstLoop}
use Rattle.peg_check.specs.LeastCycles.{NamesLeastCycle}
use Rattle.peg_check.specs.Verdicts.{IsIllFormedBy, NamesRules}
use Rattle.peg_code.specs.declared.fault.CodeFault.TheVariants.{CodeTooLarge}
use Rattle.peg_core.specs.CoreParts.{AreCoreFormsOf}
use Rattle.peg_grammar.specs.GrammarRules.{rules_in}
use Rattle.peg_semantics.specs.CutCounts.{cut_rules}
use Rattle.peg_semantics.specs.Rules.{Rule}
use Rattle.peg_semantics.specs.WellFormed.{IsWellFormedGrammar}
use Rattle.peg_semantics.specs.WrittenLoops.{SpansNameLoops}
use Rattle.peg_semantics.proofs.CutLoops.{names_loops-cut}
use Rattle.peg_semantics.proofs.CutWellFormed.{well_formed-uncut}
use Rattle.peg_parser.specs.Faults.{HasCause, HasDefinitionsOf}
use Rattle.peg_parser.specs.Refusals.{IsRefusalOf}
use Rattle.peg_parser.proofs.AcceptLemmas.{stated-code}
use Rattle.peg_parser.proofs.CutLemmas.{stated-cut}
use Rattle.peg_parser.proofs.DefinitionLemmas.{check-defined}
use Rattle.peg_parser.proofs.large_code.refusal_of_large_code.Goals as goal
use Rattle.peg_parser.proofs.large_code.refusal_of_large_code.Goals.{In-Ok}

-- the core forms are those of the grammar with cut counts
are : (c : In-Ok) → AreCoreFormsOf (rules_in c.with_cut_counts-grammar.result) c.in-Ok.core
are c = record { forms = c.in-Ok.ensures.forms; bodies = c.in-Ok.ensures.bodies }

pub returns-in-Ok-check-clause-refused : goal.returns-in-Ok-check-clause-refused
returns-in-Ok-check-clause-refused c file read taken inside own =
    let rules = rules_in c.args.grammar in
    let formed = c.in-Ok-check.ensures.grammar (rules_in c.with_cut_counts-grammar.result)
    (are (goal.at.returns-in-Ok-check-clause-refused c).In-Ok) in
    stated-code file rules CodeTooLarge read taken
    (well_formed-uncut rules (subst IsWellFormedGrammar c.with_cut_counts-grammar.ensures formed)) (λ large. c.requires)

pub returns-in-Err-check-clause-refused : goal.returns-in-Err-check-clause-refused
returns-in-Err-check-clause-refused c file read taken inside own =
    let rules = rules_in c.args.grammar in
    let cut = c.with_cut_counts-grammar.result in
    let fault = c.in-Err-check.fault in
    let forms = are (goal.at.returns-in-Err-check-clause-refused c).In-Ok in
    let is : rules_in cut ≡ cut_rules rules = c.with_cut_counts-grammar.ensures in
    let count = c.in-Ok.ensures.count ∙ ap length is in
    let own_too = subst SpansNameLoops (sym is) (names_loops-cut rules own) in
    subst (HasCause (IsRefusalOf file) (length file)) (sym c.from_check.ensures)
    (stated-cut file rules cut fault is
    (subst (λ (l : List Rule). IsIllFormedBy l fault) is (c.in-Err-check.ensures.grammar_refused (rules_in cut) forms))
    (subst (λ (l : List Rule). NamesFirstLoop l fault) is (c.in-Err-check.ensures.first_loop (rules_in cut) forms own_too))
    (subst (λ (l : List Rule). NamesLeastCycle l fault) is (c.in-Err-check.ensures.least_cycle (rules_in cut) forms))
    (subst (λ (n : ℕ). NamesRules n fault) count c.in-Err-check.ensures.named) read taken inside)

pub returns-in-Err-check-clause-definitions : goal.returns-in-Err-check-clause-definitions
returns-in-Err-check-clause-definitions c file read =
    subst (HasDefinitionsOf file) (sym c.from_check.ensures)
    (check-defined file (rules_in c.args.grammar) c.with_cut_counts-grammar.result c.in-Err-check.fault read
    (inr (c.requires, c.with_cut_counts-grammar.ensures)))
