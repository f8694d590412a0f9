use Rattle.std.proofs.Common.{ℕ, ◌<◌, ◌∙◌, Err, ap, length, subst, sym}
use Rattle.peg_check.specs.Verdicts.{NamesRules}
use Rattle.peg_code.specs.Code.{program_code}
use Rattle.peg_code.specs.Compiled.{max_instructions}
use Rattle.peg_core.specs.Layout.{bodies_of}
use Rattle.peg_core.specs.CoreParts.{AreCoreFormsOf}
use Rattle.peg_grammar.specs.GrammarRules.{rules_in}
use Rattle.peg_parser.specs.Faults.{of_code}
use Rattle.peg_parser.specs.GrammarRefusals.{IsRefusalOfGrammar}
use Rattle.peg_parser.proofs.FigureGrammar.{check_memory}
use Rattle.peg_parser.proofs.GrammarRefusalLemmas.{refused-check, refused-code, refused-error}
use Rattle.peg_parser.proofs.parser.Parser.from_grammar.Goals as goal
use Rattle.peg_parser.proofs.parser.Parser.from_grammar.Goals.{In_ok-desugar}

-- the core forms are the grammar's
are : (c : In_ok-desugar) → AreCoreFormsOf (rules_in c.args.grammar) c.in_ok-desugar.field-0
are c = record { forms = c.in_ok-desugar.ensures.forms; bodies = c.in_ok-desugar.ensures.bodies }

pub from_program-requires-clause-well_formed : goal.from_program-requires-clause-well_formed
from_program-requires-clause-well_formed c =
    c.in-Ok.ensures.grammar (rules_in c.args.grammar)
    (are (goal.at.from_program-requires-clause-well_formed c).In_ok-desugar)

pub returns-in-Err-clause-refused_where : goal.returns-in-Err-clause-refused_where
returns-in-Err-clause-refused_where c formed small =
    c.from_check.ensures ∙ check_memory c.args.grammar c.in-Err.fault (c.in-Err.ensures.grammar_refused
    (rules_in c.args.grammar) (are (goal.at.returns-in-Err-clause-refused_where c).In_ok-desugar)) formed

-- the fault of the check
pub returns-in-Err-clause-refused : goal.returns-in-Err-clause-refused
returns-in-Err-clause-refused c =
    let rules = rules_in c.args.grammar in
    let fault = c.in-Err.fault in
    let named = subst (λ (n : ℕ). NamesRules n fault) c.in_ok-desugar.ensures.count c.in-Err.ensures.named in
    let forms = are (goal.at.returns-in-Err-clause-refused c).In_ok-desugar in
    subst (IsRefusalOfGrammar rules) (sym c.from_check.ensures)
    (refused-check c.args.grammar fault (c.in-Err.ensures.grammar_refused rules forms) named
    (c.in-Err.ensures.least_cycle rules forms) (c.in-Err.ensures.first_loop rules forms))

-- the compiler's fault
pub returns-in_err-compile-in-Ok-clause-refused : goal.returns-in_err-compile-in-Ok-clause-refused
returns-in_err-compile-in-Ok-clause-refused c =
    let rules = rules_in c.args.grammar in
    let why = c.in_err-compile-in-Ok.field-0.0 in
    let forms = are (goal.at.returns-in_err-compile-in-Ok-clause-refused c).In_ok-desugar in
    let bodies = ap bodies_of c.in-Ok.ensures.accepted ∙ c.in_ok-desugar.ensures.bodies in
    refused-error rules c.from_residual-in_err-compile-in-Ok.result (of_code why)
    c.from_residual-in_err-compile-in-Ok.ensures.1
    (refused-code rules why (c.in-Ok.ensures.grammar rules forms)
    (λ large. subst (λ bodies. max_instructions < length (program_code bodies)) bodies
    (c.in_err-compile-in-Ok.ensures.too_large (ap Err large))))
