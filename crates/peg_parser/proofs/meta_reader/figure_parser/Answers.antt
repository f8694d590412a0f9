use Rattle.std.proofs.Common.{◌≤◌, ◌∙◌, sym, subst, arith, ap}
use Rattle.peg_code.specs.Compiled.{max_instructions}
use Rattle.peg_metagrammar.proofs.FigureWellFormed.{figure-well_formed}
use Rattle.peg_semantics.specs.WellFormed.{IsWellFormedGrammar}
use Rattle.peg_grammar.specs.Refusal.{IsRefusedBy}
use Rattle.peg_parser.specs.Accepts.{code_size}
use Rattle.peg_parser.specs.Faults.{of_grammar}
use Rattle.peg_parser.proofs.FigureCode.{figure-size}
use Rattle.peg_parser.proofs.FigureGrammar.{grammar_memory, stated_memory}
use Rattle.peg_parser.proofs.meta_reader.figure_parser.Goals as goal

pub returns-in_err-grammar-clause-memory : goal.returns-in_err-grammar-clause-memory
returns-in_err-grammar-clause-memory c =
    let fault = c.in_err-grammar.field-0.0 in
    let memory = grammar_memory fault (subst (λ rules. IsRefusedBy rules fault) c.in_ok-definitions.ensures c.in_err-grammar.ensures.refused) in
    stated_memory c.from_residual-in_err-grammar.result (of_grammar fault) c.from_residual-in_err-grammar.ensures.1 (ap of_grammar memory)

pub returns-clause-memory : goal.returns-clause-memory
returns-clause-memory c =
    let same = c.in_ok-grammar.ensures.rules ∙ c.in_ok-definitions.ensures in
    c.from_grammar.ensures.refused_where (subst IsWellFormedGrammar (sym same) figure-well_formed)
    (subst (λ rules. code_size rules ≤ max_instructions) (sym same) (subst (λ n. n ≤ max_instructions) (sym figure-size) (omega arith)))
