use Rattle.std.proofs.Common.{length}
use Rattle.peg_grammar.specs.Written.{rules_of}
use Rattle.peg_parser.specs.Faults.{of_notation, of_grammar}
use Rattle.peg_parser.specs.Refusals.{IsNoGrammar}
use Rattle.peg_parser.proofs.AcceptLemmas.{stated-error, stated-notation, stated-grammar}
use Rattle.peg_parser.proofs.grammar_file.grammar_of.Goals as goal

pub returns-in_err-definitions-clause-refused : goal.returns-in_err-definitions-clause-refused
returns-in_err-definitions-clause-refused c =
    let file = c.args.file.now in
    let why = c.in_err-definitions.field-0.0 in
    stated-error (IsNoGrammar file) (length file) c.from_residual.result (of_notation why) c.from_residual.ensures.1
    (stated-notation file why c.in_err-definitions.ensures.reads c.in_err-definitions.ensures.inside
    c.in_err-definitions.ensures.first)

pub returns-in_err-grammar-clause-refused : goal.returns-in_err-grammar-clause-refused
returns-in_err-grammar-clause-refused c =
    let file = c.args.file.now in
    let why = c.in_err-grammar.field-0.0 in
    let rules = rules_of c.in_ok-definitions.definitions.items in
    stated-error (IsNoGrammar file) (length file) c.from_residual-in_err-grammar.result (of_grammar why)
    c.from_residual-in_err-grammar.ensures.1
    (stated-grammar file rules why
    record { within = c.in_ok-definitions.ensures.reads.0; reading = c.in_ok-definitions.ensures.reads.1 }
    c.in_ok-definitions.ensures.inside c.in_err-grammar.ensures.refused)
