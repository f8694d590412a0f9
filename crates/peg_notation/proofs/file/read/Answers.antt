use Rattle.std.proofs.Common.{rules, sym, ap, ◌∙◌, subst}
use Rattle.peg_notation.specs.Reader.{grammar}
use Rattle.peg_notation.specs.ReaderCode.{lexemes, AreTexts, rules_seen, AgreesOnError}
use Rattle.peg_metagrammar.specs.Nesting.{max_open}
use Rattle.peg_notation.proofs.FileAnswers.{tokens-texts, answers, lexing_reads, lexing_lies, fault_reads, fault_lies}
use Rattle.peg_notation.proofs.FirstFaults.{fault_first, lexing_first}
use Rattle.peg_notation.proofs.LoopSpans.{read-names_loops}
use Rattle.peg_notation.proofs.file.read.Goals as goal

pub returns-in_err-tokens-clause-reads : goal.returns-in_err-tokens-clause-reads
returns-in_err-tokens-clause-reads c =
    let stated = lexing_reads c.args.file.now c.in_err-tokens.field-0.0 c.in_err-tokens.ensures in search (rules, stated)

pub returns-in_err-tokens-clause-inside : goal.returns-in_err-tokens-clause-inside
returns-in_err-tokens-clause-inside c =
    let stated = lexing_lies c.args.file.now c.in_err-tokens.field-0.0 c.in_err-tokens.ensures in search (rules, stated)

pub grammar-requires : goal.grammar-requires
grammar-requires c =
    subst (λ tokens. AreTexts c.args.file.now 0 (lexemes tokens)) (sym c.deref.ensures.value)
    (tokens-texts c.args.file.now (lexemes c.in_ok-tokens.tokens.items) c.in_ok-tokens.ensures.1)

pub returns-in_err-read-clause-reads : goal.returns-in_err-read-clause-reads
returns-in_err-read-clause-reads c =
    let file = c.args.file.now in
    let ls = lexemes c.in_ok-tokens.tokens.items in
    let is = subst (λ tokens. AgreesOnError (grammar file max_open (lexemes tokens)) c.in_err-read.field-0.0) c.deref.ensures.value c.in_err-read.ensures in
    let stated = fault_reads file ls c.in_err-read.field-0.0 c.in_ok-tokens.ensures.0 c.in_ok-tokens.ensures.1 is in search (rules, stated)

pub returns-in_err-read-clause-inside : goal.returns-in_err-read-clause-inside
returns-in_err-read-clause-inside c =
    let file = c.args.file.now in
    let ls = lexemes c.in_ok-tokens.tokens.items in
    let is = subst (λ tokens. AgreesOnError (grammar file max_open (lexemes tokens)) c.in_err-read.field-0.0) c.deref.ensures.value c.in_err-read.ensures in
    let stated = fault_lies file ls c.in_err-read.field-0.0 c.in_ok-tokens.ensures.1 is in search (rules, stated)

pub returns-clause-reads : goal.returns-clause-reads
returns-clause-reads c =
    let file = c.args.file.now in
    let ls = lexemes c.in_ok-tokens.tokens.items in
    let is = ap (λ tokens. grammar file max_open (lexemes tokens)) (sym c.deref.ensures.value) ∙ c.in_ok-read.ensures in
    (c.in_ok-tokens.ensures.0, (answers file max_open ls c.in_ok-tokens.ensures.1).read (rules_seen c.in_ok-read.read) is)

pub returns-clause-inside : goal.returns-clause-inside
returns-clause-inside c =
    let file = c.args.file.now in
    let ls = lexemes c.in_ok-tokens.tokens.items in
    let is = ap (λ tokens. grammar file max_open (lexemes tokens)) (sym c.deref.ensures.value) ∙ c.in_ok-read.ensures in
    (answers file max_open ls c.in_ok-tokens.ensures.1).lies (rules_seen c.in_ok-read.read) is

pub returns-clause-loops : goal.returns-clause-loops
returns-clause-loops c =
    let file = c.args.file.now in
    let ls = lexemes c.in_ok-tokens.tokens.items in
    let is = ap (λ tokens. grammar file max_open (lexemes tokens)) (sym c.deref.ensures.value) ∙ c.in_ok-read.ensures in
    read-names_loops file max_open ls (rules_seen c.in_ok-read.read) (tokens-texts file ls c.in_ok-tokens.ensures.1) is

pub returns-in_err-tokens-clause-first : goal.returns-in_err-tokens-clause-first
returns-in_err-tokens-clause-first c =
    let stated = lexing_first c.args.file.now c.in_err-tokens.field-0.0 c.in_err-tokens.ensures in search (rules, stated)

pub returns-in_err-read-clause-first : goal.returns-in_err-read-clause-first
returns-in_err-read-clause-first c =
    let file = c.args.file.now in
    let ls = lexemes c.in_ok-tokens.tokens.items in
    let is = subst (λ tokens. AgreesOnError (grammar file max_open (lexemes tokens)) c.in_err-read.field-0.0) c.deref.ensures.value c.in_err-read.ensures in
    let stated = fault_first file ls c.in_err-read.field-0.0 c.in_ok-tokens.ensures.1 is in search (rules, stated)
