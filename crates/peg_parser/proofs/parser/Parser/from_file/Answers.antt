use Rattle.std.proofs.Common.{ℕ, inl, ◌<◌, ◌≤◌, ◌∙◌, All, Err, List, ap, length, refl, subst, sym}
use Rattle.peg_check.specs.Verdicts.{NamesRules}
use Rattle.peg_code.specs.Code.{program_code}
use Rattle.peg_code.specs.Compiled.{max_instructions}
use Rattle.peg_core.specs.CoreParts.{AreCoreFormsOf}
use Rattle.peg_core.specs.Layout.{bodies_of}
use Rattle.peg_grammar.specs.GrammarRules.{rules_in}
use Rattle.peg_grammar.specs.Written.{rules_of}
use Rattle.peg_notation.specs.Spans.{RuleLiesIn}
use Rattle.peg_semantics.specs.Rules.{Rule}
use Rattle.peg_semantics.specs.WrittenLoops.{SpansNameLoops}
use Rattle.peg_parser.specs.Accepts.{IsRead, IsAcceptedGrammar}
use Rattle.peg_parser.specs.Faults.{HasCause, HasDefinitionsOf, of_code, of_grammar, of_notation}
use Rattle.peg_parser.specs.Refusals.{IsRefusalOf}
use Rattle.peg_parser.proofs.AcceptLemmas.{accepted-whole, stated-check, stated-code, stated-early, stated-error, stated-grammar, stated-meaning, stated-means, stated-notation}
use Rattle.peg_parser.proofs.DefinitionLemmas.{check-defined, code-defined, grammar-defined, memory-defined, notation-defined, same-defined}
use Rattle.peg_parser.proofs.parser.Parser.from_file.Goals as goal
use Rattle.peg_parser.proofs.parser.Parser.from_file.Goals.{After-from_check, After-refusal_of_large_code, In_err-definitions, In_err-grammar, In_ok-grammar, In_ok-core}

-- the grammar of a file
record Known (file : List ℕ) (rules : List Rule) : Type 0 where
  read : IsRead file rules
  taken : IsAcceptedGrammar rules
  inside : All (RuleLiesIn (length file)) rules
  own : SpansNameLoops rules

known : (c : In_ok-grammar) → Known c.args.file.now (rules_in c.in_ok-grammar.grammar)
known c = subst (Known c.args.file.now) (sym c.in_ok-grammar.ensures.rules) (record {
  read = record { within = c.in_ok-definitions.ensures.reads.0; reading = c.in_ok-definitions.ensures.reads.1 };
  taken = record { grammar = c.in_ok-grammar.ensures.grammar; light = c.in_ok-grammar.ensures.light };
  inside = c.in_ok-definitions.ensures.inside;
  own = c.in_ok-definitions.ensures.loops;
})

-- the core forms are the grammar's
are : (c : In_ok-core) → AreCoreFormsOf (rules_in c.in_ok-grammar.grammar) c.in_ok-core.core
are c = record { forms = c.in_ok-core.ensures.forms; bodies = c.in_ok-core.ensures.bodies }

-- ---- the causes of the faults

notation : (c : In_err-definitions)
    → HasCause (IsRefusalOf c.args.file.now) (length c.args.file.now) (of_notation c.in_err-definitions.field-0.0)
notation c =
    let file = c.args.file.now in
    let why = c.in_err-definitions.field-0.0 in
    stated-early file (length file) (of_notation why)
    (stated-notation file why c.in_err-definitions.ensures.reads c.in_err-definitions.ensures.inside
    c.in_err-definitions.ensures.first)

no_grammar : (c : In_err-grammar)
    → HasCause (IsRefusalOf c.args.file.now) (length c.args.file.now) (of_grammar c.in_err-grammar.field-0.0)
no_grammar c =
    let file = c.args.file.now in
    let why = c.in_err-grammar.field-0.0 in
    stated-early file (length file) (of_grammar why)
    (stated-grammar file (rules_of c.in_ok-definitions.definitions.items) why
    record { within = c.in_ok-definitions.ensures.reads.0; reading = c.in_ok-definitions.ensures.reads.1 }
    c.in_ok-definitions.ensures.inside c.in_err-grammar.ensures.refused)

-- ---- the clauses

pub returns-in_err-definitions-clause-refused : goal.returns-in_err-definitions-clause-refused
returns-in_err-definitions-clause-refused c =
    let file = c.args.file.now in
    stated-error (IsRefusalOf file) (length file) c.from_residual.result (of_notation c.in_err-definitions.field-0.0)
    c.from_residual.ensures.1 (notation (goal.at.returns-in_err-definitions-clause-refused c).In_err-definitions)

pub returns-in_err-definitions-clause-wrong : goal.returns-in_err-definitions-clause-wrong
returns-in_err-definitions-clause-wrong c =
    stated-meaning c.args.file.now c.from_residual.result (of_notation c.in_err-definitions.field-0.0)
    c.from_residual.ensures.1 (notation (goal.at.returns-in_err-definitions-clause-wrong c).In_err-definitions)

pub returns-in_err-grammar-clause-refused : goal.returns-in_err-grammar-clause-refused
returns-in_err-grammar-clause-refused c =
    let file = c.args.file.now in
    stated-error (IsRefusalOf file) (length file) c.from_residual-in_err-grammar.result (of_grammar c.in_err-grammar.field-0.0)
    c.from_residual-in_err-grammar.ensures.1 (no_grammar (goal.at.returns-in_err-grammar-clause-refused c).In_err-grammar)

pub returns-in_err-grammar-clause-wrong : goal.returns-in_err-grammar-clause-wrong
returns-in_err-grammar-clause-wrong c =
    stated-meaning c.args.file.now c.from_residual-in_err-grammar.result (of_grammar c.in_err-grammar.field-0.0)
    c.from_residual-in_err-grammar.ensures.1 (no_grammar (goal.at.returns-in_err-grammar-clause-wrong c).In_err-grammar)

-- a grammar with too much code
large : (c : After-refusal_of_large_code) → Known c.args.file.now (rules_in c.in_ok-grammar.grammar)
    → HasCause (IsRefusalOf c.args.file.now) (length c.args.file.now) c.refusal_of_large_code.result
large c of_file =
    c.refusal_of_large_code.ensures.refused c.args.file.now of_file.read of_file.taken of_file.inside of_file.own

pub returns-then-code_size-gt-MAX_INSTRUCTIONS-clause-refused :
    goal.returns-then-code_size-gt-MAX_INSTRUCTIONS-clause-refused
returns-then-code_size-gt-MAX_INSTRUCTIONS-clause-refused c =
    large c (known (goal.at.returns-then-code_size-gt-MAX_INSTRUCTIONS-clause-refused c).In_ok-grammar)

pub returns-then-code_size-gt-MAX_INSTRUCTIONS-clause-wrong :
    goal.returns-then-code_size-gt-MAX_INSTRUCTIONS-clause-wrong
returns-then-code_size-gt-MAX_INSTRUCTIONS-clause-wrong c =
    stated-means c.args.file.now (length c.args.file.now) c.refusal_of_large_code.result
    (large c (known (goal.at.returns-then-code_size-gt-MAX_INSTRUCTIONS-clause-wrong c).In_ok-grammar))

-- the fault of the check is a refusal of the file
no_check : (c : After-from_check) → Known c.args.file.now (rules_in c.in_ok-grammar.grammar)
    → AreCoreFormsOf (rules_in c.in_ok-grammar.grammar) c.in_ok-core.core
    → HasCause (IsRefusalOf c.args.file.now) (length c.args.file.now) c.from_check.result
no_check c of_file forms =
    let file = c.args.file.now in
    let grammar = c.in_ok-grammar.grammar in
    let fault = c.in-Err.fault in
    let named = subst (λ (n : ℕ). NamesRules n fault) c.in_ok-core.ensures.count c.in-Err.ensures.named in
    subst (HasCause (IsRefusalOf file) (length file)) (sym c.from_check.ensures)
    (stated-check file grammar fault (c.in-Err.ensures.grammar_refused (rules_in grammar) forms)
    (c.in-Err.ensures.first_loop (rules_in grammar) forms of_file.own)
    (c.in-Err.ensures.least_cycle (rules_in grammar) forms) named of_file.read of_file.taken of_file.inside)

pub returns-in-Err-clause-refused : goal.returns-in-Err-clause-refused
returns-in-Err-clause-refused c =
    no_check c (known (goal.at.returns-in-Err-clause-refused c).In_ok-grammar)
    (are (goal.at.returns-in-Err-clause-refused c).In_ok-core)

pub returns-in-Err-clause-wrong : goal.returns-in-Err-clause-wrong
returns-in-Err-clause-wrong c =
    stated-means c.args.file.now (length c.args.file.now) c.from_check.result
    (no_check c (known (goal.at.returns-in-Err-clause-wrong c).In_ok-grammar)
    (are (goal.at.returns-in-Err-clause-wrong c).In_ok-core))

-- the compiler's fault is a refusal of the file
pub returns-in_err-program-in-Ok-clause-refused : goal.returns-in_err-program-in-Ok-clause-refused
returns-in_err-program-in-Ok-clause-refused c =
    let file = c.args.file.now in
    let rules = rules_in c.in_ok-grammar.grammar in
    let why = c.in_err-program-in-Ok.field-0.0 in
    let of_file = known (goal.at.returns-in_err-program-in-Ok-clause-refused c).In_ok-grammar in
    let forms = are (goal.at.returns-in_err-program-in-Ok-clause-refused c).In_ok-core in
    let bodies = ap bodies_of c.in-Ok.ensures.accepted ∙ c.in_ok-core.ensures.bodies in
    stated-error (IsRefusalOf file) (length file) c.from_residual-in_err-program-in-Ok.result (of_code why)
    c.from_residual-in_err-program-in-Ok.ensures.1
    (stated-code file rules why of_file.read of_file.taken (c.in-Ok.ensures.grammar rules forms)
    (λ large. subst (λ bodies. max_instructions < length (program_code bodies)) bodies
    (c.in_err-program-in-Ok.ensures.too_large (ap Err large))))

pub from_program-requires-clause-well_formed : goal.from_program-requires-clause-well_formed
from_program-requires-clause-well_formed c =
    c.in-Ok.ensures.grammar (rules_in c.in_ok-grammar.grammar)
    (are (goal.at.from_program-requires-clause-well_formed c).In_ok-core)

pub returns-in_ok-program-in-Ok-clause-accepted : goal.returns-in_ok-program-in-Ok-clause-accepted
returns-in_ok-program-in-Ok-clause-accepted c =
    let rules = rules_in c.in_ok-grammar.grammar in
    let of_file = known (goal.at.returns-in_ok-program-in-Ok-clause-accepted c).In_ok-grammar in
    let forms = are (goal.at.returns-in_ok-program-in-Ok-clause-accepted c).In_ok-core in
    let bodies = ap bodies_of c.in-Ok.ensures.accepted ∙ c.in_ok-core.ensures.bodies in
    accepted-whole c.args.file.now rules c.from_program.result of_file.read of_file.taken c.from_program.ensures.rules
    (c.in-Ok.ensures.grammar rules forms)
    (subst (λ bodies. length (program_code bodies) ≤ max_instructions) bodies c.in_ok-program-in-Ok.ensures.within)

-- ---- the definitions of a refused grammar

pub returns-in_err-definitions-clause-definitions : goal.returns-in_err-definitions-clause-definitions
returns-in_err-definitions-clause-definitions c =
    same-defined c.args.file.now c.from_residual.result (of_notation c.in_err-definitions.field-0.0)
    c.from_residual.ensures.1 (notation-defined c.args.file.now c.in_err-definitions.field-0.0)

pub returns-in_err-grammar-clause-definitions : goal.returns-in_err-grammar-clause-definitions
returns-in_err-grammar-clause-definitions c =
    same-defined c.args.file.now c.from_residual-in_err-grammar.result (of_grammar c.in_err-grammar.field-0.0)
    c.from_residual-in_err-grammar.ensures.1 (grammar-defined c.args.file.now c.in_err-grammar.field-0.0)

pub returns-then-code_size-gt-MAX_INSTRUCTIONS-clause-definitions :
    goal.returns-then-code_size-gt-MAX_INSTRUCTIONS-clause-definitions
returns-then-code_size-gt-MAX_INSTRUCTIONS-clause-definitions c =
    let of_file = known (goal.at.returns-then-code_size-gt-MAX_INSTRUCTIONS-clause-definitions c).In_ok-grammar in
    c.refusal_of_large_code.ensures.definitions c.args.file.now of_file.read

pub returns-in-Err-clause-definitions : goal.returns-in-Err-clause-definitions
returns-in-Err-clause-definitions c =
    let file = c.args.file.now in
    let of_file = known (goal.at.returns-in-Err-clause-definitions c).In_ok-grammar in
    subst (HasDefinitionsOf file) (sym c.from_check.ensures)
    (check-defined file (rules_in c.in_ok-grammar.grammar) c.in_ok-grammar.grammar c.in-Err.fault of_file.read
    (inl refl))

pub returns-in_err-program-in-Ok-clause-definitions : goal.returns-in_err-program-in-Ok-clause-definitions
returns-in_err-program-in-Ok-clause-definitions c =
    same-defined c.args.file.now c.from_residual-in_err-program-in-Ok.result (of_code c.in_err-program-in-Ok.field-0.0)
    c.from_residual-in_err-program-in-Ok.ensures.1 (code-defined c.args.file.now c.in_err-program-in-Ok.field-0.0)

pub returns-in_ok-program-in-Ok-clause-definitions : goal.returns-in_ok-program-in-Ok-clause-definitions
returns-in_ok-program-in-Ok-clause-definitions c =
    memory-defined c.args.file.now c.from_program.result c.from_program.ensures.memory
