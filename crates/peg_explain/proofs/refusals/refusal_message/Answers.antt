use Rattle.std.proofs.Common.{◌≡◌, [], is_some, length, map, subst, sym, true}
use Rattle.peg_grammar.specs.GrammarRules.{rules_in}
use Rattle.peg_parser.specs.Faults.{cause_of, check_cause, grammar_cause, notation_cause}
use Rattle.peg_parser.specs.declared.refusal.Refusal.{Refusal}
use Rattle.peg_semantics.specs.Rules.{defined_at, names}
use Rattle.peg_explain.proofs.RefusalLemmas.{IsAnswer, known-cause, known-reason, placed}
use Rattle.peg_explain.proofs.refusals.refusal_message.Goals as goal

pub returns-in-Notation : goal.returns-in-Notation
returns-in-Notation c =
    let name = c.args.name.now in
    let file = c.args.file.now in
    let place = placed (length file) c.args.refusal.now c.requires.has_cause c.requires.true_refusal in
    let known : is_some (notation_cause c.in-Notation.fault) ≡ true =
    subst (λ (why : Refusal). is_some (cause_of why) ≡ true) c.in-Notation.is place.known in
    subst (IsAnswer c.message_of.result name file) (sym c.in-Notation.is)
    (known-reason c.message_of.result name file [] (notation_cause c.in-Notation.fault) c.notation_reason.result known
    (c.notation_reason.ensures.reason file []) c.message_of.ensures)

pub returns-in-Grammar : goal.returns-in-Grammar
returns-in-Grammar c =
    let name = c.args.name.now in
    let file = c.args.file.now in
    let place = placed (length file) c.args.refusal.now c.requires.has_cause c.requires.true_refusal in
    let known : is_some (grammar_cause c.in-Grammar.fault) ≡ true =
    subst (λ (why : Refusal). is_some (cause_of why) ≡ true) c.in-Grammar.is place.known in
    subst (IsAnswer c.grammar_message.result name file) (sym c.in-Grammar.is)
    (known-cause c.grammar_message.result name file [] (grammar_cause c.in-Grammar.fault) known c.grammar_message.ensures)

pub returns-in-NotWellFormed : goal.returns-in-NotWellFormed
returns-in-NotWellFormed c =
    let name = c.args.name.now in
    let file = c.args.file.now in
    let rules = rules_in c.in-NotWellFormed.grammar in
    let place = placed (length file) c.args.refusal.now c.requires.has_cause c.requires.true_refusal in
    let known : is_some (check_cause (names rules) c.in-NotWellFormed.fault) ≡ true =
    subst (λ (why : Refusal). is_some (cause_of why) ≡ true) c.in-NotWellFormed.is place.known in
    subst (IsAnswer c.check_message.result name file) (sym c.in-NotWellFormed.is)
    (known-cause c.check_message.result name file (map defined_at rules) (check_cause (names rules) c.in-NotWellFormed.fault) known
    c.check_message.ensures)
