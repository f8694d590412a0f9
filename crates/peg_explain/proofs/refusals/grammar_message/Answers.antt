use Rattle.std.proofs.Common.{[], List, subst, sym}
use Rattle.peg_grammar.specs.Written.{rules_of}
use Rattle.peg_grammar.specs.declared.expr.Definition.{Definition}
use Rattle.peg_parser.specs.Faults.{grammar_cause}
use Rattle.peg_explain.specs.RefusalMessages.{KnowsRules}
use Rattle.peg_explain.proofs.RefusalLemmas.{some-reason}
use Rattle.peg_explain.proofs.refusals.grammar_message.Goals as goal

pub returns : goal.returns
returns c =
    let file = c.args.file.now in
    let known = subst (λ (definitions : List Definition). KnowsRules file c.args.fault.now (rules_of definitions))
    (sym c.deref.ensures.value) c.in_ok-definitions.ensures in
    some-reason c.message_of.result c.args.name.now file [] (grammar_cause c.args.fault.now) c.grammar_reason.result
    (c.grammar_reason.ensures.reason file (c.meant_for-meant.ensures file known)) c.message_of.ensures
