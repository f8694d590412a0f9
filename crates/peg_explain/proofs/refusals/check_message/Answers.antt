use Rattle.std.proofs.Common.{◌≡◌, ◌∙◌, IfOk, IfSome, map, refl, subst, sym}
use Rattle.std.proofs.lemmas.Result.{IfOk-weaker}
use Rattle.peg_bytes.specs.Extent.{extent}
use Rattle.peg_check.specs.declared.fault.CheckFault.{CheckFault}
use Rattle.peg_grammar.specs.GrammarRules.{rules_in}
use Rattle.peg_messages.specs.declared.reason.Reason.TheVariants as reason
use Rattle.peg_parser.specs.Cause.{EmptyLoop, reference}
use Rattle.peg_parser.specs.Faults.{check_cause}
use Rattle.peg_semantics.specs.Rules.{defined_at, names}
use Rattle.peg_tree.specs.Names.{name_at}
use Rattle.peg_explain.specs.RefusalMessages.{IsRefusalMessage}
use Rattle.peg_explain.proofs.RefusalLemmas.{by_reason, name-numbered}
use Rattle.peg_explain.proofs.refusals.check_message.Goals as goal

pub returns-in-EmptyLoop : goal.returns-in-EmptyLoop
returns-in-EmptyLoop c =
    let name = c.args.name.now in
    let file = c.args.file.now in
    let rules = rules_in c.args.grammar.now in
    let rule = c.in-EmptyLoop.rule in
    let span = c.in-EmptyLoop.span in
    let named : c.rule_name.result.now ≡ name_at (names rules) rule = c.rule_name.ensures ∙ name-numbered rules rule in
    subst (λ (why : CheckFault). IfOk c.message_of.result (λ message. IfSome (check_cause (names rules) why) (λ cause.
    IsRefusalMessage name file (map defined_at rules) cause message.items))) (sym c.in-EmptyLoop.is)
    (IfOk-weaker c.message_of.result _ _ (λ message is. by_reason name file (map defined_at rules)
    (EmptyLoop (reference (name_at (names rules) rule) (extent span))) (reason.EmptyLoop c.rule_name.result span.start)
    message.items (named, refl) is) c.message_of.ensures)
