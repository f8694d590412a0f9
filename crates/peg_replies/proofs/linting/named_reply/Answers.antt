use Rattle.std.proofs.Common.{Some, refl, sym, ◌∙◌}
use Rattle.peg_grammar.specs.GrammarRules.{rules_in}
use Rattle.peg_parser.specs.Cause.{NoSuchStart}
use Rattle.peg_json.specs.Lints.{LintsTo, no_rule_to_start}
use Rattle.peg_json.specs.Reply.{Refused}
use Rattle.peg_json.proofs.PrintLemmas.{reply-kind}
use Rattle.peg_replies.proofs.LintLemmas.{numbered-rule}
use Rattle.peg_replies.proofs.linting.named_reply.Goals as goal

pub lint_reply-requires : goal.lint_reply-requires
lint_reply-requires c =
    numbered-rule (rules_in c.args.grammar.now) c.args.name.now c.in-Some.rule (sym c.in-Some.is ∙ c.rule_number.ensures)

pub returns-in-Some : goal.returns-in-Some
returns-in-Some c =
    c.lint_reply.ensures (Some c.args.name.now) (sym c.rule_number.ensures ∙ c.in-Some.is)

pub returns-in-None : goal.returns-in-None
returns-in-None c =
    let rules = rules_in c.args.grammar.now in
    let name = c.args.name.now in
    reply-kind c.no_start_line.result c.args.file.now (LintsTo c.args.file.now rules (Some name) c.args.selection) (Refused (NoSuchStart name))
    (c.no_start_line.ensures c.args.file.now)
    (no_rule_to_start name refl (sym c.rule_number.ensures ∙ c.in-None.is))
