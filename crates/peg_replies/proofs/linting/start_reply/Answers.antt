use Rattle.std.proofs.Common.{IfOk, None, option_map, refl, subst, sym, ap}
use Rattle.peg_grammar.specs.GrammarRules.{rules_in}
use Rattle.peg_json.specs.Lines.{IsLineOf, line_bytes}
use Rattle.peg_json.specs.Lints.{LintsTo}
use Rattle.peg_json.specs.Statuses.{status_code}
use Rattle.peg_replies.proofs.linting.start_reply.Goals as goal

pub returns-in-None : goal.returns-in-None
returns-in-None c =
    subst (λ start. IfOk c.lint_reply.result (λ line. IsLineOf c.args.file.now (LintsTo c.args.file.now (rules_in c.args.grammar.now) start c.args.selection)
    (line_bytes line) (status_code line.status))) (sym (ap (option_map (λ name. name.now)) c.in-None.is))
    (c.lint_reply.ensures None refl)

pub returns-in-Some : goal.returns-in-Some
returns-in-Some c =
    subst (λ start. IfOk c.named_reply.result (λ line. IsLineOf c.args.file.now (LintsTo c.args.file.now (rules_in c.args.grammar.now) start c.args.selection)
    (line_bytes line) (status_code line.status))) (sym (ap (option_map (λ name. name.now)) c.in-Some.is))
    c.named_reply.ensures
