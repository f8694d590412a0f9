use Rattle.std.proofs.Common.{string_bytes}
use Rattle.peg_semantics.specs.Rules.{names}
use Rattle.peg_grammar.specs.GrammarRules.{rules_in}
use Rattle.peg_json.specs.Reply.{Linted}
use Rattle.peg_json.proofs.PrintLemmas.{text-reply}
use Rattle.peg_json.proofs.lines.lint_line.Goals as goal

pub returns : goal.returns
returns c =
    text-reply c.new.result c.args.file.now (string_bytes c.in_ok-text.text) c.lint_status.result
    (Linted (names (rules_in c.args.grammar.now)) c.args.warnings.now)
    c.new.ensures.0 c.new.ensures.1 c.in_ok-text.ensures c.lint_status.ensures
