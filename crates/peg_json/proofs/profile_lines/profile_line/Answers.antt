use Rattle.std.proofs.Common.{◌∙◌, ap, string_bytes}
use Rattle.peg_semantics.specs.Rules.{names}
use Rattle.peg_grammar.specs.GrammarRules.{rules_in}
use Rattle.peg_json.specs.ProfileText.{end_of, status_of_end}
use Rattle.peg_json.specs.Reply.{Profiled}
use Rattle.peg_json.proofs.PrintLemmas.{text-reply}
use Rattle.peg_json.proofs.profile_lines.profile_line.Goals as goal

pub returns : goal.returns
returns c file =
    let profile = c.args.profile.now in
    text-reply c.new.result file (string_bytes c.in_ok-text.text) c.status.result
    (Profiled (end_of profile.answer) profile.steps (names (rules_in c.args.grammar.now))
    profile.rules.items)
    c.new.ensures.0 c.new.ensures.1 c.in_ok-text.ensures (c.status.ensures ∙ ap status_of_end c.of.ensures)
