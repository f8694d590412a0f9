use Rattle.std.proofs.Common.{◌≡◌, ◌∙◌, ℕ, List, ap, subst}
use Rattle.peg_explain_files.specs.Printings.{WritesAlone}
use Rattle.peg_explain_files.specs.declared.ended.Verdict.{Verdict}
use Rattle.peg_explain_files.specs.declared.printing.Printing.TheVariants.{All}
use Rattle.peg_grammar.specs.GrammarRules.{rules_in}
use Rattle.peg_messages.specs.FileNames.{shown_name}
use Rattle.peg_lint_files.specs.LintAnswers.{verdict_of}
use Rattle.peg_lint_files.specs.WarningMessages.{lint_message}
use Rattle.peg_lint_files.proofs.linting.write_found.Goals as goal

pub returns-clause-writes : goal.returns-clause-writes
returns-clause-writes g c =
    let rules = rules_in c.args.grammar.now in
    let old = g.W.Sink.written c.args.output.now in
    let new = g.W.Sink.written c.write_alone.new.output in
    let called : c.as_bytes-2.result.now ≡ shown_name c.args.name.now =
    c.as_bytes-2.ensures.value ∙ (c.in_ok-called.ensures ∙ ap shown_name c.as_bytes.ensures.value) in
    let message : c.deref.result.now ≡ lint_message (shown_name c.args.name.now) c.args.file.now rules c.args.warnings.now =
    c.deref.ensures.value
    ∙ (c.in_ok-message.ensures
    ∙ ap (λ (n : List ℕ). lint_message n c.args.file.now rules c.args.warnings.now) called) in
    subst (λ (m : List ℕ). WritesAlone All m (verdict_of c.args.warnings.now) old new c.write_alone.result) message
    (subst (λ (v : Verdict). WritesAlone All c.deref.result.now v old new c.write_alone.result) c.verdict_of.ensures
    c.write_alone.ensures.writes)
