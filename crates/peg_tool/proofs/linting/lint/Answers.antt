use Rattle.std.proofs.Common.{Err, Ok, ap, sym, ◌∙◌}
use Rattle.peg_lint_files.specs.LintQuestions.{question_of}
use Rattle.peg_tool.specs.Explanations.{explanation_result}
use Rattle.peg_tool.proofs.LintedLemmas.{linted-memory}
use Rattle.peg_tool.proofs.linting.lint.Goals as goal

pub returns-in-Ok-clause-leads : goal.returns-in-Ok-clause-leads
returns-in-Ok-clause-leads g c = (
  c.write_warnings.result,
  c.write_warnings.ensures.linted,
  ap Ok c.findings_of.ensures ∙ sym (ap explanation_result c.in-Ok.is),
)

pub returns-in-Err-Write-clause-leads : goal.returns-in-Err-Write-clause-leads
returns-in-Err-Write-clause-leads g c = (
  c.write_warnings.result,
  c.write_warnings.ensures.linted,
  ap Err c.at.ensures.plain ∙ sym (ap explanation_result (c.in-Err-Write.is ∙ ap Err c.in-Err-Write.field-0-is)),
)

pub returns-in-Err-Memory-clause-leads : goal.returns-in-Err-Memory-clause-leads
returns-in-Err-Memory-clause-leads g c = (
  c.write_warnings.result,
  c.write_warnings.ensures.linted,
  sym (ap explanation_result (c.in-Err-Memory.is ∙ ap Err c.in-Err-Memory.field-0-is)),
)

pub returns-in-Err-Memory-clause-memory : goal.returns-in-Err-Memory-clause-memory
returns-in-Err-Memory-clause-memory g c without =
    linted-memory (question_of c.args.query.now) (g.O.Opener.file_at c.args.files.now)
    (g.W.Sink.written c.args.output.now) (g.W.Sink.written c.write_warnings.new.output) c.write_warnings.result
    (c.in-Err-Memory.is ∙ ap Err c.in-Err-Memory.field-0-is) c.write_warnings.ensures.linted
