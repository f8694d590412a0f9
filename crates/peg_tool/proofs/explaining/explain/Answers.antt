use Rattle.std.proofs.Common.{Err, Ok, ap, sym, ◌∙◌}
use Rattle.peg_tool.specs.Explanations.{explanation_result}
use Rattle.peg_tool.proofs.explaining.explain.Goals as goal

pub returns-in-Ok-clause-leads : goal.returns-in-Ok-clause-leads
returns-in-Ok-clause-leads g c = (
  c.explain_files.result,
  c.explain_files.ensures.explained,
  ap Ok c.findings_of.ensures ∙ sym (ap explanation_result c.in-Ok.is),
)

pub returns-in-Err-Write-clause-leads : goal.returns-in-Err-Write-clause-leads
returns-in-Err-Write-clause-leads g c = (
  c.explain_files.result,
  c.explain_files.ensures.explained,
  ap Err c.at.ensures.plain ∙ sym (ap explanation_result (c.in-Err-Write.is ∙ ap Err c.in-Err-Write.field-0-is)),
)

pub returns-in-Err-Memory-clause-leads : goal.returns-in-Err-Memory-clause-leads
returns-in-Err-Memory-clause-leads g c = (
  c.explain_files.result,
  c.explain_files.ensures.explained,
  sym (ap explanation_result (c.in-Err-Memory.is ∙ ap Err c.in-Err-Memory.field-0-is)),
)
