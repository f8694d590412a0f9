use Rattle.std.proofs.Common.{Err, Ok, ap, sym, ◌∙◌}
use Rattle.peg_tool.specs.CommandOutcome.{status_result}
use Rattle.peg_tool.specs.Faults.{plain_result}
use Rattle.peg_tool.proofs.program.run_words.Goals as goal

pub returns-in-Ok-clause-leads : goal.returns-in-Ok-clause-leads
returns-in-Ok-clause-leads g c = (
  plain_result c.run_request.result,
  c.run_request.ensures.leads,
  ap Ok c.status.ensures ∙ sym (ap (λ ended. status_result (plain_result ended)) c.in-Ok.is),
)

pub returns-in-Err-clause-leads : goal.returns-in-Err-clause-leads
returns-in-Err-clause-leads g c = (
  plain_result c.run_request.result,
  c.run_request.ensures.leads,
  ap Err c.plain.ensures ∙ sym (ap (λ ended. status_result (plain_result ended)) c.in-Err.is),
)
