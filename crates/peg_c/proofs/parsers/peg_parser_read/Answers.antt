use Rattle.std.proofs.Common.{subst}
use Rattle.peg_handle.specs.ReadFaults.{IsRejectedBy}
use Rattle.peg_c.proofs.parsers.peg_parser_read.Goals as goal

pub returns-in-Err-Rejected-clause-refused : goal.returns-in-Err-Rejected-clause-refused
returns-in-Err-Rejected-clause-refused c is_refused = (
  c.in-Err-Rejected.field-0-0,
  subst (IsRejectedBy c.args.file.now) c.in-Err-Rejected.field-0-is c.in-Err-Rejected.ensures.rejected,
)
