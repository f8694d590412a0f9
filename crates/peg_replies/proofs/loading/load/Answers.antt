use Rattle.std.proofs.Common.{length}
use Rattle.peg_parser.specs.Refusals.{IsRefusalOf}
use Rattle.peg_replies.proofs.JudgeLemmas.{reported-true_refusal, judged-refused}
use Rattle.peg_replies.proofs.loading.load.Goals as goal

pub refused_line-requires-clause-true_refusal : goal.refused_line-requires-clause-true_refusal
refused_line-requires-clause-true_refusal c =
    reported-true_refusal (IsRefusalOf c.args.file.now) (length c.args.file.now) c.in-Err.refusal c.in-Err.ensures.refused

pub returns-in_ok-refused_line-in-Err : goal.returns-in_ok-refused_line-in-Err
returns-in_ok-refused_line-in-Err c =
    judged-refused c.args.file.now (length c.args.file.now) c.in-Err.refusal c.in_ok-refused_line-in-Err.field-0
    c.in-Err.ensures.refused c.in_ok-refused_line-in-Err.ensures
