use Rattle.std.proofs.Common.{length}
use Rattle.peg_parser.specs.Refusals.{IsNoGrammar}
use Rattle.peg_replies.specs.Replies.{refused_grammar}
use Rattle.peg_replies.specs.Task.{TableTask}
use Rattle.peg_replies.proofs.JudgeLemmas.{reported-true_refusal, refusal-line}
use Rattle.peg_replies.proofs.loading.table_file.Goals as goal

pub refused_line-requires-clause-true_refusal : goal.refused_line-requires-clause-true_refusal
refused_line-requires-clause-true_refusal c =
    reported-true_refusal (IsNoGrammar c.args.file.now) (length c.args.file.now) c.in-Err.refusal c.in-Err.ensures.refused

pub returns-in-Err : goal.returns-in-Err
returns-in-Err c text =
    refusal-line (IsNoGrammar c.args.file.now) c.args.file.now text (length c.args.file.now) TableTask c.in-Err.refusal
    c.refused_line.result c.in-Err.ensures.refused (λ cause is. refused_grammar is) c.refused_line.ensures
