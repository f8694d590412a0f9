use Rattle.std.proofs.Common.{◌∙◌}
use Rattle.peg_handle.proofs.SpanLemmas.{copied_more}
use Rattle.peg_handle.proofs.selecting.spans_among.Goals as goal

pub spans-preserved : goal.spans-preserved
spans-preserved c rules are =
    c.in_ok-push.ensures.items
    ∙ copied_more rules c.args.terminals.now c.args.numbers.now c.spans.i c.spans.spans.items are
    c.spans-test.true (c.spans.invariant rules are)
