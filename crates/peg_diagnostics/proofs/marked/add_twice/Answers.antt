use Rattle.std.proofs.Common.{◌∙◌, arith}
use Rattle.peg_diagnostics.proofs.MarkLoops.{two_more_spans}
use Rattle.peg_diagnostics.proofs.marked.add_twice.Goals as goal

pub alternatives-preserved : goal.alternatives-preserved
alternatives-preserved c =
    two_more_spans c.args.alternatives.now c.alternatives.span-index c.span-item.result c.alternatives.spans.items
    c.push.new.self.items c.push-in-alternatives.new.self.items (omega arith) c.span-item.is
    c.in_ok-push.ensures.items c.in_ok-push-2.ensures.items
    ∙ c.alternatives.invariant
