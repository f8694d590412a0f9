use Rattle.std.proofs.Common.{◌∙◌, arith}
use Rattle.peg_diagnostics.proofs.MarkLoops.{one_more_marker}
use Rattle.peg_diagnostics.proofs.marked.add_markers.Goals as goal

pub spans-preserved : goal.spans-preserved
spans-preserved c = record {
  rules =
      one_more_marker c.args.spans.now c.spans.span-index c.span-item.result c.spans.definitions.items
      c.push.new.self.items c.in_ok-marker_definition.field-0 c.spans.marker (omega arith) c.span-item.is
      c.in_ok-push.ensures.items c.in_ok-marker_definition.ensures
      ∙ c.spans.invariant.rules;
  counted = omega (arith, c.spans.invariant.counted);
}
