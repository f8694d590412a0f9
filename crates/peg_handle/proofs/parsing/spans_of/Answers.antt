use Rattle.std.proofs.Common.{◌∙◌}
use Rattle.peg_bytes.specs.Extent.{extent}
use Rattle.peg_parser.specs.Parser.{parser_rules}
use Rattle.peg_handle.proofs.SpanLemmas.{spans_more}
use Rattle.peg_handle.proofs.parsing.spans_of.Goals as goal

pub spans-preserved : goal.spans-preserved
spans-preserved c =
    c.in_ok-push.ensures.items
    ∙ spans_more (parser_rules c.args.parser.now) c.args.terminals.now c.spans.i (extent c.terminal_span-span.result)
    c.spans.spans.items c.spans-test.true c.terminal_span-span.ensures c.spans.invariant
