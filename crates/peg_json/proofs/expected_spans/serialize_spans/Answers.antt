use Rattle.std.proofs.Common.{length, map, arith}
use Rattle.std.proofs.lemmas.Result.{on_ok_weaker}
use Rattle.peg_bytes.specs.Extent.{extent}
use Rattle.peg_parser.specs.Parser.{parser_rules}
use Rattle.peg_tree.proofs.Sent.{array-sent, item-sent}
use Rattle.peg_json.specs.Parses.{extents_at}
use Rattle.peg_listings.specs.Extents.{extent_data}
use Rattle.peg_json.proofs.AnswerLemmas.{length-places, place_at}
use Rattle.peg_json.proofs.expected_spans.serialize_spans.Goals as goal

pub loop-terminal-preserved : goal.loop-terminal-preserved
loop-terminal-preserved g c last rest =
    let rules = parser_rules c.args.parser.now in
    let terminals = c.args.terminals.now in
    let place = extent c.terminal_span.result in
    c.loop-terminal.invariant last (item-sent (map extent_data (extents_at rules terminals)) c.loop-terminal.terminal-index
    (extent_data place) (extent_data place) (omega (arith, length-places rules terminals, c.loop-terminal-test.true))
    (place_at rules terminals c.loop-terminal.terminal-index place c.loop-terminal-test.true c.terminal_span.ensures)
    (g.S.Serializer.written c.loop-terminal.out) (g.S.Serializer.written c.serialize_span.new.out) last
    c.in_ok-serialize_span.ensures rest)

pub returns : goal.returns
returns g c =
    let rules = parser_rules c.args.parser.now in
    let terminals = c.args.terminals.now in
    on_ok_weaker c.end_seq.result (λ e. array-sent (map extent_data (extents_at rules terminals)) c.loop-terminal.terminal-index
    (length terminals) (omega (arith, length-places rules terminals, c.loop-terminal-test.false))
    (omega (arith, length-places rules terminals))
    (g.S.Serializer.written c.args.out.now) (g.S.Serializer.written c.begin_seq.new.self)
    (g.S.Serializer.written c.loop-terminal.out) (g.S.Serializer.written c.end_seq.new.self)
    c.in_ok-begin_seq.ensures c.loop-terminal.invariant e) c.end_seq.ensures
