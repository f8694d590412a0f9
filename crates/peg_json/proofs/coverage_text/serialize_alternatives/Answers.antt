use Rattle.std.proofs.Common.{arith, length, map, subst}
use Rattle.std.proofs.lemmas.Result.{on_ok_weaker}
use Rattle.serde_json.specs.Events.{SendsValue}
use Rattle.peg_coverage.specs.Unused.{alternative_use}
use Rattle.peg_tree.proofs.Sent.{array-sent, item-sent}
use Rattle.peg_json.specs.CoverageText.{alternative_data}
use Rattle.peg_json.proofs.CoverageLemmas.{alternative-is, length-twice_mapped, twice-mapped}
use Rattle.peg_json.proofs.coverage_text.serialize_alternatives.Goals as goal

pub loop-unused-init : goal.loop-unused-init
loop-unused-init g c = record {
  placed = c.first_position-position.ensures.position c.args.file.now;
  sent = λ last rest. rest;
}

pub loop-unused-preserved : goal.loop-unused-preserved
loop-unused-preserved g c =
    let file = c.args.file.now in
    let spans = c.args.alternatives.now in
    let print = alternative_data file in
    let at = c.loop-unused.unused-index in
    let unused = c.unused-item.result in
    let shown = print (alternative_use unused) in
    let old = g.S.Serializer.written c.loop-unused.out in
    let mid = g.S.Serializer.written c.serialize_alternative.new.out in
    let here = twice-mapped print alternative_use spans at unused unused c.loop-unused-test.true c.unused-item.is in
    let same = alternative-is file unused.span unused.tried c.position_from-position.result c.position_from-position.ensures.position
    c.position_from-position.ensures.at in
    record {
      placed = c.position_from-position.ensures.position;
      sent = λ last rest. c.loop-unused.invariant.sent last (item-sent (map print (map alternative_use spans)) at shown shown
          (omega (arith, length-twice_mapped print alternative_use spans, c.loop-unused-test.true)) here old mid last
          (subst (λ value. SendsValue value old mid) same c.in_ok-serialize_alternative.ensures) rest);
    }

pub returns : goal.returns
returns g c =
    let spans = c.args.alternatives.now in
    let print = alternative_data c.args.file.now in
    let count = length-twice_mapped print alternative_use spans in
    on_ok_weaker c.end_seq.result (λ e. array-sent (map print (map alternative_use spans)) c.loop-unused.unused-index (length spans)
    (omega (arith, count, c.loop-unused-test.false)) (omega (arith, count))
    (g.S.Serializer.written c.args.out.now) (g.S.Serializer.written c.begin_seq.new.self)
    (g.S.Serializer.written c.loop-unused.out) (g.S.Serializer.written c.end_seq.new.self)
    c.in_ok-begin_seq.ensures c.loop-unused.invariant.sent e) c.end_seq.ensures
