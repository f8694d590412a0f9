use Rattle.std.proofs.Common.{map, string_bytes}
use Rattle.peg_tool.specs.Faults.{record_streams}
use Rattle.peg_tool.proofs.RecordsLemmas.{explained-among}
use Rattle.peg_tool.proofs.record_messages.explain_each_record.Goals as goal

pub returns-clause-named : goal.returns-clause-named
returns-clause-named g c =
    let ends = c.explain_to_end.ensures.ends in
    explained-among (record_streams (map string_bytes c.args.query.now.texts.now))
    (g.W.Sink.failed c.explain_to_end.new.output) _ c.explain_to_end.result ends.cause ends.output
