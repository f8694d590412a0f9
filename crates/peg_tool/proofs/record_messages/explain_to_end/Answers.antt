use Rattle.std.proofs.Common.{◌∙◌, Option, ap, map, string_bytes, subst}
use Rattle.std.specs.declared.io.ErrorKind.{ErrorKind}
use Rattle.peg_tool.specs.Explanations.{findings_of}
use Rattle.peg_tool.specs.RecordFaults.{HasFaultOfRecords}
use Rattle.peg_tool.proofs.RecordsLemmas.{records-end}
use Rattle.peg_tool.proofs.record_messages.explain_to_end.Goals as goal

pub returns-clause-leads : goal.returns-clause-leads
returns-clause-leads g c =
    (c.explain_records-ended.result, c.explain_records-ended.ensures.explained, c.findings_or_fault.ensures.plain)

pub returns-clause-ends : goal.returns-clause-ends
returns-clause-ends g c =
    let ended = c.explain_records-ended in
    let result = c.findings_or_fault.result in
    let input = g.I.Source.fault_kind ended.new.input in
    let output = g.W.Sink.fault_kind ended.new.output in
    let half = subst (λ (kind : Option ErrorKind). HasFaultOfRecords ended.result kind c.fault_kind-2.result result)
    c.fault_kind.ensures.kind c.findings_or_fault.ensures.fault in
    let has = subst (λ (kind : Option ErrorKind). HasFaultOfRecords ended.result input kind result)
    c.fault_kind-2.ensures.kind half in
    records-end findings_of (g.O.Opener.file_at c.args.files.now) (map string_bytes c.args.query.now.texts.now)
    (g.I.Source.failed ended.new.input) (g.W.Sink.failed ended.new.output) input output ended.result result
    c.findings_or_fault.ensures.plain has ended.ensures.text ended.ensures.input ended.ensures.output
    (λ some. ap g.I.Source.failed (ended.ensures.unread (λ same. some (ap (map string_bytes) same)))
    ∙ c.requires.input_works)

pub returns-clause-unread : goal.returns-clause-unread
returns-clause-unread g c some = c.explain_records-ended.ensures.unread (λ same. some (ap (map string_bytes) same))
