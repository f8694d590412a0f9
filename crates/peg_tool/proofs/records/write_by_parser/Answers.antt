use Rattle.std.proofs.Common.{◌∙◌, Option, ap, inr, map, string_bytes, subst}
use Rattle.std.specs.declared.io.ErrorKind.{ErrorKind}
use Rattle.peg_record_files.specs.Streams.{ArePresent}
use Rattle.peg_replies.specs.RecordReplies.{outcome_status}
use Rattle.peg_tool.specs.RecordFaults.{HasFaultOfRecords}
use Rattle.peg_tool.proofs.RecordsLemmas.{has-parse, present-end, records-by, records-end}
use Rattle.peg_tool.proofs.records.write_by_parser.Goals as goal

pub returns-clause-leads : goal.returns-clause-leads
returns-clause-leads g c file of =
    let ended = c.write_records-ended in
    inr (
      has-parse file c.args.parser.now of,
      present-end (ArePresent (g.O.Opener.file_at c.args.files.now) (map string_bytes c.args.query.now.texts.now))
          outcome_status ended.result _ c.status_or_fault.ensures.plain ended.ensures.present,
      λ streams are. (
        ended.result,
        records-by file c.args.parser.now c.session-session.result _ _ _ _ _ ended.result c.session-session.ensures.records
            c.session-session.ensures.parses of (ended.ensures.lines streams are),
        c.status_or_fault.ensures.plain,
      ),
    )

pub returns-clause-ends : goal.returns-clause-ends
returns-clause-ends g c =
    let ended = c.write_records-ended in
    let result = c.status_or_fault.result in
    let input = g.I.Source.fault_kind ended.new.input in
    let output = g.W.Sink.fault_kind ended.new.output in
    let half = subst (λ (kind : Option ErrorKind). HasFaultOfRecords ended.result kind c.fault_kind-2.result result)
    c.fault_kind.ensures.kind c.status_or_fault.ensures.fault in
    let has = subst (λ (kind : Option ErrorKind). HasFaultOfRecords ended.result input kind result)
    c.fault_kind-2.ensures.kind half in
    records-end outcome_status (g.O.Opener.file_at c.args.files.now) (map string_bytes c.args.query.now.texts.now)
    (g.I.Source.failed ended.new.input) (g.W.Sink.failed ended.new.output) input output ended.result result
    c.status_or_fault.ensures.plain has ended.ensures.text ended.ensures.input ended.ensures.output
    (λ some. ap g.I.Source.failed (ended.ensures.unread (λ same. some (ap (map string_bytes) same)))
    ∙ c.requires.input_works)

pub returns-clause-unread : goal.returns-clause-unread
returns-clause-unread g c some = c.write_records-ended.ensures.unread (λ same. some (ap (map string_bytes) same))
