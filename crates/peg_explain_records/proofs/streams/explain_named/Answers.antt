use Rattle.std.proofs.Common.{ℕ, List, refl, sym}
use Rattle.std.specs.List.{flat_map}
use Rattle.peg_record_files.proofs.FileLemmas.{writes-none}
use Rattle.peg_record_files.proofs.WeakerReplies.{writes-weaker}
use Rattle.peg_record_files.specs.declared.fault.RecordsFault.TheVariants.{Memory}
use Rattle.peg_record_files.specs.declared.filter.RecordFilter.TheVariants.{All}
use Rattle.peg_records.specs.Records.{records}
use Rattle.peg_explain_records.specs.Questions.{question_of}
use Rattle.peg_explain_records.specs.RecordMessages.{IsRecordMessage, setting_of}
use Rattle.peg_explain_records.proofs.streams.explain_named.Goals as goal

pub returns-in_err-called-clause-messages : goal.returns-in_err-called-clause-messages
returns-in_err-called-clause-messages g c file rules from of is streams are =
    let query = c.args.query.now in
    writes-none (IsRecordMessage (setting_of (question_of query) file rules) c.args.name.now) All query.end
    (flat_map (records query.end) streams) (g.W.Sink.written c.args.output.now) Memory c.from_residual.result
    c.from_residual.ensures.1

pub returns-clause-messages : goal.returns-clause-messages
returns-clause-messages g c file rules from of is streams are =
    let query = c.args.query.now in
    let question = question_of query in
    writes-weaker _ (IsRecordMessage (setting_of question file rules) c.args.name.now) All query.end
    (λ place text line outcome reply. reply file rules from question of is record {
      start = refl;
      memo = refl;
      steps = refl;
      style = sym c.requires.styled;
      printing = refl;
      max_errors = refl;
    })
    (flat_map (records query.end) streams) (g.W.Sink.written c.args.output.now) (g.W.Sink.written c.write_records.new.output)
    c.write_records.result (c.write_records.ensures.lines streams are)
