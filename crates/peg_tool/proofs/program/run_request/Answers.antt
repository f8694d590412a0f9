use Rattle.std.proofs.Common.{IfErr, Ok, map, string_bytes, subst, ◌++◌, ◌≡◌, ◌∷◌, []}
use Rattle.std.specs.Result.{result_err}
use Rattle.peg_messages.specs.FileNames.{shown_name}
use Rattle.peg_tool.specs.CommandOutcome.{RequestOutcome}
use Rattle.peg_tool.specs.Faults.{IsFaultAmong, plain_result, record_streams, standard_output, stream_names}
use Rattle.peg_tool.specs.RequestContract.{EndsAs}
use Rattle.peg_tool.specs.Requests.{ToolRequest}
use Rattle.peg_tool.specs.declared.report.Report.TheVariants as report
use Rattle.peg_tool.proofs.CoverageLemmas.{at-among, first-among}
use Rattle.peg_tool.proofs.RecordCoverageLemmas.{cover-request-end}
use Rattle.peg_tool.proofs.RecordsLemmas.{explained-end, passed-fault, request-end}
use Rattle.peg_tool.proofs.ReportLemmas.{done-fault, done-status, found-fault, found-findings, passed-among}
use Rattle.peg_tool.proofs.program.run_request.Goals as goal

pub returns-in_err-on_input-in-Joined-clause-leads : goal.returns-in_err-on_input-in-Joined-clause-leads
returns-in_err-on_input-in-Joined-clause-leads g c =
    let passed = c.from_residual in
    subst (λ (r : ToolRequest). RequestOutcome r (g.O.Opener.file_at c.args.files.now) (g.I.Source.left c.args.input.now)
    (g.W.Sink.written c.args.output.now) (g.W.Sink.written c.on_input.new.output) (plain_result passed.result))
    c.in-Joined.ensures (
      plain_result c.on_input.result,
      c.on_input.ensures.leads,
      done-fault c.on_input.result _ passed.result c.in_err-on_input-in-Joined.was passed.ensures.1,
    )

pub returns-in_ok-on_input-in-Joined-clause-leads : goal.returns-in_ok-on_input-in-Joined-clause-leads
returns-in_ok-on_input-in-Joined-clause-leads g c =
    let it = report.Done c.in_ok-on_input-in-Joined.field-0 in
    subst (λ (r : ToolRequest). RequestOutcome r (g.O.Opener.file_at c.args.files.now) (g.I.Source.left c.args.input.now)
    (g.W.Sink.written c.args.output.now) (g.W.Sink.written c.on_input.new.output) (Ok it)) c.in-Joined.ensures (
      plain_result c.on_input.result,
      c.on_input.ensures.leads,
      done-status c.on_input.result _ c.in_ok-on_input-in-Joined.was,
    )

pub returns-in_err-on_file-in-OnFile-clause-leads : goal.returns-in_err-on_file-in-OnFile-clause-leads
returns-in_err-on_file-in-OnFile-clause-leads g c =
    let passed = c.from_residual-in_err-on_file-in-OnFile in
    subst (λ (r : ToolRequest). RequestOutcome r (g.O.Opener.file_at c.args.files.now) (g.I.Source.left c.args.input.now)
    (g.W.Sink.written c.args.output.now) (g.W.Sink.written c.on_file.new.output) (plain_result passed.result))
    c.in-OnFile.ensures (
      plain_result c.on_file.result,
      c.on_file.ensures.leads,
      done-fault c.on_file.result _ passed.result c.in_err-on_file-in-OnFile.was passed.ensures.1,
    )

pub returns-in_ok-on_file-in-OnFile-clause-leads : goal.returns-in_ok-on_file-in-OnFile-clause-leads
returns-in_ok-on_file-in-OnFile-clause-leads g c =
    let it = report.Done c.in_ok-on_file-in-OnFile.field-0 in
    subst (λ (r : ToolRequest). RequestOutcome r (g.O.Opener.file_at c.args.files.now) (g.I.Source.left c.args.input.now)
    (g.W.Sink.written c.args.output.now) (g.W.Sink.written c.on_file.new.output) (Ok it)) c.in-OnFile.ensures (
      plain_result c.on_file.result,
      c.on_file.ensures.leads,
      done-status c.on_file.result _ c.in_ok-on_file-in-OnFile.was,
    )

pub returns-in_err-lint-in-LintMessages-clause-leads : goal.returns-in_err-lint-in-LintMessages-clause-leads
returns-in_err-lint-in-LintMessages-clause-leads g c =
    let passed = c.from_residual-in_err-lint-in-LintMessages in
    subst (λ (r : ToolRequest). RequestOutcome r (g.O.Opener.file_at c.args.files.now) (g.I.Source.left c.args.input.now)
    (g.W.Sink.written c.args.output.now) (g.W.Sink.written c.lint.new.output) (plain_result passed.result))
    c.in-LintMessages.ensures (
      plain_result c.lint.result,
      c.lint.ensures.leads,
      found-fault c.lint.result _ passed.result c.in_err-lint-in-LintMessages.was passed.ensures.1,
    )

pub returns-in_ok-lint-in-LintMessages-clause-leads : goal.returns-in_ok-lint-in-LintMessages-clause-leads
returns-in_ok-lint-in-LintMessages-clause-leads g c =
    let it = report.Found c.in_ok-lint-in-LintMessages.field-0 in
    subst (λ (r : ToolRequest). RequestOutcome r (g.O.Opener.file_at c.args.files.now) (g.I.Source.left c.args.input.now)
    (g.W.Sink.written c.args.output.now) (g.W.Sink.written c.lint.new.output) (Ok it)) c.in-LintMessages.ensures (
      plain_result c.lint.result,
      c.lint.ensures.leads,
      found-findings c.lint.result _ c.in_ok-lint-in-LintMessages.was,
    )

pub returns-in_err-lint-in-LintMessages-clause-named : goal.returns-in_err-lint-in-LintMessages-clause-named
returns-in_err-lint-in-LintMessages-clause-named g c =
    let passed = c.from_residual-in_err-lint-in-LintMessages in
    subst (λ (r : ToolRequest). IfErr passed.result (IsFaultAmong (stream_names r))) c.in-LintMessages.ensures
    (passed-among (standard_output ∷ []) _ passed.result
    (at-among _ (standard_output ∷ []) standard_output _ c.in_err-lint-in-LintMessages.ensures.named
    (first-among standard_output [])) passed.ensures.1)

pub returns-in_err-on_files-in-OnFiles-clause-leads : goal.returns-in_err-on_files-in-OnFiles-clause-leads
returns-in_err-on_files-in-OnFiles-clause-leads g c =
    let passed = c.from_residual-in_err-on_files-in-OnFiles in
    subst (λ (r : ToolRequest). RequestOutcome r (g.O.Opener.file_at c.args.files.now) (g.I.Source.left c.args.input.now)
    (g.W.Sink.written c.args.output.now) (g.W.Sink.written c.on_files.new.output) (plain_result passed.result))
    c.in-OnFiles.ensures (
      plain_result c.on_files.result,
      c.on_files.ensures.leads,
      done-fault c.on_files.result _ passed.result c.in_err-on_files-in-OnFiles.was passed.ensures.1,
    )

pub returns-in_ok-on_files-in-OnFiles-clause-leads : goal.returns-in_ok-on_files-in-OnFiles-clause-leads
returns-in_ok-on_files-in-OnFiles-clause-leads g c =
    let it = report.Done c.in_ok-on_files-in-OnFiles.field-0 in
    subst (λ (r : ToolRequest). RequestOutcome r (g.O.Opener.file_at c.args.files.now) (g.I.Source.left c.args.input.now)
    (g.W.Sink.written c.args.output.now) (g.W.Sink.written c.on_files.new.output) (Ok it)) c.in-OnFiles.ensures (
      plain_result c.on_files.result,
      c.on_files.ensures.leads,
      done-status c.on_files.result _ c.in_ok-on_files-in-OnFiles.was,
    )

pub returns-in_err-explain-in-Explain-clause-leads : goal.returns-in_err-explain-in-Explain-clause-leads
returns-in_err-explain-in-Explain-clause-leads g c =
    let passed = c.from_residual-in_err-explain-in-Explain in
    subst (λ (r : ToolRequest). RequestOutcome r (g.O.Opener.file_at c.args.files.now) (g.I.Source.left c.args.input.now)
    (g.W.Sink.written c.args.output.now) (g.W.Sink.written c.explain.new.output) (plain_result passed.result))
    c.in-Explain.ensures (
      plain_result c.explain.result,
      c.explain.ensures.leads,
      found-fault c.explain.result _ passed.result c.in_err-explain-in-Explain.was passed.ensures.1,
    )

pub returns-in_ok-explain-in-Explain-clause-leads : goal.returns-in_ok-explain-in-Explain-clause-leads
returns-in_ok-explain-in-Explain-clause-leads g c =
    let it = report.Found c.in_ok-explain-in-Explain.field-0 in
    subst (λ (r : ToolRequest). RequestOutcome r (g.O.Opener.file_at c.args.files.now) (g.I.Source.left c.args.input.now)
    (g.W.Sink.written c.args.output.now) (g.W.Sink.written c.explain.new.output) (Ok it)) c.in-Explain.ensures (
      plain_result c.explain.result,
      c.explain.ensures.leads,
      found-findings c.explain.result _ c.in_ok-explain-in-Explain.was,
    )

pub returns-in_err-explain-in-Explain-clause-named : goal.returns-in_err-explain-in-Explain-clause-named
returns-in_err-explain-in-Explain-clause-named g c =
    let passed = c.from_residual-in_err-explain-in-Explain in
    subst (λ (r : ToolRequest). IfErr passed.result (IsFaultAmong (stream_names r))) c.in-Explain.ensures
    (passed-among (standard_output ∷ []) _ passed.result
    (at-among _ (standard_output ∷ []) standard_output _ c.in_err-explain-in-Explain.ensures.named
    (first-among standard_output [])) passed.ensures.1)

pub returns-in_err-explain_each_record-in-ExplainRecords-clause-leads :
    goal.returns-in_err-explain_each_record-in-ExplainRecords-clause-leads
returns-in_err-explain_each_record-in-ExplainRecords-clause-leads g c =
    let passed = c.from_residual-in_err-explain_each_record-in-ExplainRecords in
    subst (λ (r : ToolRequest). RequestOutcome r (g.O.Opener.file_at c.args.files.now) (g.I.Source.left c.args.input.now)
    (g.W.Sink.written c.args.output.now) (g.W.Sink.written c.explain_each_record.new.output) (plain_result passed.result))
    c.in-ExplainRecords.ensures (
      plain_result c.explain_each_record.result,
      c.explain_each_record.ensures.leads,
      found-fault c.explain_each_record.result _ passed.result c.in_err-explain_each_record-in-ExplainRecords.was
          passed.ensures.1,
    )

pub returns-in_ok-explain_each_record-in-ExplainRecords-clause-leads :
    goal.returns-in_ok-explain_each_record-in-ExplainRecords-clause-leads
returns-in_ok-explain_each_record-in-ExplainRecords-clause-leads g c =
    let it = report.Found c.in_ok-explain_each_record-in-ExplainRecords.field-0 in
    subst (λ (r : ToolRequest). RequestOutcome r (g.O.Opener.file_at c.args.files.now) (g.I.Source.left c.args.input.now)
    (g.W.Sink.written c.args.output.now) (g.W.Sink.written c.explain_each_record.new.output) (Ok it))
    c.in-ExplainRecords.ensures (
      plain_result c.explain_each_record.result,
      c.explain_each_record.ensures.leads,
      found-findings c.explain_each_record.result _ c.in_ok-explain_each_record-in-ExplainRecords.was,
    )

pub returns-in_err-explain_each_record-in-ExplainRecords-clause-ends :
    goal.returns-in_err-explain_each_record-in-ExplainRecords-clause-ends
returns-in_err-explain_each_record-in-ExplainRecords-clause-ends g c =
    let passed = c.from_residual-in_err-explain_each_record-in-ExplainRecords in
    let ended = c.explain_each_record in
    let holds = ended.ensures in
    let fault = result_err (plain_result passed.result) in
    subst (λ (r : ToolRequest). EndsAs r (g.O.Opener.file_at c.args.files.now) fault
    (g.I.Source.failed ended.new.input) (g.W.Sink.failed ended.new.output) (ended.new.input ≡ c.args.input.now)
    (ended.new.output ≡ c.args.output.now) (g.W.Sink.written c.args.output.now) (g.W.Sink.written ended.new.output))
    c.in-ExplainRecords.ensures
    (explained-end _ _ _ _ _ _ _ _ ended.result fault
    (passed-fault ended.result _ passed.result c.in_err-explain_each_record-in-ExplainRecords.was passed.ensures.1)
    holds.unread holds.device_fault holds.read_fault holds.write_fault)

pub returns-in_err-explain_each_record-in-ExplainRecords-clause-named :
    goal.returns-in_err-explain_each_record-in-ExplainRecords-clause-named
returns-in_err-explain_each_record-in-ExplainRecords-clause-named g c =
    let passed = c.from_residual-in_err-explain_each_record-in-ExplainRecords in
    let streams = record_streams (map string_bytes c.in-ExplainRecords.query.texts.now) in
    subst (λ (r : ToolRequest). IfErr passed.result (IsFaultAmong (stream_names r))) c.in-ExplainRecords.ensures
    (passed-among (streams ++ standard_output ∷ []) _ passed.result
    c.in_err-explain_each_record-in-ExplainRecords.ensures.named passed.ensures.1)

pub returns-in_err-test-in-Test-clause-leads : goal.returns-in_err-test-in-Test-clause-leads
returns-in_err-test-in-Test-clause-leads g c =
    let passed = c.from_residual-in_err-test-in-Test in
    subst (λ (r : ToolRequest). RequestOutcome r (g.O.Opener.file_at c.args.files.now) (g.I.Source.left c.args.input.now)
    (g.W.Sink.written c.args.output.now) (g.W.Sink.written c.test.new.output) (plain_result passed.result))
    c.in-Test.ensures (
      plain_result c.test.result,
      c.test.ensures.leads,
      found-fault c.test.result _ passed.result c.in_err-test-in-Test.was passed.ensures.1,
    )

pub returns-in_ok-test-in-Test-clause-leads : goal.returns-in_ok-test-in-Test-clause-leads
returns-in_ok-test-in-Test-clause-leads g c =
    let it = report.Found c.in_ok-test-in-Test.field-0 in
    subst (λ (r : ToolRequest). RequestOutcome r (g.O.Opener.file_at c.args.files.now) (g.I.Source.left c.args.input.now)
    (g.W.Sink.written c.args.output.now) (g.W.Sink.written c.test.new.output) (Ok it)) c.in-Test.ensures (
      plain_result c.test.result,
      c.test.ensures.leads,
      found-findings c.test.result _ c.in_ok-test-in-Test.was,
    )

pub returns-in_err-test-in-Test-clause-named : goal.returns-in_err-test-in-Test-clause-named
returns-in_err-test-in-Test-clause-named g c =
    let passed = c.from_residual-in_err-test-in-Test in
    subst (λ (r : ToolRequest). IfErr passed.result (IsFaultAmong (stream_names r))) c.in-Test.ensures
    (passed-among (standard_output ∷ []) _ passed.result
    (at-among _ (standard_output ∷ []) standard_output _ c.in_err-test-in-Test.ensures.named
    (first-among standard_output [])) passed.ensures.1)

pub returns-in_err-on_records-in-Records-clause-leads : goal.returns-in_err-on_records-in-Records-clause-leads
returns-in_err-on_records-in-Records-clause-leads g c =
    let passed = c.from_residual-in_err-on_records-in-Records in
    subst (λ (r : ToolRequest). RequestOutcome r (g.O.Opener.file_at c.args.files.now) (g.I.Source.left c.args.input.now)
    (g.W.Sink.written c.args.output.now) (g.W.Sink.written c.on_records.new.output) (plain_result passed.result))
    c.in-Records.ensures (
      plain_result c.on_records.result,
      c.on_records.ensures.leads,
      done-fault c.on_records.result _ passed.result c.in_err-on_records-in-Records.was passed.ensures.1,
    )

pub returns-in_ok-on_records-in-Records-clause-leads : goal.returns-in_ok-on_records-in-Records-clause-leads
returns-in_ok-on_records-in-Records-clause-leads g c =
    let it = report.Done c.in_ok-on_records-in-Records.field-0 in
    subst (λ (r : ToolRequest). RequestOutcome r (g.O.Opener.file_at c.args.files.now) (g.I.Source.left c.args.input.now)
    (g.W.Sink.written c.args.output.now) (g.W.Sink.written c.on_records.new.output) (Ok it)) c.in-Records.ensures (
      plain_result c.on_records.result,
      c.on_records.ensures.leads,
      done-status c.on_records.result _ c.in_ok-on_records-in-Records.was,
    )

pub returns-in_err-on_records-in-Records-clause-ends : goal.returns-in_err-on_records-in-Records-clause-ends
returns-in_err-on_records-in-Records-clause-ends g c =
    let passed = c.from_residual-in_err-on_records-in-Records in
    let ended = c.on_records in
    let holds = ended.ensures in
    let fault = result_err (plain_result passed.result) in
    subst (λ (r : ToolRequest). EndsAs r (g.O.Opener.file_at c.args.files.now) fault
    (g.I.Source.failed ended.new.input) (g.W.Sink.failed ended.new.output) (ended.new.input ≡ c.args.input.now)
    (ended.new.output ≡ c.args.output.now) (g.W.Sink.written c.args.output.now) (g.W.Sink.written ended.new.output))
    c.in-Records.ensures
    (request-end _ _ _ _ _ _ _ _ _ _ _ _ ended.result fault
    (passed-fault ended.result _ passed.result c.in_err-on_records-in-Records.was passed.ensures.1) holds.unread
    holds.no_grammar holds.device_fault holds.read_fault holds.write_fault)

pub returns-in_err-on_records-in-Records-clause-named : goal.returns-in_err-on_records-in-Records-clause-named
returns-in_err-on_records-in-Records-clause-named g c =
    let passed = c.from_residual-in_err-on_records-in-Records in
    let streams = record_streams (map string_bytes c.in-Records.parse.query.texts.now) in
    subst (λ (r : ToolRequest). IfErr passed.result (IsFaultAmong (stream_names r))) c.in-Records.ensures
    (passed-among (shown_name c.in-Records.g.now ∷ streams ++ standard_output ∷ []) _ passed.result
    c.in_err-on_records-in-Records.ensures.named passed.ensures.1)

pub returns-in_err-on_record_coverage-in-CoverRecords-clause-leads : goal.returns-in_err-on_record_coverage-in-CoverRecords-clause-leads
returns-in_err-on_record_coverage-in-CoverRecords-clause-leads g c =
    let passed = c.from_residual-in_err-on_record_coverage-in-CoverRecords in
    subst (λ (r : ToolRequest). RequestOutcome r (g.O.Opener.file_at c.args.files.now) (g.I.Source.left c.args.input.now)
    (g.W.Sink.written c.args.output.now) (g.W.Sink.written c.on_record_coverage.new.output) (plain_result passed.result))
    c.in-CoverRecords.ensures (
      plain_result c.on_record_coverage.result,
      c.on_record_coverage.ensures.leads,
      found-fault c.on_record_coverage.result _ passed.result c.in_err-on_record_coverage-in-CoverRecords.was
          passed.ensures.1,
    )

pub returns-in_ok-on_record_coverage-in-CoverRecords-clause-leads : goal.returns-in_ok-on_record_coverage-in-CoverRecords-clause-leads
returns-in_ok-on_record_coverage-in-CoverRecords-clause-leads g c =
    let it = report.Found c.in_ok-on_record_coverage-in-CoverRecords.field-0 in
    subst (λ (r : ToolRequest). RequestOutcome r (g.O.Opener.file_at c.args.files.now) (g.I.Source.left c.args.input.now)
    (g.W.Sink.written c.args.output.now) (g.W.Sink.written c.on_record_coverage.new.output) (Ok it))
    c.in-CoverRecords.ensures (
      plain_result c.on_record_coverage.result,
      c.on_record_coverage.ensures.leads,
      found-findings c.on_record_coverage.result _ c.in_ok-on_record_coverage-in-CoverRecords.was,
    )

pub returns-in_err-on_record_coverage-in-CoverRecords-clause-ends : goal.returns-in_err-on_record_coverage-in-CoverRecords-clause-ends
returns-in_err-on_record_coverage-in-CoverRecords-clause-ends g c =
    let passed = c.from_residual-in_err-on_record_coverage-in-CoverRecords in
    let ended = c.on_record_coverage in
    let holds = ended.ensures in
    let fault = result_err (plain_result passed.result) in
    subst (λ (r : ToolRequest). EndsAs r (g.O.Opener.file_at c.args.files.now) fault
    (g.I.Source.failed ended.new.input) (g.W.Sink.failed ended.new.output) (ended.new.input ≡ c.args.input.now)
    (ended.new.output ≡ c.args.output.now) (g.W.Sink.written c.args.output.now) (g.W.Sink.written ended.new.output))
    c.in-CoverRecords.ensures
    (cover-request-end _ _ _ _ _ _ _ _ _ ended.result fault
    (passed-fault ended.result _ passed.result c.in_err-on_record_coverage-in-CoverRecords.was passed.ensures.1)
    holds.unread holds.no_grammar holds.device_fault holds.read_fault holds.write_fault holds.memory)

pub returns-in_err-on_record_coverage-in-CoverRecords-clause-named : goal.returns-in_err-on_record_coverage-in-CoverRecords-clause-named
returns-in_err-on_record_coverage-in-CoverRecords-clause-named g c =
    let passed = c.from_residual-in_err-on_record_coverage-in-CoverRecords in
    let streams = record_streams (map string_bytes c.in-CoverRecords.query.texts.now) in
    subst (λ (r : ToolRequest). IfErr passed.result (IsFaultAmong (stream_names r))) c.in-CoverRecords.ensures
    (passed-among (shown_name c.in-CoverRecords.g.now ∷ streams ++ standard_output ∷ []) _ passed.result
    c.in_err-on_record_coverage-in-CoverRecords.ensures.named passed.ensures.1)
