use Rattle.std.proofs.Common.{subst, sym}
use Rattle.peg_explain_files.specs.Entries.{message_of}
use Rattle.peg_explain_files.specs.Printings.{printed_by}
use Rattle.peg_explain_files.specs.declared.printing.Printing.{Printing}
use Rattle.peg_explain_records.specs.RecordMessages.{IsRecordMessage, setting_of}
use Rattle.peg_explain_records.proofs.MessageLemmas.{record-message}
use Rattle.peg_explain_records.proofs.printer.RecordExplainerRecordPrinter.push_line.Goals as goal

pub returns-clause-line : goal.returns-clause-line
returns-clause-line c text is_given =
    let by = c.args.self.now in
    let reported = c.in_ok-report.report in (
      printed_by c.printing_at-printing.result (message_of by.name.now reported),
      λ file rules from question of is asked.
          subst (λ (p : Printing). IsRecordMessage (setting_of question file rules) by.name.now c.args.place text
          (printed_by p (message_of by.name.now reported)) c.outcome_of-outcome.result) (sym c.printing_at-printing.ensures)
          (record-message by question file rules c.args.place c.args.given.now text
          reported c.outcome_of-outcome.result asked by.shown is_given
          (λ over. c.in_ok-report.ensures.long file rules of from is over)
          (c.in_ok-report.ensures.report file rules of from is) c.outcome_of-outcome.ensures),
      c.in_ok-push_message.ensures,
    )
