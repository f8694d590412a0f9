use Rattle.std.proofs.Common.{◌≡◌, ℕ, List, Some, length}
use Rattle.peg_records.specs.Readers.{IsAheadOf, rest_of}
use Rattle.peg_record_files.specs.RecordReplies.{ImpliesReply}
use Rattle.peg_record_files.specs.Runs.{AddsFirst, run_settings}
use Rattle.peg_record_files.proofs.run.RecordRun.push_records.Given as goal

-- the lines of the first records are added
abbrev pub invariant-records : goal.invariant-records
invariant-records g l = record {
  settings : run_settings l.self ≡ run_settings l.initial.self;
  printer : ImpliesReply (g.P.RecordPrinter.replies l.printer) (g.P.RecordPrinter.replies l.initial.printer);
  limit : g.P.RecordPrinter.max_bytes l.printer ≡ g.P.RecordPrinter.max_bytes l.initial.printer;
  first : (left : List ℕ) (ahead : List (List ℕ)) → IsAheadOf l.initial.self.reader left ahead
      → AddsFirst (g.P.RecordPrinter.replies l.initial.printer) l.filter l.initial.self.reader.end left ahead l.initial.self l.self
      (Some l.initial.self.lines.lines.items) (Some l.self.lines.lines.items);
}

abbrev pub decreases-records : goal.decreases-records
decreases-records g l = length (rest_of l.self.reader)
