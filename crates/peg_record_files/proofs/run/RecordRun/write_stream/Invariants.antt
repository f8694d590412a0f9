use Rattle.std.proofs.Common.{◌≡◌, ℕ, List, [], IfSome, Some, false, true}
use Rattle.peg_records.specs.Readers.{rest_of}
use Rattle.peg_records.specs.Records.{records}
use Rattle.peg_record_files.specs.RecordReplies.{ImpliesReply}
use Rattle.peg_record_files.specs.Runs.{AddsFirst, run_settings}
use Rattle.peg_record_files.proofs.run.RecordRun.write_stream.Given as goal

-- what is written for the records of the blocks read so far is added, and the others are ahead
abbrev pub invariant-blocks-2 : goal.invariant-blocks-2
invariant-blocks-2 g l = record {
  settings : run_settings l.self ≡ run_settings l.initial.self;
  printer : ImpliesReply (g.P.RecordPrinter.replies l.printer) (g.P.RecordPrinter.replies l.initial.printer);
  limit : g.P.RecordPrinter.max_bytes l.printer ≡ g.P.RecordPrinter.max_bytes l.initial.printer;
  reads : g.S.Source.failed l.input ≡ false;
  works : g.W.Sink.failed l.output ≡ false;
  never : g.S.Source.never_fails l.initial.input ≡ true → g.S.Source.never_fails l.input ≡ true;
  nothing : rest_of l.self.reader ≡ [];
  none : l.self.lines.lines.items ≡ [];
  first : IfSome (g.S.Source.left l.initial.input) (λ stream. (left : List ℕ) × (g.S.Source.left l.input ≡ Some left)
      × AddsFirst (g.P.RecordPrinter.replies l.initial.printer) l.filter l.initial.self.reader.end left (records l.initial.self.reader.end stream)
      l.initial.self l.self (g.W.Sink.written l.initial.output) (g.W.Sink.written l.output));
}
