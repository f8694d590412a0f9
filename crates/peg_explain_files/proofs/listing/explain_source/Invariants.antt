use Rattle.std.proofs.Common.{◌≡◌, ◌-◌, ◌<◌, ◌≤◌, ℕ, List, [], true, false, length}
use Rattle.std.specs.Io.KnownBytes.{Consumes}
use Rattle.peg_explain_files.specs.Listings.{ExplainsParts}
use Rattle.peg_explain_files.specs.Names.{max_list_bytes}
use Rattle.peg_explain_files.specs.Progress.{progress_of}
use Rattle.peg_explain_files.specs.Tasks.{HasStart, IsMadeFor, setting_of}
use Rattle.peg_explain_files.proofs.listing.explain_source.Given as goal

-- the names that end in the bytes read so far are explained
abbrev pub invariant-reads : goal.invariant-reads
invariant-reads g l = record {
  made : IsMadeFor l.task l.run.explainer;
  works : g.W.Sink.failed l.output ≡ false;
  not_failed : g.S.Source.failed l.list ≡ false;
  never : g.S.Source.never_fails l.initial.list ≡ true → g.S.Source.never_fails l.list ≡ true;
  within : l.read ≤ max_list_bytes;
  has_room : 0 < length l.piece;
  stream : List ℕ;
  consumed : Consumes (g.S.Source.left l.initial.list) (g.S.Source.left l.list) stream;
  counted : length stream ≡ l.read;
  explained : HasStart l.task → ExplainsParts (setting_of (g.O.Opener.file_at l.task.files.now) l.task) stream []
      l.carried.items (progress_of (g.W.Sink.written l.initial.output) l.initial.run.ended)
      (progress_of (g.W.Sink.written l.output) l.run.ended);
}

abbrev pub decreases-reads : goal.decreases-reads
decreases-reads g l = max_list_bytes - l.read
