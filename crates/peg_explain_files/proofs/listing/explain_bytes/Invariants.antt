use Rattle.std.proofs.Common.{◌≡◌, false, take}
use Rattle.peg_explain_files.specs.Listings.{ExplainsParts}
use Rattle.peg_explain_files.specs.Progress.{progress_of}
use Rattle.peg_explain_files.specs.Tasks.{HasStart, IsMadeFor, setting_of}
use Rattle.peg_explain_files.proofs.listing.explain_bytes.Given as goal

-- the names that end in the first bytes are explained
abbrev pub invariant-bytes : goal.invariant-bytes
invariant-bytes g l = record {
  made : IsMadeFor l.task l.run.explainer;
  works : g.W.Sink.failed l.output ≡ false;
  explained : HasStart l.task → ExplainsParts (setting_of (g.O.Opener.file_at l.task.files.now) l.task)
      (take l.byte-index l.bytes) l.initial.carried.items l.carried.items
      (progress_of (g.W.Sink.written l.initial.output) l.initial.run.ended)
      (progress_of (g.W.Sink.written l.output) l.run.ended);
}
