use Rattle.std.proofs.Common.{◌≡◌, false, map, string_bytes, take}
use Rattle.peg_explain_files.specs.Progress.{Explains, progress_of}
use Rattle.peg_explain_files.specs.Tasks.{HasStart, IsMadeFor, setting_of}
use Rattle.peg_explain_files.proofs.task.explain_texts.Given as goal

-- the first texts are explained
abbrev pub invariant-texts : goal.invariant-texts
invariant-texts g l = record {
  made : IsMadeFor l.task l.run.explainer;
  works : g.W.Sink.failed l.output ≡ false;
  explained : HasStart l.task → Explains (setting_of (g.O.Opener.file_at l.task.files.now) l.task)
      (map string_bytes (take l.text-index l.texts))
      (progress_of (g.W.Sink.written l.initial.output) l.initial.run.ended)
      (progress_of (g.W.Sink.written l.output) l.run.ended);
}
