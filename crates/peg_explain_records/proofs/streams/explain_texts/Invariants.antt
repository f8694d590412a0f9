use Rattle.std.proofs.Common.{◌≡◌, ℕ, List, Ok, Some, false, map, string_bytes, take}
use Rattle.peg_explain.specs.Explainers.{IsExplainerOf}
use Rattle.peg_io.specs.NamedFile.{bytes_of}
use Rattle.peg_parser.specs.Parser.{start_named}
use Rattle.peg_record_files.specs.Streams.{ArePresent}
use Rattle.peg_semantics.specs.Rules.{Rule}
use Rattle.peg_semantics.specs.Starts.{start_name}
use Rattle.peg_explain_records.specs.Questions.{question_of}
use Rattle.peg_explain_records.specs.RecordMessages.{WritesMessages, setting_of}
use Rattle.peg_explain_records.proofs.streams.explain_texts.Given as goal

-- the messages of the records of the first texts are written
abbrev pub invariant-texts : goal.invariant-texts
invariant-texts g l = record {
  same : l.input ≡ l.initial.input;
  works : g.W.Sink.failed l.output ≡ false;
  writes : (file : List ℕ) (rules : List Rule) (from : List ℕ) → IsExplainerOf file rules l.explainer
      → start_name rules (start_named l.query.options) ≡ Some from → (streams : List (List ℕ))
      → map (λ (name : List ℕ). bytes_of (g.O.Opener.file_at l.files name)) (map string_bytes (take l.index l.texts))
      ≡ map Some streams → WritesMessages (setting_of (question_of l.query) file rules)
      (map string_bytes (take l.index l.texts)) streams (g.W.Sink.written l.initial.output) (g.W.Sink.written l.output)
      (Ok l.worst);
  present : ArePresent (g.O.Opener.file_at l.files) (map string_bytes (take l.index l.texts));
}
