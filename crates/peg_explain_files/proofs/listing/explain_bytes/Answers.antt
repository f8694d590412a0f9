use Rattle.std.proofs.Common.{◌∙◌, ◌∷◌, ◌++◌, ◌+◌, ℕ, List, [], ap, drop, get_or, subst, sym, take}
use Rattle.std.proofs.lemmas.List.{take-append-drop, take_more}
use Rattle.peg_explain_files.specs.Listings.{ExplainsParts, LeadsByBytes, StopsInParts}
use Rattle.peg_explain_files.specs.Progress.{progress_of}
use Rattle.peg_explain_files.specs.Tasks.{setting_of}
use Rattle.peg_explain_files.proofs.PartLemmas.{parts-none, parts-stop_after, parts-stop_before, parts-trans}
use Rattle.peg_explain_files.proofs.ProgressLemmas.{error-passed}
use Rattle.peg_explain_files.proofs.listing.explain_bytes.Goals as goal

pub bytes-init : goal.bytes-init
bytes-init g c = record {
  made = c.requires.made;
  works = c.requires.works;
  explained = λ start. parts-none (setting_of (g.O.Opener.file_at c.args.task.now.files.now) c.args.task.now)
      c.args.carried.now.items _;
}

pub returns-in_err-explain_byte-clause-leads : goal.returns-in_err-explain_byte-clause-leads
returns-in_err-explain_byte-clause-leads g c start =
    let setting = setting_of (g.O.Opener.file_at c.args.task.now.files.now) c.args.task.now in
    let a = progress_of (g.W.Sink.written c.args.output.now) c.args.run.now.ended in
    let b = progress_of (g.W.Sink.written c.explain_byte.new.output) c.explain_byte.new.run.ended in
    let bytes = c.args.bytes.now in
    let i = c.bytes.byte-index in
    let joined = parts-stop_after setting c.in_err-explain_byte.field-0.0 (take i bytes) (get_or bytes i 0 ∷ []) _ _ _ _ _ (c.bytes.invariant.explained start)
    (c.in_err-explain_byte.ensures.leads start) in
    let more = parts-stop_before setting c.in_err-explain_byte.field-0.0 (take i bytes ++ get_or bytes i 0 ∷ []) (drop (i + 1) bytes) _ _ _ joined in
    error-passed (LeadsByBytes setting bytes _ _ _ _) c.from_residual.result _ c.from_residual.ensures.1
    (subst (λ (l : List ℕ). StopsInParts setting c.in_err-explain_byte.field-0.0 l c.args.carried.now.items a.written b.written)
    (ap (λ (l : List ℕ). l ++ drop (i + 1) bytes) (sym (take_more bytes i 0 c.bytes-test.true))
    ∙ take-append-drop (i + 1) bytes) more)

pub bytes-preserved : goal.bytes-preserved
bytes-preserved g c = record {
  made = c.in_ok-explain_byte.ensures.made;
  works = c.in_ok-explain_byte.ensures.failed;
  explained = λ start.
      let setting = setting_of (g.O.Opener.file_at c.args.task.now.files.now) c.args.task.now in
      let bytes = c.args.bytes.now in
      let a = progress_of (g.W.Sink.written c.args.output.now) c.args.run.now.ended in
      let b = progress_of (g.W.Sink.written c.explain_byte.new.output) c.explain_byte.new.run.ended in
      subst (λ (l : List ℕ). ExplainsParts setting l c.args.carried.now.items c.explain_byte.new.carried.items a b)
      (sym (take_more bytes c.bytes.byte-index 0 c.bytes-test.true))
      (parts-trans setting (take c.bytes.byte-index bytes) (get_or bytes c.bytes.byte-index 0 ∷ []) _ _ _ _ _ _ (c.bytes.invariant.explained start)
      (c.in_ok-explain_byte.ensures.leads start));
}
