use Rattle.std.proofs.Common.{◌≡◌, ◌∙◌, ◌∷◌, ◌++◌, ◌+◌, ◌<◌, ℕ, List, [], ap, drop, get_or, length, map, string_bytes, subst, sym, take}
use Rattle.std.proofs.lemmas.List.{map-append, take-append-drop, take_more}
use Rattle.std.specs.declared.alloc.Global.{Global}
use Rattle.std.specs.declared.string.String.{String}
use Rattle.peg_explain_files.specs.Progress.{Explains, Leads, Stops, progress_of}
use Rattle.peg_explain_files.specs.Tasks.{setting_of}
use Rattle.peg_explain_files.proofs.ProgressLemmas.{Explains-none, Explains-trans, Stops-after, Stops-more, error-passed}
use Rattle.peg_explain_files.proofs.task.explain_texts.Goals as goal

-- one more name
names-more : (texts : List (String Global)) (i : ℕ) (text : String Global) (name : List ℕ) → i < length texts
    → text ≡ get_or texts i text → name ≡ string_bytes text
    → map string_bytes (take i texts) ++ name ∷ [] ≡ map string_bytes (take (i + 1) texts)
names-more texts i text name within is same =
    ap (λ (n : List ℕ). map string_bytes (take i texts) ++ n ∷ []) (same ∙ ap string_bytes is)
    ∙ (sym (map-append string_bytes (take i texts) (get_or texts i text ∷ []))
    ∙ ap (map string_bytes) (sym (take_more texts i text within)))

-- the names of all texts
names-all : (texts : List (String Global)) (n : ℕ)
    → map string_bytes (take n texts) ++ map string_bytes (drop n texts) ≡ map string_bytes texts
names-all texts n =
    sym (map-append string_bytes (take n texts) (drop n texts)) ∙ ap (map string_bytes) (take-append-drop n texts)

pub texts-init : goal.texts-init
texts-init g c = record {
  made = c.requires.made;
  works = c.requires.works;
  explained = λ start.
      Explains-none (setting_of (g.O.Opener.file_at c.args.task.now.files.now) c.args.task.now) _;
}

pub returns-in_err-explain_name-clause-leads : goal.returns-in_err-explain_name-clause-leads
returns-in_err-explain_name-clause-leads g c start =
    let setting = setting_of (g.O.Opener.file_at c.args.task.now.files.now) c.args.task.now in
    let a = progress_of (g.W.Sink.written c.args.output.now) c.args.run.now.ended in
    let b = progress_of (g.W.Sink.written c.explain_name.new.output) c.explain_name.new.run.ended in
    let texts = c.args.task.now.query.now.texts.now in
    let i = c.texts.text-index in
    let joined = Stops-after setting c.in_err-explain_name.field-0.0 (map string_bytes (take i texts))
    (c.as_bytes.result.now ∷ []) _ _ _ (c.texts.invariant.explained start) (c.in_err-explain_name.ensures.leads start) in
    let more = Stops-more setting c.in_err-explain_name.field-0.0 _ (map string_bytes (drop (i + 1) texts)) _ _ joined in
    error-passed (Leads setting (map string_bytes texts) a b) c.from_residual.result _ c.from_residual.ensures.1
    (subst (λ (l : List (List ℕ)). Stops setting c.in_err-explain_name.field-0.0 l a.written b.written)
    (ap (λ (l : List (List ℕ)). l ++ map string_bytes (drop (i + 1) texts))
    (names-more texts i c.text-item.result c.as_bytes.result.now c.texts-test.true c.text-item.is c.as_bytes.ensures.value)
    ∙ names-all texts (i + 1)) more)

pub texts-preserved : goal.texts-preserved
texts-preserved g c = record {
  made = c.in_ok-explain_name.ensures.made;
  works = c.in_ok-explain_name.ensures.failed;
  explained = λ start.
      let setting = setting_of (g.O.Opener.file_at c.args.task.now.files.now) c.args.task.now in
      let texts = c.args.task.now.query.now.texts.now in
      let a = progress_of (g.W.Sink.written c.args.output.now) c.args.run.now.ended in
      let b = progress_of (g.W.Sink.written c.explain_name.new.output) c.explain_name.new.run.ended in
      subst (λ (l : List (List ℕ)). Explains setting l a b)
      (names-more texts c.texts.text-index c.text-item.result c.as_bytes.result.now c.texts-test.true c.text-item.is
      c.as_bytes.ensures.value)
      (Explains-trans setting (map string_bytes (take c.texts.text-index texts)) (c.as_bytes.result.now ∷ []) _ _ _
      (c.texts.invariant.explained start) (c.in_ok-explain_name.ensures.leads start));
}
