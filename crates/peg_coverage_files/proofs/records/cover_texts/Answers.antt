use Rattle.std.proofs.Common.{◌∙◌, ℕ, All, List, IfSome, ap, map, refl, string_bytes, subst, sym, take}
use Rattle.std.proofs.lemmas.List.{take_all}
use Rattle.std.proofs.lemmas.List.Elements.{All-nil}
use Rattle.std.specs.declared.alloc.Global.{Global}
use Rattle.std.specs.declared.string.String.{String}
use Rattle.peg_io.specs.NamedFile.{bytes_of}
use Rattle.peg_records.specs.Records.{records}
use Rattle.peg_records.specs.declared.end.RecordEnd.{RecordEnd}
use Rattle.peg_record_files.proofs.StreamLemmas as streams
use Rattle.peg_coverage_files.specs.CoverRuns.{CoversMore}
use Rattle.peg_coverage_files.specs.RecordFaults.{HasShortRecords, IsFaultOfNamed, IsFaultOfTexts}
use Rattle.peg_coverage_files.proofs.CoveringLemmas.{names-more, refused-by}
use Rattle.peg_coverage_files.proofs.StreamLemmas.{texts-fault, texts-more, texts-none}
use Rattle.peg_coverage_files.proofs.records.cover_texts.Goals as goal

pub names-init : goal.names-init
names-init g c = record {
  settings = refl;
  size = refl;
  between = c.requires.between;
  covers = λ terms all of are. texts-none terms c.args.run.now.reader.end
      (λ (n : List ℕ). bytes_of (g.O.Opener.file_at c.args.files.now n)) c.args.run.now.covered all are;
  short = λ terms of.
      All-nil (λ (n : List ℕ). HasShortRecords c.args.run.now.reader.end (g.O.Opener.file_at c.args.files.now n));
}

pub names-preserved : goal.names-preserved
names-preserved g c =
    let file_at = g.O.Opener.file_at c.args.files.now in
    let texts = c.args.query.now.texts.now in
    let end = c.args.run.now.reader.end in
    let same = ap (λ s. s.0) c.names.invariant.settings in
    let i = c.names.name-index in
    let name = c.deref.result.now in
    let read = c.in_ok-cover_text.ensures in
    record {
      settings = read.settings ∙ c.names.invariant.settings;
      size = read.size ∙ c.names.invariant.size;
      between = read.between;
      covers = λ terms all of are.
          let f = λ (n : List ℕ). bytes_of (file_at n) in
          let more = subst (λ (e : RecordEnd). IfSome (f name) (λ stream.
          CoversMore terms (records e stream) c.names.run.covered c.cover_text.new.run.covered)) same (read.covers terms of) in
          texts-more terms end f (map string_bytes (take i texts)) name c.args.run.now.covered c.names.run.covered
          c.cover_text.new.run.covered (λ first at. c.names.invariant.covers terms first of at) more all
          (ap (map f) (sym (streams.names-more texts i c.name-item.result name c.names-test.true c.name-item.is
          c.deref.ensures)) ∙ are);
      short = λ terms of.
          let one = subst (λ (e : RecordEnd). HasShortRecords e (file_at name)) same (read.short terms of) in
          names-more (λ (n : List ℕ). HasShortRecords end (file_at n)) texts i c.name-item.result c.names-test.true
          c.name-item.is (c.names.invariant.short terms of)
          (subst (λ (n : List ℕ). HasShortRecords end (file_at n)) c.deref.ensures one);
    }

pub returns-in_err-cover_text-clause-refused : goal.returns-in_err-cover_text-clause-refused
returns-in_err-cover_text-clause-refused g c terms of =
    let file_at = g.O.Opener.file_at c.args.files.now in
    let texts = c.args.query.now.texts.now in
    let end = c.args.run.now.reader.end in
    let why = c.in_err-cover_text.field-0.0 in
    let fault = subst (λ (e : RecordEnd). IsFaultOfNamed e file_at c.deref.result.now why)
    (ap (λ s. s.0) c.names.invariant.settings) (c.in_err-cover_text.ensures.refused terms of) in
    refused-by c.from_residual.result why (IsFaultOfTexts end file_at (map string_bytes texts)) c.from_residual.ensures.1
    (texts-fault end file_at texts c.names.name-index c.name-item.result why c.names-test.true c.name-item.is
    (c.names.invariant.short terms of)
    (subst (λ (n : List ℕ). IsFaultOfNamed end file_at n why) c.deref.ensures fault))

pub returns-clause-covers : goal.returns-clause-covers
returns-clause-covers g c terms all of are =
    let f = λ (n : List ℕ). bytes_of (g.O.Opener.file_at c.args.files.now n) in
    c.names.invariant.covers terms all of
    (ap (λ l. map f (map string_bytes l)) (take_all c.names.name-index c.args.query.now.texts.now c.names-test.false) ∙ are)

pub returns-clause-short : goal.returns-clause-short
returns-clause-short g c terms of =
    let Short = λ (n : List ℕ). HasShortRecords c.args.run.now.reader.end (g.O.Opener.file_at c.args.files.now n) in
    subst (λ (l : List (String Global)). All Short (map string_bytes l))
    (take_all c.names.name-index c.args.query.now.texts.now c.names-test.false) (c.names.invariant.short terms of)
