use Rattle.std.proofs.Common.{◌∙◌, ◌+◌, ℕ, List, IfSome, ap, arith, drop, map, refl, string_bytes, subst, sym, take}
use Rattle.std.proofs.lemmas.Grind.{common_steps}
use Rattle.std.proofs.lemmas.List.{take_all}
use Rattle.std.proofs.lemmas.List.Elements.{All-nil, All-push}
use Rattle.std.specs.List.{flat_map}
use Rattle.std.specs.declared.alloc.Global.{Global}
use Rattle.std.specs.declared.string.String.{String}
use Rattle.peg_io.specs.NamedFile.{IsMissing, bytes_of}
use Rattle.peg_records.specs.Records.{records}
use Rattle.peg_record_files.specs.Runs.{AddsPart, AddsReplies}
use Rattle.peg_record_files.specs.Streams.{ArePresent}
use Rattle.peg_record_files.proofs.FileLemmas.{leads-error, texts-added, texts-none, texts-part}
use Rattle.peg_record_files.proofs.StreamLemmas.{if-known, names-around, names-more}
use Rattle.peg_record_files.proofs.WeakerReplies.{adds-part-weaker, adds-weaker}
use Rattle.peg_record_files.proofs.files.write_texts.Goals as goal

pub names-init : goal.names-init
names-init g c = record {
  settings = refl;
  printer = λ place text line outcome is. is;
  limit = c.requires.limit;
  between = c.requires.between;
  works = c.requires.works;
  adds = λ streams are. texts-none (g.P.RecordPrinter.replies c.args.printer.now) c.args.query.now.filter
      c.args.run.now.reader.end (λ (n : List ℕ). bytes_of (g.O.Opener.file_at c.args.files.now n)) c.args.run.now.lines
      (g.W.Sink.written c.args.output.now) streams are;
  present = All-nil (λ (n : List ℕ). ¬ IsMissing (g.O.Opener.file_at c.args.files.now n));
}

pub names-preserved : goal.names-preserved
names-preserved g c = record {
  settings = c.in_ok-write_text.ensures.settings ∙ c.names.invariant.settings;
  printer = λ place text line outcome is. c.names.invariant.printer place text line outcome
      (c.write_text.ensures.printer place text line outcome is);
  limit = ap (λ s. s.1) c.in_ok-write_text.ensures.settings ∙ (c.names.invariant.limit ∙ sym c.write_text.ensures.limit);
  between = c.in_ok-write_text.ensures.between;
  works = grind (arith, common_steps);
  adds = λ streams are.
      let IsReply = g.P.RecordPrinter.replies c.args.printer.now in
      let filter = c.args.query.now.filter in
      let f = λ (n : List ℕ). bytes_of (g.O.Opener.file_at c.args.files.now n) in
      let texts = c.args.query.now.texts.now in
      let i = c.names.name-index in
      let name = c.deref.result.now in
      let old = g.W.Sink.written c.args.output.now in
      let mid = g.W.Sink.written c.names.output in
      let new = g.W.Sink.written c.write_text.new.output in
      let more = subst (λ e. IfSome (f name) (λ stream.
      AddsReplies IsReply filter e (records e stream) c.names.run.lines c.write_text.new.run.lines mid new))
      (ap (λ s. s.0) c.names.invariant.settings)
      (if-known (f name) _ _ c.in_ok-write_text.ensures.leads (λ stream. adds-weaker _ IsReply filter
      c.names.run.reader.end c.names.invariant.printer (records c.names.run.reader.end stream) c.names.run.lines
      c.write_text.new.run.lines mid new)) in
      texts-added IsReply filter c.args.run.now.reader.end f (map string_bytes (take i texts)) name c.args.run.now.lines
      c.names.run.lines c.write_text.new.run.lines old mid new c.names.invariant.adds more streams
      (ap (map f) (sym (names-more texts i c.name-item.result name c.names-test.true c.name-item.is c.deref.ensures)) ∙ are);
  present =
      let file_at = g.O.Opener.file_at c.args.files.now in
      let texts = c.args.query.now.texts.now in
      let i = c.names.name-index in
      let name = c.deref.result.now in
      subst (ArePresent file_at)
      (sym (names-more texts i c.name-item.result name c.names-test.true c.name-item.is c.deref.ensures))
      (All-push (λ (n : List ℕ). ¬ IsMissing (file_at n)) (map string_bytes (take i texts)) name c.names.invariant.present
      c.in_ok-write_text.ensures.present);
}

pub returns-in_err-write_text-clause-leads : goal.returns-in_err-write_text-clause-leads
returns-in_err-write_text-clause-leads g c streams are =
    let IsReply = g.P.RecordPrinter.replies c.args.printer.now in
    let filter = c.args.query.now.filter in
    let end = c.args.run.now.reader.end in
    let f = λ (n : List ℕ). bytes_of (g.O.Opener.file_at c.args.files.now n) in
    let texts = c.args.query.now.texts.now in
    let i = c.names.name-index in
    let name = c.deref.result.now in
    let old = g.W.Sink.written c.args.output.now in
    let mid = g.W.Sink.written c.names.output in
    let new = g.W.Sink.written c.write_text.new.output in
    let more = subst (λ e. IfSome (f name) (λ stream. AddsPart IsReply filter e c.names.run.lines.place (records e stream) mid new))
    (ap (λ s. s.0) c.names.invariant.settings)
    (if-known (f name) _ _ c.in_err-write_text.ensures.leads (λ stream. adds-part-weaker _ IsReply filter
    c.names.run.reader.end c.names.invariant.printer c.names.run.lines.place
    (records c.names.run.reader.end stream) mid new)) in
    leads-error IsReply filter end (flat_map (records end) streams) c.args.run.now c.write_text.new.run old new c.in_err-write_text.field-0.0
    c.from_residual.result c.from_residual.ensures.1
    (texts-part IsReply filter end f (map string_bytes (take i texts)) (map string_bytes (drop (i + 1) texts)) name
    c.args.run.now.lines c.names.run.lines old mid new c.names.invariant.adds more streams
    (ap (map f) (names-around texts i c.name-item.result name c.names-test.true c.name-item.is c.deref.ensures) ∙ are))

pub returns-clause-leads : goal.returns-clause-leads
returns-clause-leads g c streams are =
    let f = λ (n : List ℕ). bytes_of (g.O.Opener.file_at c.args.files.now n) in
    c.names.invariant.adds streams
    (ap (λ l. map f (map string_bytes l)) (take_all c.names.name-index c.args.query.now.texts.now c.names-test.false) ∙ are)

pub returns-clause-present : goal.returns-clause-present
returns-clause-present g c =
    subst (λ (l : List (String Global)). ArePresent (g.O.Opener.file_at c.args.files.now) (map string_bytes l))
    (take_all c.names.name-index c.args.query.now.texts.now c.names-test.false) c.names.invariant.present
