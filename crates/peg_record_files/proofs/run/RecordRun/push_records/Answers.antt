use Rattle.std.proofs.Common.{◌∙◌, ◌∷◌, ℕ, List, [], Some, ap, refl, subst, sym}
use Rattle.peg_records.specs.Ahead.{IsGivenFor}
use Rattle.peg_records.specs.Readers.{HasNext, record_at}
use Rattle.peg_records.specs.Records.{line_feeds_of}
use Rattle.peg_record_files.proofs.RunLemmas.{first-more, first-none, first-read}
use Rattle.peg_record_files.proofs.WeakerReplies.{adds-weaker}
use Rattle.peg_record_files.proofs.run.RecordRun.push_records.Goals as goal

pub records-init : goal.records-init
records-init g c = record {
  settings = refl;
  printer = λ place text line outcome is. is;
  limit = refl;
  first = λ left ahead before. first-none (g.P.RecordPrinter.replies c.args.printer.now) c.args.filter c.args.self.now.reader.end left ahead
      c.args.self.now (Some c.args.self.now.lines.lines.items) before;
}

pub records-preserved : goal.records-preserved
records-preserved g c = record {
  settings = c.next.ensures.settings ∙ c.records.invariant.settings;
  printer = λ place text line outcome is. c.records.invariant.printer place text line outcome
      (c.push.ensures.printer place text line outcome is);
  limit = c.push.ensures.limit ∙ c.records.invariant.limit;
  first = λ left ahead before.
      let IsReply = g.P.RecordPrinter.replies c.args.printer.now in
      let reader = c.next.new.self in
      let done = c.records.invariant.first left ahead before in
      let next = subst (λ found. HasNext found reader left done.later) c.records-test.true
      (c.next.ensures.next left done.later done.rest) in
      let limit = ap (λ s. s.1) (c.next.ensures.settings ∙ c.records.invariant.settings)
      ∙ (c.requires ∙ sym c.records.invariant.limit) in
      let given = subst (λ n. IsGivenFor n (record_at reader) next.0) limit next.3 in
      let end = ap (λ s. s.0) (c.next.ensures.settings ∙ c.records.invariant.settings) in
      let feeds = c.line_feeds-line_feeds.ensures ∙ (next.5 ∙ ap (λ e. line_feeds_of e next.0) end) in
      let pushed = adds-weaker _ IsReply c.args.filter c.args.self.now.reader.end c.records.invariant.printer (next.0 ∷ [])
      c.records.self.lines c.push.new.self (Some c.records.self.lines.lines.items) (Some c.push.new.self.lines.items)
      (c.in_ok-push.ensures.line c.args.self.now.reader.end next.0 (subst (λ (l : List ℕ).
      IsGivenFor (g.P.RecordPrinter.max_bytes c.records.printer) l next.0) (sym c.record.ensures) given) feeds) in
      first-more IsReply c.args.filter c.args.self.now.reader.end left left ahead (next.0 ∷ []) next.1 c.args.self.now c.records.self
      record { reader = reader; lines = c.push.new.self } (Some c.args.self.now.lines.lines.items)
      (Some c.records.self.lines.lines.items) (Some c.push.new.self.lines.items) done next.2 pushed next.4;
}

pub returns-clause-first : goal.returns-clause-first
returns-clause-first g c left ahead before =
    let done = c.records.invariant.first left ahead before in
    let none = subst (λ found. HasNext found c.next.new.self left done.later) c.records-test.false
    (c.next.ensures.next left done.later done.rest) in
    first-read (g.P.RecordPrinter.replies c.args.printer.now) c.args.filter c.args.self.now.reader.end left left ahead c.args.self.now c.records.self
    record { reader = c.next.new.self; lines = c.records.self.lines } (Some c.args.self.now.lines.lines.items)
    (Some c.records.self.lines.lines.items) done refl none
