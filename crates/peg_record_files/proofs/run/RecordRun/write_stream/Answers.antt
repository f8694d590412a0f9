use Rattle.std.proofs.Common.{◌≡◌, ◌∙◌, ℕ, List, [], Some, ap, false, arith, refl, subst}
use Rattle.std.proofs.lemmas.Grind.{common_steps}
use Rattle.peg_records.specs.Readers.{IsAheadOf}
use Rattle.peg_records.specs.Records.{records}
use Rattle.peg_record_files.specs.Faults.{read_fault}
use Rattle.peg_record_files.specs.Runs.{AddsFirst, AddsPart, LeadsTo}
use Rattle.peg_record_files.specs.declared.run.RecordRun.{RecordRun}
use Rattle.peg_record_files.proofs.RunLemmas.{first-as-part, first-none, first-part, first-trans-read, leads-in-part, leads-last-read}
use Rattle.peg_record_files.proofs.StreamLemmas.{if-known, known, read-on, some-self}
use Rattle.peg_record_files.proofs.WeakerReplies.{adds-first-weaker, adds-part-weaker, leads-weaker}
use Rattle.peg_record_files.proofs.run.RecordRun.write_stream.Goals as goal

pub blocks-2-init : goal.blocks-2-init
blocks-2-init g c =
    let run = c.args.self.now in
    let IsReply = g.P.RecordPrinter.replies c.args.printer.now in
    let written = g.W.Sink.written c.args.output.now in
    record {
      settings = refl;
      printer = λ place text line outcome is. is;
      limit = refl;
      reads = c.requires.reads;
      works = c.requires.works;
      never = λ sure. sure;
      nothing = c.requires.between.nothing;
      none = c.requires.between.none;
      first = some-self (g.S.Source.left c.args.input.now)
          (λ stream left. AddsFirst IsReply c.args.filter c.args.self.now.reader.end left (records run.reader.end stream) run run written written)
          (λ stream. first-none IsReply c.args.filter c.args.self.now.reader.end stream (records run.reader.end stream) run written
          (c.requires.between.ready stream));
    }

pub returns-in_err-read_block-clause-leads : goal.returns-in_err-read_block-clause-leads
returns-in_err-read_block-clause-leads g c =
    let run = c.args.self.now in
    let mid : RecordRun = record { reader = c.read_block.new.self; lines = c.blocks-2.self.lines } in
    let IsReply = g.P.RecordPrinter.replies c.args.printer.now in
    let SoFar = λ (stream : List ℕ). (left : List ℕ) × (g.S.Source.left c.blocks-2.input ≡ Some left)
    × AddsFirst IsReply c.args.filter c.args.self.now.reader.end left (records run.reader.end stream) run c.blocks-2.self
    (g.W.Sink.written c.args.output.now) (g.W.Sink.written c.blocks-2.output) in
    if-known (g.S.Source.left c.args.input.now) SoFar _ c.blocks-2.invariant.first (λ stream so_far.
    leads-in-part IsReply c.args.filter c.args.self.now.reader.end (records run.reader.end stream) run mid (g.W.Sink.written c.args.output.now)
    (g.W.Sink.written c.blocks-2.output) (read_fault c.in_err-read_block.field-0.0) c.from_residual.result
    c.from_residual.ensures.1 (first-as-part IsReply c.args.filter c.args.self.now.reader.end so_far.0 (records run.reader.end stream) run
    c.blocks-2.self (g.W.Sink.written c.args.output.now) (g.W.Sink.written c.blocks-2.output) so_far.2))

pub returns-then-not-branch-clause-leads : goal.returns-then-not-branch-clause-leads
returns-then-not-branch-clause-leads g c =
    let run = c.args.self.now in
    let mid : RecordRun = record { reader = c.read_block.new.self; lines = c.blocks-2.self.lines } in
    let IsReply = g.P.RecordPrinter.replies c.args.printer.now in
    let over : c.in_ok-read_block.field-0 ≡ false = grind (arith, common_steps) in
    let SoFar = λ (stream : List ℕ). (left : List ℕ) × (g.S.Source.left c.blocks-2.input ≡ Some left)
    × AddsFirst IsReply c.args.filter c.args.self.now.reader.end left (records run.reader.end stream) run c.blocks-2.self
    (g.W.Sink.written c.args.output.now) (g.W.Sink.written c.blocks-2.output) in
    if-known (g.S.Source.left c.args.input.now) SoFar _ c.blocks-2.invariant.first (λ stream so_far.
    let done = so_far.2 in
    let read = read-on (g.S.Source.left c.blocks-2.input) (g.S.Source.left c.read_block.new.input) so_far.0
    c.blocks-2.self.reader c.read_block.new.self done.later so_far.1 c.in_ok-read_block.ensures.ahead done.rest in
    let none : read.0 ≡ [] = known (g.S.Source.left c.read_block.new.input) read.0 (λ (l : List ℕ). l ≡ []) read.1
    (c.in_ok-read_block.ensures.end over).1 in
    let ahead = subst (λ (l : List ℕ). IsAheadOf c.read_block.new.self l done.later) none read.2 in
    leads-last-read IsReply c.args.filter c.args.self.now.reader.end so_far.0 (records run.reader.end stream) run c.blocks-2.self mid
    c.write_last.new.self (g.W.Sink.written c.args.output.now) (g.W.Sink.written c.blocks-2.output)
    (g.W.Sink.written c.write_last.new.output) c.write_last.result done refl
    (subst (λ e. LeadsTo IsReply c.args.filter e done.later mid c.write_last.new.self
    (g.W.Sink.written c.blocks-2.output) (g.W.Sink.written c.write_last.new.output) c.write_last.result)
    (ap (λ s. s.0) (c.in_ok-read_block.ensures.settings ∙ c.blocks-2.invariant.settings))
    (leads-weaker _ IsReply c.args.filter mid.reader.end c.blocks-2.invariant.printer done.later mid c.write_last.new.self
    (g.W.Sink.written c.blocks-2.output) (g.W.Sink.written c.write_last.new.output) c.write_last.result
    (c.write_last.ensures.leads done.later ahead))))

pub returns-in_err-write_block-clause-leads : goal.returns-in_err-write_block-clause-leads
returns-in_err-write_block-clause-leads g c =
    let run = c.args.self.now in
    let mid : RecordRun = record { reader = c.read_block.new.self; lines = c.blocks-2.self.lines } in
    let IsReply = g.P.RecordPrinter.replies c.args.printer.now in
    let SoFar = λ (stream : List ℕ). (left : List ℕ) × (g.S.Source.left c.blocks-2.input ≡ Some left)
    × AddsFirst IsReply c.args.filter c.args.self.now.reader.end left (records run.reader.end stream) run c.blocks-2.self
    (g.W.Sink.written c.args.output.now) (g.W.Sink.written c.blocks-2.output) in
    if-known (g.S.Source.left c.args.input.now) SoFar _ c.blocks-2.invariant.first (λ stream so_far.
    let done = so_far.2 in
    let read = read-on (g.S.Source.left c.blocks-2.input) (g.S.Source.left c.read_block.new.input) so_far.0
    c.blocks-2.self.reader c.read_block.new.self done.later so_far.1 c.in_ok-read_block.ensures.ahead done.rest in
    leads-in-part IsReply c.args.filter c.args.self.now.reader.end (records run.reader.end stream) run c.write_block.new.self
    (g.W.Sink.written c.args.output.now) (g.W.Sink.written c.write_block.new.output)
    c.in_err-write_block.field-0.0 c.from_residual-in_err-write_block.result
    c.from_residual-in_err-write_block.ensures.1
    (first-part IsReply c.args.filter c.args.self.now.reader.end so_far.0 (records run.reader.end stream) run c.blocks-2.self
    (g.W.Sink.written c.args.output.now) (g.W.Sink.written c.blocks-2.output) (g.W.Sink.written c.write_block.new.output)
    done (subst (λ e. AddsPart IsReply c.args.filter e c.blocks-2.self.lines.place done.later
    (g.W.Sink.written c.blocks-2.output) (g.W.Sink.written c.write_block.new.output))
    (ap (λ s. s.0) (c.in_ok-read_block.ensures.settings ∙ c.blocks-2.invariant.settings))
    (adds-part-weaker _ IsReply c.args.filter mid.reader.end c.blocks-2.invariant.printer c.blocks-2.self.lines.place
    done.later (g.W.Sink.written c.blocks-2.output) (g.W.Sink.written c.write_block.new.output)
    (c.in_err-write_block.ensures.leads read.0 done.later read.2)))))

pub blocks-2-preserved : goal.blocks-2-preserved
blocks-2-preserved g c =
    let run = c.args.self.now in
    let mid : RecordRun = record { reader = c.read_block.new.self; lines = c.blocks-2.self.lines } in
    let IsReply = g.P.RecordPrinter.replies c.args.printer.now in
    let SoFar = λ (stream : List ℕ). (left : List ℕ) × (g.S.Source.left c.blocks-2.input ≡ Some left)
    × AddsFirst IsReply c.args.filter c.args.self.now.reader.end left (records run.reader.end stream) run c.blocks-2.self
    (g.W.Sink.written c.args.output.now) (g.W.Sink.written c.blocks-2.output) in
    record {
      settings = c.write_block.ensures.settings ∙ (c.in_ok-read_block.ensures.settings ∙ c.blocks-2.invariant.settings);
      printer = λ place text line outcome is. c.blocks-2.invariant.printer place text line outcome
          (c.write_block.ensures.printer place text line outcome is);
      limit = c.write_block.ensures.limit ∙ c.blocks-2.invariant.limit;
      reads = grind (arith, common_steps);
      works = grind (arith, common_steps);
      never = λ sure. (c.in_ok-read_block.ensures.never (c.blocks-2.invariant.never sure)).1;
      nothing = c.in_ok-write_block.ensures.nothing;
      none = c.in_ok-write_block.ensures.none;
      first = if-known (g.S.Source.left c.args.input.now) SoFar _ c.blocks-2.invariant.first (λ stream so_far.
          let done = so_far.2 in
          let read = read-on (g.S.Source.left c.blocks-2.input) (g.S.Source.left c.read_block.new.input) so_far.0
          c.blocks-2.self.reader c.read_block.new.self done.later so_far.1 c.in_ok-read_block.ensures.ahead done.rest in (
            read.0,
            read.1,
            first-trans-read IsReply c.args.filter c.args.self.now.reader.end so_far.0 read.0 (records run.reader.end stream) run c.blocks-2.self mid
                c.write_block.new.self (g.W.Sink.written c.args.output.now) (g.W.Sink.written c.blocks-2.output)
                (g.W.Sink.written c.write_block.new.output) done refl
                (subst (λ e. AddsFirst IsReply c.args.filter e read.0 done.later mid c.write_block.new.self
                (g.W.Sink.written c.blocks-2.output) (g.W.Sink.written c.write_block.new.output))
                (ap (λ s. s.0) (c.in_ok-read_block.ensures.settings ∙ c.blocks-2.invariant.settings))
                (adds-first-weaker _ IsReply c.args.filter mid.reader.end c.blocks-2.invariant.printer read.0 done.later mid
                c.write_block.new.self (g.W.Sink.written c.blocks-2.output) (g.W.Sink.written c.write_block.new.output)
                (c.in_ok-write_block.ensures.leads read.0 done.later read.2))),
          ));
    }

pub returns-clause-leads : goal.returns-clause-leads
returns-clause-leads g c =
    let run = c.args.self.now in
    let IsReply = g.P.RecordPrinter.replies c.args.printer.now in
    let SoFar = λ (stream : List ℕ). (left : List ℕ) × (g.S.Source.left c.blocks-2.input ≡ Some left)
    × AddsFirst IsReply c.args.filter c.args.self.now.reader.end left (records run.reader.end stream) run c.blocks-2.self
    (g.W.Sink.written c.args.output.now) (g.W.Sink.written c.blocks-2.output) in
    if-known (g.S.Source.left c.args.input.now) SoFar _ c.blocks-2.invariant.first (λ stream so_far.
    first-as-part IsReply c.args.filter c.args.self.now.reader.end so_far.0 (records run.reader.end stream) run c.blocks-2.self
    (g.W.Sink.written c.args.output.now) (g.W.Sink.written c.blocks-2.output) so_far.2)
