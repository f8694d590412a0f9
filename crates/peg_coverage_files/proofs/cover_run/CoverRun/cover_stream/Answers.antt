use Rattle.std.proofs.Common.{◌≡◌, ◌∙◌, ℕ, List, [], Some, arith, false, refl, subst}
use Rattle.std.proofs.lemmas.Grind.{common_steps}
use Rattle.peg_records.specs.Readers.{IsAheadOf}
use Rattle.peg_records.specs.Records.{records}
use Rattle.peg_record_files.proofs.StreamLemmas.{any-known, if-known, known, read-on, some-self}
use Rattle.peg_coverage_files.specs.CoverRuns.{CoversFirst}
use Rattle.peg_coverage_files.specs.CoveringFaults.{IsFirst, IsLong, IsShort, read_fault}
use Rattle.peg_coverage_files.proofs.RunLemmas.{first-long, first-more, first-none, read-ends, stream-ends, stream-fault, too-long}
use Rattle.peg_coverage_files.proofs.cover_run.CoverRun.cover_stream.Goals as goal

pub blocks-2-init : goal.blocks-2-init
blocks-2-init g c =
    let run = c.args.self.now in
    record {
      settings = refl;
      size = refl;
      reads = c.requires.reads;
      never = λ sure. sure;
      nothing = c.requires.between.nothing;
      first = λ terms of. some-self (g.S.Source.left c.args.input.now)
          (λ stream left. CoversFirst terms left (records run.reader.end stream) run run)
          (λ stream. first-none terms stream (records run.reader.end stream) run (c.requires.between.ready stream));
    }

pub returns-in_err-read_block-clause-covers : goal.returns-in_err-read_block-clause-covers
returns-in_err-read_block-clause-covers g c terms of =
    let run = c.args.self.now in
    let why = c.in_err-read_block.field-0.0 in
    any-known (g.S.Source.left c.args.input.now) _ (λ stream.
    stream-fault terms (records run.reader.end stream) run
    record { reader = c.read_block.new.self; covered = c.blocks-2.self.covered } (read_fault why) c.from_residual.result
    c.from_residual.ensures.1 (read-ends (IsFirst IsShort IsLong (records run.reader.end stream)) why))

pub returns-then-not-branch-clause-covers : goal.returns-then-not-branch-clause-covers
returns-then-not-branch-clause-covers g c terms of =
    let run = c.args.self.now in
    let over : c.in_ok-read_block.field-0 ≡ false = grind (arith, common_steps) in
    let SoFar = λ (stream : List ℕ). (left : List ℕ) × (g.S.Source.left c.blocks-2.input ≡ Some left)
    × CoversFirst terms left (records run.reader.end stream) run c.blocks-2.self in
    if-known (g.S.Source.left c.args.input.now) SoFar _ (c.blocks-2.invariant.first terms of) (λ stream so_far.
    let all = records run.reader.end stream in
    let done = so_far.2 in
    let read = read-on (g.S.Source.left c.blocks-2.input) (g.S.Source.left c.read_block.new.input) so_far.0
    c.blocks-2.self.reader c.read_block.new.self done.later so_far.1 c.in_ok-read_block.ensures.ahead done.rest in
    let none : read.0 ≡ [] = known (g.S.Source.left c.read_block.new.input) read.0 (λ (l : List ℕ). l ≡ []) read.1
    (c.in_ok-read_block.ensures.end over).1 in
    let ahead = subst (λ (l : List ℕ). IsAheadOf c.read_block.new.self l done.later) none read.2 in
    stream-ends terms so_far.0 all run c.blocks-2.self c.cover_last.new.self c.cover_last.result done
    (c.cover_last.ensures.covers terms done.later of ahead))

pub returns-in_err-cover_block-clause-covers : goal.returns-in_err-cover_block-clause-covers
returns-in_err-cover_block-clause-covers g c terms of =
    let run = c.args.self.now in
    let why = c.in_err-cover_block.field-0.0 in
    let SoFar = λ (stream : List ℕ). (left : List ℕ) × (g.S.Source.left c.blocks-2.input ≡ Some left)
    × CoversFirst terms left (records run.reader.end stream) run c.blocks-2.self in
    if-known (g.S.Source.left c.args.input.now) SoFar _ (c.blocks-2.invariant.first terms of) (λ stream so_far.
    let all = records run.reader.end stream in
    let done = so_far.2 in
    let read = read-on (g.S.Source.left c.blocks-2.input) (g.S.Source.left c.read_block.new.input) so_far.0
    c.blocks-2.self.reader c.read_block.new.self done.later so_far.1 c.in_ok-read_block.ensures.ahead done.rest in
    stream-fault terms all run c.cover_block.new.self why c.from_residual-in_err-cover_block.result
    c.from_residual-in_err-cover_block.ensures.1
    (too-long (IsFirst IsShort IsLong done.later) (IsFirst IsShort IsLong all) why
    (first-long terms so_far.0 all run c.blocks-2.self done)
    (c.in_err-cover_block.ensures.covers terms read.0 done.later of read.2)))

pub blocks-2-preserved : goal.blocks-2-preserved
blocks-2-preserved g c =
    let run = c.args.self.now in
    record {
      settings = c.cover_block.ensures.settings ∙ (c.in_ok-read_block.ensures.settings ∙ c.blocks-2.invariant.settings);
      size = c.cover_block.ensures.size ∙ c.blocks-2.invariant.size;
      reads = grind (arith, common_steps);
      never = λ sure. (c.in_ok-read_block.ensures.never (c.blocks-2.invariant.never sure)).1;
      nothing = c.in_ok-cover_block.ensures.nothing;
      first = λ terms of.
          let SoFar = λ (stream : List ℕ). (left : List ℕ) × (g.S.Source.left c.blocks-2.input ≡ Some left)
          × CoversFirst terms left (records run.reader.end stream) run c.blocks-2.self in
          if-known (g.S.Source.left c.args.input.now) SoFar _ (c.blocks-2.invariant.first terms of) (λ stream so_far.
          let all = records run.reader.end stream in
          let done = so_far.2 in
          let read = read-on (g.S.Source.left c.blocks-2.input) (g.S.Source.left c.read_block.new.input) so_far.0
          c.blocks-2.self.reader c.read_block.new.self done.later so_far.1 c.in_ok-read_block.ensures.ahead done.rest in
          let more = c.in_ok-cover_block.ensures.covers terms read.0 done.later of read.2 in (
            read.0,
            read.1,
            first-more terms so_far.0 read.0 all more.first more.later run c.blocks-2.self c.cover_block.new.self done more.all
                more.covers more.short more.rest,
          ));
    }

pub returns-clause-covers : goal.returns-clause-covers
returns-clause-covers g c terms of = any-known (g.S.Source.left c.args.input.now) _ (λ stream. tt)
