use Rattle.std.proofs.Common.{◌∙◌, ◌∷◌, [], ap, refl, subst, sym}
use Rattle.std.proofs.lemmas.List.Elements.{All-cons, All-nil}
use Rattle.peg_records.specs.Readers.{HasNext, IsAheadOf, settings_of}
use Rattle.peg_records.specs.declared.reader.RecordReader.{RecordReader}
use Rattle.peg_coverage_files.specs.CoveringFaults.{IsFirst, IsLong, IsShort}
use Rattle.peg_coverage_files.proofs.RunLemmas.{block-fault, first-long, first-more, first-none, first-read, next-long, too-long}
use Rattle.peg_coverage_files.proofs.cover_run.CoverRun.cover_block.Goals as goal

pub records-init : goal.records-init
records-init c = record {
  settings = refl;
  size = refl;
  first = λ terms left ahead of before. first-none terms left ahead c.args.self.now before;
}

pub records-preserved : goal.records-preserved
records-preserved c =
    let reader = c.next.new.self in
    let new = c.cover_record.new.self in
    let ends = c.in_ok-cover_record.ensures in
    record {
      settings = ap settings_of ends.same ∙ c.next.ensures.settings ∙ c.records.invariant.settings;
      size = ends.size ∙ c.records.invariant.size;
      first = λ terms left ahead of before.
          let done = c.records.invariant.first terms left ahead of before in
          let next = subst (λ found. HasNext found reader left done.later) c.records-test.true
          (c.next.ensures.next left done.later done.rest) in
          let covered = ends.covers terms next.0 of next.3 in
          first-more terms left left ahead (next.0 ∷ []) next.1 c.args.self.now c.records.self new done next.2 covered.0
          (All-cons IsShort next.0 [] covered.1 (All-nil IsShort))
          (subst (λ (r : RecordReader). IsAheadOf r left next.1) (sym ends.same) next.4);
    }

pub returns-in_err-cover_record-clause-covers : goal.returns-in_err-cover_record-clause-covers
returns-in_err-cover_record-clause-covers c terms left ahead of before =
    let reader = c.next.new.self in
    let why = c.in_err-cover_record.field-0.0 in
    let done = c.records.invariant.first terms left ahead of before in
    let next = subst (λ found. HasNext found reader left done.later) c.records-test.true
    (c.next.ensures.next left done.later done.rest) in
    block-fault terms left ahead c.args.self.now c.cover_record.new.self why c.from_residual.result
    c.from_residual.ensures.1
    (too-long (IsLong next.0) (IsFirst IsShort IsLong ahead) why
    (λ long. first-long terms left ahead c.args.self.now c.records.self done
    (subst (IsFirst IsShort IsLong) (sym next.2) (next-long next.0 next.1 long)))
    (c.in_err-cover_record.ensures.covers terms next.0 of next.3))

pub returns-clause-covers : goal.returns-clause-covers
returns-clause-covers c terms left ahead of before =
    let done = c.records.invariant.first terms left ahead of before in
    let none = subst (λ found. HasNext found c.next.new.self left done.later) c.records-test.false
    (c.next.ensures.next left done.later done.rest) in
    first-read terms left left ahead c.args.self.now c.records.self
    record { reader = c.next.new.self; covered = c.records.self.covered } done refl none
