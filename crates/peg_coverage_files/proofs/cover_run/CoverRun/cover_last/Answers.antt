use Rattle.std.proofs.Common.{◌≡◌, All, List, arith, false, subst, sym, true, ℕ}
use Rattle.std.proofs.lemmas.Grind.{common_steps}
use Rattle.std.proofs.lemmas.List.Elements.{All-nil}
use Rattle.peg_records.specs.Readers.{EndsWith}
use Rattle.peg_coverage_files.specs.CoverRuns.{CoversMore, EndsStream}
use Rattle.peg_coverage_files.specs.CoveringFaults.{IsShort}
use Rattle.peg_coverage_files.proofs.RunLemmas.{covers-none, last-ends}
use Rattle.peg_coverage_files.proofs.cover_run.CoverRun.cover_last.Goals as goal

pub returns-then-not-last-clause-covers : goal.returns-then-not-last-clause-covers
returns-then-not-last-clause-covers c terms ahead of before =
    let none : c.last.result ≡ false = grind (arith, common_steps) in
    let covered = c.args.self.now.covered in
    let end = subst (λ found. EndsWith found c.last.new.self ahead) none (c.last.ensures.last ahead before) in (
      subst (λ (l : List (List ℕ)). CoversMore terms l covered covered) (sym end) (covers-none terms covered),
      subst (All IsShort) (sym end) (All-nil IsShort),
    )

pub returns-clause-covers : goal.returns-clause-covers
returns-clause-covers c terms ahead of before =
    let found : c.last.result ≡ true = grind (arith, common_steps) in
    let run = c.args.self.now in
    let new = c.cover_record.new.self in
    let end = subst (λ is. EndsWith is c.last.new.self ahead) found (c.last.ensures.last ahead before) in
    subst (λ (l : List (List ℕ)). EndsStream terms l run new c.cover_record.result) (sym end.1)
    (last-ends terms end.0 run new c.cover_record.result (c.cover_record.ensures.covers terms end.0 of end.2))
