use Rattle.std.proofs.Common.{List, OnOk, Some, subst, sym, ℕ}
use Rattle.peg_coverage.specs.Covered.{ParseSettings}
use Rattle.peg_coverage.specs.declared.text_match.RequiredMatch.{RequiredMatch}
use Rattle.peg_parser.specs.Parser.{start_named}
use Rattle.peg_records.specs.Ahead.{IsGivenFor}
use Rattle.peg_coverage_files.specs.CoveredTexts.{AddsText}
use Rattle.peg_coverage_files.proofs.RunLemmas.{record-ends}
use Rattle.peg_coverage_files.proofs.cover_run.CoverRun.cover_record.Goals as goal

pub returns-clause-covers : goal.returns-clause-covers
returns-clause-covers c terms text of given =
    let before = c.args.self.now in
    let after = c.add.new.self in
    let held = c.record-record.result.now in
    let Adds = λ (settings : ParseSettings) (needed : RequiredMatch). OnOk c.add.result
    (AddsText terms.rules terms.start settings needed (Some held) before.covered after) in
    let adds = subst (Adds terms.settings) of.needed (subst (λ (s : ParseSettings). Adds s c.args.query.now.needed) of.settings
    (c.add.ensures.adds terms.rules terms.start of.made of.from)) in
    record-ends terms (start_named c.args.query.now.options) before.reader.limit held text before
    record { reader = before.reader; covered = after } c.add.result c.requires.limit
    (subst (λ (l : List ℕ). IsGivenFor before.reader.limit l text) (sym c.record-record.ensures) given) adds
    (c.add.ensures.short terms.rules of.made) (c.add.ensures.refused terms.rules of.made)
