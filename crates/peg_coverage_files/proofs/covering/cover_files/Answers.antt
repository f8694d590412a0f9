use Rattle.peg_coverage.specs.Covered.{settings_of}
use Rattle.peg_coverage_files.specs.NamedTexts.{files_named, texts_in}
use Rattle.peg_coverage_files.proofs.covering.cover_files.Goals as goal

pub returns-clause-covered : goal.returns-clause-covered
returns-clause-covered g c rules start is at =
    let settings = settings_of c.args.options.now in
    let before = c.in_ok-covered.covered.used in
    let fresh = c.in_ok-covered.ensures.fresh in
    c.in_ok-coverage.ensures.covered rules start settings c.args.needed
    (texts_in (files_named (g.O.Opener.file_at c.args.files.now) c.args.names.now)) before is fresh.empty
    (c.in_ok-cover_texts.ensures.covered rules start before is at (fresh.none rules start settings c.args.needed))
