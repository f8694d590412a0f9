use Rattle.peg_coverage_files.proofs.CoveringLemmas.{read-fault}
use Rattle.peg_coverage_files.proofs.reading.read_text.Goals as goal

pub returns-in-Ok-clause-unread : goal.returns-in-Ok-clause-unread
returns-in-Ok-clause-unread g c =
    read-fault c.read_source.result c.args.name.now (g.O.Opener.file_at c.args.files.now c.args.name.now)
    (g.O.File.Source.never_fails c.in-Ok.file) c.in-Ok.ensures.missing c.in-Ok.ensures.readable c.read_source.ensures.unread
