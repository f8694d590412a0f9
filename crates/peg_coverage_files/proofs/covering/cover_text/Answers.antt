use Rattle.std.proofs.Common.{subst, sym}
use Rattle.peg_coverage.specs.Covered.{settings_of}
use Rattle.peg_io.specs.NamedFile.{bytes_of}
use Rattle.peg_coverage_files.specs.CoveredTexts.{IsReadOf}
use Rattle.peg_parser.specs.Parser.{start_named}
use Rattle.peg_coverage_files.proofs.CoveringLemmas.{adds-read, fault-read, read-parsable}
use Rattle.peg_coverage_files.proofs.covering.cover_text.Goals as goal

pub returns-clause-adds : goal.returns-clause-adds
returns-clause-adds g c rules start is at =
    let known = bytes_of (g.O.Opener.file_at c.args.files.now c.args.name.now) in
    let read = subst (IsReadOf known) (sym c.deref.ensures.value) c.in_ok-text.ensures.read in
    adds-read rules start (settings_of c.args.options.now) c.args.needed known c.deref.result.now c.args.covered.now
    c.add.new.self c.add.result read (c.add.ensures.short rules is) (c.add.ensures.adds rules start is at)

pub returns-clause-refused : goal.returns-clause-refused
returns-clause-refused g c rules is =
    let file_at = g.O.Opener.file_at c.args.files.now in
    let read = subst (IsReadOf (bytes_of (file_at c.args.name.now))) (sym c.deref.ensures.value)
    c.in_ok-text.ensures.read in
    fault-read rules file_at c.args.name.now c.deref.result.now (start_named c.args.options.now) c.add.result
    c.in_ok-text.ensures.present read (c.add.ensures.refused rules is)

pub returns-clause-parsable : goal.returns-clause-parsable
returns-clause-parsable g c rules is =
    let file = g.O.Opener.file_at c.args.files.now c.args.name.now in
    read-parsable file c.deref.result.now c.add.result c.in_ok-text.ensures.present
    (subst (IsReadOf (bytes_of file)) (sym c.deref.ensures.value) c.in_ok-text.ensures.read) (c.add.ensures.short rules is)
