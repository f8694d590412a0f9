use Rattle.peg_io.specs.NamedFile.{bytes_of}
use Rattle.peg_parser.specs.Parser.{start_named}
use Rattle.peg_record_files.proofs.StreamLemmas.{opened-known}
use Rattle.peg_coverage_files.proofs.StreamLemmas.{named-covered, named-fault, named-short}
use Rattle.peg_coverage_files.proofs.records.cover_text.Goals as goal

pub returns-in-Ok-clause-covers : goal.returns-in-Ok-clause-covers
returns-in-Ok-clause-covers g c terms of =
    let bytes = bytes_of (g.O.Opener.file_at c.args.files.now c.args.name.now) in
    let ends = opened-known bytes (g.O.File.Source.left c.in-Ok.source) _ c.in-Ok.ensures.bytes
    (c.cover_source.ensures.covers terms of) in
    named-covered terms c.args.run.now.reader.end bytes c.args.run.now c.cover_source.new.run c.cover_source.result ends

pub returns-in-Ok-clause-short : goal.returns-in-Ok-clause-short
returns-in-Ok-clause-short g c terms of =
    let file = g.O.Opener.file_at c.args.files.now c.args.name.now in
    let ends = opened-known (bytes_of file) (g.O.File.Source.left c.in-Ok.source) _ c.in-Ok.ensures.bytes
    (c.cover_source.ensures.covers terms of) in
    named-short terms c.args.run.now.reader.end file c.args.run.now c.cover_source.new.run c.cover_source.result
    c.in-Ok.ensures.missing ends

pub returns-in-Ok-clause-refused : goal.returns-in-Ok-clause-refused
returns-in-Ok-clause-refused g c terms of =
    let file_at = g.O.Opener.file_at c.args.files.now in
    let name = c.args.name.now in
    let ends = opened-known (bytes_of (file_at name)) (g.O.File.Source.left c.in-Ok.source) _ c.in-Ok.ensures.bytes
    (c.cover_source.ensures.covers terms of) in
    named-fault terms c.args.run.now.reader.end file_at name (start_named c.args.query.now.options)
    (g.O.File.Source.never_fails c.in-Ok.source) c.args.run.now c.cover_source.new.run c.cover_source.result
    c.in-Ok.ensures.missing c.in-Ok.ensures.readable of.from (c.cover_source.ensures.refused terms.rules of.made) ends
