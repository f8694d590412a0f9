use Rattle.std.proofs.Common.{map, string_bytes, ◌∷◌, ◌++◌, []}
use Rattle.peg_io.specs.NamedFile.{bytes_of}
use Rattle.peg_messages.specs.FileNames.{shown_name}
use Rattle.peg_parser.specs.Parser.{start_named}
use Rattle.peg_tool.specs.Faults.{plain_result, standard_output}
use Rattle.peg_replies.specs.Task.{CoverTask}
use Rattle.peg_tool.proofs.CoverageLemmas.{ended-among, last-among, reply-written}
use Rattle.peg_tool.proofs.program.on_texts.Goals as goal

pub returns-in-Ok-coverage_reply-clause-leads : goal.returns-in-Ok-coverage_reply-clause-leads
returns-in-Ok-coverage_reply-clause-leads g c =
    let file_at = g.O.Opener.file_at c.args.files.now in
    let options = c.args.options.now in
    let names = map string_bytes c.args.texts.now in
    let old = g.W.Sink.written c.args.output.now in
    let new = g.W.Sink.written c.write_coverage.new.output in
    reply-written (CoverTask (map file_at names) (start_named options) options.memo options.steps c.args.needed) names
    (bytes_of (file_at c.args.g.now)) (g.O.File.Source.left c.in-Ok.file) old new c.in-Ok-coverage_reply.reply
    (plain_result c.write_coverage.result) c.in-Ok.ensures.bytes c.write_coverage.ensures.writes
    c.in-Ok-coverage_reply.ensures.answer

pub returns-in-Ok-coverage_reply-clause-named : goal.returns-in-Ok-coverage_reply-clause-named
returns-in-Ok-coverage_reply-clause-named g c =
    let names = map shown_name (map string_bytes c.args.texts.now) in
    let first = shown_name c.args.g.now in
    ended-among c.write_coverage.result (first ∷ names ++ standard_output ∷ []) _
    c.write_coverage.ensures.named (last-among first standard_output names)
