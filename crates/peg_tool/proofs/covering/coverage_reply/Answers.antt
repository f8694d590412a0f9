use Rattle.std.proofs.Common.{◌+◌, ◌++◌, ◌<◌, ◌≤◌, ◌∷◌, [], ℕ, IfOk, List, arith, length, map, string_bytes, subst}
use Rattle.std.specs.Io.KnownBytes.{IsAtEnd}
use Rattle.peg_coverage_files.specs.NamedTexts.{files_named}
use Rattle.peg_messages.specs.FileNames.{shown_name}
use Rattle.peg_metagrammar.specs.Notation.{max_file_bytes}
use Rattle.peg_parser.specs.Parser.{start_named}
use Rattle.peg_tool.specs.CoverageWritten.{IsReplyOfKind}
use Rattle.peg_tool.specs.Faults.{standard_output}
use Rattle.peg_replies.specs.Replies.{RepliesTo}
use Rattle.peg_replies.specs.Task.{CoverTask}
use Rattle.peg_tool.proofs.CoverageLemmas.{at-among, first-among, reply-held, text-faults-among}
use Rattle.peg_tool.proofs.covering.coverage_reply.Goals as goal

pub returns-in-Ok-clause-answer : goal.returns-in-Ok-clause-answer
returns-in-Ok-clause-answer g c =
    let held = c.in-Ok.file in
    let left = g.G.Source.left c.args.grammar.now in
    let new = g.G.Source.left c.read_up_to.new.input in
    let options = c.args.options.now in
    let names = map string_bytes c.args.names.now in
    let task = CoverTask (files_named (g.O.Opener.file_at c.args.files.now) c.args.names.now) (start_named options)
    options.memo options.steps c.args.needed in
    let right : (text : List ℕ) → IfOk c.cover_by_file.result (IsReplyOfKind (RepliesTo held.items text task) names held.items) =
    λ text. subst (λ (l : List ℕ). IfOk c.cover_by_file.result (IsReplyOfKind (RepliesTo l text task) names l))
    c.deref.ensures.value (c.cover_by_file.ensures.answer text) in
    let within : length held.items ≤ max_file_bytes + 1 = omega (arith, held.ok.0, c.in-Ok.ensures.limit) in
    let at_end : length held.items < max_file_bytes + 1 → IsAtEnd new =
    λ less. c.in-Ok.ensures.end (omega (arith, held.ok.0)) in
    reply-held c.cover_by_file.result task names left new held.items c.in-Ok.ensures.bytes within at_end right

pub returns-in-Ok-clause-named : goal.returns-in-Ok-clause-named
returns-in-Ok-clause-named g c =
    text-faults-among (shown_name c.args.g.now) standard_output (map string_bytes c.args.names.now)
    (g.O.Opener.file_at c.args.files.now) c.cover_by_file.result c.cover_by_file.ensures.fault

pub returns-in-Err-Device-clause-named : goal.returns-in-Err-Device-clause-named
returns-in-Err-Device-clause-named g c =
    let first = shown_name c.args.g.now in
    let rest = map shown_name (map string_bytes c.args.names.now) ++ standard_output ∷ [] in
    at-among c.at.result (first ∷ rest) first _ c.at.ensures.named (first-among first rest)
