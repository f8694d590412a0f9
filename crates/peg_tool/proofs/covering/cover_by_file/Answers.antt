use Rattle.std.proofs.Common.{length, map, string_bytes}
use Rattle.peg_coverage_files.specs.NamedTexts.{files_named}
use Rattle.peg_parser.specs.Parser.{parser_rules, start_named}
use Rattle.peg_parser.specs.Refusals.{IsRefusalOf}
use Rattle.peg_replies.specs.CoverageReplies.{CoversTo}
use Rattle.peg_replies.specs.Replies.{RepliesTo, covered}
use Rattle.peg_replies.specs.Task.{CoverTask}
use Rattle.peg_tool.proofs.CoverageLemmas.{kind-weaker, refused-alone}
use Rattle.peg_replies.proofs.JudgeLemmas.{reported-true_refusal}
use Rattle.peg_tool.proofs.covering.cover_by_file.Goals as goal

pub refused_line-requires-clause-true_refusal : goal.refused_line-requires-clause-true_refusal
refused_line-requires-clause-true_refusal g c =
    reported-true_refusal (IsRefusalOf c.args.file.now) (length c.args.file.now) c.in-Err.refusal c.in-Err.ensures.refused

pub returns-in-Ok-clause-answer : goal.returns-in-Ok-clause-answer
returns-in-Ok-clause-answer g c text =
    let file = c.args.file.now in
    let rules = parser_rules c.in-Ok.parser in
    let files = files_named (g.O.Opener.file_at c.args.files.now) c.args.names.now in
    let names = map string_bytes c.args.names.now in
    let start = start_named c.args.options.now in
    let memo = c.args.options.now.memo in
    let steps = c.args.options.now.steps in
    let needed = c.args.needed in
    kind-weaker c.cover_by_grammar.result names file (CoversTo rules files start memo steps needed)
    (RepliesTo file text (CoverTask files start memo steps needed)) (λ reply is. covered c.in-Ok.ensures.accepted is)
    c.cover_by_grammar.ensures.answer

pub returns-in_ok-line-in-Err-clause-answer : goal.returns-in_ok-line-in-Err-clause-answer
returns-in_ok-line-in-Err-clause-answer g c text =
    let file = c.args.file.now in
    let options = c.args.options.now in
    let files = files_named (g.O.Opener.file_at c.args.files.now) c.args.names.now in
    refused-alone file text (length file) (CoverTask files (start_named options) options.memo options.steps c.args.needed) c.in-Err.refusal
    c.line_alone.result c.in_ok-line-in-Err.line (map string_bytes c.args.names.now) tt c.in-Err.ensures.refused
    c.line_alone.ensures.line c.line_alone.ensures.faults c.in_ok-line-in-Err.ensures
