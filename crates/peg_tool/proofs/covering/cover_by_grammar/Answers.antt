use Rattle.std.proofs.Common.{IfOk, List, map, string_bytes, subst, sym}
use Rattle.peg_coverage.specs.CoverageParser.{IsCoverageParserOf}
use Rattle.peg_coverage_files.specs.NamedTexts.{files_named}
use Rattle.peg_parser.specs.Parser.{parser_rules, start_named}
use Rattle.peg_semantics.specs.Rules.{Rule}
use Rattle.peg_replies.specs.CoverageReplies.{CoversTo}
use Rattle.peg_tool.specs.CoverageWritten.{IsReplyOfKind}
use Rattle.peg_tool.proofs.CoverageLemmas.{no-coverage-replies}
use Rattle.peg_tool.proofs.covering.cover_by_grammar.Goals as goal

pub cover_by_parser-requires : goal.cover_by_parser-requires
cover_by_parser-requires g c =
    subst (λ (rules : List Rule). IsCoverageParserOf rules c.in-Ok.coverage) (sym c.grammar-grammar.ensures)
    c.in-Ok.ensures.made

pub returns-in-Ok-clause-answer : goal.returns-in-Ok-clause-answer
returns-in-Ok-clause-answer g c =
    let files = files_named (g.O.Opener.file_at c.args.files.now) c.args.names.now in
    let options = c.args.options.now in
    let names = map string_bytes c.args.names.now in
    subst (λ (rules : List Rule). IfOk c.cover_by_parser.result (IsReplyOfKind
    (CoversTo rules files (start_named options) options.memo options.steps c.args.needed) names c.args.file.now))
    c.grammar-grammar.ensures c.cover_by_parser.ensures.answer

pub returns-in-Err-clause-answer : goal.returns-in-Err-clause-answer
returns-in-Err-clause-answer g c =
    let files = files_named (g.O.Opener.file_at c.args.files.now) c.args.names.now in
    let options = c.args.options.now in
    no-coverage-replies c.no_coverage.result c.in-Err.why (parser_rules c.args.parser.now) files (start_named options)
    options.memo options.steps c.args.needed (map string_bytes c.args.names.now) c.args.file.now c.in-Err.ensures.refused
    c.no_coverage.ensures.line
