use Rattle.std.proofs.Common.{◌≡◌, ◌∙◌, ℕ, Err, List, ap, map, refl, string_bytes, sym, subst}
use Rattle.peg_coverage_files.proofs.CoveringLemmas.{some-of, unused-below}
use Rattle.peg_coverage_files.specs.NamedTexts.{files_named}
use Rattle.peg_grammar.specs.GrammarRules.{rules_in}
use Rattle.peg_parser.specs.Parser.{start_named}
use Rattle.peg_semantics.specs.Starts.{start_name}
use Rattle.peg_coverage.specs.Covered.{is_made}
use Rattle.peg_coverage_files.specs.CoveringFaults.{IsFaultOf}
use Rattle.peg_coverage_files.specs.declared.fault.CoveringFault.{CoveringFault}
use Rattle.peg_json.specs.Lines.{IsReply, line_bytes}
use Rattle.peg_json.specs.Reply.{Refused}
use Rattle.peg_json.specs.Statuses.{status_code}
use Rattle.peg_json.proofs.ParseLemmas.{start-given}
use Rattle.peg_parser.specs.Cause.{NoSuchStart, TextTooLong}
use Rattle.peg_replies.specs.CoverageReplies.{CoversTo, a_text_over_limit, start_unknown}
use Rattle.peg_tool.proofs.CoverageLemmas.{coverage-replies, first-file, line-alone, stopped-named}
use Rattle.peg_replies.proofs.ParsedLines.{given-name}
use Rattle.peg_tool.proofs.covering.cover_by_parser.Goals as goal

pub covered_reply-requires-clause-rules : goal.covered_reply-requires-clause-rules
covered_reply-requires-clause-rules g c =
    let rules = rules_in c.args.grammar.now in
    let start = start_named c.args.options.now in
    let from = some-of (start_name rules start)
    (λ none. let bad = (c.in-Ok.ensures.no_start rules c.requires).1 none in cc) in
    let of = c.in-Ok.ensures.covered rules from.0 c.requires from.1 in
    unused-below rules (is_made of.parsed) c.in-Ok.coverage.unused_rules.items of.rules_unused

pub covered_reply-requires-clause-texts : goal.covered_reply-requires-clause-texts
covered_reply-requires-clause-texts g c =
    let rules = rules_in c.args.grammar.now in
    let start = start_named c.args.options.now in
    let from = some-of (start_name rules start)
    (λ none. let bad = (c.in-Ok.ensures.no_start rules c.requires).1 none in cc) in
    stopped-named rules from.0 c.args.options.now c.args.needed (g.O.Opener.file_at c.args.files.now) c.args.names.now c.in-Ok.coverage
    (c.in-Ok.ensures.covered rules from.0 c.requires from.1)

pub returns-in_ok-covered_reply-in-Ok-clause-answer : goal.returns-in_ok-covered_reply-in-Ok-clause-answer
returns-in_ok-covered_reply-in-Ok-clause-answer g c =
    let rules = rules_in c.args.grammar.now in
    let files = files_named (g.O.Opener.file_at c.args.files.now) c.args.names.now in
    let options = c.args.options.now in
    let from = some-of (start_name rules (start_named options))
    (λ none. let bad = (c.in-Ok.ensures.no_start rules c.requires).1 none in cc) in
    let is = c.in_ok-covered_reply-in-Ok.ensures in
    let covers = coverage-replies rules files options c.args.needed from.0 c.in-Ok.coverage from.1 c.in-Ok.ensures.present
    (c.in-Ok.ensures.covered rules from.0 c.requires from.1) in (
      is.0,
      (subst (CoversTo rules files (start_named options) options.memo options.steps c.args.needed) (sym is.1.0) covers, is.1.1),
      is.2,
      is.3,
    )

pub returns-in_ok-line-in-Err-NoSuchStart-clause-answer : goal.returns-in_ok-line-in-Err-NoSuchStart-clause-answer
returns-in_ok-line-in-Err-NoSuchStart-clause-answer g c =
    let rules = rules_in c.args.grammar.now in
    let file = c.args.file.now in
    let files = files_named (g.O.Opener.file_at c.args.files.now) c.args.names.now in
    let options = c.args.options.now in
    let none = (c.in-Err-NoSuchStart.ensures.no_start rules c.requires).0 (ap Err c.in-Err-NoSuchStart.field-0-is) in
    let named = start-given rules (start_named options) none in
    let same : c.unwrap_or.result.now ≡ named.0 =
    ap (λ name. name.now) c.unwrap_or.ensures ∙ given-name (λ name. name.now) options.start _ named.0 named.1 in
    let line = c.in_ok-line-in-Err-NoSuchStart.line in
    line-alone c.line_alone.result line (map string_bytes c.args.names.now) file
    (CoversTo rules files (start_named options) options.memo options.steps c.args.needed) (Refused (NoSuchStart named.0))
    c.line_alone.ensures.line c.line_alone.ensures.faults
    (subst (λ (name : List ℕ). IsReply file (Refused (NoSuchStart name)) (line_bytes line) (status_code line.status)) same
    (c.in_ok-line-in-Err-NoSuchStart.ensures file)) refl (start_unknown named.0 named.1 none)

pub returns-in_ok-line-in-Err-TextTooLong-clause-answer : goal.returns-in_ok-line-in-Err-TextTooLong-clause-answer
returns-in_ok-line-in-Err-TextTooLong-clause-answer g c =
    let rules = rules_in c.args.grammar.now in
    let file_at = g.O.Opener.file_at c.args.files.now in
    let names = map string_bytes c.args.names.now in
    let options = c.args.options.now in
    let first = subst (λ (why : CoveringFault). IsFaultOf rules file_at names (start_named options) why)
    c.in-Err-TextTooLong.field-0-is (c.in-Err-TextTooLong.ensures.refused rules c.requires) in
    line-alone c.line_alone-in-Err-TextTooLong.result c.in_ok-line-in-Err-TextTooLong.line names c.args.file.now
    (CoversTo rules (files_named file_at c.args.names.now) (start_named options) options.memo options.steps c.args.needed)
    (Refused TextTooLong) c.line_alone-in-Err-TextTooLong.ensures.line c.line_alone-in-Err-TextTooLong.ensures.faults
    (c.in_ok-line-in-Err-TextTooLong.ensures c.args.file.now) refl
    (a_text_over_limit (first-file file_at names first))
