use Rattle.std.proofs.Common.{◌≡◌, ◌∙◌, ℕ, Err, List, ap, inl, inr, map, string_bytes, subst}
use Rattle.std.specs.List.{flat_map}
use Rattle.peg_coverage_files.proofs.CoveringLemmas.{some-of}
use Rattle.peg_json.proofs.ParseLemmas.{start-given}
use Rattle.peg_json.specs.Lines.{IsReply, line_bytes}
use Rattle.peg_json.specs.Reply.{Refused}
use Rattle.peg_json.specs.Statuses.{status_code}
use Rattle.peg_parser.specs.Cause.{NoSuchStart}
use Rattle.peg_parser.specs.Parser.{parser_rules, start_named}
use Rattle.peg_records.specs.Records.{records}
use Rattle.peg_replies.proofs.ParsedLines.{given-name}
use Rattle.peg_semantics.specs.Starts.{start_name}
use Rattle.peg_tool.specs.WordRequests.{cover_question}
use Rattle.peg_tool.proofs.RecordCoverageLemmas.{can-cover, file-unread, kind-known, long-opened, long-printed, records-printed, short-present, start-refused}
use Rattle.peg_tool.proofs.covering_records.records_reply.Goals as goal

pub covered_reply-requires-clause-rules : goal.covered_reply-requires-clause-rules
covered_reply-requires-clause-rules g c =
    (c.in-Ok.ensures.within (parser_rules c.args.grammar.now.parser) c.requires.parsers).rules_within

pub covered_reply-requires-clause-texts : goal.covered_reply-requires-clause-texts
covered_reply-requires-clause-texts g c =
    (c.in-Ok.ensures.within (parser_rules c.args.grammar.now.parser) c.requires.parsers).texts_within

pub returns-in_ok-covered_reply-in-Ok-clause-answer : goal.returns-in_ok-covered_reply-in-Ok-clause-answer
returns-in_ok-covered_reply-in-Ok-clause-answer g c file of =
    let grammar = c.args.grammar.now in
    let query = c.args.query.now in
    let rules = parser_rules grammar.parser in
    let made = c.requires.parsers in
    let from = some-of (start_name rules (start_named query.options))
    (λ none. let bad = (c.in-Ok.ensures.no_start rules made).1 none in cc) in
    inr (
      can-cover query file rules from.0 of.1 from.1,
      inl (short-present query.end (g.O.Opener.file_at c.args.files.now) (map string_bytes query.texts.now)
          (c.in-Ok.ensures.present rules made)),
      λ streams are. records-printed query file grammar.file.items rules (flat_map (records query.end) streams) from.0
          c.in-Ok.coverage c.in_ok-covered_reply-in-Ok.field-0 of.0 of.1 from.1 (c.in-Ok.ensures.covered rules from.0 streams made from.1 are)
          c.in_ok-covered_reply-in-Ok.ensures,
    )

pub returns-in_ok-line-in-Err-NoSuchStart-clause-answer : goal.returns-in_ok-line-in-Err-NoSuchStart-clause-answer
returns-in_ok-line-in-Err-NoSuchStart-clause-answer g c file of =
    let query = c.args.query.now in
    let rules = parser_rules c.args.grammar.now.parser in
    let none = (c.in-Err-NoSuchStart.ensures.no_start rules c.requires.parsers).0
    (ap Err c.in-Err-NoSuchStart.field-0-is) in
    let named = start-given rules (start_named query.options) none in
    let same : c.unwrap_or.result.now ≡ named.0 =
    ap (λ name. name.now) c.unwrap_or.ensures ∙ given-name (λ name. name.now) query.options.start _ named.0 named.1 in
    let line = c.in_ok-line-in-Err-NoSuchStart.line in
    inl (start-refused query file rules named.0 c.line_alone.result line of.1 c.line_alone.ensures.line
    c.line_alone.ensures.faults
    (subst (λ (name : List ℕ). IsReply file (Refused (NoSuchStart name)) (line_bytes line) (status_code line.status)) same
    (c.in_ok-line-in-Err-NoSuchStart.ensures file)) named.1 none)

pub returns-in_ok-line-in-Err-TextTooLong-clause-answer : goal.returns-in_ok-line-in-Err-TextTooLong-clause-answer
returns-in_ok-line-in-Err-TextTooLong-clause-answer g c file of =
    let query = c.args.query.now in
    let rules = parser_rules c.args.grammar.now.parser in
    let made = c.requires.parsers in
    let is = ap Err c.in-Err-TextTooLong.field-0-is in
    let from = some-of (start_name rules (start_named query.options))
    (λ none. let bad = (c.in-Err-TextTooLong.ensures.no_start rules made).1 none in cc) in
    inr (
      can-cover query file rules from.0 of.1 from.1,
      long-opened rules (cover_question query) (g.O.Opener.file_at c.args.files.now) (g.I.Source.left c.args.input.now)
          (start_named query.options) c.in-Err-TextTooLong.field-0 c.in-Err-TextTooLong.field-0-is
          (c.in-Err-TextTooLong.ensures.refused rules made),
      λ streams are. long-printed query file rules (flat_map (records query.end) streams)
          c.line_alone-in-Err-TextTooLong.result c.in_ok-line-in-Err-TextTooLong.line of.1
          c.line_alone-in-Err-TextTooLong.ensures.line c.line_alone-in-Err-TextTooLong.ensures.faults
          (c.in_ok-line-in-Err-TextTooLong.ensures file) (c.in-Err-TextTooLong.ensures.long rules streams made are is),
    )

pub returns-in-Err-File-clause-fault : goal.returns-in-Err-File-clause-fault
returns-in-Err-File-clause-fault g c =
    let query = c.args.query.now in
    let rules = parser_rules c.args.grammar.now.parser in
    file-unread rules query.end (g.O.Opener.file_at c.args.files.now) (g.I.Source.left c.args.input.now)
    (map string_bytes query.texts.now) (start_named query.options) c.in-Err-File.field-0 c.in-Err-File.name c.in-Err-File.kind
    c.in-Err-File.field-0-is (c.in-Err-File.ensures.refused rules c.requires.parsers)
