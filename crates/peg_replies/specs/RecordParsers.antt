-- Describes code: the parsers of records.
use Rattle.std.specs.Prelude.{◌≡◌, ℕ, List, Option, None, Some, IsSome}
use Rattle.peg_json.specs.Lines.{line_bytes}
use Rattle.peg_json.specs.Parses.{ParsesToAsked}
use Rattle.peg_json.specs.Reply.{Reply}
use Rattle.peg_json.specs.Statuses.{status_code}
use Rattle.peg_json.specs.declared.line.Line.{Line}
use Rattle.peg_parser.specs.Accepts.{Accepts}
use Rattle.peg_parser.specs.Engine.{rules_shown, shown_parser_rules}
use Rattle.peg_parser.specs.Parser.{parser_rules, start_named}
use Rattle.peg_parser.specs.Sessions.{IsSessionOf}
use Rattle.peg_record_files.specs.declared.outcome.RecordOutcome.{RecordOutcome}
use Rattle.peg_record_files.specs.declared.place.RecordPlace.{RecordPlace}
use Rattle.peg_semantics.specs.Rules.{Rule}
use Rattle.peg_semantics.specs.Starts.{start_name}
use Rattle.peg_replies.specs.Commands.{nodes_asked, parse_task}
use Rattle.peg_replies.specs.PrintedNodes.{ShowsPrinted, first_unknown, shown_by}
use Rattle.peg_replies.specs.RecordReplies.{IsRecordReply, RefusesRecords}
use Rattle.peg_replies.specs.declared.prepare.Prepared.{Prepared}
use Rattle.peg_replies.specs.declared.prepare.Prepared.TheVariants.{Ready, Refused}
use Rattle.peg_replies.specs.declared.record_parser.RecordParser.{RecordParser}
use Rattle.peg_replies.specs.declared.record_session.RecordSession.{RecordSession}
use Rattle.peg_replies.specs.declared.tree_printing.TreePrinting.{TreePrinting}
use Rattle.peg_parser.specs.declared.options.ParseOptions.{ParseOptions}

-- a parser of records is made for a grammar file, whose rules have the names that it uses
pub record IsRecordParserOf (file : List ℕ) (parser : RecordParser) : Type 0 where
  pub accepts : Accepts file (parser_rules parser.parser)
  pub same : shown_parser_rules parser.shown ≡ parser_rules parser.parser
  pub shows : ShowsPrinted (shown_parser_rules parser.shown) (rules_shown parser.shown) parser.printing.form
      (nodes_asked parser.printing.nodes)
  pub known : first_unknown (parser_rules parser.parser) (nodes_asked parser.printing.nodes) ≡ None
  pub start : IsSome (start_name (parser_rules parser.parser) (start_named parser.options))

-- the reply to the parse of a text by a parser of records
abbrev pub ParsesByRecords : RecordParser → (text : List ℕ) → Reply → Type 0
ParsesByRecords parser text reply =
    ParsesToAsked (parser_rules parser.parser) text (start_named parser.options) parser.options.memo parser.options.steps
    parser.printing.all parser.printing.form (shown_by (parser_rules parser.parser) (nodes_asked parser.printing.nodes))
    parser.printing.with_bytes reply

-- the same of a session, which parses as its parser does
pub record IsRecordSessionOf (file : List ℕ) (session : RecordSession) : Type 0 where
  pub parser : IsRecordParserOf file session.records.now
  pub parses : IsSessionOf session.records.now.shown session.session

-- the line and the outcome of a record by a session
abbrev pub IsReplyBy : RecordSession → RecordPlace → (text line : List ℕ) → RecordOutcome → Type 0
IsReplyBy session place text line outcome = (file : List ℕ) → IsRecordSessionOf file session
    → IsRecordReply file (parse_task session.records.now.options session.records.now.printing) place text line outcome

-- the line that reports a name that no rule has, or that there is no such name
abbrev pub IsUnknownName : (file : List ℕ) → List Rule → ParseOptions → TreePrinting → Option Line → Type 0
IsUnknownName file rules options printing (Some line) =
    RefusesRecords (parse_task options printing) file (line_bytes line) (status_code line.status)
IsUnknownName file rules options printing None =
    (first_unknown rules (nodes_asked printing.nodes) ≡ None) × IsSome (start_name rules (start_named options))

-- what a grammar file is read for
abbrev pub IsPreparedFor : (file : List ℕ) → ParseOptions → TreePrinting → Prepared → Type 0
IsPreparedFor file options printing (Ready parser) =
    IsRecordParserOf file parser × (parser.options ≡ options) × (parser.printing ≡ printing)
IsPreparedFor file options printing (Refused line) =
    RefusesRecords (parse_task options printing) file (line_bytes line) (status_code line.status)
