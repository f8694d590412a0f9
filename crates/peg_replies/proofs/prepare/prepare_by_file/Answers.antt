use Rattle.std.proofs.Common.{subst}
use Rattle.peg_parser.specs.Parser.{parser_rules}
use Rattle.peg_replies.specs.Commands.{parse_task}
use Rattle.peg_replies.specs.Loaded.{IsLoadedFrom}
use Rattle.peg_replies.specs.RecordParsers.{IsUnknownName}
use Rattle.peg_replies.proofs.PreparedLemmas.{file-refuses}
use Rattle.peg_replies.proofs.prepare.prepare_by_file.Goals as goal

pub returns-in-Refused : goal.returns-in-Refused
returns-in-Refused c =
    let file = c.args.file.now in
    file-refuses c.in-Refused.line file (parse_task c.args.options c.args.printing) tt
    (subst (IsLoadedFrom file) c.in-Refused.is c.in_ok-parser.ensures)

pub returns-in-Some : goal.returns-in-Some
returns-in-Some c =
    let file = c.args.file.now in
    let accepts = subst (IsLoadedFrom file) c.in-Accepted.is c.in_ok-parser.ensures in
    subst (IsUnknownName file (parser_rules c.in-Accepted.parser) c.args.options c.args.printing) c.in-Some.is
    (c.in_ok-line.ensures file accepts)
