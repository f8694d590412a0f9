use Rattle.std.proofs.Common.{subst}
use Rattle.peg_parser.specs.Parser.{parser_rules, start_named}
use Rattle.peg_replies.specs.Commands.{nodes_asked}
use Rattle.peg_replies.specs.Loaded.{IsLoadedFrom}
use Rattle.peg_replies.proofs.RunLemmas.{parsed-reported}
use Rattle.peg_replies.proofs.tool.parse_reply.Goals as goal

pub returns-in-Accepted-clause-answer : goal.returns-in-Accepted-clause-answer
returns-in-Accepted-clause-answer g c bytes is =
    let printing = c.args.printing in
    let judged = subst (IsLoadedFrom c.args.file.now) c.in-Accepted.is c.in_ok-parser.ensures in
    parsed-reported c.reply_by_parser.result c.args.file.now (g.T.Source.left c.args.text.now) bytes
    (parser_rules c.in-Accepted.parser) (start_named c.args.options.now) c.args.options.now.memo
    c.args.options.now.steps printing.all printing.form (nodes_asked printing.nodes) printing.with_bytes is judged
    (c.reply_by_parser.ensures.answer c.args.file.now judged)

pub returns-in-Accepted-clause-refused : goal.returns-in-Accepted-clause-refused
returns-in-Accepted-clause-refused g c none =
    absurd (none (parser_rules c.in-Accepted.parser) (subst (IsLoadedFrom c.args.file.now) c.in-Accepted.is c.in_ok-parser.ensures))

pub returns-in-Accepted-clause-unknown : goal.returns-in-Accepted-clause-unknown
returns-in-Accepted-clause-unknown g c lists =
    let rules = parser_rules c.in-Accepted.parser in
    let judged = subst (IsLoadedFrom c.args.file.now) c.in-Accepted.is c.in_ok-parser.ensures in
    c.reply_by_parser.ensures.unknown (lists rules judged)
