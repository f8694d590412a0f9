use Rattle.std.proofs.Common.{◌∙◌, Bool, IfOk, List, Option, subst, sym}
use Rattle.peg_semantics.specs.Rules.{Rule}
use Rattle.peg_parser.specs.Engine.{shown_parser_rules}
use Rattle.peg_parser.specs.Parser.{start_named}
use Rattle.peg_json.specs.Lines.{IsLineOf, line_bytes}
use Rattle.peg_json.specs.Parses.{ParsesToAsked}
use Rattle.peg_json.specs.Statuses.{status_code}
use Rattle.peg_replies.specs.Commands.{nodes_asked}
use Rattle.peg_replies.specs.PrintedNodes.{ShowsPrinted, shown_by}
use Rattle.peg_replies.proofs.parse.parse_line.Goals as goal

pub shown_line-requires : goal.shown_line-requires
shown_line-requires c =
    let printing = c.args.printing in
    let nodes = nodes_asked printing.nodes in
    subst (λ (s : Option (List Bool)). ShowsPrinted (shown_parser_rules c.showing.result) s printing.form nodes)
    (sym c.showing.ensures.shown)
    (subst (λ (l : List Rule). ShowsPrinted l c.in_ok-set.set printing.form nodes)
    (c.grammar.ensures ∙ sym c.showing.ensures.rules) c.in_ok-set.ensures)

pub returns : goal.returns
returns c file =
    let printing = c.args.printing in
    let options = c.args.options.now in
    subst (λ (l : List Rule). IfOk c.shown_line.result (λ line. IsLineOf file
    (ParsesToAsked l c.args.text.now (start_named options) options.memo options.steps printing.all printing.form
    (shown_by l (nodes_asked printing.nodes)) printing.with_bytes) (line_bytes line) (status_code line.status)))
    c.showing.ensures.rules (c.shown_line.ensures file)
