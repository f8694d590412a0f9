use Rattle.std.proofs.Common.{◌≡◌, IfOk, List, None, subst, sym}
use Rattle.peg_parser.specs.Engine.{rules_shown}
use Rattle.peg_parser.specs.Parser.{start_named}
use Rattle.peg_semantics.specs.Rules.{Rule}
use Rattle.peg_json.specs.Lines.{IsLineOf, line_bytes}
use Rattle.peg_json.specs.Parses.{ParsesToAsked}
use Rattle.peg_json.specs.Statuses.{status_code}
use Rattle.peg_parser.specs.Fits.{Fits}
use Rattle.peg_parser.specs.ParseContract.{IsParse}
use Rattle.peg_replies.specs.Commands.{nodes_asked}
use Rattle.peg_replies.specs.PrintedNodes.{ShowsPrinted, shown_by}
use Rattle.peg_replies.proofs.parse.shown_line.Goals as goal

pub parsed_line-requires-clause-fits : goal.parsed_line-requires-clause-fits
parsed_line-requires-clause-fits c =
    subst (λ (l : List Rule). IfOk c.parse-parsed.result (λ answer. Fits l answer.outcome)) (sym c.into_parser.ensures)
    c.parse-parsed.ensures.parse.fits

pub returns : goal.returns
returns c file =
    let printing = c.args.printing in
    let options = c.args.options.now in
    let text = c.args.text.now in
    subst (λ (l : List Rule). IfOk c.parsed_line.result (λ line. IsLineOf file
    (ParsesToAsked l text (start_named options) options.memo options.steps printing.all printing.form
    (shown_by l (nodes_asked printing.nodes)) printing.with_bytes) (line_bytes line) (status_code line.status)))
    c.into_parser.ensures
    (c.parsed_line.ensures (rules_shown c.args.parser) file
    (subst (λ (l : List Rule). ShowsPrinted l (rules_shown c.args.parser) printing.form (nodes_asked printing.nodes))
    (sym c.into_parser.ensures) c.requires)
    (subst (λ (l : List Rule). IsParse (rules_shown c.args.parser) None l text (start_named options) (options.memo ≡ 0)
    options.steps c.parse-parsed.result) (sym c.into_parser.ensures) c.parse-parsed.ensures.parse))
