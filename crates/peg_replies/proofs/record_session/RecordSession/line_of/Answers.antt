use Rattle.std.proofs.Common.{◌≡◌, ◌∙◌, List, None, subst, sym}
use Rattle.peg_parser.specs.Engine.{rules_shown}
use Rattle.peg_parser.specs.ParseContract.{IsParse}
use Rattle.peg_parser.specs.Parser.{parser_rules, start_named}
use Rattle.peg_parser.specs.Sessions.{session_rules, session_shown}
use Rattle.peg_semantics.specs.Rules.{Rule}
use Rattle.peg_replies.specs.Commands.{nodes_asked}
use Rattle.peg_replies.specs.PrintedNodes.{ShowsPrinted}
use Rattle.peg_replies.proofs.RecordLemmas.{other-fits}
use Rattle.peg_replies.proofs.record_session.RecordSession.line_of.Goals as goal

pub parsed_line-requires-clause-fits : goal.parsed_line-requires-clause-fits
parsed_line-requires-clause-fits c =
    let by = c.args.self.now in
    other-fits c.parse-parsed.result (session_rules by.session) (parser_rules by.records.now.parser) by.rules by.spans
    c.parse-parsed.ensures.parse.fits

pub returns-clause-line : goal.returns-clause-line
returns-clause-line c file of =
    let records = c.args.self.now.records.now in
    let shown = session_shown c.args.self.now.session in
    let printing = records.printing in
    let options = records.options in
    c.parsed_line.ensures shown file
    (subst (λ s. ShowsPrinted (parser_rules records.parser) s printing.form (nodes_asked printing.nodes))
    (sym of.parses.shown)
    (subst (λ (l : List Rule). ShowsPrinted l (rules_shown records.shown) printing.form (nodes_asked printing.nodes))
    of.parser.same of.parser.shows))
    (subst (λ (l : List Rule). IsParse shown None l c.args.text.now (start_named options) (options.memo ≡ 0)
    options.steps c.parse-parsed.result) (of.parses.rules ∙ of.parser.same) c.parse-parsed.ensures.parse)

pub returns-clause-parses : goal.returns-clause-parses
returns-clause-parses c is = record {
  rules = c.parse-parsed.ensures.rules ∙ is.rules;
  shown = c.parse-parsed.ensures.shown ∙ is.shown;
}
