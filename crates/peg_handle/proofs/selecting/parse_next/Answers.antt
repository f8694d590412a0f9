use Rattle.std.proofs.Common.{◌≡◌, ◌∙◌, List, None, subst}
use Rattle.peg_parser.specs.Engine.{shown_parser_rules}
use Rattle.peg_parser.specs.ParseContract.{IsParse}
use Rattle.peg_parser.specs.Parser.{start_named}
use Rattle.peg_parser.specs.Sessions.{session_shown}
use Rattle.peg_semantics.specs.Rules.{Rule}
use Rattle.peg_handle.proofs.selecting.parse_next.Goals as goal

pub returns-clause-parse : goal.returns-clause-parse
returns-clause-parse c =
    let options = c.args.options.now in
    subst (λ shown. IsParse shown None (shown_parser_rules c.args.selecting.now.parser) c.args.text.now
    (start_named options) (options.memo ≡ 0) options.steps c.parse.result) c.requires.shown
    (subst (λ (rules : List Rule). IsParse (session_shown c.args.session.now) None rules c.args.text.now
    (start_named options) (options.memo ≡ 0) options.steps c.parse.result) c.requires.rules c.parse.ensures.parse)

pub returns-clause-session : goal.returns-clause-session
returns-clause-session c = record {
  rules = c.parse.ensures.rules ∙ c.requires.rules;
  shown = c.parse.ensures.shown ∙ c.requires.shown;
}
