-- Describes code: the views of a `Session`.
use Rattle.std.specs.Prelude.{◌≡◌, Bool, List, Option}
use Rattle.peg_semantics.specs.Rules.{Rule}
use Rattle.peg_parser.specs.Engine.{engine_rules, rules_shown, shown_in, shown_parser_rules}
use Rattle.peg_parser.specs.declared.session.Session.{Session}
use Rattle.peg_parser.specs.declared.shown_parser.ShownParser.{ShownParser}

-- the rules of the session's grammar, in order
abbrev pub session_rules : Session → List Rule
session_rules session = engine_rules session.engine.now

-- the set of rules that a session shows, or `None` for all
abbrev pub session_shown : Session → Option (List Bool)
session_shown session = shown_in session.engine.now

-- a session parses as a parser does
pub record IsSessionOf (parser : ShownParser) (session : Session) : Type 0 where
  pub rules : session_rules session ≡ shown_parser_rules parser
  pub shown : session_shown session ≡ rules_shown parser
