-- Describes code: what a `BlameParser` is made of.
use Rattle.std.specs.Prelude.{◌≡◌, ◌≢◌, ◌≤◌, ℕ, AllPairs, List, length, map}
use Rattle.peg_bytes.specs.Extent.{extent}
use Rattle.peg_code.specs.Compiled.{max_instructions}
use Rattle.peg_diagnostics.specs.Diagnostic.{diagnostic_rules}
use Rattle.peg_diagnostics.specs.Items.{extents_of_items, rules_of_items}
use Rattle.peg_diagnostics.specs.ItemKinds.{kinds_of_items}
use Rattle.peg_diagnostics.specs.ItemTests.{item_terminals}
use Rattle.peg_parser.specs.Accepts.{code_size}
use Rattle.peg_parser.specs.Engine.{rules_shown, shown_parser_rules}
use Rattle.peg_semantics.specs.Grammar.{IsGrammar, max_parts}
use Rattle.peg_semantics.specs.Rules.{Rule, names, weight_of}
use Rattle.peg_semantics.specs.WellFormed.{IsWellFormedGrammar}
use Rattle.peg_parser.specs.ShowsNone.{ShowsNone}
use Rattle.peg_blame.specs.declared.blame_parser.BlameParser.{BlameParser}

-- The parser was made for these rules, a well-formed grammar. It has the parser of their diagnostic grammar, which
-- shows no rules. Its names are distinct, and it is within the limits. It also has the terminal number, the span, the
-- rule and the kind of each item.
pub record IsBlameParserOf (rules : List Rule) (parser : BlameParser) : Type 0 where
  pub grammar : ∥ IsGrammar rules ∥₁
  pub well_formed : ∥ IsWellFormedGrammar rules ∥₁
  pub diagnostic : shown_parser_rules parser.parser ≡ diagnostic_rules rules
  pub bare : ShowsNone (rules_shown parser.parser)
  pub distinct : AllPairs (λ (a b : List ℕ). a ≢ b) (names (diagnostic_rules rules))
  pub light : weight_of (diagnostic_rules rules) ≤ max_parts
  pub small : code_size (diagnostic_rules rules) ≤ max_instructions
  pub count : parser.rules ≡ length rules
  pub terminals : parser.terminals.items ≡ item_terminals rules
  pub items : map extent parser.items.items ≡ extents_of_items rules
  pub item_rules : parser.item_rules.items ≡ rules_of_items rules
  pub item_kinds : parser.item_kinds.items ≡ kinds_of_items rules
