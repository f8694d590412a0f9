-- Describes code: what is known at the position of a message.
use Rattle.std.specs.Prelude.{◌≡◌, ◌≤◌, ℕ, List, drop, false, length}
use Rattle.peg_blame.specs.BlameCalls.{is_called}
use Rattle.peg_blame.specs.BlameParser.{IsBlameParserOf}
use Rattle.peg_grammar.specs.GrammarRules.{rules_in}
use Rattle.peg_grammar.specs.Limits.{max_text_bytes}
use Rattle.peg_semantics.specs.Record.{RuleCall}
use Rattle.peg_semantics.specs.Rules.{Rule}
use Rattle.peg_tree.specs.Selected.{has_rule}
use Rattle.peg_tree.specs.declared.outcome.Outcome.{Outcome}
use Rattle.peg_explain.specs.Explanations.{AreRestsFor, ItemFact, expected_items, facts_by_blame, left_out_spacing}
use Rattle.peg_explain.specs.Names.{outermost_rules}
use Rattle.peg_explain.specs.Reports.{is_whole_match}
use Rattle.peg_explain.specs.declared.names.Naming.{Naming}
use Rattle.peg_explain.specs.declared.names.Rest.{Rest}
use Rattle.peg_explain.specs.declared.style.ItemStyle.{ItemStyle}

-- A naming is that of a position in a text from a start, where these rules are called.
pub record IsNamingAt (rules : List Rule) (text start : List ℕ) (calls : List RuleCall) (at : ℕ)
    (naming : Naming) : Type 0 where
  pub blames : IsBlameParserOf rules naming.blames.now
  pub grammar : rules_in naming.grammar.now ≡ rules
  pub from : naming.start.now ≡ start
  pub called : (rule : ℕ) → has_rule naming.called.now rule ≡ is_called calls rule at
  pub rest : naming.rest.now ≡ drop at text
  pub short : length naming.rest.now ≤ max_text_bytes

-- These items are expected by an outcome, and these rules are named, given the calls of its blame, if the text doesn't
-- match as a whole.
abbrev pub AreItemsFor : List Rule → ItemStyle → (text start : List ℕ) → Outcome → List RuleCall → List ItemFact
    → (named : List ℕ) → Type 0
AreItemsFor rules style text start outcome calls items named =
    (rests : List Rest) × AreRestsFor rules style text start outcome calls rests
    × (named ≡ outermost_rules rests)
    × (is_whole_match outcome.result (length text) ≡ false
    → items ≡ expected_items (facts_by_blame rules (left_out_spacing rules style outcome) rests) outcome)
