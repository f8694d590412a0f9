use Rattle.std.proofs.Common.{ℕ, List, [], ◌∷◌, ◌++◌, ap, subst, ◌∙◌}
use Rattle.serde_json.specs.Written.{compact_text}
use Rattle.peg_check.specs.Exact.{cans_of}
use Rattle.peg_grammar.specs.GrammarRules.{rules_in}
use Rattle.peg_listings.specs.TableText.{table_data}
use Rattle.peg_semantics.specs.RuleOutcomes.{AreAbstractOutcomes}
use Rattle.peg_semantics.specs.Rules.{Rule, names}
use Rattle.peg_handle.proofs.printing.print_table.Goals as goal

pub returns : goal.returns
returns c =
    let core = c.in_ok-core.core in
    let known = c.in_ok-core.ensures in
    let rules = rules_in c.grammar-rules.result.now in
    let cans = cans_of core.bodies c.in_ok-table.table in
    let outcomes = c.in_ok-table.ensures.rules rules (record { forms = known.forms; bodies = known.bodies }) in (
      cans,
      subst (λ (rules : List Rule). AreAbstractOutcomes rules cans) c.grammar-rules.ensures outcomes,
      ap (λ (text : List ℕ). text ++ 10 ∷ [])
          (c.in_ok-json.ensures
          ∙ ap (λ (rules : List Rule). compact_text (table_data (names rules) cans)) c.grammar-rules.ensures),
    )
