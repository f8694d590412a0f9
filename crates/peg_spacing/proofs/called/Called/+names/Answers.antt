use Rattle.std.proofs.Common.{◌≡◌, ◌∙◌, ℕ, ◌+◌, ◌<◌, ◌||◌, Bool, List, ◌++◌, ap, arith, drop, length, map, sym}
use Rattle.std.proofs.lemmas.List.Folds.{list_any-append}
use Rattle.peg_grammar.proofs.LoopLemmas.{forms-drop, forms-drop_all}
use Rattle.peg_grammar.specs.GrammarRules.{rules_in}
use Rattle.peg_grammar.specs.Written.{form_of}
use Rattle.peg_semantics.specs.Form.{Forms, Reference, forms, names_used, names_used_by_all}
use Rattle.peg_semantics.specs.Rules.{Rule}
use Rattle.peg_spacing.specs.Spacing.{has_flag, refer_to}
use Rattle.peg_spacing.proofs.FlagLemmas.{or-false, or-three}
use Rattle.peg_spacing.proofs.called.Called.+names.Goals as goal

-- the references of two lists
refer-append : (rules : List Rule) (a b : List Reference) (rule : ℕ)
    → refer_to rules (a ++ b) rule ≡ (refer_to rules a rule || refer_to rules b rule)
refer-append rules a b rule = list_any-append _ a b

pub add_all_names-loop-item-preserved : goal.add_all_names-loop-item-preserved
add_all_names-loop-item-preserved t c =
    let rules = rules_in c.args.grammar.now in
    let items = c.args.items.now in
    let i = c.loop-item.item-index in
    let item = c.item-item.result in
    let within : i < length items = omega (arith, c.loop-item-test.true) in
    let here = names_used (form_of item) in
    let rest = names_used_by_all (forms (drop (i + 1) (map form_of items))) in
    let step : names_used_by_all (forms (drop i (map form_of items))) ≡ here ++ rest =
    ap names_used_by_all (forms-drop form_of items i item within c.item-item.is) in
    let old = c.loop-item.self.flags.items in
    record {
      count = c.add_names.ensures.count ∙ c.loop-item.invariant.count;
      added = λ rule.
          ap (λ (b : Bool). b || refer_to rules rest rule) (c.add_names.ensures.added rule)
          ∙ or-three (has_flag old rule) (refer_to rules here rule) (refer_to rules rest rule)
          ∙ ap (λ (b : Bool). has_flag old rule || b) (sym (refer-append rules here rest rule))
          ∙ ap (λ (l : List Reference). has_flag old rule || refer_to rules l rule) (sym step)
          ∙ c.loop-item.invariant.added rule;
    }

pub add_all_names-returns-clause-added : goal.add_all_names-returns-clause-added
add_all_names-returns-clause-added t c rule =
    let rules = rules_in c.args.grammar.now in
    let i = c.loop-item.item-index in
    let none = forms-drop_all form_of c.args.items.now i (omega (arith, c.loop-item-test.false)) in
    let flags = c.loop-item.self.flags.items in
    sym (or-false (has_flag flags rule))
    ∙ ap (λ (es : Forms). has_flag flags rule || refer_to rules (names_used_by_all es) rule) (sym none)
    ∙ c.loop-item.invariant.added rule
