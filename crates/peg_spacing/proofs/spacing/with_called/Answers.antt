use Rattle.std.proofs.Common.{◌≡◌, ◌∙◌, ◌+◌, ◌&&◌, ◌||◌, ℕ, Bool, List, [], ◌∷◌, ◌++◌, ap, arith, length, map, not, sym}
use Rattle.std.proofs.lemmas.List.FromFn.{map-range_with_len_more}
use Rattle.std.specs.List.{range_with_len}
use Rattle.peg_grammar.specs.GrammarRules.{rules_in}
use Rattle.peg_spacing.specs.Spacing.{has_flag, is_called_by, is_inside}
use Rattle.peg_spacing.proofs.spacing.with_called.Goals as goal

pub rules-preserved : goal.rules-preserved
rules-preserved c =
    let rules = rules_in c.args.grammar.now in
    let flags = c.args.flags.now in
    let rule = c.rules.rule in
    let at : 0 + rule ≡ rule = omega arith in
    let others : (k : ℕ) → has_flag c.in_ok-outside.outside.flags.items k ≡ is_called_by rules (map not flags) k =
    λ k. c.in_ok-outside.ensures k
    ∙ ap (λ (l : List Bool). is_called_by rules l k) (c.deref.ensures.value ∙ c.in_ok-others.ensures) in
    let here : c.is_inside.result ≡ is_inside rules flags rule =
    c.is_inside.ensures
    ∙ (λ i. has_flag flags rule || (c.in_ok-inside.ensures rule i && not (others rule i))) in
    c.in_ok-push.ensures.items
    ∙ (λ i. c.rules.invariant i ++ here i ∷ [])
    ∙ sym (map-range_with_len_more (is_inside rules flags) 0 rule rule at)

pub returns : goal.returns
returns c =
    let rules = rules_in c.args.grammar.now in
    let all : c.rules.rule ≡ length rules = omega (arith, c.rules-rule-end.ensures.count) in
    c.rules.invariant ∙ ap (λ (n : ℕ). map (is_inside rules c.args.flags.now) (range_with_len 0 n)) all
