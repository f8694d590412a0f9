use Rattle.std.proofs.Common.{◌≡◌, ◌∙◌, ◌∷◌, ◌++◌, [], ℕ, Bool, List, ap, map, sym}
use Rattle.std.proofs.lemmas.List.{map-append}
use Rattle.peg_grammar.specs.GrammarRules.{rules_in}
use Rattle.peg_semantics.specs.Rules.{name_of}
use Rattle.peg_spacing.specs.Spacing.{has_flag}
use Rattle.peg_lint_files.proofs.SpacingLemmas.{names-more, names-same}
use Rattle.peg_lint_files.proofs.spacing.spacing_names.Goals as goal
use Rattle.peg_lint_files.proofs.spacing.spacing_names.Goals.{then-has_flag+in_ok-push, else-has_flag}

pub rules-preserved : goal.rules-preserved
rules-preserved c =
    let f : ℕ → List ℕ = name_of (rules_in c.args.grammar.now) in
    let test : ℕ → Bool = has_flag c.in_ok-flags.flags.items in
    let rule = c.rules.rule in
    let read : c.has_flag.result ≡ test rule =
    c.has_flag.ensures ∙ ap (λ (l : List Bool). has_flag l rule) c.deref.ensures.value in
    elim c.if-has_flag.branch [
      | then-has_flag+in_ok-push w ↦
          ap (λ v. map (λ name. name.now) v.items) w.list-is
          ∙ (ap (map (λ name. name.now)) w.in_ok-push.ensures.items
          ∙ (map-append (λ name. name.now) c.rules.list.items (w.rule_name.result ∷ [])
          ∙ ((λ i. c.rules.invariant i ++ w.rule_name.ensures i ∷ [])
          ∙ sym (names-more f test rule (sym read ∙ w.if-has_flag.true)))))
      | else-has_flag w ↦
          ap (λ v. map (λ name. name.now) v.items) w.list-is
          ∙ (c.rules.invariant ∙ sym (names-same f test rule (sym read ∙ w.if-has_flag.false)))
    ]
