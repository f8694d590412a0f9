use Rattle.std.proofs.Common.{◌∙◌, Bor, List, [], ◌∷◌, ◌++◌, ℕ, ap, get_or, map}
use Rattle.std.proofs.lemmas.List.{map-append}
use Rattle.peg_grammar.specs.GrammarRules.{rules_in}
use Rattle.peg_semantics.specs.Rules.{names}
use Rattle.peg_tree.specs.Names.{name_at}
use Rattle.peg_explain.proofs.MappedLemmas.{get_or-other, mapped-more}
use Rattle.peg_explain.proofs.RefusalLemmas.{name-numbered}
use Rattle.peg_explain.proofs.refusals.path_names.Goals as goal

pub rules-preserved : goal.rules-preserved
rules-preserved c =
    let all = rules_in c.args.grammar.now in
    let path = c.args.path.now in
    let index = c.rules.rule-index in
    let number = get_or path index 0 in
    let bytes = λ (name : Bor (List ℕ)). name.now in
    let list = c.rules.list.items in
    ap (map bytes) c.in_ok-push.ensures.items
    ∙ map-append bytes list (c.rule_name.result ∷ [])
    ∙ ap (λ (name : List ℕ). map bytes list ++ name ∷ []) (c.rule_name.ensures ∙ name-numbered all number)
    ∙ mapped-more (name_at (names all)) path index number (map bytes list) c.rules-test.true
    (get_or-other path index 0 number c.rules-test.true) c.rules.invariant
