use Rattle.std.proofs.Common.{length, take, lit<, ap, sym, ◌∙◌, arith, List, ℕ}
use Rattle.std.proofs.lemmas.Iterator.Consumers.{YieldsList-turn, YieldsList-end}
use Rattle.std.proofs.lemmas.Iterator.Splits.{YieldsList-from_str_split}
use Rattle.std.proofs.lemmas.List.{length_push, take_all}
use Rattle.peg_grammar.specs.GrammarRules.{rules_in}
use Rattle.peg_tree.specs.Selected.{has_rule}
use Rattle.peg_replies.specs.PrintedNodes.{is_listed, names_listed}
use Rattle.peg_replies.proofs.ListedNames.{listed-more}
use Rattle.peg_replies.proofs.nodes.listed_rules.Goals as goal

pub add_named-requires : goal.add_named-requires
add_named-requires c = c.names.invariant.2

pub names-preserved : goal.names-preserved
names-preserved c =
    let rules = rules_in c.args.grammar.now in
    let all = names_listed c.args.list.now in
    let so_far = length c.names.yielded in
    let turn = YieldsList-turn (YieldsList-from_str_split 44 c.args.list.now (lit< tt) (cc) (cc) (cc))
    c.names.yielded _ c.names.yielded_by _ _ c.in-Some.name c.in-Some.is c.next.ensures.steps in (
      tt,
      tt,
      c.add_named.ensures.count ∙ c.names.invariant.2,
      λ rule low.
          c.add_named.ensures.added rule low
          ∙ listed-more rules all so_far rule c.in-Some.name.now (has_rule c.names.set rule) turn.0 turn.1
          (c.names.invariant.3 rule low)
          ∙ ap (λ n. is_listed rules (take n all) rule) (sym (length_push c.names.yielded c.in-Some.name)),
    )

pub returns : goal.returns
returns c =
    let rules = rules_in c.args.grammar.now in
    let all = names_listed c.args.list.now in
    let end = YieldsList-end (YieldsList-from_str_split 44 c.args.list.now (lit< tt) (cc) (cc) (cc))
    c.names.yielded _ c.names.yielded_by _ _ c.in-None.is c.next.ensures.steps in
    λ rule low.
    c.names.invariant.3 rule low
    ∙ ap (λ (l : List (List ℕ)). is_listed rules l rule) (take_all (length c.names.yielded) all (omega (arith, end.1)))
