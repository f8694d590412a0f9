use Rattle.std.proofs.Common.{◌≡◌, find, length, not, take, lit<, ap, sym, ◌∙◌, arith, List, ℕ}
use Rattle.std.proofs.lemmas.Iterator.Consumers.{YieldsList-turn, YieldsList-end}
use Rattle.std.proofs.lemmas.Iterator.Splits.{YieldsList-from_str_split}
use Rattle.std.proofs.lemmas.List.{length_push, take_all}
use Rattle.peg_grammar.specs.GrammarRules.{rules_in}
use Rattle.peg_semantics.specs.Rules.{is_defined}
use Rattle.peg_replies.specs.PrintedNodes.{names_listed}
use Rattle.peg_replies.proofs.ListedNames.{find-at, find-more, known-name, unknown-name}
use Rattle.peg_replies.proofs.nodes.unknown_in.Goals as goal
use Rattle.std.proofs.Common.{Bool, true, false, get_or, Some}

pub returns-then-is_none : goal.returns-then-is_none
returns-then-is_none c =
    let rules = rules_in c.args.grammar.now in
    let all = names_listed c.args.list.now in
    let name = c.in-Some.name.now in
    let is_unknown : List ℕ → Bool = λ name. not (is_defined rules name) in
    let turn = YieldsList-turn (YieldsList-from_str_split 44 c.args.list.now (lit< tt) (cc) (cc) (cc))
    c.names.yielded _ c.names.yielded_by _ _ c.in-Some.name c.in-Some.is c.next.ensures.steps in
    let passes : is_unknown (get_or all (length c.names.yielded) name) ≡ true =
    ap is_unknown (sym turn.1) ∙ unknown-name rules name c.rule_number.result c.rule_number.ensures c.is_none.result c.is_none.ensures c.if-is_none.true in
    ap Some turn.1 ∙ sym (find-at is_unknown all (length c.names.yielded) name turn.0 c.names.invariant.2 passes)

pub names-preserved : goal.names-preserved
names-preserved c =
    let rules = rules_in c.args.grammar.now in
    let all = names_listed c.args.list.now in
    let name = c.in-Some.name.now in
    let is_unknown : List ℕ → Bool = λ name. not (is_defined rules name) in
    let turn = YieldsList-turn (YieldsList-from_str_split 44 c.args.list.now (lit< tt) (cc) (cc) (cc))
    c.names.yielded _ c.names.yielded_by _ _ c.in-Some.name c.in-Some.is c.next.ensures.steps in
    let fails : is_unknown (get_or all (length c.names.yielded) name) ≡ false =
    ap is_unknown (sym turn.1) ∙ known-name rules name c.rule_number.result c.rule_number.ensures c.is_none.result c.is_none.ensures c.if-is_none.false in (
      tt,
      tt,
      ap (λ n. find is_unknown (take n all)) (length_push c.names.yielded c.in-Some.name)
          ∙ find-more is_unknown all (length c.names.yielded) name turn.0 c.names.invariant.2 fails,
    )

pub returns : goal.returns
returns c =
    let rules = rules_in c.args.grammar.now in
    let all = names_listed c.args.list.now in
    let is_unknown : List ℕ → Bool = λ name. not (is_defined rules name) in
    let end = YieldsList-end (YieldsList-from_str_split 44 c.args.list.now (lit< tt) (cc) (cc) (cc))
    c.names.yielded _ c.names.yielded_by _ _ c.in-None.is c.next.ensures.steps in
    sym (ap (find is_unknown) (sym (take_all (length c.names.yielded) all (omega (arith, end.1)))) ∙ c.names.invariant.2)
