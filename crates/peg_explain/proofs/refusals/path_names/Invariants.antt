use Rattle.std.proofs.Common.{◌≡◌, map, take}
use Rattle.peg_grammar.specs.GrammarRules.{rules_in}
use Rattle.peg_semantics.specs.Rules.{names}
use Rattle.peg_tree.specs.Names.{name_at}
use Rattle.peg_explain.proofs.refusals.path_names.Given as goal

-- the names of the first rules
abbrev pub invariant-rules : goal.invariant-rules
invariant-rules l =
    map (λ name. name.now) l.list.items ≡ map (name_at (names (rules_in l.grammar))) (take l.rule-index l.path)
