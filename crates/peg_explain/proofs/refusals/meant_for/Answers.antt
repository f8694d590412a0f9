use Rattle.std.proofs.Common.{◌∙◌, Bor, List, ap, option_map, string_bytes, subst, sym, ℕ}
use Rattle.peg_grammar.specs.Written.{rules_of}
use Rattle.peg_grammar.specs.declared.fault.GrammarFault.{GrammarFault}
use Rattle.peg_semantics.specs.Rules.{Rule, names}
use Rattle.peg_explain.specs.NearNames.{meant_by}
use Rattle.peg_explain.specs.RefusalMessages.{IsMeantFor, KnowsRules}
use Rattle.peg_explain.proofs.refusals.meant_for.Goals as goal

pub returns-in-Undefined : goal.returns-in-Undefined
returns-in-Undefined c =
    let known = rules_of c.args.definitions.now in
    let name = string_bytes c.in-Undefined.name in
    λ file. subst (λ (why : GrammarFault). KnowsRules file why known
    → IsMeantFor file why (option_map {T = Bor (List ℕ)} (λ rule. rule.now) c.meant_by.result)) (sym c.in-Undefined.is)
    (λ knows rules is. c.meant_by.ensures
    ∙ (ap (meant_by (names known)) c.deref.ensures ∙ ap (λ (l : List Rule). meant_by (names l) name) (sym (knows rules is))))
