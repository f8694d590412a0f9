use Rattle.std.proofs.Common.{[], ◌∷◌, sym, subst, IfOk}
use Rattle.peg_grammar.specs.GrammarRules.{rules_in}
use Rattle.peg_core.specs.CoreForm.{Rule}
use Rattle.peg_core.specs.Appending.{Appends}
use Rattle.peg_core.proofs.AddLemmas.{defined-position, number_of-position}
use Rattle.peg_core.proofs.desugaring.add_name.Goals as goal

pub unreachable-requires : goal.unreachable-requires
unreachable-requires c =
    defined-position (rules_in c.args.grammar.now) c.args.name.now c.requires.defined (sym c.in-None.ensures)

pub returns : goal.returns
returns c =
    let same = number_of-position (rules_in c.args.grammar.now) c.args.name.now c.in-Some.rule (sym c.in-Some.ensures) in
    subst (λ rule. IfOk c.add_call.result (λ number. Appends c.args.builder.now (Rule rule ∷ []) [] (Rule rule) number c.add_call.new.builder))
    (sym same) c.add_call.ensures
