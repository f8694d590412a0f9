use Rattle.peg_core.proofs.SugarOutcomes.{GivesNothing-to_core, GivesNothing-from_core, GivesSomething-to_core, GivesSomething-from_core, CanFail-to_core, CanFail-from_core}
use Rattle.peg_core.proofs.laws.core_forms_have_the_same_outcomes.Goals as goal

pub returns : goal.returns
returns c = record {
  nothing = λ rules e terminal. (GivesNothing-to_core rules e terminal, GivesNothing-from_core rules e terminal);
  something = λ rules e terminal. (GivesSomething-to_core rules e terminal, GivesSomething-from_core rules e terminal);
  fails = λ rules e terminal. (CanFail-to_core rules e terminal, CanFail-from_core rules e terminal);
}
