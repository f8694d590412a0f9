use Rattle.peg_core.proofs.PartsLemmas.{subexpressions-have_core_forms, forms-numbered, stars-filtered, grammar-right, grammar-fine}
use Rattle.peg_core.proofs.laws.a_grammars_core_forms_are_those_of_its_expressions.Goals as goal

pub returns : goal.returns
returns c = record {
  subexpressions = subexpressions-have_core_forms;
  all = forms-numbered;
  stars = stars-filtered;
  well_formed = λ rules. (grammar-right rules, grammar-fine rules);
}
