use Rattle.std.proofs.Common.{refl}
use Rattle.peg_semantics.specs.Record.{Failed, Matched}
use Rattle.peg_core.proofs.CoreShown.{core_result-shows}
use Rattle.peg_core.proofs.record_laws.core_results_show_abstract_outcomes.Goals as goal

pub returns : goal.returns
returns c = record {
  nothing = λ bodies text n form position trees r is matched.
      (n, (core_result-shows bodies text n form position r (Matched position trees) is matched).nothing refl);
  something = λ bodies text n form position end trees r is matched less.
      (n, (core_result-shows bodies text n form position r (Matched end trees) is matched).something less);
  fails = λ bodies text n form position r is failed. (n, core_result-shows bodies text n form position r Failed is failed);
}
