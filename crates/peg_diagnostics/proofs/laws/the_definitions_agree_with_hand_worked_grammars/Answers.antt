use Rattle.std.proofs.Common.{refl}
use Rattle.peg_semantics.specs.Record.{record_in}
use Rattle.peg_diagnostics.specs.Blame.{blame_in}
use Rattle.peg_diagnostics.proofs.laws.the_definitions_agree_with_hand_worked_grammars.Goals as goal

pub returns : goal.returns
unfolding record_in blame_in
returns c = record {
  predicate = (8, refl);
  literal = (8, refl);
  matched = (8, refl);
  keyword = (8, refl);
  identifier = (8, refl);
  guarded_terminals = refl;
  keyword_terminals = refl;
}
