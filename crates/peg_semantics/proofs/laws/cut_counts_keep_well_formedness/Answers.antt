use Rattle.peg_semantics.proofs.CutGrammar.{IsGrammar-cut}
use Rattle.peg_semantics.proofs.CutWellFormed.{well_formed-cut, well_formed-uncut, empty_loop-cut, empty_loop-uncut}
use Rattle.peg_semantics.proofs.CutWellFormed.{left_cycle-cut, left_cycle-uncut}
use Rattle.peg_semantics.proofs.laws.cut_counts_keep_well_formedness.Goals as goal

pub returns : goal.returns
returns c = record {
  grammar = IsGrammar-cut;
  well_formed = λ rules. (well_formed-uncut rules, well_formed-cut rules);
  empty_loops = λ rules rule span. (empty_loop-uncut rules rule span, empty_loop-cut rules rule span);
  left_cycles = λ rules path. (left_cycle-uncut rules path, left_cycle-cut rules path);
}
