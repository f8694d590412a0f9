use Rattle.std.proofs.Common.{refl}
use Rattle.peg_metagrammar.specs.Figure.{figure}
use Rattle.peg_metagrammar.proofs.laws.the_figure_has_31_rules.Goals as goal

pub returns : goal.returns
unfolding figure
returns c = refl
