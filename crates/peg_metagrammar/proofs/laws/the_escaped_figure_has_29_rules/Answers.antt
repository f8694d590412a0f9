use Rattle.std.proofs.Common.{refl}
use Rattle.peg_metagrammar.specs.EscapedFigure.{escaped_figure}
use Rattle.peg_metagrammar.specs.Figure.{figure}
use Rattle.peg_metagrammar.proofs.laws.the_escaped_figure_has_29_rules.Goals as goal

pub returns : goal.returns
unfolding figure escaped_figure
returns c = refl
