use Rattle.std.proofs.Common.{refl}
use Rattle.peg_metagrammar.specs.FigureText.{figure_lines}
use Rattle.peg_metagrammar.proofs.figure_file.figure_text.Goals as goal

pub returns : goal.returns
unfolding figure_lines
returns c = refl
