use Rattle.peg_metagrammar.proofs.FigureWellFormed.{figure-grammar, figure-well_formed}
use Rattle.peg_metagrammar.proofs.laws.the_figure_is_well_formed.Goals as goal

pub returns : goal.returns
returns c = record { grammar = figure-grammar; well_formed = figure-well_formed }
