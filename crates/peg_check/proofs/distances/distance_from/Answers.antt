use Rattle.std.proofs.Common.{◌+◌, ap, ◌∙◌}
use Rattle.peg_core.specs.Layout.{form_at}
use Rattle.peg_check.specs.Dependencies.{dep_at}
use Rattle.peg_check.specs.Distances.{distance_by, nearest_part}
use Rattle.peg_check.proofs.distances.distance_from.Goals as goal

pub returns : goal.returns
returns c =
    let form = form_at c.args.core.now.forms c.args.number in
    let start = c.args.start in
    let distances = c.args.distances.now in
    let link = dep_at c.args.well_formedness.now c.args.number in
    c.distance_by.ensures
    ∙ (ap (distance_by form start (c.len-far.result + 1)) c.nearest_of.ensures
    ∙ ap (λ n. distance_by form start (n + 1) (nearest_part (n + 1) distances link)) c.len-far.ensures.count)
