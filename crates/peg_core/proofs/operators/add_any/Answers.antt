use Rattle.std.proofs.Common.{[], ◌∷◌, length, subst, IfOk}
use Rattle.peg_bytes.specs.Extent.{extent}
use Rattle.peg_core.specs.CoreForm.{Test}
use Rattle.peg_core.specs.Appending.{Appends}
use Rattle.peg_core.proofs.AddLemmas.{full-is}
use Rattle.peg_core.proofs.operators.add_any.Goals as goal

pub returns : goal.returns
returns c =
    let old = c.args.builder.now in
    let t = length old.spans in
    subst (λ set. IfOk c.add_class.result (λ number. Appends old (Test set t ∷ []) (extent c.args.span ∷ []) (Test set t) number c.add_class.new.builder))
    (full-is c.full.result c.full.ensures) c.add_class.ensures
