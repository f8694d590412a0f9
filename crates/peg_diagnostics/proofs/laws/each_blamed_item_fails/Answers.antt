use Rattle.peg_bytes.specs.Extent.{between}
use Rattle.peg_semantics.specs.Form.{Name}
use Rattle.peg_diagnostics.proofs.BlamedItems.{name-blamed}
use Rattle.peg_diagnostics.proofs.laws.each_blamed_item_fails.Goals as goal

pub returns : goal.returns
returns c = λ rules text n start r b found is.
    (name-blamed rules text n (Name start (between 0 0)) 0 0 0 r b tt found is).0
