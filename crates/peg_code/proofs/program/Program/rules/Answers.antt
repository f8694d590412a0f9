use Rattle.std.proofs.Common.{ap, arith, length}
use Rattle.std.proofs.lemmas.List.{length-map}
use Rattle.peg_core.specs.Layout.{bodies_of, form_at}
use Rattle.peg_code.specs.Compiled.{Compiled}
use Rattle.peg_code.proofs.LayoutLemmas.{length-entries_from}
use Rattle.peg_code.proofs.program.Program.rules.Goals as goal

pub returns-clause-entries : goal.returns-clause-entries
returns-clause-entries c =
    let core = c.self.inside.checked.core in
    omega (
      arith,
      c.rules.ensures.count,
      ap (λ d. length d.bodies) c.core.ensures,
      length-map core.bodies (form_at core.forms),
      length-entries_from (bodies_of core) 1,
      ap length c.self.invariant.entries,
      ap (λ (p : Compiled). length p.entries) c.self.view_is,
    )
