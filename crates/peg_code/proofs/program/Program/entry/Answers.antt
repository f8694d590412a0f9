use Rattle.std.proofs.Common.{◌≡◌, ◌<◌, length, get_or, refl, slice_get, sym, ap, ◌∙◌, arith}
use Rattle.std.proofs.lemmas.List.{length-map}
use Rattle.std.proofs.lemmas.Option.{slice_get_read}
use Rattle.peg_core.specs.Layout.{bodies_of, form_at}
use Rattle.peg_code.specs.Code.{entries_of}
use Rattle.peg_code.specs.Compiled.{Compiled}
use Rattle.peg_code.proofs.LayoutLemmas.{entry-within, length-entries_from, length-rules_code}
use Rattle.peg_code.proofs.program.Program.entry.Goals as goal
use Rattle.peg_code.proofs.program.Program.entry.Goals.{After-self}

-- the rule has a body, and so an entry
ruled : (c : After-self) → c.args.rule < length (bodies_of c.self.inside.checked.core)
ruled c =
    omega (arith, c.requires, length-map c.self.inside.checked.core.bodies (form_at c.self.inside.checked.core.forms), ap (λ (p : Compiled). length p.core.bodies) c.self.view_is)

pub index-requires : goal.index-requires
index-requires c =
    omega (arith, ruled c, length-entries_from (bodies_of c.self.inside.checked.core) 1, ap length c.self.invariant.entries, c.self.inside.entries.ok.0)

pub returns-clause-number : goal.returns-clause-number
returns-clause-number c =
    ap (λ (p : Compiled). slice_get p.entries c.args.rule) (sym c.self.view_is)
    ∙ slice_get_read c.self.inside.entries.items (length c.self.inside.entries.items) c.args.rule c.index.result.now refl
    (omega (arith, index-requires (goal.at.returns-clause-number c).After-self, c.self.inside.entries.ok.0)) c.index.ensures

pub returns-clause-within : goal.returns-clause-within
returns-clause-within c =
    let bodies = bodies_of c.self.inside.checked.core in
    let rule = c.args.rule in
    let is : c.index.result.now ≡ get_or (entries_of bodies) rule c.index.result.now = c.index.ensures ∙ ap (λ xs. get_or xs rule c.index.result.now) c.self.invariant.entries in
    let long = ap length c.self.invariant.code in
    omega (arith, is, entry-within bodies 1 rule c.index.result.now (ruled (goal.at.returns-clause-within c).After-self), length-rules_code bodies 1, long, ap (λ (p : Compiled). length p.code) c.self.view_is)
