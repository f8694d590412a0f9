use Rattle.std.proofs.Common.{true, false, sym, ◌≡◌, ◌∙◌}
use Rattle.peg_check.specs.WellFormednessDeps.{deps_empty, deps_test, deps_body, deps_first, deps_both, deps_either, deps_star, deps_not}
use Rattle.peg_bytes.specs.ByteSet.{bytes_of}
use Rattle.peg_check.specs.Cans.{can_of}
use Rattle.peg_check.proofs.well_formedness.well_formedness_dep.Goals as goal

pub returns-in-Empty : goal.returns-in-Empty
returns-in-Empty c = deps_empty c.of.result c.in-Empty.ensures.form.1

pub returns-in-Test : goal.returns-in-Test
returns-in-Test c =
    deps_test c.of-in-Test.result (bytes_of c.in-Test.set) c.in-Test.terminal c.in-Test.ensures.form.1

pub returns-in-Rule : goal.returns-in-Rule
returns-in-Rule c =
    deps_body c.in-Rule.rule c.body.result c.in-Rule.ensures.form.1 c.body.ensures.number c.body.ensures.within

pub returns-then-of : goal.returns-then-of
returns-then-of c =
    let exact = c.requires.table.exact c.in-Seq.first (can_of c.of-in-Seq.result) c.of-in-Seq.ensures in
    deps_both c.in-Seq.first c.in-Seq.rest c.in-Seq.ensures.form.1 c.in-Seq.ensures.fits.0 c.in-Seq.ensures.fits.1
    (exact.nothing.0 c.if-of.true)

pub returns-else-of : goal.returns-else-of
returns-else-of c =
    let exact = c.requires.table.exact c.in-Seq.first (can_of c.of-in-Seq.result) c.of-in-Seq.ensures in
    deps_first c.in-Seq.first c.in-Seq.rest c.in-Seq.ensures.form.1 c.in-Seq.ensures.fits.0
    (λ gives. let bad : false ≡ true = sym c.if-of.false ∙ exact.nothing.1 gives in cc)

pub returns-in-Choice : goal.returns-in-Choice
returns-in-Choice c =
    deps_either c.in-Choice.first c.in-Choice.rest c.in-Choice.ensures.form.1 c.in-Choice.ensures.fits.0 c.in-Choice.ensures.fits.1

pub returns-in-Star : goal.returns-in-Star
returns-in-Star c =
    deps_star c.in-Star.part c.in-Star.ensures.form.0 c.in-Star.ensures.form.1 c.in-Star.ensures.fits

pub returns-in-Not : goal.returns-in-Not
returns-in-Not c = deps_not c.in-Not.part c.in-Not.ensures.form.1 c.in-Not.ensures.fits
