use Rattle.std.proofs.Common.{◌≡◌, ◌⊎◌, inl, inr, ℕ, ◌<◌, true, false, List, Some, length, get_or, option_map, refl, sym, ap, ◌∙◌, subst, arith}
use Rattle.std.proofs.lemmas.List.{get_or_default}
use Rattle.peg_bytes.specs.Extent.{Extent, extent}
use Rattle.peg_core.specs.CoreForm.{Star}
use Rattle.peg_core.specs.CoreOutcomes.{CoreGivesNothing}
use Rattle.peg_core.specs.Layout.{Desugared, bodies_of, form_at}
use Rattle.peg_check.specs.Cans.{can_of}
use Rattle.peg_check.specs.EmptyLoops.{AreFirstLoops, entry_at, loops_of, no_loops}
use Rattle.peg_check.specs.FirstLoops.{IsFirstCoreLoop}
use Rattle.peg_check.specs.declared.loops.LoopEntry.{LoopEntry}
use Rattle.peg_check.proofs.loops.first_loop.Goals as goal

-- the entry of a star, from that of its part
star-entry : (core : Desugared) (entries : List LoopEntry) (number part : ℕ) (origin : Extent) (entry found : LoopEntry)
    → form_at core.forms number ≡ Star (form_at core.forms part) origin → AreFirstLoops core entries → part < length entries
    → option_map extent found.in_part ≡ option_map extent (get_or entries part entry).first
    → (CoreGivesNothing (bodies_of core) (form_at core.forms part) × (option_map extent found.first ≡ Some origin))
    ⊎ (¬ CoreGivesNothing (bodies_of core) (form_at core.forms part)
    × (option_map extent found.first ≡ option_map extent (get_or entries part entry).first))
    → IsFirstCoreLoop (bodies_of core) (form_at core.forms number) (loops_of found)
star-entry core entries number part origin entry found is are within in_part alternatives =
    let same : get_or entries part entry ≡ entry_at entries part = get_or_default entries part entry no_loops within in
    let firsts : option_map extent (get_or entries part entry).first ≡ option_map extent (entry_at entries part).first = ap (λ (e : LoopEntry). option_map extent e.first) same in
    subst (λ f. IsFirstCoreLoop (bodies_of core) f (loops_of found)) (sym is)
    (loops_of (entry_at entries part), are part within, in_part ∙ firsts, elim alternatives [ inl idle ↦ inl idle | inr never ↦ inr (never.0, never.1 ∙ firsts) ])

pub returns-then-of : goal.returns-then-of
returns-then-of c =
    let core = c.args.core.now in
    let one = form_at core.forms c.in-Star.part in
    let exact = c.requires.table.exact c.in-Star.part (can_of c.of.result) c.of.ensures in
    let star = c.origin.ensures in
    let both : Star star.0 (extent c.origin.result) ≡ Star one c.in-Star.ensures.form.0 = sym star.1 ∙ c.in-Star.ensures.form.1 in
    let same : extent c.origin.result ≡ c.in-Star.ensures.form.0 = cc in
    star-entry core c.args.entries.now c.args.number c.in-Star.part c.in-Star.ensures.form.0 c.index-entries-part.result (record { first = Some c.origin.result; in_part = (get_or c.args.entries.now c.in-Star.part c.index-entries-part.result).first })
    c.in-Star.ensures.form.1 c.requires.entries (omega (arith, c.in-Star.ensures.fits, c.requires.parts)) refl
    (inl (exact.nothing.0 c.if-of.true, ap Some same))

pub returns-else-of : goal.returns-else-of
returns-else-of c =
    let core = c.args.core.now in
    let exact = c.requires.table.exact c.in-Star.part (can_of c.of.result) c.of.ensures in
    star-entry core c.args.entries.now c.args.number c.in-Star.part c.in-Star.ensures.form.0 c.index-entries-part.result (record { first = (get_or c.args.entries.now c.in-Star.part c.index-entries-part.result).first; in_part = (get_or c.args.entries.now c.in-Star.part c.index-entries-part.result).first })
    c.in-Star.ensures.form.1 c.requires.entries (omega (arith, c.in-Star.ensures.fits, c.requires.parts)) refl
    (inr (λ gives. let bad : false ≡ true = sym c.if-of.false ∙ exact.nothing.1 gives in cc, refl))
