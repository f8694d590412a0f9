use Rattle.std.proofs.Common.{ap, ◌∙◌, ◌≡◌, ◌∷◌, []}
use Rattle.peg_bytes.specs.Extent.{extent}
use Rattle.peg_core.specs.CoreForm.{CoreForm, Seq, Star}
use Rattle.peg_core.specs.CoreParts.{plus_forms}
use Rattle.peg_core.specs.Appending.{Appends}
use Rattle.peg_core.specs.Layout.{form_at}
use Rattle.peg_core.proofs.LaidLemmas.{Appends-one, Appends-two, form_at-kept, if_ok_both, pushed}
use Rattle.peg_core.proofs.operators.add_plus.Goals as goal

pub returns : goal.returns
returns c =
    let old = c.args.builder.now in
    let mid = c.push.new.self in
    let new = c.push-2.new.self in
    let part = c.args.part in
    let number = c.in_ok-star.star in
    let form = form_at old.forms part in
    let star : CoreForm = Star form (extent c.args.origin) in
    let one = Appends-one old mid star number c.in_ok-star.ensures.put c.in_ok-star.ensures.number in
    let is : Seq (form_at mid.forms part) (form_at mid.forms number) ≡ Seq form star =
    λ i. Seq (form_at-kept old mid (star ∷ []) part one.forms c.requires.part i) (one.last i) in
    if_ok_both _ (λ last. Appends old (plus_forms form (extent c.args.origin)) [] (Seq form star) last new) _ c.push-2.result
    (λ last at put. Appends-two old mid new star (Seq form star) number last one (put ∙ ap (pushed mid) is) at)
    c.push-2.ensures.number c.push-2.ensures.put
