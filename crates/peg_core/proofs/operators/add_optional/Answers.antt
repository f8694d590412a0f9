use Rattle.std.proofs.Common.{ap, ◌∙◌, ◌≡◌, ◌∷◌, []}
use Rattle.peg_core.specs.CoreForm.{CoreForm, Empty, Choice}
use Rattle.peg_core.specs.CoreParts.{optional_forms}
use Rattle.peg_core.specs.Appending.{Appends}
use Rattle.peg_core.specs.Layout.{form_at}
use Rattle.peg_core.proofs.LaidLemmas.{Appends-one, Appends-two, form_at-kept, if_ok_both, pushed}
use Rattle.peg_core.proofs.operators.add_optional.Goals as goal

pub returns : goal.returns
returns c =
    let old = c.args.builder.now in
    let mid = c.push.new.self in
    let new = c.push-2.new.self in
    let part = c.args.part in
    let empty = c.in_ok-empty.empty in
    let whole : CoreForm = Choice (form_at old.forms part) Empty in
    let one = Appends-one old mid Empty empty c.in_ok-empty.ensures.put c.in_ok-empty.ensures.number in
    let is : Choice (form_at mid.forms part) (form_at mid.forms empty) ≡ whole =
    λ i. Choice (form_at-kept old mid (Empty ∷ []) part one.forms c.requires.part i) (one.last i) in
    if_ok_both _ (λ number. Appends old (optional_forms (form_at old.forms part)) [] whole number new) _ c.push-2.result
    (λ number at put. Appends-two old mid new Empty whole empty number one (put ∙ ap (pushed mid) is) at)
    c.push-2.ensures.number c.push-2.ensures.put
