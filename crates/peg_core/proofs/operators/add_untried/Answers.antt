use Rattle.std.proofs.Common.{ap, ◌∙◌, ◌≡◌, ◌∷◌, []}
use Rattle.peg_core.specs.CoreForm.{CoreForm, Empty, Choice}
use Rattle.peg_core.specs.Appending.{Appends}
use Rattle.peg_core.specs.Layout.{form_at}
use Rattle.peg_core.proofs.LaidLemmas.{Appends-one, Appends-two, form_at-kept, if_ok_both, pushed}
use Rattle.peg_core.proofs.operators.add_untried.Goals as goal

pub returns : goal.returns
returns c =
    let old = c.args.builder.now in
    let mid = c.push.new.self in
    let new = c.push-2.new.self in
    let part = c.args.part in
    let nothing = c.in_ok-nothing.nothing in
    let form = form_at old.forms part in
    let whole : CoreForm = Choice Empty form in
    let one = Appends-one old mid Empty nothing c.in_ok-nothing.ensures.put c.in_ok-nothing.ensures.number in
    let is : Choice (form_at mid.forms nothing) (form_at mid.forms part) ≡ whole =
    λ i. Choice (one.last i) (form_at-kept old mid (Empty ∷ []) part one.forms c.requires.part i) in
    if_ok_both _ (λ number. Appends old (Empty ∷ whole ∷ []) [] whole number new) _ c.push-2.result
    (λ number at put. Appends-two old mid new Empty whole nothing number one (put ∙ ap (pushed mid) is) at)
    c.push-2.ensures.number c.push-2.ensures.put
