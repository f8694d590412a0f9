use Rattle.std.proofs.Common.{ap, ◌∙◌, ◌≡◌, []}
use Rattle.peg_core.specs.CoreForm.{CoreForm, Not}
use Rattle.peg_core.specs.CoreParts.{and_forms}
use Rattle.peg_core.specs.Appending.{Appends}
use Rattle.peg_core.specs.Layout.{form_at}
use Rattle.peg_core.proofs.LaidLemmas.{Appends-one, Appends-two, if_ok_both, pushed}
use Rattle.peg_core.proofs.operators.add_and.Goals as goal

pub returns : goal.returns
returns c =
    let old = c.args.builder.now in
    let mid = c.push.new.self in
    let new = c.push-2.new.self in
    let number = c.in_ok-not.not in
    let form = form_at old.forms c.args.part in
    let no : CoreForm = Not form in
    let one = Appends-one old mid no number c.in_ok-not.ensures.put c.in_ok-not.ensures.number in
    let is : Not (form_at mid.forms number) ≡ Not no = ap Not one.last in
    if_ok_both _ (λ last. Appends old (and_forms form) [] (Not no) last new) _ c.push-2.result
    (λ last at put. Appends-two old mid new no (Not no) number last one (put ∙ ap (pushed mid) is) at)
    c.push-2.ensures.number c.push-2.ensures.put
