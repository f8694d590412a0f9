use Rattle.std.proofs.Common.{◌++◌, ap, ◌∙◌}
use Rattle.std.proofs.lemmas.Result.{IfOk-equal}
use Rattle.peg_messages.specs.Failures.{expected_texts}
use Rattle.peg_messages.specs.Listing.{alternatives, first_texts, joined, listed}
use Rattle.peg_messages.proofs.failure.Failure.write_expected.Goals as goal

pub returns : goal.returns
unfolding listed
returns c =
    let out = c.args.out.now.items in
    let all = expected_texts c.args.self.now in
    let listing = c.in_ok-listing.field-0 in
    let is = c.in_ok-listing.ensures in
    IfOk-equal c.write.result _ _ _ c.write.ensures
    (ap (λ texts. out ++ joined (alternatives texts listing.others)) is.texts
    ∙ ap (λ count. out ++ joined (alternatives (first_texts all) count)) is.others)
