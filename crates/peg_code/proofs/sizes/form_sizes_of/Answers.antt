use Rattle.std.proofs.Common.{◌≡◌, List, ◌∷◌, ◌++◌, [], length, sym, ap, ◌∙◌, subst, arith, length-append}
use Rattle.peg_code.specs.Sizes.{AreFormSizesSoFar, IsFormSize}
use Rattle.peg_code.specs.declared.sizes.FormSize.{FormSize}
use Rattle.peg_code.proofs.PlanLemmas.{AreFormSizesSoFar-push}
use Rattle.peg_code.proofs.TestLemmas.{TestsFitSoFar-push}
use Rattle.peg_code.proofs.sizes.form_sizes_of.Goals as goal

pub loop-number-preserved : goal.loop-number-preserved
loop-number-preserved c =
    let forms = c.args.core.now.forms in
    let number = c.loop-number.number in
    let old = c.loop-number.form_sizes.items in
    let added = c.form_size_of-form_size.result in
    let was = c.loop-number.invariant in
    let pushed : c.push.new.self.items ≡ old ++ added ∷ [] = c.in_ok-push.ensures.items in
    let size : IsFormSize forms (length old) added =
    subst (λ k. IsFormSize forms k added) (sym was.count) c.form_size_of-form_size.ensures.form_size in
    record {
      count = ap length pushed ∙ omega (arith, length-append old (added ∷ []), was.count);
      form_sizes = subst (λ (l : List FormSize). AreFormSizesSoFar forms l) (sym pushed)
          (AreFormSizesSoFar-push forms old added was.form_sizes size);
      tests = TestsFitSoFar-push (length c.args.core.now.spans) forms number was.tests
          (c.form_size_of-form_size.ensures.tests was.tests);
    }
