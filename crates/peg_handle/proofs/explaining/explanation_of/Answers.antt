use Rattle.std.proofs.Common.{◌∙◌, ap, map, refl, subst}
use Rattle.peg_bytes.specs.Extent.{extent}
use Rattle.peg_explain.specs.Explanations.{IsMismatchMessage}
use Rattle.peg_explain.specs.declared.mismatch.ExpectedItem.{ExpectedItem}
use Rattle.peg_explain.specs.declared.style.ItemStyle.{ItemStyle}
use Rattle.peg_handle.specs.FileSpans.{file_span}
use Rattle.peg_handle.proofs.explaining.explanation_of.Goals as goal

pub returns : goal.returns
returns c file rules of_explainer = record {
  message = subst (λ (style : ItemStyle). IsMismatchMessage file rules style c.args.name.now c.args.text.now
      c.args.mismatch.now c.in_ok-message.message.items) c.requires.styled (c.in_ok-message.ensures file rules of_explainer);
  at = refl;
  expected = c.in_ok-expected.ensures ∙ ap (map (λ (item : ExpectedItem). file_span (extent item.span))) c.deref.ensures.value;
  end = refl;
}
