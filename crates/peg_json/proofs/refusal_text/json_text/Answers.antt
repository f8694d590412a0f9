use Rattle.std.proofs.Common.{◌∙◌, ap}
use Rattle.std.proofs.lemmas.Result.{IfOk-weaker}
use Rattle.serde_json.specs.Written.{compact_text, has_float}
use Rattle.peg_json.proofs.refusal_text.json_text.Goals as goal

pub returns : goal.returns
returns c printed is whole =
    IfOk-weaker c.to_string.result _ _ (λ text compact. compact (ap has_float is ∙ whole) ∙ ap compact_text is) c.to_string.ensures.text
