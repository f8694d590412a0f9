use Rattle.std.proofs.Common.{◌∙◌, string_bytes}
use Rattle.std.proofs.lemmas.Result.{IfOk-weaker}
use Rattle.serde_json.proofs.FreeTexts.{text_of_str}
use Rattle.peg_tree.proofs.name_json.json_name.Goals as goal

pub returns-in-Ok : goal.returns-in-Ok
returns-in-Ok c =
    let stated = c.in-Ok.ensures.events in
    IfOk-weaker c.from_slice.result _ _ (λ v e. e ∙ c.as_bytes.ensures.value
    ∙ text_of_str c.args.name.now stated.0 (string_bytes c.in-Ok.text) stated.1 stated.2) c.from_slice.ensures.items
