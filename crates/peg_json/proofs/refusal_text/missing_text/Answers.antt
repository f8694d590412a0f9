use Rattle.std.proofs.Common.{refl}
use Rattle.peg_json.specs.CauseText.{missing_data}
use Rattle.peg_json.proofs.refusal_text.missing_text.Goals as goal

pub returns : goal.returns
returns c = c.json_text.ensures (missing_data c.args.refusal.now c.args.name.now) c.in_ok-missing_value.ensures refl
