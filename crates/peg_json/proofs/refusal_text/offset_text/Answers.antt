use Rattle.std.proofs.Common.{refl}
use Rattle.peg_json.specs.CauseText.{place_data}
use Rattle.peg_json.proofs.refusal_text.offset_text.Goals as goal

pub returns : goal.returns
returns c = c.json_text.ensures (place_data c.args.file.now c.args.refusal.now c.args.at) c.in_ok-offset_value.ensures refl
