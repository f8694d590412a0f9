use Rattle.std.proofs.Common.{refl}
use Rattle.peg_json.specs.CauseText.{bare_data}
use Rattle.peg_json.proofs.refusal_text.refusal_only_text.Goals as goal

pub returns : goal.returns
returns c = c.json_text.ensures (bare_data c.args.refusal.now) c.in_ok-refusal_only_value.ensures refl
