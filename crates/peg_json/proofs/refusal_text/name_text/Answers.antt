use Rattle.std.proofs.Common.{refl}
use Rattle.peg_bytes.specs.Extent.{extent}
use Rattle.peg_parser.specs.Cause.{reference}
use Rattle.peg_json.specs.CauseText.{name_data}
use Rattle.peg_json.proofs.refusal_text.name_text.Goals as goal

pub returns : goal.returns
returns c = c.json_text.ensures (name_data c.args.file.now c.args.refusal.now (reference c.args.name.now (extent c.args.span))) c.in_ok-name_value.ensures refl
