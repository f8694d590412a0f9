use Rattle.std.proofs.Common.{refl}
use Rattle.peg_bytes.specs.Extent.{extent}
use Rattle.peg_parser.specs.Cause.{reference}
use Rattle.peg_json.specs.CauseText.{loop_data}
use Rattle.peg_json.proofs.refusal_text.loop_text.Goals as goal

pub returns : goal.returns
returns c = c.json_text.ensures (loop_data c.args.file.now (reference c.args.rule.now (extent c.args.span))) c.in_ok-loop_value.ensures refl
