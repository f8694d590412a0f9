use Rattle.std.proofs.Common.{◌∙◌, ap, refl, string_bytes}
use Rattle.serde_json.specs.Written.{compact_text, has_float}
use Rattle.peg_json.specs.Reply.{Accepted}
use Rattle.peg_json.specs.declared.status.Status.TheVariants.{Done}
use Rattle.peg_json.proofs.PrintLemmas.{text-reply}
use Rattle.peg_json.proofs.lines.accepted_line.Goals as goal

pub returns : goal.returns
returns c file =
    text-reply c.new.result file (string_bytes c.in_ok-to_string.field-0) Done (Accepted c.args.rules)
    c.new.ensures.0 c.new.ensures.1
    (c.in_ok-to_string.ensures.text (ap has_float c.in_ok-value.ensures) ∙ ap compact_text c.in_ok-value.ensures) refl
