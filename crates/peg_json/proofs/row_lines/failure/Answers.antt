use Rattle.std.proofs.Common.{◌≡◌, IfOk, string_bytes, subst}
use Rattle.serde_json.specs.Written.{compact_text}
use Rattle.peg_json.specs.Reply.{failed_data}
use Rattle.peg_json.proofs.row_lines.failure.Goals as goal

pub returns : goal.returns
returns c =
    subst (λ places. IfOk c.failed_text.result (λ text. string_bytes text ≡ compact_text (failed_data c.args.far places)))
    c.new.ensures c.failed_text.ensures
