use Rattle.std.proofs.Common.{◌≡◌, IfOk, string_bytes, subst}
use Rattle.serde_json.specs.Written.{compact_text}
use Rattle.peg_json.specs.Reply.{expected_data}
use Rattle.peg_json.specs.Sending.{spans_of}
use Rattle.peg_json.proofs.AnswerLemmas.{expected-without_floats}
use Rattle.peg_listings.proofs.SentText.{value-text}
use Rattle.peg_json.proofs.row_lines.expected_text.Goals as goal

pub returns : goal.returns
returns c =
    let spans = spans_of c.new.result in
    subst (λ places. IfOk c.text_of.result (λ text. string_bytes text ≡ compact_text (expected_data places))) c.new.ensures
    (value-text c.text_of.result (expected_data spans) (expected-without_floats spans) c.text_of.ensures)
