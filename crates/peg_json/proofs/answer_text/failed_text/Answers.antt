use Rattle.peg_json.specs.Reply.{failed_data}
use Rattle.peg_json.specs.Sending.{spans_of}
use Rattle.peg_json.proofs.AnswerLemmas.{failed-without_floats}
use Rattle.peg_listings.proofs.SentText.{value-text}
use Rattle.peg_json.proofs.answer_text.failed_text.Goals as goal

pub returns : goal.returns
returns c =
    let places = spans_of c.args.expected in
    value-text c.text_of.result (failed_data c.args.far places) (failed-without_floats c.args.far places) c.text_of.ensures
