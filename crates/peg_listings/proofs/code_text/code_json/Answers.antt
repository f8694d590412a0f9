use Rattle.peg_listings.specs.CodeText.{code_data}
use Rattle.peg_listings.proofs.CodeLemmas.{code-without_floats}
use Rattle.peg_listings.proofs.SentText.{value-text}
use Rattle.peg_listings.proofs.code_text.code_json.Goals as goal

pub returns : goal.returns
returns c =
    let program = c.args.program.now in
    value-text c.text_of.result (code_data program.code program.entries) (code-without_floats program.code program.entries)
    c.text_of.ensures
