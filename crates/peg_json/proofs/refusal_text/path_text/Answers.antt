use Rattle.std.proofs.Common.{map}
use Rattle.peg_tree.specs.Names.{name_at}
use Rattle.peg_json.specs.CauseText.{path_data}
use Rattle.peg_json.proofs.RefusalLemmas.{path-without_floats}
use Rattle.peg_listings.proofs.SentText.{value-text}
use Rattle.peg_json.proofs.refusal_text.path_text.Goals as goal

pub returns : goal.returns
returns c =
    let path = map (name_at (map (λ name. name.now) c.args.names.now)) c.args.path.now in
    value-text c.text_of.result (path_data path) (path-without_floats path) c.text_of.ensures
