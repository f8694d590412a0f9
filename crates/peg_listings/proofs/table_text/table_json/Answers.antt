use Rattle.peg_grammar.specs.GrammarRules.{rules_in}
use Rattle.peg_semantics.specs.Rules.{names}
use Rattle.peg_check.specs.Exact.{cans_of}
use Rattle.peg_listings.specs.TableText.{table_data}
use Rattle.peg_listings.proofs.SentText.{value-text}
use Rattle.peg_listings.proofs.TableLemmas.{table-without_floats}
use Rattle.peg_listings.proofs.table_text.table_json.Goals as goal

pub returns : goal.returns
returns c =
    let rules = names (rules_in c.args.grammar.now) in
    let cans = cans_of c.args.core.now.bodies c.args.table.now in
    value-text c.text_of.result (table_data rules cans) (table-without_floats rules cans) c.text_of.ensures
