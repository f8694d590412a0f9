use Rattle.peg_parser.specs.Parser.{parser_rules}
use Rattle.peg_json.specs.declared.tree_form.TreeForm.TheVariants.{Rows}
use Rattle.peg_json.proofs.PrintLemmas.{outcome-line}
use Rattle.peg_json.proofs.row_lines.rows_line.Goals as goal

pub returns : goal.returns
returns c file =
    let rules = parser_rules c.args.parser.now in
    outcome-line c.outcome_line.result file rules c.args.answer.outcome c.args.text_len c.args.all c.answer_status-status.result
    (c.outcome_line.ensures.text file) c.outcome_line.ensures.status (c.answer_status-status.ensures rules Rows)
