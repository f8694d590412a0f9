use Rattle.std.proofs.Common.{◌≡◌, inl, inr, string_bytes, length, refl, sym, ap, ◌∙◌, Ok, Err}
use Rattle.peg_parser.specs.Cause.{TooDeep}
use Rattle.peg_parser.specs.Parser.{parser_rules}
use Rattle.peg_json.specs.Parses.{IsDeep, PrintsOutcomeWithText, outcome_reply}
use Rattle.peg_json.specs.Reply.{Refused, with_text}
use Rattle.peg_tree.specs.declared.nested.JsonFault.{JsonFault}
use Rattle.peg_json.specs.declared.tree_form.TreeForm.TheVariants.{Nested}
use Rattle.peg_json.proofs.PrintLemmas.{text-reply, reply-kind, with_text-status}
use Rattle.peg_json.proofs.text_lines.answer_line_with_text.Goals as goal

pub returns-in-Ok : goal.returns-in-Ok
returns-in-Ok c file =
    let rules = parser_rules c.args.parser.now in
    let outcome = c.args.answer.now.outcome in
    let text = c.args.text.now in
    let plain = outcome_reply rules outcome (length text) c.args.all c.args.form in
    let shallow : (c.args.form ≡ Nested → ¬ IsDeep outcome.result) =
    λ nested deep. let both : Ok c.in-Ok.json ≡ Err JsonFault.TooDeep =
    sym c.in-Ok.is ∙ c.json_with_text.ensures.too_deep.1 (nested, deep) in cc in
    reply-kind (Ok c.new.result) file (PrintsOutcomeWithText rules outcome text c.args.all c.args.form) (with_text text plain)
    (text-reply c.new.result file (string_bytes c.in-Ok.json) c.answer_status-status.result (with_text text plain) c.new.ensures.0
    c.new.ensures.1 (c.in-Ok.ensures.json file)
    (c.answer_status-status.ensures rules c.args.form ∙ sym (with_text-status text plain)))
    (plain, inr (shallow, refl), refl)

pub returns-in-Err-TooDeep : goal.returns-in-Err-TooDeep
returns-in-Err-TooDeep c file =
    let rules = parser_rules c.args.parser.now in
    let text = c.args.text.now in
    let deep = c.json_with_text.ensures.too_deep.0 (c.in-Err-TooDeep.is ∙ ap Err c.in-Err-TooDeep.field-0-is) in
    reply-kind c.fault_line.result file
    (PrintsOutcomeWithText rules c.args.answer.now.outcome text c.args.all c.args.form) (Refused TooDeep)
    c.fault_line.ensures (Refused TooDeep, inl (deep.0, deep.1, refl), refl)
