use Rattle.std.proofs.Common.{◌≡◌, inl, inr, string_bytes, refl, sym, ap, ◌∙◌, Ok, Err}
use Rattle.peg_parser.specs.Cause.{TooDeep}
use Rattle.peg_parser.specs.Parser.{parser_rules}
use Rattle.peg_json.specs.Parses.{IsDeep, PrintsOutcome, outcome_reply}
use Rattle.peg_json.specs.Reply.{Refused}
use Rattle.peg_tree.specs.declared.nested.JsonFault.{JsonFault}
use Rattle.peg_json.specs.declared.tree_form.TreeForm.TheVariants.{Nested}
use Rattle.peg_json.proofs.PrintLemmas.{text-reply, reply-kind}
use Rattle.peg_json.proofs.lines.text_line.Goals as goal

pub returns-in-Ok : goal.returns-in-Ok
returns-in-Ok c file =
    let rules = parser_rules c.args.parser.now in
    let outcome = c.args.answer.now.outcome in
    let reply = outcome_reply rules outcome c.args.text_len c.args.all c.args.form in
    let shallow : (c.args.form ≡ Nested → ¬ IsDeep outcome.result) =
    λ nested deep. let both : Ok c.in-Ok.text ≡ Err JsonFault.TooDeep =
    sym c.in-Ok.is ∙ c.answer_text.ensures.too_deep.1 (nested, deep) in cc in
    reply-kind (Ok c.new.result) file (PrintsOutcome rules outcome c.args.text_len c.args.all c.args.form) reply
    (text-reply c.new.result file (string_bytes c.in-Ok.text) c.answer_status-status.result reply c.new.ensures.0
    c.new.ensures.1 (c.in-Ok.ensures.text file) (c.answer_status-status.ensures rules c.args.form))
    (inr (shallow, refl))

pub returns-in-Err-TooDeep : goal.returns-in-Err-TooDeep
returns-in-Err-TooDeep c file =
    let rules = parser_rules c.args.parser.now in
    let deep = c.answer_text.ensures.too_deep.0 (c.in-Err-TooDeep.is ∙ ap Err c.in-Err-TooDeep.field-0-is) in
    reply-kind c.fault_line.result file
    (PrintsOutcome rules c.args.answer.now.outcome c.args.text_len c.args.all c.args.form) (Refused TooDeep)
    c.fault_line.ensures (inl (deep.0, deep.1, refl))
