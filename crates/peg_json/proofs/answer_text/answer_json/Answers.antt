use Rattle.std.proofs.Common.{◌≡◌, ◌∙◌, ap, subst, sym, string_bytes}
use Rattle.std.specs.Result.{IfOk}
use Rattle.serde_json.specs.Written.{compact_text}
use Rattle.peg_parser.specs.Parser.{parser_rules}
use Rattle.peg_json.specs.Parses.{outcome_reply}
use Rattle.peg_json.specs.Reply.{printed}
use Rattle.peg_json.specs.TreeForms.{form_from_rows}
use Rattle.peg_json.specs.declared.tree_form.TreeForm.{TreeForm}
use Rattle.peg_json.proofs.ParseLemmas.{not_rows}
use Rattle.peg_json.proofs.answer_text.answer_json.Goals as goal

pub returns-clause-text : goal.returns-clause-text
returns-clause-text c file =
    subst (λ (form : TreeForm). IfOk c.answer_text.result (λ text. string_bytes text ≡ compact_text
    (printed file (outcome_reply (parser_rules c.args.parser.now) c.args.answer.now.outcome c.args.text_len c.args.all form))))
    c.from_rows.ensures (c.answer_text.ensures.text file)

pub returns-clause-too_deep : goal.returns-clause-too_deep
returns-clause-too_deep c =
    let deep = c.answer_text.ensures.too_deep in (
      λ is. let both = deep.0 is in (not_rows c.args.rows (sym c.from_rows.ensures ∙ both.0), both.1),
      λ both. deep.1 (c.from_rows.ensures ∙ ap form_from_rows both.0, both.1),
    )
