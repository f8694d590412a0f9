use Rattle.std.proofs.Common.{◌∙◌, ◌+◌, ℕ, List, ap, subst}
use Rattle.std.proofs.lemmas.Result.{IfOk-weaker}
use Rattle.peg_grammar.specs.Limits.{max_text_bytes}
use Rattle.peg_messages.specs.FileNames.{shown_name}
use Rattle.peg_parser.specs.Parser.{start_named}
use Rattle.peg_explain_files.specs.Contents.{IsContentOf}
use Rattle.peg_explain_files.specs.TextReports.{IsReport}
use Rattle.peg_explain_files.specs.declared.content.Content.{Content}
use Rattle.peg_explain_files.specs.declared.content.Content.TheVariants.{Bytes}
use Rattle.peg_explain_files.proofs.reports.report_of.Goals as goal

pub returns-in_ok-called-in-Bytes : goal.returns-in_ok-called-in-Bytes
returns-in_ok-called-in-Bytes g c file rules of from is =
    let options = c.args.options.now in
    let style = c.args.explainer.now.style in
    let called = c.as_bytes-in-Bytes.ensures.value
    ∙ (c.in_ok-called-in-Bytes.ensures ∙ ap shown_name c.as_bytes.ensures.value) in
    IfOk-weaker c.report_of_text.result _ _ (λ report right. (
      Bytes c.in-Bytes.text,
      subst (λ (content : Content). IsContentOf (max_text_bytes + 1)
          (g.O.Opener.file_at c.args.files.now c.args.name.now) content) c.in-Bytes.is c.in_ok-text.ensures.content,
      subst (λ (name : List ℕ). IsReport file rules style (start_named options) options.memo options.steps name
          c.in-Bytes.text.items report) called
          (subst (λ (text : List ℕ). IsReport file rules style (start_named options) options.memo options.steps
          c.as_bytes-in-Bytes.result.now text report) c.deref.ensures.value right),
    )) (c.report_of_text.ensures.report file rules of from is)
