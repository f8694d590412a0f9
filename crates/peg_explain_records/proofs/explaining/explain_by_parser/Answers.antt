use Rattle.std.proofs.Common.{◌≡◌, ◌∙◌, ℕ, List, None, [], ap, inl, inr, refl, subst, sym, unwrap_or}
use Rattle.peg_explain_files.specs.Explained.{no_start_message}
use Rattle.peg_explain_files.specs.Printings.{WritesAlone}
use Rattle.peg_explain_files.specs.declared.ended.Verdict.TheVariants.{NoSuchStart}
use Rattle.peg_explain_files.proofs.ExplainedLemmas.{unwrap-name}
use Rattle.peg_explain_files.proofs.StartLemmas.{start-none, start-some}
use Rattle.peg_parser.specs.Parser.{parser_rules}
use Rattle.peg_semantics.specs.Starts.{start_name}
use Rattle.peg_explain_records.specs.Questions.{question_of}
use Rattle.peg_explain_records.specs.RecordsExplained.{no_such_start}
use Rattle.peg_explain_records.proofs.explaining.explain_by_parser.Goals as goal

pub returns-then-has_start-clause-leads : goal.returns-then-has_start-clause-leads
returns-then-has_start-clause-leads g c accepts =
    let known = start-some (start_name (parser_rules c.args.parser.now) (question_of c.args.query.now).start)
    (sym c.if-has_start.ensures) in
    c.explain_all.ensures.explains known.0 accepts known.1

pub returns-clause-leads : goal.returns-clause-leads
returns-clause-leads g c accepts =
    let question = question_of c.args.query.now in
    let none : start_name (parser_rules c.args.parser.now) question.start ≡ None = start-none _ (sym c.if-has_start.ensures) in
    let name : c.unwrap_or-start.result.now ≡ unwrap_or question.start [] =
    ap (λ n. n.now) c.unwrap_or-start.ensures ∙ unwrap-name c.args.query.now.options.start _ refl in
    inr (inl (
      c.write_no_start.result,
      no_such_start accepts none
          (subst (λ (n : List ℕ). WritesAlone question.printing (no_start_message question.grammar n) NoSuchStart
          (g.W.Sink.written c.args.output.now) (g.W.Sink.written c.write_no_start.new.output) c.write_no_start.result) name
          c.write_no_start.ensures.writes),
      c.early_end.ensures,
    ))
