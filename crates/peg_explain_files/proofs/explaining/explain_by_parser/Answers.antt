use Rattle.std.proofs.Common.{◌≡◌, ◌∙◌, ℕ, List, None, [], ap, refl, subst, sym, unwrap_or}
use Rattle.peg_parser.specs.Parser.{parser_rules}
use Rattle.peg_semantics.specs.Starts.{start_name}
use Rattle.peg_explain_files.specs.Explained.{explained, no_such_start, no_start_message}
use Rattle.peg_explain_files.specs.Printings.{WritesAlone}
use Rattle.peg_explain_files.specs.Questions.{question_of}
use Rattle.peg_explain_files.specs.declared.ended.Verdict.TheVariants.{NoSuchStart}
use Rattle.peg_explain_files.proofs.ExplainedLemmas.{unwrap-name}
use Rattle.peg_explain_files.proofs.StartLemmas.{start-none, start-some}
use Rattle.peg_explain_files.proofs.explaining.explain_by_parser.Goals as goal

pub returns-then-has_start-clause-answer : goal.returns-then-has_start-clause-answer
returns-then-has_start-clause-answer g c accepts =
    let task = c.args.task.now in
    let known = start-some (start_name (parser_rules task.parser.now) (question_of task.query.now).start)
    (sym c.if-has_start.ensures) in
    explained accepts known.1 (c.explain_all.ensures.explains (sym c.if-has_start.ensures))

pub returns-clause-answer : goal.returns-clause-answer
returns-clause-answer g c accepts =
    let task = c.args.task.now in
    let question = question_of task.query.now in
    let none : start_name (parser_rules task.parser.now) question.start ≡ None = start-none _ (sym c.if-has_start.ensures) in
    let name : c.unwrap_or-start.result.now ≡ unwrap_or question.start [] =
    ap (λ n. n.now) c.unwrap_or-start.ensures ∙ unwrap-name task.query.now.options.start _ refl in
    no_such_start accepts none
    (subst (λ (n : List ℕ). WritesAlone task.printing (no_start_message question.grammar n) NoSuchStart
    (g.W.Sink.written c.args.output.now) (g.W.Sink.written c.write_no_start.new.output) c.write_no_start.result) name
    c.write_no_start.ensures.writes)
