use Rattle.std.proofs.Common.{◌≡◌, ◌∙◌, ℕ, IsErrAnd, List, None, [], Result, Ok, Err, ap, inl, inr, refl, subst, sym, unwrap_or}
use Rattle.std.proofs.KnownBytes.{Keeps-refl}
use Rattle.peg_explain_files.specs.declared.ended.Ended.{Ended}
use Rattle.peg_explain_files.specs.declared.ended.ExplainFault.{ExplainFault}
use Rattle.peg_explain_files.specs.declared.ended.ExplainFault.TheVariants.{Memory}
use Rattle.peg_explain.specs.declared.style.ItemStyle.{ItemStyle}
use Rattle.peg_explain_files.proofs.ExplainedLemmas.{unwrap-name}
use Rattle.peg_explain_files.proofs.StartLemmas.{start-none, start-some}
use Rattle.peg_explain_files.specs.Explained.{no_start_message}
use Rattle.peg_explain_files.specs.Printings.{WritesAlone}
use Rattle.peg_explain_files.specs.declared.ended.Verdict.TheVariants.{NoSuchStart}
use Rattle.peg_explain_files.specs.declared.printing.Printing.TheVariants.{All}
use Rattle.peg_parser.specs.Parser.{parser_rules, start_named}
use Rattle.peg_semantics.specs.Starts.{start_name}
use Rattle.peg_test_files.specs.TestQuestions.{question_of}
use Rattle.peg_test_files.specs.Tested.{no_such_start, tested}
use Rattle.peg_test_files.proofs.TestedLemmas.{tested-folders}
use Rattle.peg_test_files.proofs.testing.test_by_parser.Goals as goal

pub returns-then-not-has_start-clause-answer : goal.returns-then-not-has_start-clause-answer
returns-then-not-has_start-clause-answer g c is accepts =
    let question = question_of c.args.query.now in
    let none : start_name (parser_rules c.args.parser.now) question.start ≡ None =
    start-none _ (sym c.if-not-has_start.ensures) in
    let name : c.unwrap_or-start.result.now ≡ unwrap_or question.start [] =
    ap (λ n. n.now) c.unwrap_or-start.ensures ∙ unwrap-name c.args.query.now.options.start _ refl in
    inr (no_such_start is accepts none
    (subst (λ (n : List ℕ). WritesAlone All (no_start_message question.grammar n) NoSuchStart
    (g.W.Sink.written c.args.output.now) (g.W.Sink.written c.write_no_start.new.output) c.write_no_start.result) name
    c.write_no_start.ensures.writes))

-- a failed allocation
out_of_memory : (result : Result Ended ExplainFault) → IsErrAnd result (λ fault. fault ≡ Memory) → result ≡ Err Memory
out_of_memory (Ok ended) is = absurd is
out_of_memory (Err fault) is = ap Err is

pub returns-in_err-results-clause-answer : goal.returns-in_err-results-clause-answer
returns-in_err-results-clause-answer g c is accepts =
    inl (out_of_memory c.from_residual-in_err-results.result c.from_residual-in_err-results.ensures.1, Keeps-refl _)

pub returns-clause-answer : goal.returns-clause-answer
returns-clause-answer g c is accepts =
    let question = question_of c.args.query.now in
    let known = start-some (start_name (parser_rules c.args.parser.now) question.start)
    (sym c.if-not-has_start.ensures) in
    inr (tested-folders question (g.O.Opener.file_at c.args.files.now) c.args.file.now (parser_rules c.args.parser.now)
    known.0 _ _ _ c.in_ok-results.results c.write_results.result c.in_ok-new.ensures.styled is accepts known.1
    (c.in_ok-results.ensures c.args.file.now (parser_rules c.args.parser.now) (c.in_ok-new.ensures.made, known))
    c.write_results.ensures.writes)
