use Rattle.std.proofs.Common.{◌≡◌, ◌∙◌, ℕ, IsErrAnd, List, [], Result, Ok, Err, ap, inl, inr, refl, subst, sym, unwrap_or}
use Rattle.std.proofs.KnownBytes.{Keeps-refl}
use Rattle.peg_explain_files.proofs.ExplainedLemmas.{unwrap-name}
use Rattle.peg_explain_files.specs.Explained.{no_start_message}
use Rattle.peg_explain_files.specs.Printings.{WritesAlone}
use Rattle.peg_explain_files.specs.declared.ended.Ended.{Ended}
use Rattle.peg_explain_files.specs.declared.ended.ExplainFault.{ExplainFault}
use Rattle.peg_explain_files.specs.declared.ended.ExplainFault.TheVariants.{Memory}
use Rattle.peg_explain_files.specs.declared.ended.Verdict.TheVariants.{NoSuchStart}
use Rattle.peg_explain_files.specs.declared.printing.Printing.TheVariants.{All}
use Rattle.peg_grammar.specs.GrammarRules.{rules_in}
use Rattle.peg_json.specs.Lints.{LintsTo}
use Rattle.peg_json.specs.Reply.{Linted}
use Rattle.peg_lint.specs.declared.warning.Warning.{Warning}
use Rattle.peg_semantics.specs.Rules.{names}
use Rattle.peg_lint_files.specs.LintAnswers.{no_such_start, warned}
use Rattle.peg_lint_files.specs.LintQuestions.{question_of}
use Rattle.peg_lint_files.proofs.linting.lint_grammar.Goals as goal

-- a failed allocation
out_of_memory : (result : Result Ended ExplainFault) → IsErrAnd result (λ fault. fault ≡ Memory) → result ≡ Err Memory
out_of_memory (Ok ended) is = absurd is
out_of_memory (Err fault) is = ap Err is

pub returns-in_err-found-in-Some-clause-answer : goal.returns-in_err-found-in-Some-clause-answer
returns-in_err-found-in-Some-clause-answer g c =
    inl (out_of_memory c.from_residual.result c.from_residual.ensures.1, Keeps-refl _)

pub returns-in_ok-found-in-Some-clause-answer : goal.returns-in_ok-found-in-Some-clause-answer
returns-in_ok-found-in-Some-clause-answer g c =
    let question = question_of c.args.query.now in
    let rules = rules_in c.args.grammar.now in
    inr (warned (subst (λ (l : List Warning). LintsTo c.args.file.now rules question.start question.selection (Linted (names rules) l))
    (sym c.deref.ensures.value)
    (c.in_ok-found-in-Some.ensures question.start (sym c.start_number.ensures.number ∙ c.in-Some.is)))
    c.write_found.ensures.writes)

pub returns-in-None-clause-answer : goal.returns-in-None-clause-answer
returns-in-None-clause-answer g c =
    let question = question_of c.args.query.now in
    let name : c.unwrap_or-start.result.now ≡ unwrap_or question.start [] =
    ap (λ n. n.now) c.unwrap_or-start.ensures ∙ unwrap-name c.args.query.now.start _ refl in
    inr (no_such_start (sym c.start_number.ensures.number ∙ c.in-None.is)
    (subst (λ (n : List ℕ). WritesAlone All (no_start_message question.grammar n) NoSuchStart
    (g.W.Sink.written c.args.output.now) (g.W.Sink.written c.write_no_start.new.output) c.write_no_start.result) name
    c.write_no_start.ensures.writes))
