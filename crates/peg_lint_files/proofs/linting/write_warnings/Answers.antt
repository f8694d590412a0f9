use Rattle.std.proofs.Common.{◌∙◌, ◌≤◌, ℕ, List, arith, length, subst, sym}
use Rattle.peg_explain_files.specs.Contents.{HoldsAtMost}
use Rattle.peg_explain_files.specs.declared.content.Content.{Content}
use Rattle.peg_parser.specs.Accepts.{Accepts}
use Rattle.peg_parser.specs.Faults.{HasCause, HasDefinitionsOf}
use Rattle.peg_parser.specs.Parser.{parser_rules}
use Rattle.peg_parser.specs.Refusals.{IsRefusalOf}
use Rattle.peg_semantics.specs.Rules.{Rule}
use Rattle.peg_lint_files.specs.LintQuestions.{question_of}
use Rattle.peg_lint_files.proofs.LintLemmas.{read-linted, refused-linted, unopened-linted, unreadable-linted}
use Rattle.peg_lint_files.proofs.linting.write_warnings.Goals as goal

pub returns-in-Unopened-clause-linted : goal.returns-in-Unopened-clause-linted
returns-in-Unopened-clause-linted g c =
    unopened-linted (question_of c.args.query.now) (g.O.Opener.file_at c.args.files.now) c.in_ok-file.field-0
    c.in_ok-file.ensures.content (g.W.Sink.written c.args.output.now) c.unread_grammar.result c.in-Unopened.is
    c.unread_grammar.ensures.unread c.unread_grammar.ensures.memory

pub returns-in-Unreadable-clause-linted : goal.returns-in-Unreadable-clause-linted
returns-in-Unreadable-clause-linted g c =
    unreadable-linted (question_of c.args.query.now) (g.O.Opener.file_at c.args.files.now) c.in_ok-file.field-0
    c.in_ok-file.ensures.content (g.W.Sink.written c.args.output.now) c.unread_grammar-in-Unreadable.result
    c.in-Unreadable.is c.unread_grammar-in-Unreadable.ensures.unread c.unread_grammar-in-Unreadable.ensures.memory

pub lint_grammar-requires-clause-short : goal.lint_grammar-requires-clause-short
lint_grammar-requires-clause-short g c =
    let held : length c.in-Bytes.file.items ≤ 1048577 =
    subst (λ (k : Content). HoldsAtMost 1048577 k) c.in-Bytes.is c.in_ok-file.ensures.held in
    subst (λ (l : List ℕ). length l ≤ 2147483647) (sym c.deref-in-Ok.ensures.value) (omega arith)

pub returns-in-Ok-clause-linted : goal.returns-in-Ok-clause-linted
returns-in-Ok-clause-linted g c =
    let accepts = subst (λ (l : List ℕ). Accepts l (parser_rules c.in-Ok.parser))
    (c.deref.ensures.value ∙ sym c.deref-in-Ok.ensures.value) c.in-Ok.ensures.accepted in
    read-linted (question_of c.args.query.now) (g.O.Opener.file_at c.args.files.now) c.in_ok-file.field-0
    c.in-Bytes.file c.deref-in-Ok.result.now _ (g.W.Sink.written c.args.output.now)
    (g.W.Sink.written c.lint_grammar.new.output) c.lint_grammar.result c.in_ok-file.ensures.content c.in-Bytes.is
    c.deref-in-Ok.ensures.value
    (subst (λ (r : List Rule). Accepts c.deref-in-Ok.result.now r) (sym c.grammar.ensures) accepts)
    c.lint_grammar.ensures.answer

pub write_refusal-requires-clause-short : goal.write_refusal-requires-clause-short
write_refusal-requires-clause-short g c =
    let held : length c.in-Bytes.file.items ≤ 1048577 =
    subst (λ (k : Content). HoldsAtMost 1048577 k) c.in-Bytes.is c.in_ok-file.ensures.held in
    subst (λ (l : List ℕ). length l ≤ 2147483647) (sym c.deref-in-Err.ensures.value) (omega arith)

pub write_refusal-requires-clause-refused : goal.write_refusal-requires-clause-refused
write_refusal-requires-clause-refused g c =
    subst (λ (l : List ℕ). HasCause (IsRefusalOf l) (length l) c.in-Err.refusal)
    (c.deref.ensures.value ∙ sym c.deref-in-Err.ensures.value) c.in-Err.ensures.refused

pub returns : goal.returns
returns g c =
    let same = c.deref.ensures.value ∙ sym c.deref-in-Err.ensures.value in
    record {
      linted = refused-linted (question_of c.args.query.now) (g.O.Opener.file_at c.args.files.now) c.in_ok-file.field-0
          c.in_ok-file.ensures.content (g.W.Sink.written c.args.output.now)
          (g.W.Sink.written c.write_refusal.new.output) c.write_refusal.result c.in-Bytes.file
          c.deref-in-Err.result.now c.in-Err.refusal c.in-Bytes.is c.deref-in-Err.ensures.value
          (subst (λ (l : List ℕ). HasCause (IsRefusalOf l) (length l) c.in-Err.refusal) same c.in-Err.ensures.refused)
          (subst (λ (l : List ℕ). HasDefinitionsOf l c.in-Err.refusal) same c.in-Err.ensures.definitions)
          c.write_refusal.ensures.writes;
      failed = c.write_refusal.ensures.failed;
    }
