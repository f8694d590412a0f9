use Rattle.std.proofs.Common.{◌∙◌, ◌≤◌, ℕ, List, arith, length, refl, subst, sym}
use Rattle.peg_explain_files.specs.Contents.{HoldsAtMost}
use Rattle.peg_explain_files.specs.declared.content.Content.{Content}
use Rattle.peg_parser.specs.Accepts.{Accepts}
use Rattle.peg_parser.specs.Faults.{HasCause, HasDefinitionsOf}
use Rattle.peg_parser.specs.Parser.{parser_rules}
use Rattle.peg_parser.specs.Refusals.{IsRefusalOf}
use Rattle.peg_test_files.specs.TestQuestions.{question_of}
use Rattle.peg_test_files.proofs.TestedLemmas.{grammar-file, refused-tested, unopened-tested, unreadable-tested}
use Rattle.peg_test_files.proofs.testing.test_files.Goals as goal

pub returns-in-Unopened-clause-tested : goal.returns-in-Unopened-clause-tested
returns-in-Unopened-clause-tested g c =
    unopened-tested (question_of c.args.query.now) (g.O.Opener.file_at c.args.files.now) c.in_ok-file.field-0
    c.in_ok-file.ensures.content (g.W.Sink.written c.args.output.now) c.unread_grammar.result c.in-Unopened.is
    c.unread_grammar.ensures.unread c.unread_grammar.ensures.memory

pub returns-in-Unreadable-clause-tested : goal.returns-in-Unreadable-clause-tested
returns-in-Unreadable-clause-tested g c =
    unreadable-tested (question_of c.args.query.now) (g.O.Opener.file_at c.args.files.now) c.in_ok-file.field-0
    c.in_ok-file.ensures.content (g.W.Sink.written c.args.output.now) c.unread_grammar-in-Unreadable.result
    c.in-Unreadable.is c.unread_grammar-in-Unreadable.ensures.unread c.unread_grammar-in-Unreadable.ensures.memory

pub returns-in-Ok-clause-tested : goal.returns-in-Ok-clause-tested
returns-in-Ok-clause-tested g c =
    let accepts = subst (λ (l : List ℕ). Accepts l (parser_rules c.in-Ok.parser))
    (c.deref.ensures.value ∙ sym c.deref-in-Ok.ensures.value) c.in-Ok.ensures.accepted in
    c.test_by_parser.ensures.answer
    (grammar-file (g.O.Opener.file_at c.args.files.now c.args.query.now.grammar.now) c.in_ok-file.field-0
    c.in-Bytes.file c.deref-in-Ok.result.now c.in_ok-file.ensures.content c.in-Bytes.is c.deref-in-Ok.ensures.value)
    accepts

pub write_refusal-requires-clause-short : goal.write_refusal-requires-clause-short
write_refusal-requires-clause-short g c =
    let held : length c.in-Bytes.file.items ≤ 1048577 =
    subst (λ (k : Content). HoldsAtMost 1048577 k) c.in-Bytes.is c.in_ok-file.ensures.held in
    subst (λ (l : List ℕ). length l ≤ 2147483647) (sym c.deref-in-Err.ensures.value) (omega arith)

pub write_refusal-requires-clause-refused : goal.write_refusal-requires-clause-refused
write_refusal-requires-clause-refused g c =
    subst (λ (l : List ℕ). HasCause (IsRefusalOf l) (length l) c.in-Err.refusal)
    (c.deref.ensures.value ∙ sym c.deref-in-Err.ensures.value) c.in-Err.ensures.refused

pub returns : goal.returns
returns g c =
    let same = c.deref.ensures.value ∙ sym c.deref-in-Err.ensures.value in
    record {
      tested = refused-tested (question_of c.args.query.now) (g.O.Opener.file_at c.args.files.now) c.in_ok-file.field-0
          c.in_ok-file.ensures.content (g.W.Sink.written c.args.output.now)
          (g.W.Sink.written c.write_refusal.new.output) c.write_refusal.result c.in-Bytes.file
          c.deref-in-Err.result.now c.in-Err.refusal c.in-Bytes.is c.deref-in-Err.ensures.value
          (subst (λ (l : List ℕ). HasCause (IsRefusalOf l) (length l) c.in-Err.refusal) same c.in-Err.ensures.refused)
          (subst (λ (l : List ℕ). HasDefinitionsOf l c.in-Err.refusal) same c.in-Err.ensures.definitions)
          c.write_refusal.ensures.writes;
      failed = c.write_refusal.ensures.failed;
    }
