use Rattle.std.proofs.Common.{◌∙◌, ◌≤◌, ℕ, List, arith, inl, length, refl, subst, sym}
use Rattle.std.proofs.KnownBytes.{Keeps-refl}
use Rattle.peg_bytes.specs.Place.{max_offset}
use Rattle.peg_explain_files.specs.Contents.{HoldsAtMost}
use Rattle.peg_explain_files.specs.declared.content.Content.{Content}
use Rattle.peg_parser.specs.Accepts.{Accepts}
use Rattle.peg_parser.specs.Faults.{HasCause, HasDefinitionsOf}
use Rattle.peg_parser.specs.Parser.{parser_rules}
use Rattle.peg_parser.specs.Refusals.{IsRefusalOf}
use Rattle.peg_record_files.specs.declared.fault.RecordsFault.TheVariants.{Memory}
use Rattle.peg_explain_records.specs.Questions.{question_of}
use Rattle.peg_explain_records.proofs.EndLemmas.{accepted-explained, refused-explained, stated-error, unopened-explained, unreadable-explained}
use Rattle.peg_explain_records.proofs.explaining.explain_records.Goals as goal

pub returns-in_err-file-clause-explained : goal.returns-in_err-file-clause-explained
returns-in_err-file-clause-explained g c =
    inl (stated-error c.from_residual.result Memory c.from_residual.ensures.1, Keeps-refl (g.W.Sink.written c.args.output.now))

pub returns-in-Err-Memory-clause-explained : goal.returns-in-Err-Memory-clause-explained
returns-in-Err-Memory-clause-explained g c = inl (refl, Keeps-refl (g.W.Sink.written c.args.output.now))

pub returns-in-Unopened-clause-explained : goal.returns-in-Unopened-clause-explained
returns-in-Unopened-clause-explained g c =
    unopened-explained (question_of c.args.query.now) (g.O.Opener.file_at c.args.files.now)
    (g.I.Source.left c.args.input.now) c.in_ok-file.field-0 c.in_ok-file.ensures.content
    (g.W.Sink.written c.args.output.now) c.unread_grammar-ended.result c.early_end.result c.in-Unopened.is
    c.unread_grammar-ended.ensures.unread c.unread_grammar-ended.ensures.memory c.early_end.ensures

pub returns-in-Unreadable-clause-explained : goal.returns-in-Unreadable-clause-explained
returns-in-Unreadable-clause-explained g c =
    unreadable-explained (question_of c.args.query.now) (g.O.Opener.file_at c.args.files.now)
    (g.I.Source.left c.args.input.now) c.in_ok-file.field-0 c.in_ok-file.ensures.content
    (g.W.Sink.written c.args.output.now) c.unread_grammar-ended-in-Unreadable.result c.early_end-in-Unreadable.result
    c.in-Unreadable.is c.unread_grammar-ended-in-Unreadable.ensures.unread
    c.unread_grammar-ended-in-Unreadable.ensures.memory c.early_end-in-Unreadable.ensures

pub returns-in-Ok-clause-explained : goal.returns-in-Ok-clause-explained
returns-in-Ok-clause-explained g c =
    let accepts = subst (λ (l : List ℕ). Accepts l (parser_rules c.in-Ok.parser))
    (c.deref.ensures.value ∙ sym c.deref-in-Ok.ensures.value) c.in-Ok.ensures.accepted in
    accepted-explained (question_of c.args.query.now) (g.O.Opener.file_at c.args.files.now)
    (g.I.Source.left c.args.input.now) c.in_ok-file.field-0 c.in_ok-file.ensures.content
    (g.W.Sink.written c.args.output.now) (g.W.Sink.written c.explain_by_parser.new.output) c.explain_by_parser.result
    c.in-Bytes.file c.deref-in-Ok.result.now c.in-Bytes.is c.deref-in-Ok.ensures.value
    (c.explain_by_parser.ensures.leads accepts)

pub write_refusal-requires-clause-short : goal.write_refusal-requires-clause-short
write_refusal-requires-clause-short g c =
    let held : length c.in-Bytes.file.items ≤ 1048577 =
    subst (λ (k : Content). HoldsAtMost 1048577 k) c.in-Bytes.is c.in_ok-file.ensures.held in
    subst (λ (l : List ℕ). length l ≤ max_offset) (sym c.deref-in-Err.ensures.value) (omega arith)

pub write_refusal-requires-clause-refused : goal.write_refusal-requires-clause-refused
write_refusal-requires-clause-refused g c =
    subst (λ (l : List ℕ). HasCause (IsRefusalOf l) (length l) c.in-Err.refusal)
    (c.deref.ensures.value ∙ sym c.deref-in-Err.ensures.value) c.in-Err.ensures.refused

pub returns-clause-explained : goal.returns-clause-explained
returns-clause-explained g c =
    let same = c.deref.ensures.value ∙ sym c.deref-in-Err.ensures.value in
    refused-explained (question_of c.args.query.now) (g.O.Opener.file_at c.args.files.now)
    (g.I.Source.left c.args.input.now) c.in_ok-file.field-0 c.in_ok-file.ensures.content
    (g.W.Sink.written c.args.output.now) (g.W.Sink.written c.write_refusal.new.output) c.write_refusal.result
    c.early_end-in-Err.result c.in-Bytes.file c.deref-in-Err.result.now c.in-Err.refusal c.in-Bytes.is
    c.deref-in-Err.ensures.value
    (subst (λ (l : List ℕ). HasCause (IsRefusalOf l) (length l) c.in-Err.refusal) same c.in-Err.ensures.refused)
    (subst (λ (l : List ℕ). HasDefinitionsOf l c.in-Err.refusal) same c.in-Err.ensures.definitions)
    c.write_refusal.ensures.writes c.early_end-in-Err.ensures
