use Rattle.std.proofs.Common.{◌≡◌, ◌≢◌, ◌∷◌, [], ℕ, List, arith, map, string_bytes, subst, sym}
use Rattle.std.proofs.lemmas.Grind.{common_steps}
use Rattle.std.specs.List.{flat_map}
use Rattle.std.specs.declared.alloc.Global.{Global}
use Rattle.std.specs.declared.string.String.{String}
use Rattle.peg_record_files.specs.RecordReplies.{WritesReplies}
use Rattle.peg_record_files.specs.Streams.{AreStreams}
use Rattle.peg_record_files.specs.declared.filter.RecordFilter.TheVariants.{All}
use Rattle.peg_records.specs.Records.{records}
use Rattle.peg_explain_records.specs.Questions.{question_of}
use Rattle.peg_explain_records.specs.RecordMessages.{IsRecordMessage, WritesMessages, setting_of, text_names}
use Rattle.peg_explain_records.proofs.MessageLemmas.{messages-input, names-some}
use Rattle.peg_explain_records.proofs.streams.explain_streams.Goals as goal

pub returns-then-is_empty-clause-messages : goal.returns-then-is_empty-clause-messages
returns-then-is_empty-clause-messages g c file rules from of is streams are =
    let query = c.args.query.now in
    let setting = setting_of (question_of query) file rules in
    let file_at = g.O.Opener.file_at c.args.files.now in
    let input = g.I.Source.left c.args.input.now in
    let old = g.W.Sink.written c.args.output.now in
    let new = g.W.Sink.written c.explain_named.new.output in
    let result = c.explain_named.result in
    let none : query.texts.now ≡ [] = grind (arith, common_steps) in
    subst (λ (texts : List (String Global)). AreStreams file_at input (map string_bytes texts) streams
    → WritesMessages setting (text_names (map string_bytes texts)) streams old new result) (sym none)
    (messages-input setting file_at input old new result (λ held named.
    subst (λ (n : List ℕ). WritesReplies (IsRecordMessage setting n) All query.end (flat_map (records query.end) held) old new
    result) c.input_name-name.ensures (c.explain_named.ensures.messages file rules from of is held named)) streams) are

pub returns-else-is_empty-clause-messages : goal.returns-else-is_empty-clause-messages
returns-else-is_empty-clause-messages g c file rules from of is streams are =
    let query = c.args.query.now in
    let some : query.texts.now ≢ [] = grind (arith, common_steps) in
    subst (λ (names : List (List ℕ)). WritesMessages (setting_of (question_of query) file rules) names streams
    (g.W.Sink.written c.args.output.now) (g.W.Sink.written c.explain_texts.new.output) c.explain_texts.result)
    (sym (names-some query.texts.now some)) (c.explain_texts.ensures.messages file rules from of is streams are)
