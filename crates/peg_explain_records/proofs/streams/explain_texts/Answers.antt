use Rattle.std.proofs.Common.{◌≡◌, ◌∙◌, ◌+◌, ◌++◌, ◌∷◌, [], ℕ, All, List, Option, Err, Ok, Some, ap, arith, drop, map, refl, string_bytes, subst, sym, take, true, false}
use Rattle.std.proofs.lemmas.Grind.{common_steps}
use Rattle.std.proofs.lemmas.List.{take_all}
use Rattle.std.proofs.lemmas.List.Elements.{All-head, All-nil, All-push}
use Rattle.std.specs.declared.alloc.Global.{Global}
use Rattle.std.specs.declared.string.String.{String}
use Rattle.peg_io.specs.NamedFile.{IsMissing, bytes_of}
use Rattle.peg_record_files.specs.RecordReplies.{worse_outcome}
use Rattle.peg_record_files.specs.Streams.{ArePresent, bytes_of_streams}
use Rattle.peg_record_files.specs.declared.outcome.RecordOutcome.{RecordOutcome}
use Rattle.peg_record_files.proofs.StreamLemmas.{names-more}
use Rattle.peg_explain_records.specs.Questions.{question_of}
use Rattle.peg_explain_records.specs.RecordMessages.{WritesMessages, setting_of}
use Rattle.peg_explain_records.proofs.MessageLemmas.{fault-wider, messages-added, messages-none, messages-part, name-among, names-with, one-some, one-text, streams-named}
use Rattle.peg_explain_records.proofs.streams.explain_texts.Goals as goal

pub texts-init : goal.texts-init
texts-init g c = record {
  same = refl;
  works = c.requires.works;
  writes = λ file rules from of is streams are.
      messages-none (setting_of (question_of c.args.query.now) file rules)
      (λ (n : List ℕ). bytes_of (g.O.Opener.file_at c.args.files.now n)) streams (g.W.Sink.written c.args.output.now) are;
  present = All-nil (λ (n : List ℕ). ¬ IsMissing (g.O.Opener.file_at c.args.files.now n));
}

pub texts-preserved : goal.texts-preserved
texts-preserved g c =
    let texts = c.args.query.now.texts.now in
    let i = c.texts.index in
    let name = c.as_bytes-name.result.now in
    let text = c.index-texts-index.result in
    let one = one-text texts i text name c.texts-test.true c.index-texts-index.is c.as_bytes-name.ensures.value in
    record {
      same = c.in-Ok.ensures.unread (one-some _ name one) ∙ c.texts.invariant.same;
      works = grind (arith, common_steps);
      writes = λ file rules from of is streams are.
          let setting = setting_of (question_of c.args.query.now) file rules in
          let file_at = g.O.Opener.file_at c.args.files.now in
          let f = λ (n : List ℕ). bytes_of (file_at n) in
          let old = g.W.Sink.written c.args.output.now in
          let mid = g.W.Sink.written c.texts.output in
          let new = g.W.Sink.written c.explain_named.new.output in
          let more = names-more texts i text name c.texts-test.true c.index-texts-index.is c.as_bytes-name.ensures.value in
          subst (λ (w : RecordOutcome). WritesMessages setting (map string_bytes (take (i + 1) texts)) streams old new (Ok w))
          (sym c.worse-worst.ensures)
          (subst (λ (ns : List (List ℕ)). WritesMessages setting ns streams old new
          (Ok (worse_outcome c.texts.worst c.in-Ok.outcome))) (sym more)
          (messages-added setting f (map string_bytes (take i texts)) name c.texts.worst c.in-Ok.outcome old mid new
          (λ first named. c.texts.invariant.writes file rules from of is first named)
          (λ last named. c.in-Ok.ensures.messages file rules from of is last
          (subst (λ (ns : List (List ℕ)). bytes_of_streams file_at (g.I.Source.left c.texts.input) ns ≡ map Some last) (sym one)
          named)) streams (ap (map f) (sym more) ∙ are)));
      present =
          let Present = λ (n : List ℕ). ¬ IsMissing (g.O.Opener.file_at c.args.files.now n) in
          let more = names-more texts i text name c.texts-test.true c.index-texts-index.is c.as_bytes-name.ensures.value in
          let last = All-head Present name [] (subst (All Present) one c.in-Ok.ensures.present) in
          subst (All Present) (sym more)
          (All-push Present (map string_bytes (take i texts)) name c.texts.invariant.present last);
    }

pub returns-in-Err-clause-messages : goal.returns-in-Err-clause-messages
returns-in-Err-clause-messages g c file rules from of is streams are =
    let texts = c.args.query.now.texts.now in
    let i = c.texts.index in
    let name = c.as_bytes-name.result.now in
    let text = c.index-texts-index.result in
    let one = one-text texts i text name c.texts-test.true c.index-texts-index.is c.as_bytes-name.ensures.value in
    let whole = names-with texts i text name c.texts-test.true c.index-texts-index.is c.as_bytes-name.ensures.value in
    let setting = setting_of (question_of c.args.query.now) file rules in
    let file_at = g.O.Opener.file_at c.args.files.now in
    let f = λ (n : List ℕ). bytes_of (file_at n) in
    let old = g.W.Sink.written c.args.output.now in
    let mid = g.W.Sink.written c.texts.output in
    let new = g.W.Sink.written c.explain_named.new.output in
    let named = streams-named texts file_at (g.I.Source.left c.args.input.now) streams c.requires.some are in
    subst (λ (ns : List (List ℕ)). WritesMessages setting ns streams old new (Err c.in-Err.fault)) whole
    (messages-part setting f (map string_bytes (take i texts)) name (map string_bytes (drop (i + 1) texts)) c.texts.worst
    c.in-Err.fault old mid new
    (λ first named. c.texts.invariant.writes file rules from of is first named)
    (λ last named. c.in-Err.ensures.messages file rules from of is last
    (subst (λ (ns : List (List ℕ)). bytes_of_streams file_at (g.I.Source.left c.texts.input) ns ≡ map Some last) (sym one)
    named)) streams (ap (map f) whole ∙ named))

pub returns-in-Err-clause-text : goal.returns-in-Err-clause-text
returns-in-Err-clause-text g c =
    let texts = c.args.query.now.texts.now in
    let i = c.texts.index in
    let name = c.as_bytes-name.result.now in
    let text = c.index-texts-index.result in
    let one = one-text texts i text name c.texts-test.true c.index-texts-index.is c.as_bytes-name.ensures.value in
    let whole = names-with texts i text name c.texts-test.true c.index-texts-index.is c.as_bytes-name.ensures.value in
    fault-wider (g.O.Opener.file_at c.args.files.now) _ (map string_bytes texts) c.in-Err.fault
    (λ other has. name-among (map string_bytes (take i texts)) (map string_bytes (drop (i + 1) texts))
    (map string_bytes texts) _ name other whole one has) c.in-Err.ensures.text

pub returns-in-Err-clause-input : goal.returns-in-Err-clause-input
returns-in-Err-clause-input g c bad =
    let one = one-text c.args.query.now.texts.now c.texts.index c.index-texts-index.result c.as_bytes-name.result.now
    c.texts-test.true c.index-texts-index.is c.as_bytes-name.ensures.value in
    let same = c.in-Err.ensures.unread (one-some _ c.as_bytes-name.result.now one) ∙ c.texts.invariant.same in
    let both : true ≡ false = sym (c.in-Err.ensures.input.0 bad) ∙ (ap g.I.Source.failed same ∙ c.requires.reads) in cc

pub returns-in-Err-clause-unread : goal.returns-in-Err-clause-unread
returns-in-Err-clause-unread g c =
    let one = one-text c.args.query.now.texts.now c.texts.index c.index-texts-index.result c.as_bytes-name.result.now
    c.texts-test.true c.index-texts-index.is c.as_bytes-name.ensures.value in
    c.in-Err.ensures.unread (one-some _ c.as_bytes-name.result.now one) ∙ c.texts.invariant.same

pub explain_named-requires-clause-reads : goal.explain_named-requires-clause-reads
explain_named-requires-clause-reads g c = ap g.I.Source.failed c.texts.invariant.same ∙ c.requires.reads

pub returns-clause-messages : goal.returns-clause-messages
returns-clause-messages g c file rules from of is streams are =
    let texts = c.args.query.now.texts.now in
    let setting = setting_of (question_of c.args.query.now) file rules in
    let file_at = g.O.Opener.file_at c.args.files.now in
    let f = λ (n : List ℕ). bytes_of (file_at n) in
    let named = streams-named texts file_at (g.I.Source.left c.args.input.now) streams c.requires.some are in
    subst (λ (l : List (String Global)). map f (map string_bytes l) ≡ map Some streams
    → WritesMessages setting (map string_bytes l) streams (g.W.Sink.written c.args.output.now)
    (g.W.Sink.written c.texts.output) (Ok c.texts.worst)) (take_all c.texts.index texts c.texts-test.false)
    (c.texts.invariant.writes file rules from of is streams) named

pub returns-clause-present : goal.returns-clause-present
returns-clause-present g c =
    subst (λ (l : List (String Global)). ArePresent (g.O.Opener.file_at c.args.files.now) (map string_bytes l))
    (take_all c.texts.index c.args.query.now.texts.now c.texts-test.false) c.texts.invariant.present
