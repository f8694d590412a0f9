-- The messages of the records of texts, one text after the other.
use Rattle.std.proofs.Common.{◌≡◌, ◌≢◌, ◌∙◌, ℕ, ◌+◌, ◌-◌, ◌<◌, List, [], ◌∷◌, ◌++◌, Option, None, Some, Result, Ok, Err, IfErr, IfOk, inl, inr}
use Rattle.std.proofs.Common.{ap, append_assoc, arith, drop, drop-cons, get_or, length, map, refl, slice_range, string_bytes, subst, sym, take}
use Rattle.std.proofs.KnownBytes.{Appends-nil, Appends-trans}
use Rattle.std.proofs.lemmas.List.{append-nil}
use Rattle.std.proofs.lemmas.List.Elements.{Contains-append_left, Contains-append_right}
use Rattle.std.specs.Io.KnownBytes.{Appends}
use Rattle.std.specs.List.{flat_map}
use Rattle.std.specs.Prelude.{Contains}
use Rattle.std.specs.declared.alloc.Global.{Global}
use Rattle.std.specs.declared.string.String.{String}
use Rattle.peg_explain.specs.declared.style.ItemStyle.{ItemStyle}
use Rattle.peg_explain_files.specs.Entries.{message_of}
use Rattle.peg_explain_files.specs.Printings.{printed_by}
use Rattle.peg_explain_files.specs.TextReports.{IsReportIn, too_long}
use Rattle.peg_explain_files.specs.declared.printing.Printing.{Printing}
use Rattle.peg_explain_files.specs.declared.reports.TextReport.{TextReport}
use Rattle.peg_explain_files.specs.declared.reports.TextReport.TheVariants as report
use Rattle.peg_grammar.specs.Limits.{max_text_bytes}
use Rattle.peg_io.specs.NamedFile.{NamedFile, bytes_of}
use Rattle.peg_messages.specs.FileNames.{shown_name}
use Rattle.peg_messages.specs.declared.lines.TextLines.{TextLines}
use Rattle.peg_messages.specs.declared.lines.TextLines.TheVariants.{Part}
use Rattle.peg_parser.specs.Parser.{start_named}
use Rattle.peg_record_files.specs.Faults.{IsFaultAmongTexts}
use Rattle.peg_record_files.specs.Places.{first_place}
use Rattle.peg_record_files.specs.RecordReplies.{HaveReplies, HaveRepliesInPart, WritesReplies, no_record, worse_outcome}
use Rattle.peg_record_files.specs.Streams.{AreStreams}
use Rattle.peg_record_files.specs.declared.fault.RecordsFault.{RecordsFault}
use Rattle.peg_record_files.specs.declared.fault.RecordsFault.TheVariants as faults
use Rattle.peg_record_files.specs.declared.filter.RecordFilter.TheVariants.{All}
use Rattle.peg_record_files.specs.declared.outcome.RecordOutcome.{RecordOutcome}
use Rattle.peg_record_files.specs.declared.outcome.RecordOutcome.TheVariants.{Matches}
use Rattle.peg_record_files.specs.declared.place.RecordPlace.{RecordPlace}
use Rattle.peg_record_files.proofs.StreamLemmas.{first-stream, names-around, split-streams}
use Rattle.peg_record_files.proofs.ReplyLemmas.{worse-assoc, worse-none}
use Rattle.peg_records.specs.Ahead.{IsGivenFor}
use Rattle.peg_records.specs.Records.{records}
use Rattle.peg_semantics.specs.Rules.{Rule}
use Rattle.peg_explain_records.specs.Questions.{RecordsQuestion}
use Rattle.peg_explain_records.specs.RecordExplainers.{IsAskedOf}
use Rattle.peg_explain_records.specs.RecordMessages.{HaveMessages, HaveMessagesInPart, IsRecordMessage, RecordSetting, WritesMessages}
use Rattle.peg_explain_records.specs.RecordMessages.{a_text, input_name, no_text, printing_at, report_outcome, setting_of, text_names}
use Rattle.peg_explain_records.specs.declared.printer.RecordExplainer.{RecordExplainer}

-- ---- one record

-- what is reported of the bytes that are given of a record is reported of the record
pub report-given : (file : List ℕ) (rules : List Rule) (style : ItemStyle) (start : Option (List ℕ)) (memo : ℕ)
    (steps : Option ℕ) (lines : TextLines) (name given text : List ℕ) (reported : TextReport)
    → IsGivenFor max_text_bytes given text → (max_text_bytes < length given → reported ≡ report.TooLong)
    → IsReportIn file rules style start memo steps lines name given reported
    → IsReportIn file rules style start memo steps lines name text reported
report-given file rules style start memo steps lines name given text reported (inl same) long is =
    subst (λ (t : List ℕ). IsReportIn file rules style start memo steps lines name t reported) same is
report-given file rules style start memo steps lines name given text reported (inr over) long is =
    subst (λ (r : TextReport). IsReportIn file rules style start memo steps lines name text r) (sym (long over.0))
    (too_long over.1)

-- the message and the outcome of a record, by what is reported of the bytes that are given of it
pub record-message : (by : RecordExplainer) (question : RecordsQuestion) (file : List ℕ) (rules : List Rule)
    (place : RecordPlace) (given text : List ℕ) (reported : TextReport) (outcome : RecordOutcome) → IsAskedOf by question
    → by.called.now ≡ shown_name by.name.now → IsGivenFor max_text_bytes given text
    → (max_text_bytes < length given → reported ≡ report.TooLong)
    → IsReportIn file rules by.explainer.now.style (start_named by.options.now) by.options.now.memo by.options.now.steps
    (Part place.line_feeds) by.called.now given reported → outcome ≡ report_outcome reported
    → IsRecordMessage (setting_of question file rules) by.name.now place text
    (printed_by (printing_at by.printing by.max_errors place) (message_of by.name.now reported)) outcome
record-message by question file rules place given text reported outcome asked shown is_given long is ends =
    let lines = Part place.line_feeds in
    let style = by.explainer.now.style in
    let start = start_named by.options.now in
    let memo = by.options.now.memo in
    let steps = by.options.now.steps in
    let whole = report-given file rules style start memo steps lines by.called.now given text reported is_given long is in
    let named = subst (λ (n : List ℕ). IsReportIn file rules style start memo steps lines n text reported) shown whole in
    let name = shown_name by.name.now in
    let one = subst (λ (s : ItemStyle). IsReportIn file rules s start memo steps lines name text reported) (sym asked.style)
    named in
    let two = subst (λ (s : Option (List ℕ)). IsReportIn file rules question.style s memo steps lines name text reported)
    (sym asked.start) one in
    let three = subst (λ (n : ℕ). IsReportIn file rules question.style question.start n steps lines name text reported)
    (sym asked.memo) two in
    let four = subst (λ (n : Option ℕ). IsReportIn file rules question.style question.start question.memo n lines name text
    reported) (sym asked.steps) three in (
      reported,
      four,
      ap (λ (p : Printing). printed_by (printing_at p by.max_errors place) (message_of by.name.now reported))
          (sym asked.printing)
          ∙ ap (λ (m : Option ℕ). printed_by (printing_at question.printing m place) (message_of by.name.now reported))
          (sym asked.max_errors),
      ends,
    )

-- ---- several texts

-- one more text
messages-more : (setting : RecordSetting) (names streams : List (List ℕ)) (name stream written more : List ℕ)
    (worst other : RecordOutcome) → HaveMessages setting names streams written worst
    → HaveReplies (IsRecordMessage setting name) All setting.question.end first_place (records setting.question.end stream) more other
    → HaveMessages setting (names ++ name ∷ []) (streams ++ stream ∷ []) (written ++ more) (worse_outcome worst other)
messages-more setting [] [] name stream written more worst other no_text replies =
    subst (λ (l : List ℕ). HaveMessages setting (name ∷ []) (stream ∷ []) l other) (append-nil more)
    (subst (λ (o : RecordOutcome). HaveMessages setting (name ∷ []) (stream ∷ []) (more ++ []) o) (worse-none other)
    (a_text replies no_text))
messages-more setting [] (s ∷ streams) name stream written more worst other none replies = elim none [ ]
messages-more setting (n ∷ names) [] name stream written more worst other none replies = elim none [ ]
messages-more setting (n ∷ names) (s ∷ streams) name stream written more worst other
    (a_text {written = first} {later = later} {worst = one} {other = rest} replies others) next =
    let all = a_text replies (messages-more setting names streams name stream later more rest other others next) in
    subst (λ (l : List ℕ). HaveMessages setting (n ∷ (names ++ name ∷ [])) (s ∷ (streams ++ stream ∷ [])) l
    (worse_outcome (worse_outcome one rest) other)) (sym (append_assoc first later more))
    (subst (λ (o : RecordOutcome). HaveMessages setting (n ∷ (names ++ name ∷ [])) (s ∷ (streams ++ stream ∷ []))
    (first ++ (later ++ more)) o) (sym (worse-assoc one rest other)) all)

-- no stream is left
none-left : (f : List ℕ → Option (List ℕ)) (streams : List (List ℕ)) → map f [] ≡ map Some streams → streams ≡ []
none-left f [] is = refl
none-left f (s ∷ streams) is = let bad : [] ≡ Some s ∷ map Some streams = is in cc

module _ (setting : RecordSetting) (f : List ℕ → Option (List ℕ)) where
  -- no text is read
  pub messages-none : (streams : List (List ℕ)) (written : Option (List ℕ)) → map f [] ≡ map Some streams
      → WritesMessages setting [] streams written written (Ok Matches)
  messages-none streams written is =
      subst (λ (l : List (List ℕ)). WritesMessages setting [] l written written (Ok Matches)) (sym (none-left f streams is))
      ([], no_text, Appends-nil written)

  -- one more text is read
  pub messages-added : (names : List (List ℕ)) (name : List ℕ) (worst other : RecordOutcome) (old mid new : Option (List ℕ))
      → ((streams : List (List ℕ)) → map f names ≡ map Some streams
      → WritesMessages setting names streams old mid (Ok worst))
      → ((streams : List (List ℕ)) → map f (name ∷ []) ≡ map Some streams
      → WritesReplies (IsRecordMessage setting name) All setting.question.end (flat_map (records setting.question.end) streams) mid new
      (Ok other))
      → (streams : List (List ℕ)) → map f (names ++ name ∷ []) ≡ map Some streams
      → WritesMessages setting (names ++ name ∷ []) streams old new (Ok (worse_outcome worst other))
  messages-added names name worst other old mid new done more streams are =
      let split = split-streams f names (name ∷ []) streams are in
      let last = first-stream f name [] split.1 split.4 in
      let end = setting.question.end in
      let first = done split.0 split.3 in
      let next = more (last.0 ∷ []) (ap (λ (o : Option (List ℕ)). o ∷ []) last.3) in
      let replies = subst (λ (l : List (List ℕ)). HaveReplies (IsRecordMessage setting name) All setting.question.end first_place l next.0 other)
      (append-nil (records end last.0)) next.1 in
      subst (λ (l : List (List ℕ)). WritesMessages setting (names ++ name ∷ []) l old new (Ok (worse_outcome worst other)))
      (sym (split.2 ∙ ap (λ (l : List (List ℕ)). split.0 ++ l)
      (last.2 ∙ ap (λ (l : List (List ℕ)). last.0 ∷ l) (none-left f last.1 last.4)))) (
        first.0 ++ next.0,
        messages-more setting names split.0 name last.0 first.0 next.0 worst other first.1 replies,
        Appends-trans old mid new first.0 next.0 first.2 next.2,
      )

  -- one more text is read in part, and others aren't read
  pub messages-part : (names : List (List ℕ)) (name : List ℕ) (others : List (List ℕ)) (worst : RecordOutcome)
      (fault : RecordsFault) (old mid new : Option (List ℕ))
      → ((streams : List (List ℕ)) → map f names ≡ map Some streams
      → WritesMessages setting names streams old mid (Ok worst))
      → ((streams : List (List ℕ)) → map f (name ∷ []) ≡ map Some streams
      → WritesReplies (IsRecordMessage setting name) All setting.question.end (flat_map (records setting.question.end) streams) mid new
      (Err fault))
      → (streams : List (List ℕ)) → map f (names ++ name ∷ others) ≡ map Some streams
      → WritesMessages setting (names ++ name ∷ others) streams old new (Err fault)
  messages-part names name others worst fault old mid new done more streams are =
      let split = split-streams f names (name ∷ others) streams are in
      let last = first-stream f name others split.1 split.4 in
      let end = setting.question.end in
      let first = done split.0 split.3 in
      let next = more (last.0 ∷ []) (ap (λ (o : Option (List ℕ)). o ∷ []) last.3) in (
        first.0 ++ next.0,
        record {
          first_names = names;
          first_streams = split.0;
          name = name;
          stream = last.0;
          later_names = others;
          later_streams = last.1;
          all_names = refl;
          all_streams = split.2 ∙ ap (λ (l : List (List ℕ)). split.0 ++ l) last.2;
          written = first.0;
          worst = worst;
          first = first.1;
          started = next.0;
          next = subst (λ (l : List (List ℕ)). HaveRepliesInPart (IsRecordMessage setting name) All setting.question.end first_place l next.0)
              (append-nil (records end last.0)) next.1;
          is = refl;
        },
        Appends-trans old mid new first.0 next.0 first.2 next.2,
      )

-- ---- the input

-- what is written for the records of the input
pub messages-input : (setting : RecordSetting) (file_at : List ℕ → NamedFile) (input old new : Option (List ℕ))
    (ended : Result RecordOutcome RecordsFault)
    → ((streams : List (List ℕ)) → AreStreams file_at input [] streams
    → WritesReplies (IsRecordMessage setting input_name) All setting.question.end (flat_map (records setting.question.end) streams) old new ended)
    → (streams : List (List ℕ)) → AreStreams file_at input [] streams
    → WritesMessages setting (input_name ∷ []) streams old new ended
messages-input setting file_at input old new (Ok worst) writes streams are =
    messages-added setting (λ n. input) [] input_name Matches worst old old new
    (λ none is. messages-none setting (λ n. input) none old is) writes streams are
messages-input setting file_at input old new (Err fault) writes streams are =
    messages-part setting (λ n. input) [] input_name [] Matches fault old old new
    (λ none is. messages-none setting (λ n. input) none old is) writes streams are

-- the names of some texts
pub names-some : (texts : List (String Global)) → texts ≢ [] → text_names (map string_bytes texts) ≡ map string_bytes texts
names-some [] some = absurd (some refl)
names-some (text ∷ texts) some = refl

-- the bytes of texts that are named
pub streams-named : (texts : List (String Global)) (file_at : List ℕ → NamedFile) (input : Option (List ℕ))
    (streams : List (List ℕ)) → texts ≢ [] → AreStreams file_at input (map string_bytes texts) streams
    → map (λ (n : List ℕ). bytes_of (file_at n)) (map string_bytes texts) ≡ map Some streams
streams-named [] file_at input streams some are = absurd (some refl)
streams-named (text ∷ texts) file_at input streams some are = are

-- ---- one of the texts

-- the name of a text alone
pub one-text : (texts : List (String Global)) (i : ℕ) (text : String Global) (name : List ℕ) → i < length texts
    → text ≡ get_or texts i text → name ≡ string_bytes text
    → map string_bytes (slice_range texts i (i + 1)) ≡ name ∷ []
one-text texts i text name within is same =
    let count : i + 1 - i ≡ 1 = omega arith in
    ap (λ n. map string_bytes (take n (drop i texts))) count
    ∙ (ap (λ (l : List (String Global)). map string_bytes (take 1 l)) (drop-cons texts i text within)
    ∙ (ap (λ (t : String Global). string_bytes t ∷ []) (sym is) ∙ ap (λ (n : List ℕ). n ∷ []) (sym same)))

-- a text alone is a text
pub one-some : (one : List (String Global)) (name : List ℕ) → map string_bytes one ≡ name ∷ [] → one ≢ []
one-some one name is none =
    let bad : [] ≡ name ∷ [] = sym (ap (map string_bytes) none) ∙ is in cc

-- all names, around that of one text
pub names-with : (texts : List (String Global)) (i : ℕ) (text : String Global) (name : List ℕ) → i < length texts
    → text ≡ get_or texts i text → name ≡ string_bytes text
    → map string_bytes (take i texts) ++ name ∷ map string_bytes (drop (i + 1) texts) ≡ map string_bytes texts
names-with texts i text name within is same =
    sym (append_assoc (map string_bytes (take i texts)) (name ∷ []) (map string_bytes (drop (i + 1) texts)))
    ∙ names-around texts i text name within is same

-- a name of one text is among all names
pub name-among : (before after all : List (List ℕ)) (one : List (List ℕ)) (name other : List ℕ)
    → before ++ name ∷ after ≡ all → one ≡ name ∷ [] → Contains one other → Contains all other
name-among before after all one name other whole is has =
    subst (λ (l : List (List ℕ)). Contains l other) whole
    (Contains-append_right before (name ∷ after) other
    (Contains-append_left (name ∷ []) after other (subst (λ (l : List (List ℕ)). Contains l other) is has)))

-- ---- faults

-- a fault among some texts is one among more of them
pub fault-wider : (file_at : List ℕ → NamedFile) (names more : List (List ℕ)) (fault : RecordsFault)
    → ((name : List ℕ) → Contains names name → Contains more name) → IsFaultAmongTexts file_at names fault
    → IsFaultAmongTexts file_at more fault
fault-wider file_at names more (faults.Text name kind) wider is = (wider name.now is.0, is.1)
fault-wider file_at names more faults.Input wider is = tt
fault-wider file_at names more faults.Output wider is = tt
fault-wider file_at names more faults.Memory wider is = tt
