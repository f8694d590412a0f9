-- How requests for records end.
use Rattle.std.proofs.Common.{◌≡◌, ◌≢◌, ◌⊎◌, ◌↔◌, ℕ, ◌+◌, All, Bool, true, false, List, [], ◌∷◌, ◌++◌, Option, None, Some}
use Rattle.std.proofs.Common.{Result, Ok, Err, IfErr, IfSome, IsErrAnd, OnOk, inl, inr, ap, arith, refl, subst, sym, ◌∙◌}
use Rattle.std.proofs.lemmas.List.{get_or-map, length-map}
use Rattle.std.proofs.lemmas.List.Elements.{All-contains, Contains-append_left, Contains-append_right, Contains-push}
use Rattle.std.specs.Io.KnownBytes.{Keeps}
use Rattle.std.specs.Prelude.{Contains, IsErrOf}
use Rattle.std.specs.Result.{result_err}
use Rattle.std.specs.declared.io.ErrorKind.{ErrorKind}
use Rattle.peg_explain_records.specs.Questions.{RecordsQuestion}
use Rattle.peg_io.specs.NamedFile.{NamedFile, IsMissing, is_readable}
use Rattle.peg_json.specs.Lines.{line_bytes}
use Rattle.peg_json.specs.Statuses.{status_code}
use Rattle.peg_json.specs.declared.line.Line.{Line}
use Rattle.peg_messages.specs.FileNames.{shown_name}
use Rattle.peg_parser.specs.Parser.{parser_rules}
use Rattle.peg_parser.specs.Sessions.{IsSessionOf}
use Rattle.peg_records.specs.declared.end.RecordEnd.{RecordEnd}
use Rattle.peg_record_files.specs.Faults.{IsFaultAmongTexts}
use Rattle.peg_record_files.specs.RecordReplies.{WritesReplies}
use Rattle.peg_record_files.specs.declared.fault.RecordsFault.{RecordsFault}
use Rattle.peg_record_files.specs.declared.fault.RecordsFault.TheVariants as reading
use Rattle.peg_record_files.specs.declared.filter.RecordFilter.{RecordFilter}
use Rattle.peg_record_files.specs.declared.outcome.RecordOutcome.{RecordOutcome}
use Rattle.peg_record_files.proofs.WeakerReplies.{writes-weaker}
use Rattle.peg_replies.specs.Commands.{parse_task}
use Rattle.peg_replies.specs.RecordParsers.{IsRecordParserOf, IsReplyBy}
use Rattle.peg_replies.specs.RecordReplies.{HasParse, IsRecordReply, RefusesRecords, outcome_status}
use Rattle.peg_replies.specs.Task.{ToolTask}
use Rattle.peg_replies.specs.declared.record_parser.RecordParser.{RecordParser}
use Rattle.peg_replies.specs.declared.record_session.RecordSession.{RecordSession}
use Rattle.peg_tool.specs.CommandOutcome.{RecordsOutcome, WritesOrFails}
use Rattle.peg_tool.specs.Faults.{IsFaultAmong, IsFaultAt, plain_fault, plain_result, record_streams, standard_input, standard_output}
use Rattle.peg_tool.specs.RecordFaults.{EndsRecords, HasFaultOfRecords}
use Rattle.peg_tool.specs.RecordResults.{records_result}
use Rattle.peg_tool.specs.RequestContract.{EndsAs}
use Rattle.peg_tool.specs.Requests.{ExplainRecordsRequest, RecordsRequest}
use Rattle.peg_tool.specs.WritesRequest.{WritesRequestReply}
use Rattle.peg_tool.specs.declared.fault.RequestFault.{RequestFault}
use Rattle.peg_tool.specs.declared.fault.RequestFault.TheVariants as failed
use Rattle.peg_tool.specs.declared.program.ProgramFault.{ProgramFault}
use Rattle.peg_tool.specs.declared.program.ProgramFault.TheVariants.{File, Memory}
use Rattle.peg_tool.specs.declared.report.Report.{Report}
use Rattle.peg_tool.proofs.CoverageLemmas.{at-among, ended-among, last-among}

-- ---- the lines of records

-- the lines of records by a parser are those by its grammar file
pub records-by : (file : List ℕ) (parser : RecordParser) (session : RecordSession) (filter : RecordFilter)
    (end : RecordEnd) (texts : List (List ℕ)) (old new : Option (List ℕ)) (ended : Result RecordOutcome RecordsFault)
    → session.records.now ≡ parser → IsSessionOf parser.shown session.session → IsRecordParserOf file parser
    → WritesReplies (IsReplyBy session) filter end texts old new ended
    → WritesReplies (IsRecordReply file (parse_task parser.options parser.printing)) filter end texts old new ended
records-by file parser session filter end texts old new ended same parses of is =
    writes-weaker (IsReplyBy session) (IsRecordReply file (parse_task parser.options parser.printing)) filter end
    (λ place text line outcome reply.
    subst (λ (by : RecordParser). IsRecordReply file (parse_task by.options by.printing) place text line outcome) same
    (reply file record {
      parser = subst (IsRecordParserOf file) (sym same) of;
      parses = subst (λ (by : RecordParser). IsSessionOf by.shown session.session) (sym same) parses;
    }))
    texts old new ended is

-- records can be parsed by a grammar file that has a parser
pub has-parse : (file : List ℕ) (parser : RecordParser) → IsRecordParserOf file parser
    → HasParse (parse_task parser.options parser.printing) file
has-parse file parser of = (parser_rules parser.parser, of.accepts, of.known, of.start)

-- what holds if the records are read without a fault holds of a request without one
pub present-end : {T X : Type 0} (P : Type 0) (value : T → X) (ended : Result T RecordsFault) (result : Result X ProgramFault)
    → result ≡ records_result value ended → OnOk ended P → OnOk result P
present-end P value ended (Err fault) is present = tt
present-end P value (Ok worst) (Ok x) is present = present
present-end P value (Err (reading.Text name kind)) (Ok x) is present =
    absurd (let bad : Ok x ≡ Err File = is in cc)
present-end P value (Err reading.Input) (Ok x) is present = absurd (let bad : Ok x ≡ Err File = is in cc)
present-end P value (Err reading.Output) (Ok x) is present = absurd (let bad : Ok x ≡ Err File = is in cc)
present-end P value (Err reading.Memory) (Ok x) is present = absurd (let bad : Ok x ≡ Err Memory = is in cc)

-- ---- grammar files

-- what is known of the bytes of an open grammar file decides how the request ends
pub records-opened : (held left : Option (List ℕ)) (Known Ends : List ℕ → Type 0)
    → IfSome held (λ bytes. left ≡ Some bytes) → IfSome left Known → ((file : List ℕ) → Known file → Ends file)
    → IfSome held Ends
records-opened None left Known Ends opened known ends = tt
records-opened (Some file) left Known Ends opened known ends =
    ends file (subst (λ (l : Option (List ℕ)). IfSome l Known) opened known)

-- a fault before anything is written
pub records-unwritten : (held old new : Option (List ℕ)) (task : ToolTask) (texts : List (List ℕ)) (end : RecordEnd)
    (filter : RecordFilter) (file_at : List ℕ → NamedFile) (input : Option (List ℕ)) (fault : ProgramFault)
    → Keeps old new
    → IfSome held (λ file. RecordsOutcome task file texts end filter file_at input old new (Err fault))
records-unwritten None old new task texts end filter file_at input fault keeps = tt
records-unwritten (Some file) old new task texts end filter file_at input File keeps = inl (inl keeps)
records-unwritten (Some file) old new task texts end filter file_at input Memory keeps = inl keeps

-- the line that says why no record is parsed
pub records-refused : (task : ToolTask) (file : List ℕ) (line : Line) (old new : Option (List ℕ))
    (result : Result ℕ ProgramFault) → RefusesRecords task file (line_bytes line) (status_code line.status)
    → WritesRequestReply (Ok line) old new result → WritesOrFails (RefusesRecords task file) old new result
records-refused task file line old new (Ok status) refuses writes =
    (line_bytes line, subst (RefusesRecords task file (line_bytes line)) (sym writes.1) refuses, writes.0)
records-refused task file line old new (Err File) refuses writes =
    inr (line_bytes line, status_code line.status, writes.0, refuses, writes.1, writes.2)
records-refused task file line old new (Err Memory) refuses writes = absurd writes

-- ---- the names of streams

-- a text that is read is among the streams of records
pub stream-among : (names : List (List ℕ)) (name : List ℕ) → Contains names name
    → Contains (record_streams names) (shown_name name)
stream-among [] name has = absurd (omega (arith, has.1))
stream-among (first ∷ rest) name has = (
  has.0,
  omega (arith, has.1, length-map (first ∷ rest) shown_name),
  get_or-map shown_name (first ∷ rest) has.0 name (shown_name name) has.1 ∙ ap shown_name has.2,
)

-- a fault of a stream of records, or of the output, is among the names of a request
all-among : (fault : RequestFault) (first last : List ℕ) (names : List (List ℕ)) → IsFaultAmong names fault
    → IsFaultAmong (first ∷ names ++ last ∷ []) fault
all-among (failed.Device at kind) first last names has =
    Contains-append_left (first ∷ names) (last ∷ []) _ (Contains-append_right (first ∷ []) names _ has)
all-among failed.Memory first last names has = tt

pub records-among : {X : Type 0} (first : List ℕ) (names : List (List ℕ)) (output_failed : Bool)
    (output : Option ErrorKind) (result : Result X RequestFault) → (output_failed ≡ false → IfErr result (IsFaultAmong names))
    → (output_failed ≡ true → IfErr result (IsFaultAt standard_output output))
    → IfErr result (IsFaultAmong (first ∷ names ++ standard_output ∷ []))
records-among first names output_failed output (Ok done) cause written = tt
records-among first names false output (Err fault) cause written =
    all-among fault first standard_output names (cause refl)
records-among {X} first names true output (Err fault) cause written =
    ended-among {X = X} (Err fault) (first ∷ names ++ standard_output ∷ []) output (written refl)
    (last-among first standard_output names)

-- the same of an explanation of records, which has no other fault
all-among-last : (fault : RequestFault) (last : List ℕ) (names : List (List ℕ)) → IsFaultAmong names fault
    → IsFaultAmong (names ++ last ∷ []) fault
all-among-last (failed.Device at kind) last names has = Contains-append_left names (last ∷ []) _ has
all-among-last failed.Memory last names has = tt

pub explained-among : {X : Type 0} (names : List (List ℕ)) (output_failed : Bool) (output : Option ErrorKind)
    (result : Result X RequestFault) → (output_failed ≡ false → IfErr result (IsFaultAmong names))
    → (output_failed ≡ true → IfErr result (IsFaultAt standard_output output))
    → IfErr result (IsFaultAmong (names ++ standard_output ∷ []))
explained-among names output_failed output (Ok done) cause written = tt
explained-among names false output (Err fault) cause written = all-among-last fault standard_output names (cause refl)
explained-among {X} names true output (Err fault) cause written =
    ended-among {X = X} (Err fault) (names ++ standard_output ∷ []) output (written refl) (Contains-push names standard_output)

-- ---- faults

-- a fault of a device that ends records of readable texts is that of the input or the output
device-fault : {T X : Type 0} (value : T → X) (file_at : List ℕ → NamedFile) (names : List (List ℕ))
    (ended : Result T RecordsFault) → records_result value ended ≡ Err File → IfErr ended (IsFaultAmongTexts file_at names)
    → All (λ text. is_readable (file_at text) ≡ true) names
    → IsErrOf ended reading.Input ⊎ IsErrOf ended reading.Output
device-fault value file_at names (Ok ended) is among readable = absurd (let bad : Ok (value ended) ≡ Err File = is in cc)
device-fault value file_at names (Err (reading.Text name kind)) is among readable =
    let holds = All-contains (λ (text : List ℕ). is_readable (file_at text) ≡ true) names name.now readable among.0 in
    absurd (let bad : false ≡ true = sym among.1.1 ∙ holds in cc)
device-fault value file_at names (Err reading.Input) is among readable = inl refl
device-fault value file_at names (Err reading.Output) is among readable = inr refl
device-fault value file_at names (Err reading.Memory) is among readable =
    absurd (let bad : Some Memory ≡ Some File = ap result_err is in cc)

-- without a failed output the fault is that of a text, or of the input without texts
fault-cause : {T X : Type 0} (value : T → X) (file_at : List ℕ → NamedFile) (names : List (List ℕ))
    (input output : Option ErrorKind) (ended : Result T RecordsFault) (result : Result X RequestFault)
    → plain_result result ≡ records_result value ended
    → HasFaultOfRecords ended input output result → IfErr ended (IsFaultAmongTexts file_at names)
    → (IsErrOf ended reading.Input → names ≡ []) → ¬ IsErrOf ended reading.Output
    → IfErr result (IsFaultAmong (record_streams names))
fault-cause value file_at names input output ended (Ok done) plain has among alone works = tt
fault-cause value file_at names input output (Ok done) (Err fault) plain has among alone works =
    absurd (let bad : Err (plain_fault fault) ≡ Ok (value done) = plain in cc)
fault-cause value file_at names input output (Err (reading.Text name kind)) (Err fault) plain has among alone works =
    subst (IsFaultAmong (record_streams names)) (sym has) (stream-among names name.now among.0)
fault-cause value file_at names input output (Err reading.Input) (Err fault) plain has among alone works =
    subst (λ (texts : List (List ℕ)). IsFaultAmong (record_streams texts) fault) (sym (alone refl))
    (at-among fault (standard_input ∷ []) standard_input input has (0, omega arith, refl))
fault-cause value file_at names input output (Err reading.Output) (Err fault) plain has among alone works = absurd (works refl)
fault-cause value file_at names input output (Err reading.Memory) (Err fault) plain has among alone works =
    subst (IsFaultAmong (record_streams names)) (sym has) tt

-- only without texts is the input read
pub reads-alone : (names : List (List ℕ)) (input_failed : Bool) → (names ≢ [] → input_failed ≡ false) → input_failed ≡ true
    → names ≡ []
reads-alone [] input_failed unread failed = refl
reads-alone (name ∷ names) input_failed unread failed =
    let none : input_failed ≡ false = unread (λ same. let bad : name ∷ names ≡ [] = same in cc) in
    absurd (let bad : false ≡ true = sym none ∙ failed in cc)

-- which fault ends a request whose records are read
pub records-end : {T X : Type 0} (value : T → X) (file_at : List ℕ → NamedFile) (names : List (List ℕ))
    (input_failed output_failed : Bool) (input output : Option ErrorKind) (ended : Result T RecordsFault)
    (result : Result X RequestFault) → plain_result result ≡ records_result value ended → HasFaultOfRecords ended input output result
    → IfErr ended (IsFaultAmongTexts file_at names) → (IsErrOf ended reading.Input ↔ (input_failed ≡ true))
    → (IsErrOf ended reading.Output ↔ (output_failed ≡ true)) → (names ≢ [] → input_failed ≡ false)
    → EndsRecords file_at names input_failed output_failed input output result
records-end {T} value file_at names input_failed output_failed input output ended result plain has among reads writes unread =
    let read : input_failed ≡ true → plain_result result ≡ Err File = λ bad. plain ∙ ap (records_result value) (reads.1 bad) in
    let written : output_failed ≡ true → plain_result result ≡ Err File = λ bad. plain ∙ ap (records_result value) (writes.1 bad) in
    record {
      device = λ readable. (
        λ is. elim (device-fault value file_at names ended (sym plain ∙ is) among readable) [
          | inl bad ↦ inl (reads.0 bad)
          | inr bad ↦ inr (writes.0 bad)
        ],
        λ bad. elim bad [ inl of_input ↦ read of_input | inr of_output ↦ written of_output ],
      );
      read_fault = read;
      write_fault = written;
      input = λ bad. subst (λ (e : Result T RecordsFault). HasFaultOfRecords e input output result) (reads.1 bad) has;
      output = λ bad. subst (λ (e : Result T RecordsFault). HasFaultOfRecords e input output result) (writes.1 bad) has;
      cause = λ works. fault-cause value file_at names input output ended result plain has among
          (λ bad. reads-alone names input_failed unread (reads.0 bad))
          (λ bad. let both : false ≡ true = sym works ∙ writes.0 bad in cc);
    }

-- without a failed output a refusal ends without a fault of a device
works-fault : {X : Type 0} (names : List (List ℕ)) (result : Result X RequestFault)
    → ¬ IsErrOf (plain_result result) File → IfErr result (IsFaultAmong names)
works-fault names (Ok status) works = tt
works-fault names (Err failed.Memory) works = tt
works-fault names (Err (failed.Device at kind)) works = absurd (works refl)

-- which fault ends a request whose records aren't read
pub refusal-end : {X : Type 0} (file_at : List ℕ → NamedFile) (names : List (List ℕ)) (input_failed output_failed : Bool)
    (input output : Option ErrorKind) (result : Result X RequestFault) → input_failed ≡ false
    → (IsErrOf (plain_result result) File ↔ (output_failed ≡ true)) → IfErr result (IsFaultAt standard_output output)
    → EndsRecords file_at names input_failed output_failed input output result
refusal-end file_at names input_failed output_failed input output result works fault named =
    let never : input_failed ≡ true → ⊥ = λ bad. let both : false ≡ true = sym works ∙ bad in cc in
    record {
      device = λ readable. (
        λ is. inr (fault.0 is),
        λ bad. elim bad [ inl of_input ↦ absurd (never of_input) | inr of_output ↦ fault.1 of_output ],
      );
      read_fault = λ bad. absurd (never bad);
      write_fault = fault.1;
      input = λ bad. absurd (never bad);
      output = λ bad. named;
      cause = λ written. works-fault (record_streams names) result
          (λ is. let both : false ≡ true = sym written ∙ fault.0 is in cc);
    }

-- ---- requests

-- a fault that is passed on is the fault of the result
pub passed-fault : {X : Type 0} (ended : Result X RequestFault) (fault : RequestFault) (result : Result Report RequestFault)
    → ended ≡ Err fault → IsErrAnd result (λ stated. stated ≡ fault)
    → result_err (plain_result result) ≡ result_err (plain_result ended)
passed-fault ended fault (Ok it) was is = absurd is
passed-fault ended fault (Err stated) was is =
    ap (λ f. Some (plain_fault f)) is ∙ sym (ap (λ r. result_err (plain_result r)) was)

pub file-error : {X : Type 0} (result : Result X ProgramFault) → result_err result ≡ Some File → result ≡ Err File
file-error (Ok done) is = absurd (let bad : None ≡ Some File = is in cc)
file-error (Err fault) is = let same : fault ≡ File = cc in ap Err same

-- how a request for records ends
pub request-end : (task : ToolTask) (g : List ℕ) (texts : List (List ℕ)) (end : RecordEnd) (filter : RecordFilter)
    (file_at : List ℕ → NamedFile) (input_failed output_failed : Bool) (SameInput SameOutput : Type 0)
    (old new : Option (List ℕ)) (ended : Result ℕ RequestFault) (fault : Option ProgramFault)
    → fault ≡ result_err (plain_result ended) → (texts ≢ [] → SameInput)
    → (IsMissing (file_at g) → IsErrOf (plain_result ended) File × SameOutput)
    → (is_readable (file_at g) ≡ true → All (λ text. is_readable (file_at text) ≡ true) texts
    → (IsErrOf (plain_result ended) File ↔ ((input_failed ≡ true) ⊎ (output_failed ≡ true))))
    → (input_failed ≡ true → IsErrOf (plain_result ended) File)
    → (output_failed ≡ true → IsErrOf (plain_result ended) File)
    → EndsAs (RecordsRequest task g texts end filter) file_at fault input_failed output_failed SameInput SameOutput old new
request-end task g texts end filter file_at input_failed output_failed SameInput SameOutput old new ended fault same
    alone missing device read written = record {
      unread = alone;
      no_grammar = λ none. (same ∙ ap result_err (missing none).0, (missing none).1);
      no_text = λ none. absurd none;
      device_fault = λ readable. (
        λ is. (device readable.0 readable.1).0 (file-error (plain_result ended) (sym same ∙ is)),
        λ bad. same ∙ ap result_err ((device readable.0 readable.1).1 bad),
      );
      write_fault = λ bad. same ∙ ap result_err (written bad);
      input_fault = λ reads bad. same ∙ ap result_err (read bad);
      explain_fault = λ none. absurd none;
      test_fault = λ none. absurd none;
      memory = λ late. absurd (late tt);
    }

-- how a request for an explanation of records ends
pub explained-end : {X : Type 0} (question : RecordsQuestion) (file_at : List ℕ → NamedFile)
    (input_failed output_failed : Bool) (SameInput SameOutput : Type 0) (old new : Option (List ℕ))
    (ended : Result X RequestFault) (fault : Option ProgramFault) → fault ≡ result_err (plain_result ended)
    → (question.texts ≢ [] → SameInput)
    → (All (λ text. is_readable (file_at text) ≡ true) question.texts
    → (IsErrOf (plain_result ended) File ↔ ((input_failed ≡ true) ⊎ (output_failed ≡ true))))
    → (input_failed ≡ true → IsErrOf (plain_result ended) File)
    → (output_failed ≡ true → IsErrOf (plain_result ended) File)
    → EndsAs (ExplainRecordsRequest question) file_at fault input_failed output_failed SameInput SameOutput old new
explained-end question file_at input_failed output_failed SameInput SameOutput old new ended fault same alone device read
    written = record {
      unread = alone;
      no_grammar = λ none. absurd none;
      no_text = λ none. absurd none;
      device_fault = λ readable. (
        λ is. (device readable).0 (file-error (plain_result ended) (sym same ∙ is)),
        λ bad. same ∙ ap result_err ((device readable).1 bad),
      );
      write_fault = λ bad. same ∙ ap result_err (written bad);
      input_fault = λ reads bad. same ∙ ap result_err (read bad);
      explain_fault = λ none. absurd none;
      test_fault = λ none. absurd none;
      memory = λ late. absurd (late tt);
    }
