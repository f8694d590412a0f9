-- What is printed of what records use.
use Rattle.std.proofs.Common.{◌≡◌, ◌≢◌, ◌∙◌, ◌⊎◌, ◌↔◌, ℕ, ◌+◌, ◌<◌, ◌≤◌, ◌++◌, ◌∷◌, All, Bool, true, false, [], List, None, Option, Some, IfErr, IfOk, IfSome, IsSome, Result, Ok, Err, ap, append-nil, arith, get_or, inl, inr, length, length-append, map, option_map, refl, string_bytes, subst, sym, take, unwrap_or}
use Rattle.std.specs.Borrow.{Bor}
use Rattle.std.proofs.lemmas.Grind.{flat_map-append}
use Rattle.std.proofs.lemmas.List.{get_or-map, length-map, take-map, take_more}
use Rattle.std.proofs.lemmas.List.Concat.{flat_map-cons}
use Rattle.std.proofs.lemmas.List.Elements.{All-cons, All-contains, All-head, All-nil, All-tail}
use Rattle.std.proofs.lemmas.List.FromFn.{get_or-range_with_len, length-range_with_len}
use Rattle.std.proofs.lemmas.Option.{get_or_from_slice_get, slice_get-map, slice_get_within}
use Rattle.std.specs.Io.KnownBytes.{Consumes, IsAtEnd, Keeps}
use Rattle.std.specs.List.{flat_map, range_with_len}
use Rattle.std.specs.Prelude.{Contains, IsErrOf}
use Rattle.std.specs.Result.{result_err}
use Rattle.std.specs.declared.io.ErrorKind.{ErrorKind}
use Rattle.peg_coverage.specs.Covered.{settings_of}
use Rattle.peg_coverage.specs.CoverageFaults.{IsCoverageRefusal}
use Rattle.peg_coverage.specs.Unused.{IsCoverageOf, alternative_use, rule_use}
use Rattle.peg_coverage.specs.declared.coverage.Coverage.{Coverage}
use Rattle.peg_coverage.specs.declared.fault.CoverageFault.{CoverageFault}
use Rattle.peg_coverage.specs.declared.fault.CoverageFault.TheVariants as coverage
use Rattle.peg_coverage.specs.declared.text_match.RequiredMatch.{RequiredMatch}
use Rattle.peg_coverage_files.specs.CoveringFaults.{IsFirst, IsLong, IsParsable, IsShort, IsTooLong}
use Rattle.peg_coverage_files.specs.NamedTexts.{texts_in}
use Rattle.peg_coverage_files.specs.RecordFaults.{HasLongRecord, HasShortRecords, IsFaultOfRecords, IsFaultOfStreams}
use Rattle.peg_coverage_files.specs.declared.fault.CoveringFault.{CoveringFault}
use Rattle.peg_coverage_files.specs.declared.fault.CoveringFault.TheVariants as covering
use Rattle.peg_coverage_files.specs.declared.cover_query.CoverQuery.{CoverQuery}
use Rattle.peg_io.specs.NamedFile.{NamedFile, IsMissing, Readable, bytes_of, is_readable}
use Rattle.peg_json.specs.CoverageText.{named_use}
use Rattle.peg_json.specs.Lines.{IsReply, line_bytes}
use Rattle.peg_json.specs.Reply.{Reply, Covered, NoCoverage, Refused, printed_line, status_of}
use Rattle.peg_json.specs.Statuses.{status_code}
use Rattle.peg_json.specs.declared.line.Line.{Line}
use Rattle.peg_messages.specs.FileNames.{shown_name}
use Rattle.peg_parser.specs.Accepts.{Accepts}
use Rattle.peg_metagrammar.specs.Notation.{max_file_bytes}
use Rattle.peg_parser.specs.Cause.{Cause, FileTooLong, NoSuchStart, TextTooLong}
use Rattle.peg_parser.specs.Faults.{HasCause, cause_of, of_cause, out_of_memory}
use Rattle.peg_parser.specs.Refusals.{IsRefusalOf, file_too_long}
use Rattle.peg_parser.specs.declared.refusal.Refusal.{Refusal}
use Rattle.peg_parser.specs.Parser.{start_named}
use Rattle.peg_parser.specs.declared.options.ParseOptions.{ParseOptions}
use Rattle.peg_records.specs.Records.{records}
use Rattle.peg_records.specs.declared.end.RecordEnd.{RecordEnd}
use Rattle.peg_record_files.proofs.StreamLemmas.{on-ok}
use Rattle.peg_record_files.specs.Streams.{ArePresent}
use Rattle.peg_replies.specs.CoverageReplies.{CoversTo, a_text_over_limit, marked_over_limit, start_unknown}
use Rattle.peg_replies.specs.Replies.{RepliesTo, covered, refused_grammar}
use Rattle.peg_replies.proofs.JudgeLemmas.{refuses-replies}
use Rattle.peg_replies.proofs.RunLemmas.{over-reply, right-held}
use Rattle.peg_semantics.specs.Rules.{Rule}
use Rattle.peg_semantics.specs.Starts.{start_name}
use Rattle.peg_tool.specs.CoverageOutcome.{IsPrintedOf, WritesCoverage, error_lines, stopped_line, stopped_lines}
use Rattle.peg_tool.specs.CoverageWritten.{IsReplyOfKind, WritesCoverageReply}
use Rattle.peg_tool.specs.Faults.{IsFaultAmong, IsFaultAt, IsKind, plain_fault, plain_result, record_streams, standard_input}
use Rattle.peg_tool.specs.PreparedCoverages.{IsPreparedCoverage}
use Rattle.peg_tool.specs.RecordCoverage.{AreOpened, CanCover, EndsCoverage, IsNoCoverage, IsPrintedOfRecords, RefusesCoverage, record_name, record_names, record_task}
use Rattle.peg_tool.specs.RecordCoverageWritten.{IsRecordCoverFault, IsRecordCoverageReply, IsRight, record_lines}
use Rattle.peg_tool.specs.RecordFaults.{EndsRecords}
use Rattle.peg_tool.specs.RequestContract.{EndsAs}
use Rattle.peg_tool.specs.Requests.{CoverQuestion, CoverRecordsRequest}
use Rattle.peg_tool.specs.declared.covering.CoverageReply.{CoverageReply}
use Rattle.peg_tool.specs.declared.fault.RequestFault.{RequestFault}
use Rattle.peg_tool.specs.declared.fault.RequestFault.TheVariants as failed
use Rattle.peg_tool.specs.declared.fault.Stream.TheVariants as streams
use Rattle.peg_tool.specs.declared.prepare_coverage.PreparedCoverage.{PreparedCoverage}
use Rattle.peg_tool.specs.declared.prepare_coverage.PreparedCoverage.TheVariants as prepared
use Rattle.peg_tool.specs.declared.program.ProgramFault.{ProgramFault}
use Rattle.peg_tool.specs.declared.program.ProgramFault.TheVariants.{File, Memory}
use Rattle.peg_tool.specs.declared.report.Findings.{Findings}
use Rattle.peg_tool.specs.WordRequests.{cover_question}
use Rattle.peg_tool.proofs.CoverageLemmas.{coverage-replies, line-alone}
use Rattle.peg_tool.proofs.RecordsLemmas.{stream-among}

-- ---- records as files

-- the names of records in order
pub name-at : (count number : ℕ) → number < count → get_or (record_names count) number [] ≡ record_name number
name-at count number within =
    let size = length-range_with_len 0 count in
    let zero : 0 + number ≡ number = omega arith in
    get_or-map record_name (range_with_len 0 count) number 0 [] (omega (arith, within, size))
    ∙ ap record_name (get_or-range_with_len 0 count number 0 within ∙ zero)

-- the lines for stopped records, by their names
pub lines-named : (count : ℕ) (stopped : List ℕ) → All (λ (number : ℕ). number < count) stopped
    → stopped_lines (record_names count) stopped ≡ record_lines stopped
lines-named count [] all = refl
lines-named count (number ∷ stopped) all =
    let names = record_names count in
    let named : ℕ → List ℕ = λ n. stopped_line (get_or names n []) in
    let numbered : ℕ → List ℕ = λ n. stopped_line (record_name n) in
    let name = name-at count number (All-head (λ (n : ℕ). n < count) number stopped all) in
    let rest = lines-named count stopped (All-tail (λ (n : ℕ). n < count) number stopped all) in
    flat_map-cons named number stopped
    ∙ ap (λ (l : List ℕ). stopped_line l ++ flat_map named stopped) name
    ∙ ap (λ (l : List ℕ). numbered number ++ l) rest
    ∙ sym (flat_map-cons numbered number stopped)

-- one more record is stopped
pub record-lines-more : (stopped : List ℕ) (i : ℕ) → i < length stopped
    → record_lines (take (i + 1) stopped) ≡ record_lines (take i stopped) ++ stopped_line (record_name (get_or stopped i 0))
record-lines-more stopped i within =
    let line : ℕ → List ℕ = λ number. stopped_line (record_name number) in
    ap record_lines (take_more stopped i 0 within)
    ∙ (flat_map-append line (take i stopped) (get_or stopped i 0 ∷ [])
    ∙ ap (λ (l : List ℕ). flat_map line (take i stopped) ++ l)
    (flat_map-cons line (get_or stopped i 0) [] ∙ append-nil (line (get_or stopped i 0))))

-- the texts in files that hold records
pub texts-of : (texts : List (List ℕ)) → texts_in (map Readable texts) ≡ map Some texts
texts-of [] = refl
texts-of (text ∷ texts) = ap (λ (l : List (Option (List ℕ))). Some text ∷ l) (texts-of texts)

-- these files are there
all-there : (texts : List (List ℕ)) → All (λ (file : NamedFile). ¬ IsMissing file) (map Readable texts)
all-there [] = All-nil (λ (file : NamedFile). ¬ IsMissing file)
all-there (text ∷ texts) =
    All-cons (λ (file : NamedFile). ¬ IsMissing file) (Readable text) (map Readable texts) (λ bad. bad) (all-there texts)

-- the first record that is too long is the first file with such a text
pub long-file : (texts : List (List ℕ)) → IsFirst IsShort IsLong texts
    → IsFirst IsParsable IsTooLong (map Readable texts)
long-file texts first = record {
  index = first.index;
  element = Readable first.element;
  here = slice_get-map Readable texts first.index ∙ ap (option_map Readable) first.here;
  before = subst (All IsParsable) (sym (take-map Readable first.index texts)) (short-files (take first.index texts) first.before);
  is = (λ bad. bad, first.is);
}
  where
    short-files : (texts : List (List ℕ)) → All IsShort texts → All IsParsable (map Readable texts)
    short-files [] all = All-nil IsParsable
    short-files (text ∷ texts) all =
        All-cons IsParsable (Readable text) (map Readable texts) ((λ bad. bad), All-head IsShort text texts all)
        (short-files texts (All-tail IsShort text texts all))

-- texts whose records aren't too long are there
pub short-present : (end : RecordEnd) (file_at : List ℕ → NamedFile) (names : List (List ℕ))
    → All (λ (name : List ℕ). HasShortRecords end (file_at name)) names → ArePresent file_at names
short-present end file_at [] all = All-nil (λ (name : List ℕ). ¬ IsMissing (file_at name))
short-present end file_at (name ∷ names) all =
    let Short = λ (n : List ℕ). HasShortRecords end (file_at n) in
    All-cons (λ (n : List ℕ). ¬ IsMissing (file_at n)) name names (All-head Short name names all).0
    (short-present end file_at names (All-tail Short name names all))

-- texts are opened up to the first one that has a record that is too long
pub long-opened : (rules : List Rule) (question : CoverQuestion) (file_at : List ℕ → NamedFile) (input : Option (List ℕ))
    (start : Option (List ℕ)) (why : CoveringFault) → why ≡ covering.TextTooLong
    → IsFaultOfRecords rules question.end file_at input question.texts start why → AreOpened question file_at
long-opened rules question file_at input start why is fault =
    by question.texts (subst (IsFaultOfRecords rules question.end file_at input question.texts start) is fault)
  where
    by : (names : List (List ℕ)) → IsFaultOfStreams question.end file_at input names covering.TextTooLong
        → ArePresent file_at names ⊎ IsFirst (λ (name : List ℕ). HasShortRecords question.end (file_at name))
        (λ (name : List ℕ). HasLongRecord question.end (file_at name)) names
    by [] long = inl (All-nil (λ (name : List ℕ). ¬ IsMissing (file_at name)))
    by (name ∷ names) long = inr long

-- ---- replies

-- the reply for what records use
pub records-printed : (query : CoverQuery) (file held : List ℕ) (rules : List Rule) (texts : List (List ℕ))
    (from : List ℕ) (coverage : Coverage) (printed : CoverageReply) → held ≡ file → Accepts file rules
    → start_name rules (start_named query.options) ≡ Some from
    → IsCoverageOf rules from (settings_of query.options) query.needed (map Some texts) coverage
    → IsReplyOfKind (λ other. other ≡ Covered coverage.texts coverage.matched coverage.stopped.items
    (map (named_use rules) (map rule_use coverage.unused_rules.items))
    (map alternative_use coverage.unused_alternatives.items)) (record_names coverage.texts) held printed
    → IsRight (IsPrintedOfRecords (cover_question query) file texts) printed
records-printed query file held rules texts from coverage printed same accepts at of is =
    let options = query.options in
    let task = record_task (cover_question query) texts in
    let known = subst (λ (t : List (Option (List ℕ))). IsCoverageOf rules from (settings_of options) query.needed t coverage)
    (sym (texts-of texts)) of in
    let covers = coverage-replies rules (map Readable texts) options query.needed from coverage at (all-there texts) known in
    let count : coverage.texts ≡ length texts = of.count ∙ length-map texts Some in
    let Printed = λ (bytes : List ℕ) (size : ℕ). IsReplyOfKind (RepliesTo file [] task) (record_names size) bytes printed in
    subst (λ (bytes : List ℕ). Printed bytes (length texts)) same
    (subst (Printed held) count (is.0, (subst (RepliesTo file [] task) (sym is.1.0) (covered accepts covers), is.1.1), is.2, is.3))

-- the line that reports that a record is too long
pub long-printed : (query : CoverQuery) (file : List ℕ) (rules : List Rule) (texts : List (List ℕ))
    (printed : CoverageReply) (line : Line) → Accepts file rules → printed.line ≡ line → string_bytes printed.faults ≡ []
    → IsReply file (Refused TextTooLong) (line_bytes line) (status_code line.status) → IsFirst IsShort IsLong texts
    → IsRight (IsPrintedOfRecords (cover_question query) file texts) printed
long-printed query file rules texts printed line accepts same none is first =
    line-alone printed line (record_names (length texts)) file (RepliesTo file [] (record_task (cover_question query) texts))
    (Refused TextTooLong) same none is refl (covered accepts (a_text_over_limit (long-file texts first)))

-- the line that reports that there is no such start
pub start-refused : (query : CoverQuery) (file : List ℕ) (rules : List Rule) (name : List ℕ) (printed : CoverageReply)
    (line : Line) → Accepts file rules → printed.line ≡ line → string_bytes printed.faults ≡ []
    → IsReply file (Refused (NoSuchStart name)) (line_bytes line) (status_code line.status)
    → start_named query.options ≡ Some name → start_name rules (start_named query.options) ≡ None
    → IsRight (RefusesCoverage (cover_question query) file) printed
start-refused query file rules name printed line accepts same none is named unknown =
    line-alone printed line [] file
    (λ reply. RepliesTo file [] (record_task (cover_question query) []) reply × IsNoCoverage reply)
    (Refused (NoSuchStart name)) same none is refl (covered accepts (start_unknown name named unknown), tt)

-- a grammar file with a start has coverage
pub can-cover : (query : CoverQuery) (file : List ℕ) (rules : List Rule) (from : List ℕ) → Accepts file rules
    → start_name rules (start_named query.options) ≡ Some from → CanCover (cover_question query) file
can-cover query file rules from accepts at = (rules, accepts, subst IsSome (sym at) refl)

-- ---- grammar files

-- the line of a refused file
pub file-refused : (question : CoverQuestion) (file : List ℕ) (cause : Cause) (line : Line)
    → RepliesTo file [] (record_task question []) (Refused cause)
    → IsReply file (Refused cause) (line_bytes line) (status_code line.status)
    → RefusesCoverage question file (line_bytes line) (status_code line.status) []
file-refused question file cause line refuses is = (Refused cause, ((refuses, tt), refl), is.0, is.1)

-- the line of a grammar without a parser of coverage
pub marked-refused : (question : CoverQuestion) (file : List ℕ) (rules : List Rule) (why : CoverageFault) (line : Line)
    → Accepts file rules → why ≢ coverage.Memory → IsCoverageRefusal rules why
    → IsReply file NoCoverage (line_bytes line) (status_code line.status)
    → RefusesCoverage question file (line_bytes line) (status_code line.status) []
marked-refused question file rules why line accepts other refused is =
    (NoCoverage, ((covered accepts (marked_over_limit why other refused), tt), refl), is.0, is.1)

-- the same for the fault of a file
pub faulty-refused : (question : CoverQuestion) (file : List ℕ) (size : ℕ) (why : Refusal) (line : Line)
    → HasCause (IsRefusalOf file) size why
    → (cause : Cause) × (cause_of why ≡ Some cause)
    × IsReply file (Refused cause) (line_bytes line) (status_code line.status)
    → RefusesCoverage question file (line_bytes line) (status_code line.status) []
faulty-refused question file size why line (out_of_memory is) known =
    absurd (let bad : None ≡ Some known.0 = sym (ap cause_of is) ∙ known.1 in cc)
faulty-refused question file size why line (of_cause cause cause_is holds starts named) known =
    let both : Some cause ≡ Some known.0 = sym cause_is ∙ known.1 in
    let found : known.0 ≡ cause = cc in
    file-refused question file cause line (refuses-replies file [] (record_task question []) tt cause holds)
    (subst (λ (c : Cause). IsReply file (Refused c) (line_bytes line) (status_code line.status)) found known.2)

-- what refuses a prefix over the limit of a grammar file refuses the whole file
front-refused : (question : CoverQuestion) (front rest line : List ℕ) (status : ℕ) → max_file_bytes + 1 ≤ length front
    → RefusesCoverage question front line status [] → RefusesCoverage question (front ++ rest) line status []
front-refused question front rest line status long is =
    let same = over-reply front [] (record_task question []) is.0 (omega (arith, long)) is.1.0.0 in (
      Refused FileTooLong,
      (
        (refused_grammar (file_too_long (omega (arith, long, length-append front rest))), tt),
        is.1.1 ∙ ap (error_lines []) same,
      ),
      is.2 ∙ ap (printed_line front) same,
      is.3 ∙ ap status_of same,
    )

front-prepared : (known : PreparedCoverage) (front rest : List ℕ) → max_file_bytes + 1 ≤ length front
    → IsPreparedCoverage front known → IsPreparedCoverage (front ++ rest) known
front-prepared (prepared.Ready grammar) front rest long is = absurd (omega (arith, long, is.1.read.within))
front-prepared (prepared.Refused line) front rest long is =
    λ question. front-refused question front rest (line_bytes line) (status_code line.status) long (is question)

-- what is known of the bytes read of a grammar file is known of the file
pub prepared-held : (known : PreparedCoverage) (left new : Option (List ℕ)) (held : List ℕ) → Consumes left new held
    → length held ≤ max_file_bytes + 1 → (length held < max_file_bytes + 1 → IsAtEnd new)
    → IsPreparedCoverage held known → IfSome left (λ file. IsPreparedCoverage file known)
prepared-held known left new held consumed within end is =
    right-held (λ file line status. IsPreparedCoverage file known) (max_file_bytes + 1)
    (λ front rest line status long of. front-prepared known front rest long of) left new held [] 0 consumed within end is

-- ---- what is written

pub keeps-same : (bytes : Option (List ℕ)) → Keeps bytes bytes
keeps-same None = tt
keeps-same (Some bytes) = refl

-- what is written of a reply is right if the reply is
pub right-written : (Printed : (line : List ℕ) → (status : ℕ) → (errors : List ℕ) → Type 0) (reply : CoverageReply)
    (old new : Option (List ℕ)) (result : Result Findings ProgramFault) → IsRight Printed reply
    → WritesCoverageReply reply old new result → WritesCoverage Printed old new result
right-written Printed reply old new (Ok ended) right written = (
  line_bytes reply.line,
  subst (λ (errors : List ℕ). Printed (line_bytes reply.line) ended.status errors) (sym written.2)
      (subst (λ (status : ℕ). Printed (line_bytes reply.line) status (string_bytes reply.faults)) (sym written.1) right),
  written.0,
)
right-written Printed reply old new (Err Memory) right written = absurd written
right-written Printed reply old new (Err File) right written =
    inr (string_bytes reply.faults, (line_bytes reply.line, status_code reply.line.status, written.0, right, written.1, written.2))

-- the same of a reply about records
pub coverage-written : (question : CoverQuestion) (file : List ℕ) (file_at : List ℕ → NamedFile)
    (input old new : Option (List ℕ)) (reply : CoverageReply) (result : Result Findings ProgramFault)
    → IsRecordCoverageReply question file file_at input reply → WritesCoverageReply reply old new result
    → EndsCoverage question file file_at input old new result
coverage-written question file file_at input old new reply result (inl refused) written =
    inl (right-written (RefusesCoverage question file) reply old new result refused written)
coverage-written question file file_at input old new reply result (inr covers) written =
    inr (
      covers.0,
      on-ok result covers.1,
      λ all are. right-written (IsPrintedOfRecords question file (flat_map (records question.end) all)) reply
          old new result (covers.2 all are) written,
    )

-- a fault before anything is written
pub coverage-unwritten : (question : CoverQuestion) (file : List ℕ) (file_at : List ℕ → NamedFile)
    (input old new : Option (List ℕ)) (fault : ProgramFault) → Keeps old new
    → EndsCoverage question file file_at input old new (Err fault)
coverage-unwritten question file file_at input old new File keeps = inl (inl keeps)
coverage-unwritten question file file_at input old new Memory keeps = inl keeps

-- a refusal that is written alone
pub refusal-written : (question : CoverQuestion) (file : List ℕ) (file_at : List ℕ → NamedFile)
    (input old new : Option (List ℕ)) (line : Line) (reply : CoverageReply) (result : Result Findings ProgramFault)
    → RefusesCoverage question file (line_bytes line) (status_code line.status) [] → reply.line ≡ line
    → string_bytes reply.faults ≡ [] → WritesCoverageReply reply old new result
    → EndsCoverage question file file_at input old new result
refusal-written question file file_at input old new line reply result refused same none written =
    let right = subst (RefusesCoverage question file (line_bytes line) (status_code line.status)) (sym none) refused in
    inl (right-written (RefusesCoverage question file) reply old new result
    (subst (λ (l : Line). RefusesCoverage question file (line_bytes l) (status_code l.status) (string_bytes reply.faults))
    (sym same) right) written)

-- ---- faults

-- a fault of a device is one, whatever the result
pub file-result : {X Y : Type 0} (fault : RequestFault) → IsErrOf (plain_result {X = X} (Err fault)) File
    → IsErrOf (plain_result {X = Y} (Err fault)) File
file-result fault is = let same : plain_fault fault ≡ File = cc in ap Err same

pub never-true : (b : Bool) → (b ≡ true → ⊥) → b ≡ false
never-true true never = absurd (never refl)
never-true false never = refl

-- the kind of an error, or another one if it isn't known
pub kind-known : (known : Option ErrorKind) (other kind : ErrorKind) → kind ≡ unwrap_or known other → IsKind known kind
kind-known None other kind is = tt
kind-known (Some it) other kind is = is

-- only without names the input is read
pub input-alone : (rules : List Rule) (end : RecordEnd) (file_at : List ℕ → NamedFile) (input : Option (List ℕ))
    (names : List (List ℕ)) (start : Option (List ℕ)) (why : CoveringFault) → why ≡ covering.Input
    → IsFaultOfRecords rules end file_at input names start why → names ≡ []
input-alone rules end file_at input names start why same is =
    by names (subst (IsFaultOfRecords rules end file_at input names start) same is)
  where
    by : (names : List (List ℕ)) → IsFaultOfStreams end file_at input names covering.Input → names ≡ []
    by [] is = refl
    by (name ∷ names) is = absurd is

-- a text that can't be read is one of those that are named
pub file-unread : (rules : List Rule) (end : RecordEnd) (file_at : List ℕ → NamedFile) (input : Option (List ℕ))
    (names : List (List ℕ)) (start : Option (List ℕ)) (why : CoveringFault) (unread : Bor (List ℕ)) (kind : ErrorKind)
    → why ≡ covering.File unread kind → IsFaultOfRecords rules end file_at input names start why
    → Contains names unread.now × (is_readable (file_at unread.now) ≡ false)
file-unread rules end file_at input names start why unread kind same is =
    by names (subst (IsFaultOfRecords rules end file_at input names start) same is)
  where
    by : (names : List (List ℕ)) → IsFaultOfStreams end file_at input names (covering.File unread kind)
        → Contains names unread.now × (is_readable (file_at unread.now) ≡ false)
    by [] is = absurd is
    by (name ∷ names) is =
        let all = name ∷ names in
        let here = sym is.is.0 in (
          (
            is.index,
            slice_get_within all is.index is.element is.here,
            subst (λ (n : List ℕ). get_or all is.index n ≡ n) here
                (get_or_from_slice_get all is.index is.element is.element is.here),
          ),
          subst (λ (n : List ℕ). is_readable (file_at n) ≡ false) here is.is.1,
        )

module _ (file_at : List ℕ → NamedFile) (names : List (List ℕ)) (input_failed : Bool) (input : Option ErrorKind) where
  -- with readable texts a fault of a device is that of the input
  of-input : {X : Type 0} (result : Result X RequestFault) → IsErrOf (plain_result result) File
      → IfErr result (IsRecordCoverFault file_at names input_failed input)
      → All (λ text. is_readable (file_at text) ≡ true) names → input_failed ≡ true
  of-input (Ok x) is fault readable = absurd (let bad : Ok x ≡ Err File = is in cc)
  of-input (Err (failed.Device (streams.File unread) kind)) is fault readable =
      let holds = All-contains (λ (text : List ℕ). is_readable (file_at text) ≡ true) names unread.now readable fault.0 in
      absurd (let bad : false ≡ true = sym fault.1 ∙ holds in cc)
  of-input (Err (failed.Device streams.Input kind)) is fault readable = fault.1
  of-input (Err (failed.Device streams.Output kind)) is fault readable = absurd fault
  of-input (Err failed.Memory) is fault readable =
      absurd (let bad : Some Memory ≡ Some File = ap result_err is in cc)

  -- a failed input is named, with the kind of its error
  at-input : {X : Type 0} (result : Result X RequestFault) → IfErr result (IsRecordCoverFault file_at names input_failed input)
      → names ≡ [] → IfErr result (IsFaultAt standard_input input)
  at-input (Ok x) fault alone = tt
  at-input (Err (failed.Device (streams.File unread) kind)) fault alone =
      absurd (let none = subst (λ (l : List (List ℕ)). Contains l unread.now) alone fault.0 in omega (arith, none.1))
  at-input (Err (failed.Device streams.Input kind)) fault alone = (refl, fault.2)
  at-input (Err (failed.Device streams.Output kind)) fault alone = absurd fault
  at-input (Err failed.Memory) fault alone = tt

  -- a fault names one of the texts, or the input without texts
  of-streams : {X : Type 0} (result : Result X RequestFault)
      → IfErr result (IsRecordCoverFault file_at names input_failed input)
      → IfErr result (IsFaultAmong (record_streams names))
  of-streams (Ok x) fault = tt
  of-streams (Err (failed.Device (streams.File unread) kind)) fault = stream-among names unread.now fault.0
  of-streams (Err (failed.Device streams.Input kind)) fault =
      subst (λ (texts : List (List ℕ)). Contains (record_streams texts) standard_input) (sym fault.0)
      (0, omega arith, refl)
  of-streams (Err (failed.Device streams.Output kind)) fault = absurd fault
  of-streams (Err failed.Memory) fault = tt

  -- which fault ends a request whose records aren't covered, or whose reply is written
  pub cover-end : {X : Type 0} (output_failed : Bool) (output : Option ErrorKind) (result : Result X RequestFault)
      → output_failed ≡ false → IfErr result (IsRecordCoverFault file_at names input_failed input)
      → (input_failed ≡ true → IsErrOf (plain_result result) File) → (input_failed ≡ true → names ≡ [])
      → EndsRecords file_at names input_failed output_failed input output result
  cover-end output_failed output result works fault read alone =
      let never : output_failed ≡ true → ⊥ = λ bad. let both : false ≡ true = sym works ∙ bad in cc in
      record {
        device = λ readable. (
          λ is. inl (of-input result is fault readable),
          λ bad. elim bad [ inl of ↦ read of | inr of ↦ absurd (never of) ],
        );
        read_fault = read;
        write_fault = λ bad. absurd (never bad);
        input = λ bad. at-input result fault (alone bad);
        output = λ bad. absurd (never bad);
        cause = λ kept. of-streams result fault;
      }

-- ---- requests

-- how a request for the coverage of records ends
pub cover-request-end : (g : List ℕ) (question : CoverQuestion) (file_at : List ℕ → NamedFile)
    (input_failed output_failed : Bool) (SameInput SameOutput : Type 0) (old new : Option (List ℕ))
    (ended : Result Findings RequestFault) (fault : Option ProgramFault)
    → fault ≡ result_err (plain_result ended) → (question.texts ≢ [] → SameInput)
    → (IsMissing (file_at g) → IsErrOf (plain_result ended) File × SameOutput)
    → (is_readable (file_at g) ≡ true → All (λ text. is_readable (file_at text) ≡ true) question.texts
    → (IsErrOf (plain_result ended) File ↔ ((input_failed ≡ true) ⊎ (output_failed ≡ true))))
    → (input_failed ≡ true → IsErrOf (plain_result ended) File)
    → (output_failed ≡ true → IsErrOf (plain_result ended) File)
    → (IsErrOf (plain_result ended) Memory → Keeps old new)
    → EndsAs (CoverRecordsRequest g question) file_at fault input_failed output_failed SameInput SameOutput old new
cover-request-end g question file_at input_failed output_failed SameInput SameOutput old new ended fault same alone missing
    device read written kept = record {
      unread = alone;
      no_grammar = λ none. (same ∙ ap result_err (missing none).0, (missing none).1);
      no_text = λ none. absurd none;
      device_fault = λ readable. (
        λ is. (device readable.0 readable.1).0 (fault-error (plain_result ended) File (sym same ∙ is)),
        λ bad. same ∙ ap result_err ((device readable.0 readable.1).1 bad),
      );
      write_fault = λ bad. same ∙ ap result_err (written bad);
      input_fault = λ reads bad. same ∙ ap result_err (read bad);
      explain_fault = λ none. absurd none;
      test_fault = λ none. absurd none;
      memory = λ late is. kept (fault-error (plain_result ended) Memory (sym same ∙ is));
    }
  where
    fault-error : (result : Result Findings ProgramFault) (why : ProgramFault) → result_err result ≡ Some why
        → result ≡ Err why
    fault-error (Ok x) why is = absurd (let bad : None ≡ Some why = is in cc)
    fault-error (Err fault) why is = let same : fault ≡ why = cc in ap Err same
