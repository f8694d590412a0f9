-- The lines of what texts use.
use Rattle.std.proofs.Common.{◌≡◌, ◌≢◌, ◌∙◌, ℕ, All, Bool, [], List, None, Option, Some, IfErr, IfOk, IfSome, Result, Ok, Err, ap, length, map, option_map}
use Rattle.std.proofs.Common.{◌+◌, ◌<◌, ◌≤◌, ◌++◌, ◌∷◌, append-nil, arith, false, get_or, inl, inr, length-append, not, refl, string_bytes}
use Rattle.std.proofs.Common.{subst, suc, sym, take}
use Rattle.std.proofs.Math.ListN.{get_or-append}
use Rattle.std.proofs.Math.Seq.{get_or-append_seam}
use Rattle.std.proofs.lemmas.Grind.{flat_map-append}
use Rattle.std.proofs.lemmas.List.{take_more}
use Rattle.std.proofs.lemmas.List.Concat.{flat_map-cons}
use Rattle.std.specs.List.{flat_map}
use Rattle.std.specs.Prelude.{Contains}
use Rattle.std.specs.declared.io.ErrorKind.{ErrorKind}
use Rattle.std.proofs.lemmas.List.Elements.{All-map}
use Rattle.std.proofs.lemmas.Option.{get_or_from_slice_get, slice_get-map, slice_get_within}
use Rattle.std.specs.Io.KnownBytes.{Consumes, IsAtEnd, Keeps}
use Rattle.std.proofs.lemmas.List.{get_or-map, length-map, take-map}
use Rattle.peg_coverage.specs.Covered.{settings_of}
use Rattle.peg_coverage.specs.CoverageFaults.{IsCoverageRefusal}
use Rattle.peg_coverage.specs.Unused.{IsCoverageOf, alternative_use, rule_use}
use Rattle.peg_coverage.specs.declared.text_match.RequiredMatch.{RequiredMatch}
use Rattle.peg_coverage.specs.declared.coverage.Coverage.{Coverage}
use Rattle.peg_coverage.specs.declared.fault.CoverageFault.{CoverageFault}
use Rattle.peg_coverage.specs.declared.fault.CoverageFault.TheVariants as coverage
use Rattle.peg_coverage_files.specs.CoveringFaults.{IsFirst, IsParsable, IsTooLong}
use Rattle.peg_coverage_files.specs.NamedTexts.{files_named, texts_in}
use Rattle.peg_coverage_files.proofs.CoveringLemmas.{stopped-below}
use Rattle.std.specs.declared.alloc.Global.{Global}
use Rattle.std.specs.declared.string.String.{String}
use Rattle.peg_io.specs.NamedFile.{NamedFile, IsMissing, bytes_of, is_readable, open_error}
use Rattle.peg_json.specs.CoverageText.{named_use}
use Rattle.peg_json.specs.Lines.{IsReply, line_bytes}
use Rattle.peg_json.specs.Reply.{Reply, Covered, NoCoverage, Refused, printed_line, status_of}
use Rattle.peg_json.specs.Statuses.{status_code}
use Rattle.peg_json.specs.declared.line.Line.{Line}
use Rattle.peg_metagrammar.specs.Notation.{max_file_bytes}
use Rattle.peg_parser.specs.Cause.{Cause, FileTooLong}
use Rattle.peg_parser.specs.Faults.{HasCause, cause_of, of_cause, out_of_memory}
use Rattle.peg_parser.specs.Parser.{start_named}
use Rattle.peg_parser.specs.Refusals.{IsRefusalOf, file_too_long}
use Rattle.peg_parser.specs.declared.options.ParseOptions.{ParseOptions}
use Rattle.peg_parser.specs.declared.refusal.Refusal.{Refusal}
use Rattle.peg_semantics.specs.Rules.{Rule}
use Rattle.peg_semantics.specs.Starts.{start_name}
use Rattle.peg_messages.specs.FileNames.{shown_name}
use Rattle.peg_tool.specs.CoverageOutcome.{IsPrintedOf, WritesCoverage, error_lines, stopped_line, stopped_lines}
use Rattle.peg_tool.specs.Faults.{IsFaultAmong, IsFaultAt, standard_output}
use Rattle.peg_replies.specs.CoverageReplies.{CoversTo, has_coverage, marked_over_limit}
use Rattle.peg_tool.specs.CoverageWritten.{IsReplyOfKind, IsTextFault, WritesCoverageReply}
use Rattle.peg_replies.specs.Replies.{RepliesTo, refused_grammar}
use Rattle.peg_replies.specs.Task.{ToolTask, Checks}
use Rattle.peg_tool.specs.declared.covering.CoverageReply.{CoverageReply}
use Rattle.peg_tool.specs.declared.report.Findings.{Findings}
use Rattle.peg_tool.specs.declared.fault.RequestFault.{RequestFault}
use Rattle.peg_tool.specs.declared.fault.RequestFault.TheVariants as failed
use Rattle.peg_tool.specs.declared.fault.Stream.TheVariants as streams
use Rattle.peg_tool.specs.declared.program.ProgramFault.{ProgramFault}
use Rattle.peg_tool.specs.declared.program.ProgramFault.TheVariants.{File, Memory}
use Rattle.peg_replies.proofs.JudgeLemmas.{refuses-replies}
use Rattle.peg_replies.proofs.RunLemmas.{over-reply, right-held}

-- ---- replies

-- what is printed of a reply of one kind is printed of one of another kind that includes it
pub kind-weaker : {E : Type 0} (result : Result CoverageReply E) (names : List (List ℕ)) (file : List ℕ)
    (Kind More : Reply → Type 0) → ((reply : Reply) → Kind reply → More reply)
    → IfOk result (IsReplyOfKind Kind names file) → IfOk result (IsReplyOfKind More names file)
kind-weaker (Ok reply) names file Kind More more is = (is.0, (more is.0 is.1.0, is.1.1), is.2, is.3)
kind-weaker (Err why) names file Kind More more is = tt

-- a line alone is printed of its reply, if the reply has no lines for standard error
pub line-alone : (printed : CoverageReply) (line : Line) (names : List (List ℕ)) (file : List ℕ) (Kind : Reply → Type 0)
    (reply : Reply) → printed.line ≡ line → string_bytes printed.faults ≡ []
    → IsReply file reply (line_bytes line) (status_code line.status) → error_lines names reply ≡ [] → Kind reply
    → IsReplyOfKind Kind names file printed
line-alone printed line names file Kind reply same none is alone kind = (
  reply,
  (kind, none ∙ sym alone),
  ap line_bytes same ∙ is.0,
  ap (λ (l : Line). status_code l.status) same ∙ is.1,
)

-- the line of a refused file, for each task that needs it accepted
pub refused-alone : (file text : List ℕ) (size : ℕ) (task : ToolTask) (why : Refusal) (printed : CoverageReply) (line : Line)
    (names : List (List ℕ)) → Checks task → HasCause (IsRefusalOf file) size why → printed.line ≡ line
    → string_bytes printed.faults ≡ []
    → (cause : Cause) × (cause_of why ≡ Some cause)
    × IsReply file (Refused cause) (line_bytes line) (status_code line.status)
    → IsReplyOfKind (RepliesTo file text task) names file printed
refused-alone file text size task why printed line names checks (out_of_memory is) same none known =
    absurd (let bad : None ≡ Some known.0 = sym (ap cause_of is) ∙ known.1 in cc)
refused-alone file text size task why printed line names checks (of_cause cause cause_is holds starts named) same none known =
    let both : Some cause ≡ Some known.0 = sym cause_is ∙ known.1 in
    let found : known.0 ≡ cause = cc in
    let is = subst (λ (c : Cause). IsReply file (Refused c) (line_bytes line) (status_code line.status)) found known.2 in
    line-alone printed line names file (RepliesTo file text task) (Refused cause) same none is refl
    (refuses-replies file text task checks cause holds)

-- the reply for a grammar without a parser of coverage
pub no-coverage-replies : (result : Result CoverageReply RequestFault) (why : CoverageFault) (rules : List Rule)
    (files : List NamedFile) (start : Option (List ℕ)) (memo : ℕ) (steps : Option ℕ) (needed : RequiredMatch)
    (names : List (List ℕ)) (file : List ℕ)
    → IsCoverageRefusal rules why
    → IfOk result (λ reply. (why ≢ coverage.Memory) × (string_bytes reply.faults ≡ [])
    × ((bytes : List ℕ) → IsReply bytes NoCoverage (line_bytes reply.line) (status_code reply.line.status)))
    → IfOk result (IsReplyOfKind (CoversTo rules files start memo steps needed) names file)
no-coverage-replies (Ok reply) why rules files start memo steps needed names file refused is =
    line-alone reply reply.line names file (CoversTo rules files start memo steps needed) NoCoverage refl is.1 (is.2 file) refl
    (marked_over_limit why is.0 refused)
no-coverage-replies (Err fault) why rules files start memo steps needed names file refused is = tt

-- the reply for what texts use
pub coverage-replies : (rules : List Rule) (files : List NamedFile) (options : ParseOptions) (needed : RequiredMatch)
    (from : List ℕ) (coverage : Coverage) → start_name rules (start_named options) ≡ Some from
    → All (λ (file : NamedFile). ¬ IsMissing file) files
    → IsCoverageOf rules from (settings_of options) needed (texts_in files) coverage
    → CoversTo rules files (start_named options) options.memo options.steps needed
    (Covered coverage.texts coverage.matched coverage.stopped.items
    (map (named_use rules) (map rule_use coverage.unused_rules.items))
    (map alternative_use coverage.unused_alternatives.items))
coverage-replies rules files options needed from coverage is present of =
    let count : coverage.texts ≡ length files = of.count ∙ length-map files bytes_of in
    subst (CoversTo rules files (start_named options) options.memo options.steps needed)
    (λ i. Covered (sym count i) coverage.matched coverage.stopped.items (map (named_use rules) (sym of.rules_unused i))
    (sym of.alternatives_unused i))
    (has_coverage is present of.are)

-- the first name whose text is too long has the first file with such a text
pub first-file : (file_at : List ℕ → NamedFile) (names : List (List ℕ))
    → IsFirst (λ (name : List ℕ). IsParsable (file_at name)) (λ (name : List ℕ). IsTooLong (file_at name)) names
    → IsFirst IsParsable IsTooLong (map file_at names)
first-file file_at names first = record {
  index = first.index;
  element = file_at first.element;
  here = slice_get-map file_at names first.index ∙ ap (option_map file_at) first.here;
  before = subst (All IsParsable) (sym (take-map file_at first.index names))
      (All-map IsParsable file_at (take first.index names) first.before);
  is = first.is;
}

-- ---- stopped texts among the names

-- stopped texts are among the names
pub stopped-named : (rules : List Rule) (from : List ℕ) (options : ParseOptions) (needed : RequiredMatch) (file_at : List ℕ → NamedFile)
    (names : List (String Global)) (coverage : Coverage)
    → IsCoverageOf rules from (settings_of options) needed (texts_in (files_named file_at names)) coverage
    → All (λ (number : ℕ). number < length names) coverage.stopped.items
stopped-named rules from options needed file_at names coverage of =
    let texts = texts_in (files_named file_at names) in
    let count : length texts ≡ length names =
    length-map (files_named file_at names) bytes_of ∙ length-map (map string_bytes names) file_at
    ∙ length-map names string_bytes in
    subst (λ (n : ℕ). All (λ (number : ℕ). number < n) coverage.stopped.items) count
    (stopped-below rules from (settings_of options) needed texts of.parsed coverage.matched coverage.stopped.items of.are)

-- ---- grammar files

-- what is printed for a prefix over the limit of a grammar file is printed for the whole file
front-printed : (task : ToolTask) (names : List (List ℕ)) (text front rest line : List ℕ) (status : ℕ) (errors : List ℕ)
    → max_file_bytes + 1 ≤ length front → IsPrintedOf (RepliesTo front text task) names front line status errors
    → IsPrintedOf (RepliesTo (front ++ rest) text task) names (front ++ rest) line status errors
front-printed task names text front rest line status errors long is =
    let same = over-reply front text task is.0 (omega (arith, long)) is.1.0 in (
      Refused FileTooLong,
      (
        refused_grammar (file_too_long (omega (arith, long, length-append front rest))),
        is.1.1 ∙ ap (error_lines names) same,
      ),
      is.2 ∙ ap (printed_line front) same,
      is.3 ∙ ap status_of same,
    )

-- what is printed for the bytes read of a grammar file is printed for the file
pub reply-held : (result : Result CoverageReply RequestFault) (task : ToolTask) (names : List (List ℕ))
    (left new : Option (List ℕ)) (held : List ℕ) → Consumes left new held → length held ≤ max_file_bytes + 1
    → (length held < max_file_bytes + 1 → IsAtEnd new)
    → ((text : List ℕ) → IfOk result (IsReplyOfKind (RepliesTo held text task) names held))
    → IfSome left (λ file. (text : List ℕ) → IfOk result (IsReplyOfKind (RepliesTo file text task) names file))
reply-held (Ok reply) task names left new held consumed within end right =
    right-held (λ file line status. (text : List ℕ)
    → IsPrintedOf (RepliesTo file text task) names file line status (string_bytes reply.faults)) (max_file_bytes + 1)
    (λ front rest line status long is text. front-printed task names text front rest line status (string_bytes reply.faults)
    long (is text)) left new held (line_bytes reply.line) (status_code reply.line.status) consumed within end right
reply-held (Err why) task names None new held consumed within end right = tt
reply-held (Err why) task names (Some file) new held consumed within end right = λ text. tt

-- ---- requests

-- what is written of a reply is written for a request
pub reply-written : (task : ToolTask) (names : List (List ℕ)) (held left old new : Option (List ℕ)) (reply : CoverageReply)
    (result : Result Findings ProgramFault) → IfSome held (λ bytes. left ≡ Some bytes)
    → WritesCoverageReply reply old new result
    → IfSome left (λ file. (text : List ℕ) → IsReplyOfKind (RepliesTo file text task) names file reply)
    → IfSome held (λ file. (text : List ℕ)
    → WritesCoverage (IsPrintedOf (RepliesTo file text task) names file) old new result)
reply-written task names None left old new reply result opened writes right = tt
reply-written task names (Some file) left old new reply result opened writes right = λ text.
    let known = subst (λ (l : Option (List ℕ)). IfSome l (λ f. (t : List ℕ)
    → IsReplyOfKind (RepliesTo f t task) names f reply)) opened right in
    by result writes (known text)
  where
    by : {text : List ℕ} (r : Result Findings ProgramFault) → WritesCoverageReply reply old new r
        → IsReplyOfKind (RepliesTo file text task) names file reply
        → WritesCoverage (IsPrintedOf (RepliesTo file text task) names file) old new r
    by (Ok ended) written is = (
      line_bytes reply.line,
      (is.0, (is.1.0, written.2 ∙ is.1.1), is.2, written.1 ∙ is.3),
      written.0,
    )
    by (Err Memory) written is = absurd written
    by (Err File) written is =
        inr (string_bytes reply.faults, (line_bytes reply.line, status_code reply.line.status, written.0, is, written.1, written.2))

-- a fault that is returned before anything is written
pub fault-written : (task : ToolTask) (names : List (List ℕ)) (held old new : Option (List ℕ)) (fault : ProgramFault)
    → Keeps old new → IfSome held (λ file. (text : List ℕ)
    → WritesCoverage (IsPrintedOf (RepliesTo file text task) names file) old new (Err fault))
fault-written task names None old new fault keeps = tt
fault-written task names (Some file) old new Memory keeps = λ text. keeps
fault-written task names (Some file) old new File keeps = λ text. inl keeps

-- ---- the names of streams

-- the name of an unread text is among the names of a request
pub text-among : (first last unread : List ℕ) (names : List (List ℕ)) (IsBefore Is : List ℕ → Type 0)
    → ((name : List ℕ) → Is name → unread ≡ name) → IsFirst IsBefore Is names
    → Contains (first ∷ map shown_name names ++ last ∷ []) (shown_name unread)
text-among first last unread names IsBefore Is named fault =
    let shown = map shown_name names in
    let inside = slice_get_within names fault.index fault.element fault.here in
    let within : fault.index < length shown = omega (arith, inside, length-map names shown_name) in
    let there : get_or names fault.index fault.element ≡ fault.element =
    get_or_from_slice_get names fault.index fault.element fault.element fault.here in (
      suc fault.index,
      omega (arith, within, length-append shown (last ∷ [])),
      get_or-append shown (last ∷ []) (shown_name unread) fault.index within
          ∙ (get_or-map shown_name names fault.index fault.element (shown_name unread) inside
          ∙ ap shown_name (there ∙ sym (named fault.element fault.is))),
    )

-- so are the first name and the last one
pub first-among : (first : List ℕ) (rest : List (List ℕ)) → Contains (first ∷ rest) first
first-among first rest = (0, omega arith, refl)

pub last-among : (first last : List ℕ) (shown : List (List ℕ)) → Contains (first ∷ shown ++ last ∷ []) last
last-among first last shown =
    (suc (length shown), omega (arith, length-append shown (last ∷ [])), get_or-append_seam shown last [] last)

-- a fault of a text is among the faults of a request
pub text-faults-among : {X : Type 0} (first last : List ℕ) (names : List (List ℕ)) (file_at : List ℕ → NamedFile)
    (result : Result X RequestFault) → IfErr result (IsTextFault file_at names)
    → IfErr result (IsFaultAmong (first ∷ map shown_name names ++ last ∷ []))
text-faults-among first last names file_at (Ok x) is = tt
text-faults-among first last names file_at (Err (failed.Device (streams.File unread) kind)) is =
    text-among first last unread.now names (λ name. IsParsable (file_at name)) (λ name. (unread.now ≡ name)
    × (is_readable (file_at name) ≡ false) × IfSome (open_error (file_at name)) (λ error. kind ≡ error))
    (λ name fault. fault.0) is
text-faults-among first last names file_at (Err (failed.Device streams.Input kind)) is = absurd is
text-faults-among first last names file_at (Err (failed.Device streams.Output kind)) is = absurd is
text-faults-among first last names file_at (Err failed.Memory) is = tt

-- so is the fault of a stream with one of the names
pub at-among : (fault : RequestFault) (names : List (List ℕ)) (name : List ℕ) (known : Option ErrorKind)
    → IsFaultAt name known fault → Contains names name → IsFaultAmong names fault
at-among (failed.Device at kind) names name known is has = subst (Contains names) (sym is.0) has
at-among failed.Memory names name known is has = tt

-- a fault of the output is among the faults of a request
pub ended-among : {X : Type 0} (result : Result X RequestFault) (names : List (List ℕ)) (written : Option ErrorKind)
    → IfErr result (IsFaultAt standard_output written) → Contains names standard_output
    → IfErr result (IsFaultAmong names)
ended-among (Ok ended) names written is has = tt
ended-among (Err failed.Memory) names written is has = tt
ended-among (Err (failed.Device at kind)) names written is has = subst (Contains names) (sym is.0) has

-- ---- stopped texts

-- one more text is stopped
pub stopped-more : (names : List (List ℕ)) (stopped : List ℕ) (i : ℕ) → i < length stopped
    → stopped_lines names (take (i + 1) stopped)
    ≡ stopped_lines names (take i stopped) ++ stopped_line (get_or names (get_or stopped i 0) [])
stopped-more names stopped i within =
    let line : ℕ → List ℕ = λ number. stopped_line (get_or names number []) in
    ap (stopped_lines names) (take_more stopped i 0 within)
    ∙ (flat_map-append line (take i stopped) (get_or stopped i 0 ∷ [])
    ∙ ap (λ (l : List ℕ). flat_map line (take i stopped) ++ l)
    (flat_map-cons line (get_or stopped i 0) [] ∙ append-nil (line (get_or stopped i 0))))
