-- The reply for the bytes read is the reply for all bytes of a file, a text or an input.
use Rattle.std.proofs.Common.{◌≡◌, ℕ, ◌+◌, ◌<◌, ◌≤◌, Bool, inl, inr, List, ◌++◌, length, Option, None, Some, Result, Ok, Err, IfOk}
use Rattle.std.proofs.Common.{IfSome, refl, sym, ap, ◌∙◌, subst, append-nil, length-append, length-take, arith}
use Rattle.std.proofs.lemmas.Bool.{cases_lt}
use Rattle.std.specs.Io.KnownBytes.{Consumes, IsAtEnd}
use Rattle.peg_metagrammar.specs.Notation.{max_file_bytes}
use Rattle.peg_semantics.specs.Rules.{Rule}
use Rattle.peg_io.specs.declared.transfer.ReadFault.{ReadFault}
use Rattle.peg_io.specs.Split.{IsSplit, at_separator, without_separator}
use Rattle.peg_io.proofs.SplitLaws.{SplitOfWhole, separator_in_front, separator_further, front_split}
use Rattle.peg_parser.specs.Accepts.{Accepts}
use Rattle.peg_parser.specs.Cause.{Cause, FileTooLong, NoSuchRule, TextTooLong}
use Rattle.peg_parser.specs.Refusals.{IsNoGrammar, IsIllFormed, code_too_large, file_too_long, not_in_the_notation, count_out_of_range, too_nested, a_name_twice}
use Rattle.peg_parser.specs.Refusals.{a_name_missing, too_many_parts, empty_loop, left_recursion}
use Rattle.peg_grammar.specs.Limits.{max_text_bytes}
use Rattle.peg_json.specs.Lines.{IsLineOf, IsReply, line_bytes}
use Rattle.peg_json.specs.Parses.{ParsesTo, ParsesToAsked, text_too_long, no_such_start, too_many_steps, failed, too_many_levels}
use Rattle.peg_json.specs.Parses.{matched}
use Rattle.peg_json.specs.ProfileReplies.{ProfilesTo, text_over_limit, start_without_rule, steps_over_limit, has_profile}
use Rattle.peg_json.specs.Reply.{Reply, Refused, printed_line, status_of, with_text_if}
use Rattle.peg_json.specs.Statuses.{status_code}
use Rattle.peg_json.proofs.PrintLemmas.{refused-with_text}
use Rattle.peg_json.specs.declared.tree_form.TreeForm.{TreeForm}
use Rattle.peg_json.specs.declared.line.Line.{Line}
use Rattle.peg_replies.specs.Replies.{RepliesTo, IsPrinted, IsPrintedJoined, max_joined_bytes, refused_grammar, tabled, refused_form}
use Rattle.peg_replies.specs.Replies.{too_large, accepted, coded, linted, profiled, covered, no_such_rule, parsed}
use Rattle.peg_replies.specs.PrintedNodes.{PrintedNodes, first_unknown, shown_by}
use Rattle.peg_replies.specs.Task.{ToolTask, TableTask, CheckTask, CodeTask, LintTask, ProfileTask, CoverTask, ParseTask, IsTextOf, default_task}

-- ---- texts over the limit

-- all texts over the limit have the same replies to a parse
pub ParsesTo-longer : (rules : List Rule) (text more : List ℕ) (start : Option (List ℕ)) (memo : ℕ) (steps : Option ℕ)
    (all : Bool) (form : TreeForm) (shown : ℕ → Bool) (reply : Reply) → max_text_bytes < length text → max_text_bytes < length more
    → ParsesTo rules text start memo steps all form shown reply
    → ParsesTo rules more start memo steps all form shown reply
ParsesTo-longer rules text more start memo steps all form shown reply long longer (text_too_long over) = text_too_long longer
ParsesTo-longer rules text more start memo steps all form shown reply long longer (no_such_start name within named missing) =
    absurd (omega (arith, long, within))
ParsesTo-longer rules text more start memo steps all form shown reply long longer (too_many_steps within more_steps) =
    absurd (omega (arith, long, within))
ParsesTo-longer rules text more start memo steps all form shown reply long longer
    (failed within enough starts found is furthest) =
    absurd (omega (arith, long, within))
ParsesTo-longer rules text more start memo steps all form shown reply long longer
    (too_many_levels within enough starts found is nested deep) =
    absurd (omega (arith, long, within))
ParsesTo-longer rules text more start memo steps all form shown reply long longer
    (matched within enough starts found is shallow furthest) =
    absurd (omega (arith, long, within))

-- their replies are the same with and without bytes, since they have no tree
same-longer : (rules : List Rule) (text more : List ℕ) (start : Option (List ℕ)) (memo : ℕ) (steps : Option ℕ)
    (all : Bool) (form : TreeForm) (shown : ℕ → Bool) (with_bytes : Bool) (reply : Reply) → max_text_bytes < length text
    → ParsesTo rules text start memo steps all form shown reply
    → with_text_if with_bytes text reply ≡ with_text_if with_bytes more reply
same-longer rules text more start memo steps all form shown with_bytes reply long (text_too_long over) =
    sym (refused-with_text with_bytes text TextTooLong) ∙ refused-with_text with_bytes more TextTooLong
same-longer rules text more start memo steps all form shown with_bytes reply long (no_such_start name within named missing) =
    absurd (omega (arith, long, within))
same-longer rules text more start memo steps all form shown with_bytes reply long (too_many_steps within more_steps) =
    absurd (omega (arith, long, within))
same-longer rules text more start memo steps all form shown with_bytes reply long
    (failed within enough starts found is furthest) =
    absurd (omega (arith, long, within))
same-longer rules text more start memo steps all form shown with_bytes reply long
    (too_many_levels within enough starts found is nested deep) =
    absurd (omega (arith, long, within))
same-longer rules text more start memo steps all form shown with_bytes reply long
    (matched within enough starts found is shallow furthest) =
    absurd (omega (arith, long, within))

-- all texts over the limit have the same replies to a request for a profile
pub ProfilesTo-longer : (rules : List Rule) (text more : List ℕ) (start : Option (List ℕ)) (memo : ℕ) (steps : Option ℕ)
    (reply : Reply) → max_text_bytes < length text → max_text_bytes < length more
    → ProfilesTo rules text start memo steps reply → ProfilesTo rules more start memo steps reply
ProfilesTo-longer rules text more start memo steps reply long longer (text_over_limit over) = text_over_limit longer
ProfilesTo-longer rules text more start memo steps reply long longer (start_without_rule name within named missing) =
    absurd (omega (arith, long, within))
ProfilesTo-longer rules text more start memo steps reply long longer
    (steps_over_limit within starts limited more_steps calls first profiles) =
    absurd (omega (arith, long, within))
ProfilesTo-longer rules text more start memo steps reply long longer
    (has_profile within enough starts found taken allowed calls ordered own profiles) =
    absurd (omega (arith, long, within))

-- the same for any task
pub RepliesTo-longer : (file text more : List ℕ) (task : ToolTask) (reply : Reply) → max_text_bytes < length text
    → max_text_bytes < length more → RepliesTo file text task reply → RepliesTo file more task reply
RepliesTo-longer file text more task reply long longer (refused_grammar is) = refused_grammar is
RepliesTo-longer file text more task reply long longer (tabled read taken are) = tabled read taken are
RepliesTo-longer file text more task reply long longer (refused_form checks is) = refused_form checks is
RepliesTo-longer file text more task reply long longer (too_large checks is) = too_large checks is
RepliesTo-longer file text more task reply long longer (accepted accepts) = accepted accepts
RepliesTo-longer file text more task reply long longer (coded accepts) = coded accepts
RepliesTo-longer file text more task reply long longer (linted accepts is) = linted accepts is
RepliesTo-longer file text more task reply long longer (profiled {rules} {start} {memo} {steps} accepts is) =
    profiled accepts (ProfilesTo-longer rules text more start memo steps reply long longer is)
RepliesTo-longer file text more task reply long longer (covered accepts is) = covered accepts is
RepliesTo-longer file text more task reply long longer (no_such_rule name accepts first) = no_such_rule name accepts first
RepliesTo-longer file text more task reply long longer
    (parsed {rules} {start} {memo} {steps} {all} {form} {nodes} {with_bytes} accepts known is) =
    let shown = shown_by rules nodes in
    parsed accepts known (
      is.0,
      ParsesTo-longer rules text more start memo steps all form shown is.0 long longer is.1,
      is.2 ∙ same-longer rules text more start memo steps all form shown with_bytes is.0 long is.1,
    )

-- ---- files over the limit

-- a file over the limit is rejected as `FileTooLong`
pub over-reply : (file text : List ℕ) (task : ToolTask) (reply : Reply) → max_file_bytes < length file
    → RepliesTo file text task reply → reply ≡ Refused FileTooLong
over-reply file text task reply long (refused_grammar is) = by is
  where
    by : {cause : Cause} → IsNoGrammar file cause → Refused cause ≡ Refused FileTooLong
    by (file_too_long over) = refl
    by (not_in_the_notation within none at) = absurd (omega (arith, long, within))
    by (too_nested within deep at) = absurd (omega (arith, long, within))
    by (count_out_of_range within bad at) = absurd (omega (arith, long, within))
    by (a_name_twice read twice) = absurd (omega (arith, long, read.within))
    by (a_name_missing read once missing) = absurd (omega (arith, long, read.within))
    by (too_many_parts read whole over) = absurd (omega (arith, long, read.within))
over-reply file text task reply long (tabled read taken are) = absurd (omega (arith, long, read.within))
over-reply file text task reply long (refused_form checks is) = by is
  where
    by : {cause : Cause} → IsIllFormed file cause → Refused cause ≡ Refused FileTooLong
    by (empty_loop number span read taken ill loop first) = absurd (omega (arith, long, read.within))
    by (left_recursion path read taken ill none cycle once least) = absurd (omega (arith, long, read.within))
over-reply file text task reply long (too_large checks (code_too_large read taken formed over)) =
    absurd (omega (arith, long, read.within))
over-reply file text task reply long (accepted accepts) = absurd (omega (arith, long, accepts.read.within))
over-reply file text task reply long (coded accepts) = absurd (omega (arith, long, accepts.read.within))
over-reply file text task reply long (linted accepts is) = absurd (omega (arith, long, accepts.read.within))
over-reply file text task reply long (profiled accepts is) = absurd (omega (arith, long, accepts.read.within))
over-reply file text task reply long (covered accepts is) = absurd (omega (arith, long, accepts.read.within))
over-reply file text task reply long (no_such_rule name accepts first) = absurd (omega (arith, long, accepts.read.within))
over-reply file text task reply long (parsed accepts known is) = absurd (omega (arith, long, accepts.read.within))

-- all files over the limit have the same printed replies
over-printed : (file text other more : List ℕ) (task : ToolTask) (line : List ℕ) (status : ℕ) → max_file_bytes < length file
    → max_file_bytes < length other → IsPrinted task file text line status → IsPrinted task other more line status
over-printed file text other more task line status long longer is =
    let same = over-reply file text task is.0 long is.1 in (
      Refused FileTooLong,
      refused_grammar (file_too_long longer),
      is.2 ∙ ap (printed_line file) same,
      is.3 ∙ ap status_of same,
    )

-- the reply for a prefix over the limit of a file is the reply for the whole file
pub IsPrinted-front : (task : ToolTask) (text front rest line : List ℕ) (status : ℕ) → max_file_bytes + 1 ≤ length front
    → IsPrinted task front text line status → IsPrinted task (front ++ rest) text line status
IsPrinted-front task text front rest line status long is =
    over-printed front text (front ++ rest) text task line status (omega arith)
    (omega (arith, length-append front rest)) is

-- ---- one input

-- the part before the separator is no longer than the input
pub split-shorter : (input file text : List ℕ) → IsSplit input file text → length file ≤ length input
split-shorter input file text (at_separator place found is rest) = omega (arith, ap length is, length-take place input)
split-shorter input file text (without_separator none is rest) = omega (arith, ap length is)

-- the reply for a prefix over both limits together, split at a separator, is the reply with any bytes appended
separated-printed : (file text rest : List ℕ) (task : ToolTask) (line : List ℕ) (status : ℕ)
    → max_joined_bytes ≤ length file + 3 + length text → IsPrinted task file text line status
    → IsPrinted task file (text ++ rest) line status
separated-printed file text rest task line status long is = elim (cases_lt max_file_bytes (length file)) [
  | inl over ↦ over-printed file text file (text ++ rest) task line status over over is
  | inr within ↦
      let more : max_text_bytes < length text = omega (arith, long, within) in
      let all : max_text_bytes < length (text ++ rest) = omega (arith, more, length-append text rest) in
      (is.0, RepliesTo-longer file text (text ++ rest) task is.0 more all is.1, is.2, is.3)
]

-- the reply for a prefix over both limits together is the reply for the whole input
pub IsPrintedJoined-front : (front rest line : List ℕ) (status : ℕ) → max_joined_bytes ≤ length front
    → IsPrintedJoined front line status → IsPrintedJoined (front ++ rest) line status
IsPrintedJoined-front front rest line status long given =
    let whole = front_split front rest given.0 given.1 given.2 in
    (whole.0, whole.1, whole.2, by given.0 given.1 given.3 whole.0 whole.1 whole.3)
  where
    by : (file text : List ℕ) → IsPrinted default_task file text line status → (before after : List ℕ)
        → SplitOfWhole front rest file text before after → IsPrinted default_task before after line status
    by file text is before after (separator_in_front same more lengths) =
        subst (λ l. IsPrinted default_task l after line status) (sym same)
        (subst (λ l. IsPrinted default_task file l line status) (sym more)
        (separated-printed file text rest default_task line status (omega (arith, lengths, long)) is))
    by file text is before after (separator_further same more lengths) =
        over-printed file text before after default_task line status (omega (arith, long, ap length same))
        (omega (arith, long, lengths)) is

-- A line that is correct for the bytes read is correct for the whole input. This needs that a line for a prefix of the
-- most bytes held is correct for every continuation.
pub right-held : (IsRight : List ℕ → List ℕ → ℕ → Type 0) (max_steps : ℕ)
    → ((front rest line : List ℕ) (status : ℕ) → max_steps ≤ length front → IsRight front line status
    → IsRight (front ++ rest) line status)
    → (left new : Option (List ℕ)) (held line : List ℕ) (status : ℕ) → Consumes left new held → length held ≤ max_steps
    → (length held < max_steps → IsAtEnd new) → IsRight held line status
    → IfSome left (λ input. IsRight input line status)
right-held IsRight max_steps front None new held line status consumed within end given = tt
right-held IsRight max_steps front (Some input) None held line status consumed within end given = absurd consumed
right-held IsRight max_steps front (Some input) (Some rest) held line status consumed within end given =
    elim (cases_lt (length held) max_steps) [
      | inl less ↦
          let all : input ≡ held = consumed ∙ ap (λ bytes. held ++ bytes) (end less) ∙ append-nil held in
          subst (λ l. IsRight l line status) (sym all) given
      | inr full ↦ subst (λ l. IsRight l line status) (sym consumed) (front held rest line status full given)
    ]

-- ---- parses

-- the line of a parse by an accepted file is that of its task
pub parsed-printed : (file text : List ℕ) (rules : List Rule) (start : Option (List ℕ)) (memo : ℕ) (steps : Option ℕ)
    (all : Bool) (form : TreeForm) (nodes : PrintedNodes) (with_bytes : Bool) (line : List ℕ) (status : ℕ) → Accepts file rules
    → first_unknown rules nodes ≡ None
    → IsLineOf file (ParsesToAsked rules text start memo steps all form (shown_by rules nodes) with_bytes) line status
    → IsPrinted (ParseTask start memo steps all form nodes with_bytes) file text line status
parsed-printed file text rules start memo steps all form nodes with_bytes line status accepts known is =
    (is.0, parsed accepts known is.1, is.2, is.3)

-- the line of an unknown name is that of its task, whatever the text
pub unknown-reported : (line : Line) (file : List ℕ) (left : Option (List ℕ)) (rules : List Rule)
    (start : Option (List ℕ)) (memo : ℕ) (steps : Option ℕ) (all : Bool) (form : TreeForm) (nodes : PrintedNodes) (with_bytes : Bool)
    (name : List ℕ) → Accepts file rules → first_unknown rules nodes ≡ Some name
    → IsReply file (Refused (NoSuchRule name)) (line_bytes line) (status_code line.status)
    → IfSome left (λ text.
    IsPrinted (ParseTask start memo steps all form nodes with_bytes) file text (line_bytes line) (status_code line.status))
unknown-reported line file None rules start memo steps all form nodes with_bytes name accepts first is = tt
unknown-reported line file (Some text) rules start memo steps all form nodes with_bytes name accepts first is =
    (Refused (NoSuchRule name), no_such_rule name accepts first, is.0, is.1)

-- the reply for the text that was read is the reply for the text, for any task that has one
pub task-reported : (result : Result Line ReadFault) (task : ToolTask) (file : List ℕ) (left : Option (List ℕ))
    (bytes : List ℕ) → left ≡ Some bytes
    → IfOk result (λ line. IfSome left (λ text. IsPrinted task file text (line_bytes line) (status_code line.status)))
    → IfOk result (λ line. IsPrinted task file bytes (line_bytes line) (status_code line.status))
task-reported (Ok line) task file left bytes is reported =
    subst (λ (text : Option (List ℕ)). IfSome text (λ read. IsPrinted task file read (line_bytes line)
    (status_code line.status))) is reported
task-reported (Err why) task file left bytes is reported = tt

-- the reply for the text that was read is the reply for the text
pub parsed-reported : (result : Result Line ReadFault) (file : List ℕ) (left : Option (List ℕ)) (bytes : List ℕ)
    (rules : List Rule) (start : Option (List ℕ)) (memo : ℕ) (steps : Option ℕ) (all : Bool) (form : TreeForm) (nodes : PrintedNodes) (with_bytes : Bool)
    → IsTextOf (ParseTask start memo steps all form nodes with_bytes) file left bytes
    → Accepts file rules
    → IfOk result (λ line. IfSome left (λ text.
    IsPrinted (ParseTask start memo steps all form nodes with_bytes) file text (line_bytes line) (status_code line.status)))
    → IfOk result (λ line.
    IsPrinted (ParseTask start memo steps all form nodes with_bytes) file bytes (line_bytes line) (status_code line.status))
parsed-reported (Ok line) file left bytes rules start memo steps all form nodes with_bytes is accepts reported =
    subst (λ (text : Option (List ℕ)). IfSome text (λ read.
    IsPrinted (ParseTask start memo steps all form nodes with_bytes) file read (line_bytes line) (status_code line.status)))
    (is rules accepts) reported
parsed-reported (Err why) file left bytes rules start memo steps all form nodes with_bytes is accepts reported = tt

-- the reply for a prefix over the limit of a text is the reply for the whole text
pub IsPrinted-text_front : (task : ToolTask) (file front rest line : List ℕ) (status : ℕ)
    → max_text_bytes + 1 ≤ length front → IsPrinted task file front line status
    → IsPrinted task file (front ++ rest) line status
IsPrinted-text_front task file front rest line status long is = (
  is.0,
  RepliesTo-longer file front (front ++ rest) task is.0 (omega arith) (omega (arith, length-append front rest)) is.1,
  is.2,
  is.3,
)

-- ---- devices

-- the bytes read of a file within the limit are the whole file
whole-held : (file : List ℕ) (new : Option (List ℕ)) (held : List ℕ) (max_steps : ℕ) → Consumes (Some file) new held
    → (length held < max_steps → IsAtEnd new) → length held < max_steps → file ≡ held
whole-held file None held max_steps consumed end less = absurd consumed
whole-held file (Some rest) held max_steps consumed end less =
    consumed ∙ ap (λ bytes. held ++ bytes) (end less) ∙ append-nil held

accepts-whole : (file : List ℕ) (new : Option (List ℕ)) (held : List ℕ) (rules : List Rule)
    → Consumes (Some file) new held → (length held < max_file_bytes + 1 → IsAtEnd new) → Accepts held rules
    → Accepts file rules
accepts-whole file new held rules consumed end accepts =
    subst (λ (l : List ℕ). Accepts l rules)
    (sym (whole-held file new held (max_file_bytes + 1) consumed end (omega (arith, accepts.read.within)))) accepts

-- what holds of all rules of a whole file holds of all rules of the bytes read of it
pub held-rules : (left new : Option (List ℕ)) (held : List ℕ) (P : List Rule → Type 0) (X : Type 0)
    → Consumes left new held → (length held < max_file_bytes + 1 → IsAtEnd new)
    → (((rules : List Rule) → Accepts held rules → P rules) → X)
    → IfSome left (λ file. ((rules : List Rule) → Accepts file rules → P rules) → X)
held-rules None new held P X consumed end then = tt
held-rules (Some file) new held P X consumed end then =
    λ all. then (λ rules accepts. all rules (accepts-whole file new held rules consumed end accepts))

-- ---- lines for whole files

-- a line is correct for a task on a file, for every text of the task
abbrev pub IsRightFor : ToolTask → (text : Option (List ℕ)) → (file line : List ℕ) → ℕ → Type 0
IsRightFor task text file line status = (bytes : List ℕ) → IsTextOf task file text bytes → IsPrinted task file bytes line status

-- a task on a prefix over the limit of a file takes any text
any_text : (task : ToolTask) (text : Option (List ℕ)) (file bytes : List ℕ) → max_file_bytes < length file
    → IsTextOf task file text bytes
any_text TableTask text file bytes long = tt
any_text CheckTask text file bytes long = tt
any_text CodeTask text file bytes long = tt
any_text (LintTask start selection) text file bytes long = tt
any_text (ProfileTask start memo steps) text file bytes long =
    λ rules accepts. absurd (omega (arith, long, accepts.read.within))
any_text (CoverTask files start memo steps needed) text file bytes long = tt
any_text (ParseTask start memo steps all form nodes with_bytes) text file bytes long =
    λ rules accepts. absurd (omega (arith, long, accepts.read.within))

pub IsRightFor-front : (task : ToolTask) (text : Option (List ℕ)) (front rest line : List ℕ) (status : ℕ)
    → max_file_bytes + 1 ≤ length front → IsRightFor task text front line status
    → IsRightFor task text (front ++ rest) line status
IsRightFor-front task text front rest line status long right bytes is =
    IsPrinted-front task bytes front rest line status long (right bytes (any_text task text front bytes (omega arith)))

-- a line that is correct for the bytes read of a file is correct for the file
pub line-held : (task : ToolTask) (text left new : Option (List ℕ)) (held line : List ℕ) (status : ℕ)
    → Consumes left new held → length held ≤ max_file_bytes + 1 → (length held < max_file_bytes + 1 → IsAtEnd new)
    → IsRightFor task text held line status → IfSome left (λ file. IsRightFor task text file line status)
line-held task text left new held line status consumed within end right =
    right-held (IsRightFor task text) (max_file_bytes + 1) (IsRightFor-front task text) left new held line status
    consumed within end right

-- the same for a result that may be a line
pub reported-held : (result : Result Line ReadFault) (task : ToolTask) (text left new : Option (List ℕ)) (held : List ℕ)
    → Consumes left new held → length held ≤ max_file_bytes + 1 → (length held < max_file_bytes + 1 → IsAtEnd new)
    → ((bytes : List ℕ) → IsTextOf task held text bytes
    → IfOk result (λ line. IsPrinted task held bytes (line_bytes line) (status_code line.status)))
    → IfSome left (λ file. (bytes : List ℕ) → IsTextOf task file text bytes
    → IfOk result (λ line. IsPrinted task file bytes (line_bytes line) (status_code line.status)))
reported-held (Ok line) task text left new held consumed within end right =
    line-held task text left new held (line_bytes line) (status_code line.status) consumed within end right
reported-held (Err why) task text None new held consumed within end right = tt
reported-held (Err why) task text (Some file) new held consumed within end right = λ bytes is. tt
