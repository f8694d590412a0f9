-- Why no record is parsed by a grammar file, and that a file has one reading.
use Rattle.std.proofs.Common.{◌≡◌, ◌⊎◌, ℕ, ◌+◌, ◌<◌, Bool, List, [], length, replicate, codes, Option, None, Some, inl, inr}
use Rattle.std.proofs.Common.{◌++◌, ◌≤◌, IfSome, false, is_some, refl, sym, ap, ◌∙◌, arith}
use Rattle.std.proofs.lemmas.List.{length-replicate}
use Rattle.std.specs.Io.KnownBytes.{Consumes, IsAtEnd}
use Rattle.peg_bytes.specs.Extent.{between}
use Rattle.peg_grammar.specs.Limits.{max_text_bytes}
use Rattle.peg_json.specs.CauseText.{cause_status}
use Rattle.peg_json.specs.Lines.{IsReply, line_bytes}
use Rattle.peg_json.specs.Parses.{ParsesTo, ParsesToAsked, text_too_long, no_such_start, too_many_steps, failed}
use Rattle.peg_json.specs.Parses.{matched, too_many_levels}
use Rattle.peg_json.specs.Reply.{Reply, Refused, status_of}
use Rattle.peg_json.specs.Statuses.{status_code}
use Rattle.peg_json.specs.declared.line.Line.{Line}
use Rattle.peg_json.specs.declared.tree_form.TreeForm.{TreeForm}
use Rattle.peg_json.proofs.ParseLemmas.{missing-parses}
use Rattle.peg_json.proofs.PrintLemmas.{refused-with_text}
use Rattle.peg_metagrammar.specs.Denotation.{rules_spelled}
use Rattle.peg_metagrammar.specs.Figure.{figure}
use Rattle.peg_metagrammar.specs.Notation.{IsReading, max_file_bytes}
use Rattle.peg_parser.specs.Accepts.{Accepts}
use Rattle.peg_parser.specs.Cause.{Cause, NoSuchRule, NoSuchStart}
use Rattle.peg_parser.specs.Refusals.{HasTooMuchCode, IsIllFormed, IsNoGrammar, code_too_large, file_too_long}
use Rattle.peg_parser.specs.Refusals.{not_in_the_notation, count_out_of_range, too_nested, a_name_twice, a_name_missing}
use Rattle.peg_parser.specs.Refusals.{too_many_parts, empty_loop, left_recursion}
use Rattle.peg_parser.specs.declared.options.ParseOptions.{ParseOptions}
use Rattle.peg_parser.proofs.Readings.{one_reading}
use Rattle.peg_semantics.specs.Form.{Name}
use Rattle.peg_semantics.specs.Record.{Matched, Record}
use Rattle.peg_semantics.specs.Rules.{Rule}
use Rattle.peg_semantics.specs.Starts.{start_name}
use Rattle.peg_semantics.proofs.RecordLemmas.{one_record}
use Rattle.peg_replies.specs.Commands.{parse_task}
use Rattle.peg_replies.specs.PrintedNodes.{PrintedNodes, first_unknown, shown_by}
use Rattle.peg_replies.specs.RecordParsers.{IsPreparedFor}
use Rattle.peg_replies.specs.RecordReplies.{RefusesRecords}
use Rattle.peg_replies.specs.Replies.{IsPrinted, RepliesTo, refused_grammar, refused_form, too_large, accepted}
use Rattle.peg_replies.specs.Replies.{no_such_rule, parsed}
use Rattle.peg_replies.specs.Task.{Checks, CheckTask, ParseTask, ToolTask, default_task}
use Rattle.peg_replies.specs.declared.prepare.Prepared.{Prepared}
use Rattle.peg_replies.specs.declared.prepare.Prepared.TheVariants as prepared
use Rattle.peg_replies.specs.declared.tree_printing.TreePrinting.{TreePrinting}
use Rattle.peg_replies.proofs.RunLemmas.{IsPrinted-front, right-held}

-- ---- the reading of a file

-- a file is accepted with the rules of one grammar alone
pub accepted-once : (file : List ℕ) (a b : List Rule) → Accepts file a → Accepts file b → a ≡ b
accepted-once file a b first second = one_reading file a b first.read.reading.0 second.read.reading.0

-- ---- names that no rule has

-- an option that isn't some
pub none-some : {X : Type 0} (found : Option X) → is_some found ≡ false → found ≡ None
none-some None none = refl
none-some (Some x) none = cc

-- the line for a listed name that no rule has
pub rule-refuses : (line : Line) (file : List ℕ) (rules : List Rule) (start : Option (List ℕ)) (memo : ℕ)
    (steps : Option ℕ) (all : Bool) (form : TreeForm) (nodes : PrintedNodes) (with_bytes : Bool) (name : List ℕ)
    → Accepts file rules → first_unknown rules nodes ≡ Some name
    → IsReply file (Refused (NoSuchRule name)) (line_bytes line) (status_code line.status)
    → RefusesRecords (ParseTask start memo steps all form nodes with_bytes) file (line_bytes line) (status_code line.status)
rule-refuses line file rules start memo steps all form nodes with_bytes name accepts first is =
    ((Refused (NoSuchRule name), no_such_rule name accepts first, is.0, is.1), inr is.1)

-- the line for a start that no rule has
pub start-refuses : (line : Line) (file : List ℕ) (rules : List Rule) (start : Option (List ℕ)) (memo : ℕ)
    (steps : Option ℕ) (all : Bool) (form : TreeForm) (nodes : PrintedNodes) (with_bytes : Bool) (name : List ℕ)
    → Accepts file rules → first_unknown rules nodes ≡ None → start ≡ Some name → start_name rules start ≡ None
    → IsReply file (Refused (NoSuchStart name)) (line_bytes line) (status_code line.status)
    → RefusesRecords (ParseTask start memo steps all form nodes with_bytes) file (line_bytes line) (status_code line.status)
start-refuses line file rules start memo steps all form nodes with_bytes name accepts known named none is =
    let parses = missing-parses rules [] start memo steps all form (shown_by rules nodes) name (omega arith) named none in
    let reply : ParsesToAsked rules [] start memo steps all form (shown_by rules nodes) with_bytes (Refused (NoSuchStart name)) =
    (Refused (NoSuchStart name), parses, refused-with_text with_bytes [] (NoSuchStart name)) in
    ((Refused (NoSuchStart name), parsed accepts known reply, is.0, is.1), inr is.1)

-- ---- files that aren't accepted

grammar-status : {file : List ℕ} {cause : Cause} → IsNoGrammar file cause → cause_status cause ≡ 2
grammar-status (file_too_long over) = refl
grammar-status (not_in_the_notation within none at) = refl
grammar-status (too_nested within deep at) = refl
grammar-status (count_out_of_range within bad at) = refl
grammar-status (a_name_twice read twice) = refl
grammar-status (a_name_missing read once missing) = refl
grammar-status (too_many_parts read whole over) = refl

form-status : {file : List ℕ} {cause : Cause} → IsIllFormed file cause → cause_status cause ≡ 2
form-status (empty_loop number span read taken ill loop first) = refl
form-status (left_recursion path read taken ill none cycle once least) = refl

code-status : {file : List ℕ} {cause : Cause} → HasTooMuchCode file cause → cause_status cause ≡ 2
code-status (code_too_large read taken formed over) = refl

-- a check has the exit status of a refusal, or 0
check-status : (file text : List ℕ) (reply : Reply) → RepliesTo file text CheckTask reply
    → (status_of reply ≡ 2) ⊎ (status_of reply ≡ 0)
check-status file text reply (refused_grammar is) = inl (grammar-status is)
check-status file text reply (refused_form checks is) = inl (form-status is)
check-status file text reply (too_large checks is) = inl (code-status is)
check-status file text reply (accepted accepts) = inr refl

-- the parse of a text that is too long has the exit status 6
long-parse : (rules : List Rule) (text : List ℕ) (start : Option (List ℕ)) (memo : ℕ) (steps : Option ℕ) (all : Bool)
    (form : TreeForm) (shown : ℕ → Bool) (reply : Reply) → max_text_bytes < length text
    → ParsesTo rules text start memo steps all form shown reply → status_of reply ≡ 6
long-parse rules text start memo steps all form shown reply long (text_too_long over) = refl
long-parse rules text start memo steps all form shown reply long (no_such_start name within named missing) =
    absurd (omega (arith, long, within))
long-parse rules text start memo steps all form shown reply long (too_many_steps within more) =
    absurd (omega (arith, long, within))
long-parse rules text start memo steps all form shown reply long (failed within enough starts found is furthest) =
    absurd (omega (arith, long, within))
long-parse rules text start memo steps all form shown reply long
    (too_many_levels within enough starts found is nested deep) =
    absurd (omega (arith, long, within))
long-parse rules text start memo steps all form shown reply long
    (matched within enough starts found is shallow furthest) =
    absurd (omega (arith, long, within))

-- so it has the exit status of a refusal, or 6, by any file
long-status : (file text : List ℕ) (reply : Reply) → max_text_bytes < length text
    → RepliesTo file text default_task reply → (status_of reply ≡ 2) ⊎ (status_of reply ≡ 6)
long-status file text reply long (refused_grammar is) = inl (grammar-status is)
long-status file text reply long (refused_form checks is) = inl (form-status is)
long-status file text reply long (too_large checks is) = inl (code-status is)
long-status file text reply long (no_such_rule name accepts first) =
    absurd (let bad : None ≡ Some name = first in cc)
long-status file text reply long (parsed {rules} {start} {memo} {steps} {all} {form} {nodes} accepts known is) =
    inr (ap status_of is.2 ∙ long-parse rules text start memo steps all form (shown_by rules nodes) is.0 long is.1)

-- an exit status of both is that of a refusal
both-statuses : (status a b : ℕ) → status ≡ a → (a ≡ 2) ⊎ (a ≡ 0) → status ≡ b → (b ≡ 2) ⊎ (b ≡ 6) → status ≡ 2
both-statuses status a b first (inl is) second other = first ∙ is
both-statuses status a b first (inr is) second (inl other) = second ∙ other
both-statuses status a b first (inr is) second (inr other) =
    absurd (let bad : 0 ≡ 6 = sym is ∙ sym first ∙ second ∙ other in cc)

-- there is a text over any limit
with-longer : (limit : ℕ) (X : Type 0) → ((text : List ℕ) → limit < length text → X) → X
with-longer limit X then = then (replicate (limit + 1) 0) (omega (arith, length-replicate {A = ℕ} (limit + 1) 0))

-- the line of a file that isn't accepted
pub file-refuses : (line : Line) (file : List ℕ) (task : ToolTask) → Checks task
    → ((task : ToolTask) (text : List ℕ) → Checks task
    → IsPrinted task file text (line_bytes line) (status_code line.status))
    → RefusesRecords task file (line_bytes line) (status_code line.status)
file-refuses line file task checks is = (is task [] checks, inl (with-longer max_text_bytes (status_code line.status ≡ 2) by))
  where
    by : (text : List ℕ) → max_text_bytes < length text → status_code line.status ≡ 2
    by text long =
        let checked = is CheckTask [] tt in
        let read = is default_task text tt in
        both-statuses (status_code line.status) (status_of checked.0) (status_of read.0) checked.3
        (check-status file [] checked.0 checked.1) read.3 (long-status file text read.0 long read.1)

-- ---- the bytes read of a file

-- what is known of a prefix over the limit of a file is known of the file
prepared-front : (options : ParseOptions) (printing : TreePrinting) (known : Prepared) (front rest : List ℕ)
    → max_file_bytes + 1 ≤ length front → IsPreparedFor front options printing known
    → IsPreparedFor (front ++ rest) options printing known
prepared-front options printing (prepared.Ready parser) front rest long is =
    absurd (omega (arith, long, is.0.accepts.read.within))
prepared-front options printing (prepared.Refused line) front rest long is = (
  IsPrinted-front (parse_task options printing) [] front rest (line_bytes line) (status_code line.status) long is.0,
  is.1,
)

-- what is known of the bytes read of a file is known of the file
pub prepared-held : (options : ParseOptions) (printing : TreePrinting) (known : Prepared) (left new : Option (List ℕ))
    (held : List ℕ) → Consumes left new held → length held ≤ max_file_bytes + 1
    → (length held < max_file_bytes + 1 → IsAtEnd new) → IsPreparedFor held options printing known
    → IfSome left (λ file. IsPreparedFor file options printing known)
prepared-held options printing known left new held consumed within end is =
    right-held (λ (file line : List ℕ) (status : ℕ). IsPreparedFor file options printing known) (max_file_bytes + 1)
    (λ front rest line status. prepared-front options printing known front rest) left new held [] 0 consumed within end is
