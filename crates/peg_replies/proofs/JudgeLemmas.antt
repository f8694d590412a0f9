-- Lines that depend on the grammar file alone.
use Rattle.std.proofs.Common.{◌≡◌, ℕ, List, IfOk, None, Some, Result, Ok, Err, inl, inr, subst, sym, ap, ◌∙◌}
use Rattle.std.specs.declared.alloc.AllocError.{AllocError}
use Rattle.peg_parser.specs.Cause.{Cause}
use Rattle.peg_parser.specs.Faults.{HasCause, IsTrueRefusal, out_of_memory, of_cause, cause_of}
use Rattle.peg_parser.specs.Refusals.{IsRefusalOf}
use Rattle.peg_parser.specs.declared.refusal.Refusal.{Refusal}
use Rattle.peg_json.specs.Lines.{IsReply, line_bytes}
use Rattle.peg_json.specs.Reply.{Refused}
use Rattle.peg_json.specs.Statuses.{status_code}
use Rattle.peg_json.specs.declared.line.Line.{Line}
use Rattle.peg_replies.specs.Replies.{IsPrinted, RepliesTo, refused_grammar, refused_form, too_large}
use Rattle.peg_replies.specs.Task.{ToolTask, Checks}

-- a refusal with a cause of some kind is one that the file can have
pub reported-true_refusal : (Kind : Cause → Type 0) (size : ℕ) (why : Refusal) → HasCause Kind size why → IsTrueRefusal size why
reported-true_refusal Kind size why (out_of_memory is) = out_of_memory is
reported-true_refusal Kind size why (of_cause cause cause_is holds starts named) = of_cause cause cause_is tt starts named

-- a reason why a file isn't accepted is a reply to each task that needs it accepted
pub refuses-replies : (file text : List ℕ) (task : ToolTask) → Checks task → (cause : Cause) → IsRefusalOf file cause
    → RepliesTo file text task (Refused cause)
refuses-replies file text task checks cause (inl none) = refused_grammar none
refuses-replies file text task checks cause (inr (inl ill)) = refused_form checks ill
refuses-replies file text task checks cause (inr (inr large)) = too_large checks large

-- the line of a refusal, if that is a reply to a task
reported-printed : (Kind : Cause → Type 0) (file text : List ℕ) (size : ℕ) (task : ToolTask) (why : Refusal) (line : List ℕ)
    (status : ℕ) → HasCause Kind size why → ((cause : Cause) → Kind cause → RepliesTo file text task (Refused cause))
    → (cause : Cause) × (cause_of why ≡ Some cause) × IsReply file (Refused cause) line status
    → IsPrinted task file text line status
reported-printed Kind file text size task why line status (out_of_memory is) replies printed =
    absurd (let none : None ≡ Some printed.0 = sym (ap cause_of is) ∙ printed.1 in cc)
reported-printed Kind file text size task why line status (of_cause cause cause_is holds starts named) replies printed =
    let both : Some cause ≡ Some printed.0 = sym cause_is ∙ printed.1 in
    let same : printed.0 ≡ cause = cc in
    let is = subst (λ (c : Cause). IsReply file (Refused c) line status) same printed.2 in
    (Refused cause, replies cause holds, is.0, is.1)

pub refusal-line : (Kind : Cause → Type 0) (file text : List ℕ) (size : ℕ) (task : ToolTask) (why : Refusal)
    (result : Result Line AllocError) → HasCause Kind size why
    → ((cause : Cause) → Kind cause → RepliesTo file text task (Refused cause))
    → IfOk result (λ line. (cause : Cause) × (cause_of why ≡ Some cause)
    × IsReply file (Refused cause) (line_bytes line) (status_code line.status))
    → IfOk result (λ line. IsPrinted task file text (line_bytes line) (status_code line.status))
refusal-line Kind file text size task why (Ok line) has_cause replies printed =
    reported-printed Kind file text size task why (line_bytes line) (status_code line.status) has_cause replies printed
refusal-line Kind file text size task why (Err other) has_cause replies printed = tt

-- the line of a file that isn't accepted, for every text and task that needs it accepted
pub judged-refused : (file : List ℕ) (size : ℕ) (why : Refusal) (line : Line) → HasCause (IsRefusalOf file) size why
    → (cause : Cause) × (cause_of why ≡ Some cause)
    × IsReply file (Refused cause) (line_bytes line) (status_code line.status)
    → (task : ToolTask) (text : List ℕ) → Checks task
    → IsPrinted task file text (line_bytes line) (status_code line.status)
judged-refused file size why line has_cause printed task text checks =
    reported-printed (IsRefusalOf file) file text size task why (line_bytes line) (status_code line.status) has_cause
    (refuses-replies file text task checks) printed
