-- Lines of records.
use Rattle.std.proofs.Common.{◌≡◌, ℕ, Bool, true, false, ◌&&◌, nat_lt, ◌<◌, All, List, length, Option, None, Some, IsSome, inl, inr}
use Rattle.std.proofs.Common.{if◌then◌else◌, IfOk, Result, Ok, Err, refl, sym, ap, ◌∙◌, subst}
use Rattle.peg_bytes.specs.Extent.{Extent}
use Rattle.peg_grammar.specs.Limits.{max_text_bytes}
use Rattle.peg_json.specs.Lines.{IsLineOf}
use Rattle.peg_json.specs.Parses.{ParsesTo, ParsesToAsked, text_too_long, no_such_start, too_many_steps, failed}
use Rattle.peg_json.specs.Parses.{matched, too_many_levels}
use Rattle.peg_json.specs.RecordLines.{record_line}
use Rattle.peg_json.specs.Reply.{Reply, status_of, with_text_if}
use Rattle.peg_json.specs.declared.tree_form.TreeForm.{TreeForm}
use Rattle.peg_json.proofs.PrintLemmas.{with_text-status}
use Rattle.peg_machine.specs.declared.answer.Answer.{Answer}
use Rattle.peg_parser.specs.Accepts.{Accepts}
use Rattle.peg_parser.specs.Fits.{Fits, ResultFits}
use Rattle.peg_parser.specs.Sessions.{IsSessionOf}
use Rattle.peg_parser.specs.declared.parser.ParseFault.{ParseFault}
use Rattle.peg_record_files.specs.RecordReplies.{ImpliesReply}
use Rattle.peg_record_files.specs.declared.outcome.RecordOutcome.{RecordOutcome}
use Rattle.peg_record_files.specs.declared.outcome.RecordOutcome.TheVariants as outcome
use Rattle.peg_record_files.specs.declared.place.RecordPlace.{RecordPlace}
use Rattle.peg_records.specs.Ahead.{IsGivenFor}
use Rattle.peg_semantics.specs.Rules.{Rule}
use Rattle.peg_semantics.specs.Starts.{start_name}
use Rattle.peg_semantics.specs.Terminals.{extents_of_terminals}
use Rattle.peg_replies.specs.Commands.{parse_task}
use Rattle.peg_replies.specs.PrintedNodes.{PrintedNodes, first_unknown, shown_by}
use Rattle.peg_replies.specs.RecordParsers.{IsRecordParserOf, IsReplyBy}
use Rattle.peg_replies.specs.RecordReplies.{IsRecordReply, IsStatusOfParse, outcome_status}
use Rattle.peg_replies.specs.Replies.{RepliesTo, parsed}
use Rattle.peg_replies.specs.Task.{ToolTask, ParseTask}
use Rattle.peg_replies.specs.declared.record_parser.RecordParser.{RecordParser}
use Rattle.peg_replies.specs.declared.record_session.RecordSession.{RecordSession}
use Rattle.peg_replies.proofs.RunLemmas.{RepliesTo-longer}

-- ---- parsers

-- outcomes that fit one grammar fit another one with as many rules and terminals
pub other-fits : (result : Result Answer ParseFault) (rules other : List Rule) → length rules ≡ length other
    → extents_of_terminals rules ≡ extents_of_terminals other → IfOk result (λ answer. Fits rules answer.outcome)
    → IfOk result (λ answer. Fits other answer.outcome)
other-fits (Ok answer) rules other count spans fits = record {
  tree = subst (λ (n : ℕ). ResultFits n answer.outcome.result) count fits.tree;
  terminals = subst (λ (l : List Extent). All (λ terminal. terminal < length l) answer.outcome.expected.items) spans
      fits.terminals;
}
other-fits (Err why) rules other count spans fits = tt

-- ---- statuses

-- a match is of the whole text or of a part of it
match-status : (partial : Bool) → IsStatusOfParse (if partial then 1 else 0)
match-status true = (outcome.Differs, refl)
match-status false = (outcome.Matches, refl)

-- a start that no rule has
unknown-start : (rules : List Rule) (start : Option (List ℕ)) (name : List ℕ) (known : Bool) → known ≡ false
    → IsSome (if known then Some name else None) → ⊥
unknown-start rules start name true is some = cc
unknown-start rules start name false is some = cc

-- the exit status of a parse whose start is known
parse-status : (rules : List Rule) (text : List ℕ) (start : Option (List ℕ)) (memo : ℕ) (steps : Option ℕ) (all : Bool)
    (form : TreeForm) (shown : ℕ → Bool) (reply : Reply) → IsSome (start_name rules start)
    → ParsesTo rules text start memo steps all form shown reply → IsStatusOfParse (status_of reply)
parse-status rules text start memo steps all form shown reply some (text_too_long over) = (outcome.Refused, refl)
parse-status rules text start memo steps all form shown reply some (no_such_start name within named missing) =
    absurd (unknown-start rules start name _ missing
    (subst (λ (s : Option (List ℕ)). IsSome (start_name rules s)) named some))
parse-status rules text start memo steps all form shown reply some (too_many_steps within more) = (outcome.Refused, refl)
parse-status rules text start memo steps all form shown reply some (failed within enough starts found is furthest) =
    (outcome.Differs, refl)
parse-status rules text start memo steps all form shown reply some
    (too_many_levels within enough starts found is nested deep) =
    (outcome.Refused, refl)
parse-status rules text start memo steps all form shown reply some
    (matched {end = end} within enough starts found is shallow furthest) =
    match-status (all && nat_lt end (length text))

-- the bytes of nodes change no exit status
asked-status : (asked : Bool) (text : List ℕ) (reply : Reply) → status_of (with_text_if asked text reply) ≡ status_of reply
asked-status false text reply = refl
asked-status true text reply = with_text-status text reply

-- ---- records

-- the reply for the bytes that are given of a record is the reply for the record
given-replies : (file given text : List ℕ) (task : ToolTask) (reply : Reply) → IsGivenFor max_text_bytes given text
    → RepliesTo file given task reply → RepliesTo file text task reply
given-replies file given text task reply (inl same) is = subst (λ (t : List ℕ). RepliesTo file t task reply) same is
given-replies file given text task reply (inr long) is = RepliesTo-longer file given text task reply long.0 long.1 is

-- the line and the outcome of a record, for the line of the bytes that are given of it
pub record-reply : (file given text line : List ℕ) (place : RecordPlace) (status : ℕ) (rules : List Rule) (start : Option (List ℕ))
    (memo : ℕ) (steps : Option ℕ) (all : Bool) (form : TreeForm) (nodes : PrintedNodes) (with_bytes : Bool)
    (outcome : RecordOutcome) → Accepts file rules → first_unknown rules nodes ≡ None → IsSome (start_name rules start)
    → IsGivenFor max_text_bytes given text → (IsStatusOfParse status → outcome_status outcome ≡ status)
    → IsLineOf file (ParsesToAsked rules given start memo steps all form (shown_by rules nodes) with_bytes) line status
    → IsRecordReply file (ParseTask start memo steps all form nodes with_bytes) place text (record_line place.number line) outcome
record-reply file given text line place status rules start memo steps all form nodes with_bytes outcome accepts known
    some is_given ends is =
    let asked = is.1 in
    let same : status ≡ status_of asked.0 = is.3 ∙ ap status_of asked.2 ∙ asked-status with_bytes given asked.0 in
    let task = ParseTask start memo steps all form nodes with_bytes in (
      is.0,
      given-replies file given text task is.0 is_given (parsed accepts known is.1),
      ap (record_line place.number) is.2,
      ends (subst IsStatusOfParse (sym same)
          (parse-status rules given start memo steps all form (shown_by rules nodes) asked.0 some asked.1)) ∙ is.3,
    )

-- ---- sessions

-- a session that still parses as its parser does makes the same lines
pub same-replies : (before after : RecordSession) → after.records.now ≡ before.records.now
    → (IsSessionOf before.records.now.shown before.session → IsSessionOf before.records.now.shown after.session)
    → ImpliesReply (IsReplyBy after) (IsReplyBy before)
same-replies before after same parses place text line outcome reply file of =
    subst (λ (by : RecordParser). IsRecordReply file (parse_task by.options by.printing) place text line outcome) same
    (reply file record {
      parser = subst (IsRecordParserOf file) (sym same) of.parser;
      parses = subst (λ (by : RecordParser). IsSessionOf by.shown after.session) (sym same) (parses of.parses);
    })
