-- Lines of replies.
use Rattle.std.proofs.Common.{◌≡◌, ℕ, Bool, true, false, List, [], ◌∷◌, ◌++◌, IfOk, Result, Ok, Err, inl, inr, length, refl, sym, ap, ◌∙◌}
use Rattle.std.specs.declared.alloc.AllocError.{AllocError}
use Rattle.serde_json.specs.Written.{compact_text}
use Rattle.peg_semantics.specs.Rules.{Rule}
use Rattle.peg_bytes.specs.Extent.{Extent}
use Rattle.peg_parser.specs.Cause.{Cause}
use Rattle.peg_tree.specs.Trees.{Trees}
use Rattle.peg_tree.specs.declared.outcome.Outcome.{Outcome}
use Rattle.peg_tree.specs.declared.outcome.Parsed.{Parsed}
use Rattle.peg_tree.specs.declared.outcome.Parsed.TheVariants as parsed
use Rattle.peg_json.specs.Lines.{IsLineOf, IsReply, line_bytes}
use Rattle.peg_json.specs.Parses.{PrintsOutcome, PrintsOutcomeAsked, extents_at, outcome_reply, result_reply, selected_outcome, selected_result}
use Rattle.peg_json.specs.Reply.{Reply, Refused, matched_data, printed, printed_line, status_of, text_tree_member}
use Rattle.peg_json.specs.Reply.{with_text, with_text_if}
use Rattle.peg_json.specs.Reply as reply
use Rattle.peg_json.specs.Statuses.{status_code}
use Rattle.peg_json.specs.declared.line.Line.{Line}
use Rattle.peg_json.specs.declared.status.Status.{Status}
use Rattle.peg_json.specs.declared.tree_form.TreeForm.{TreeForm}
use Rattle.peg_json.specs.declared.tree_form.TreeForm.TheVariants.{Nested, Rows, NoTree}

-- the line and the exit status of one reply
pub text-reply : (line : Line) (file text : List ℕ) (status : Status) (reply : Reply) → line_bytes line ≡ text ++ 10 ∷ []
    → line.status ≡ status → text ≡ compact_text (printed file reply) → status_code status ≡ status_of reply
    → IsReply file reply (line_bytes line) (status_code line.status)
text-reply line file text status reply is ends of_reply same =
    (is ∙ ap (λ (l : List ℕ). l ++ 10 ∷ []) of_reply, ap status_code ends ∙ same)

-- a reply with text has the exit status of the same reply without
pub with_text-status : (text : List ℕ) (reply : Reply) → status_of (with_text text reply) ≡ status_of reply
with_text-status text (reply.Refused cause) = refl
with_text-status text (reply.Tabled names cans) = refl
with_text-status text (reply.Accepted rules) = refl
with_text-status text (reply.Coded code entries) = refl
with_text-status text (reply.Linted names warnings) = refl
with_text-status text (reply.Profiled end steps names profiles) = refl
with_text-status text (reply.Covered texts matched stopped rules alternatives) = refl
with_text-status text reply.NoCoverage = refl
with_text-status text (reply.Failed far expected) = refl
with_text-status text (reply.Matched partial Nested end far expected names tree) = refl
with_text-status text (reply.Matched partial Rows end far expected names tree) = refl
with_text-status text (reply.Matched partial NoTree end far expected names tree) = refl
with_text-status text (reply.MatchedWithText partial form end far expected names tree other) = refl

-- the line of a reply is the line of some reply of its kind
pub reply-kind : (result : Result Line AllocError) (file : List ℕ) (Kind : Reply → Type 0) (reply : Reply)
    → IfOk result (λ line. IsReply file reply (line_bytes line) (status_code line.status)) → Kind reply
    → IfOk result (λ line. IsLineOf file Kind (line_bytes line) (status_code line.status))
reply-kind (Ok line) file Kind reply is kind = (reply, kind, is.0, is.1)
reply-kind (Err why) file Kind reply is kind = tt

-- the line of a reply of one kind is one of another kind that includes it
pub kind-weaker : (result : Result Line AllocError) (file : List ℕ) (Kind More : Reply → Type 0)
    → ((reply : Reply) → Kind reply → More reply)
    → IfOk result (λ line. IsLineOf file Kind (line_bytes line) (status_code line.status))
    → IfOk result (λ line. IsLineOf file More (line_bytes line) (status_code line.status))
kind-weaker (Ok line) file Kind More more is = (is.0, more is.0 is.1, is.2, is.3)
kind-weaker (Err why) file Kind More more is = tt

-- the line of an outcome whose tree is a list of nodes
pub outcome-line : (result : Result Line AllocError) (file : List ℕ) (rules : List Rule) (outcome : Outcome) (len : ℕ)
    (all : Bool) (status : Status)
    → IfOk result (λ line. line_bytes line ≡ printed_line file (outcome_reply rules outcome len all Rows))
    → IfOk result (λ line. line.status ≡ status) → status_code status ≡ status_of (outcome_reply rules outcome len all Rows)
    → IfOk result (λ line. IsLineOf file (PrintsOutcome rules outcome len all Rows) (line_bytes line) (status_code line.status))
outcome-line (Ok line) file rules outcome len all status is ends same =
    let reply = outcome_reply rules outcome len all Rows in
    reply-kind (Ok line) file (PrintsOutcome rules outcome len all Rows) reply (is, ap status_code ends ∙ same)
    (inr (λ nested. absurd (let bad : Rows ≡ Nested = nested in cc), refl))
outcome-line (Err why) file rules outcome len all status is ends same = tt

-- ---- results without a printed tree

-- the line of a result is the same whichever nodes are shown
unprinted-text : (file : List ℕ) (rules : List Rule) (len : ℕ) (all : Bool) (shown : ℕ → Bool) (far : ℕ)
    (expected : List Extent) (result : Parsed)
    → printed_line file (result_reply rules len all NoTree far expected result)
    ≡ printed_line file (result_reply rules len all NoTree far expected (selected_result shown result))
unprinted-text file rules len all shown far expected parsed.Failed = refl
unprinted-text file rules len all shown far expected (parsed.Matched end tree) = refl

-- so is its exit status
unprinted-status : (rules : List Rule) (len : ℕ) (all : Bool) (shown : ℕ → Bool) (far : ℕ) (expected : List Extent)
    (result : Parsed)
    → status_of (result_reply rules len all NoTree far expected result)
    ≡ status_of (result_reply rules len all NoTree far expected (selected_result shown result))
unprinted-status rules len all shown far expected parsed.Failed = refl
unprinted-status rules len all shown far expected (parsed.Matched end tree) = refl

-- the line of an outcome without a printed tree is the same, whichever nodes are shown
pub unprinted-line : (result : Result Line AllocError) (file : List ℕ) (rules : List Rule) (outcome : Outcome) (len : ℕ)
    (all : Bool) (first second : ℕ → Bool)
    → IfOk result (λ line. IsLineOf file (PrintsOutcome rules (selected_outcome first outcome) len all NoTree)
    (line_bytes line) (status_code line.status))
    → IfOk result (λ line. IsLineOf file (PrintsOutcome rules (selected_outcome second outcome) len all NoTree)
    (line_bytes line) (status_code line.status))
unprinted-line (Err why) file rules outcome len all first second is = tt
unprinted-line (Ok line) file rules outcome len all first second is = by is.0 is.1 is.2 is.3
  where
    by : (reply : Reply) → PrintsOutcome rules (selected_outcome first outcome) len all NoTree reply
        → line_bytes line ≡ printed_line file reply → status_code line.status ≡ status_of reply
        → IsLineOf file (PrintsOutcome rules (selected_outcome second outcome) len all NoTree) (line_bytes line)
        (status_code line.status)
    by reply (inl deep) prints ends = absurd (let bad : NoTree ≡ Nested = deep.0 in cc)
    by reply (inr shallow) prints ends =
        let spans = extents_at rules outcome.expected.items in (
          outcome_reply rules (selected_outcome second outcome) len all NoTree,
          inr (λ nested. absurd (let bad : NoTree ≡ Nested = nested in cc), refl),
          prints ∙ ap (printed_line file) shallow.1
              ∙ sym (unprinted-text file rules len all first outcome.far spans outcome.result)
              ∙ unprinted-text file rules len all second outcome.far spans outcome.result,
          ends ∙ ap status_of shallow.1
              ∙ sym (unprinted-status rules len all first outcome.far spans outcome.result)
              ∙ unprinted-status rules len all second outcome.far spans outcome.result,
        )

-- ---- replies with text

-- a refusal has no tree
pub refused-with_text : (asked : Bool) (text : List ℕ) (cause : Cause) → Refused cause ≡ with_text_if asked text (Refused cause)
refused-with_text false text cause = refl
refused-with_text true text cause = refl

-- nor has a result whose tree isn't printed
unprinted-with_text : (asked : Bool) (text : List ℕ) (rules : List Rule) (len : ℕ) (all : Bool) (far : ℕ)
    (expected : List Extent) (result : Parsed)
    → result_reply rules len all NoTree far expected result
    ≡ with_text_if asked text (result_reply rules len all NoTree far expected result)
unprinted-with_text false text rules len all far expected result = refl
unprinted-with_text true text rules len all far expected parsed.Failed = refl
unprinted-with_text true text rules len all far expected (parsed.Matched end tree) = refl

pub unprinted-asked : (asked : Bool) (text : List ℕ) (rules : List Rule) (outcome : Outcome) (all : Bool) (reply : Reply)
    → PrintsOutcome rules outcome (length text) all NoTree reply
    → PrintsOutcomeAsked rules outcome text all NoTree asked reply
unprinted-asked asked text rules outcome all reply (inl deep) = absurd (let bad : NoTree ≡ Nested = deep.0 in cc)
unprinted-asked asked text rules outcome all reply (inr shallow) = (
  reply,
  inr shallow,
  shallow.1 ∙ unprinted-with_text asked text rules (length text) all outcome.far
      (extents_at rules outcome.expected.items) outcome.result
      ∙ sym (ap (with_text_if asked text) shallow.1),
)

pub asked-unprinted : (asked : Bool) (text : List ℕ) (rules : List Rule) (outcome : Outcome) (all : Bool) (reply : Reply)
    → PrintsOutcomeAsked rules outcome text all NoTree asked reply
    → PrintsOutcome rules outcome (length text) all NoTree reply
asked-unprinted asked text rules outcome all reply is = by is.0 is.1 is.2
  where
    by : (plain : Reply) → PrintsOutcome rules outcome (length text) all NoTree plain
        → reply ≡ with_text_if asked text plain → PrintsOutcome rules outcome (length text) all NoTree reply
    by plain (inl deep) same = absurd (let bad : NoTree ≡ Nested = deep.0 in cc)
    by plain (inr shallow) same =
        inr (
          shallow.0,
          same ∙ ap (with_text_if asked text) shallow.1
              ∙ sym (unprinted-with_text asked text rules (length text) all outcome.far
              (extents_at rules outcome.expected.items) outcome.result),
        )

-- the JSON of a match with text, by its form
pub match-printed : (file text : List ℕ) (partial : Bool) (form : TreeForm) (end far : ℕ) (expected : List Extent)
    (names : List (List ℕ)) (tree : Trees)
    → matched_data partial end far expected (text_tree_member form names text tree)
    ≡ printed file (with_text text (reply.Matched partial form end far expected names tree))
match-printed file text partial Nested end far expected names tree = refl
match-printed file text partial Rows end far expected names tree = refl
match-printed file text partial NoTree end far expected names tree = refl
