-- The reply to a parse of a text by an accepted grammar (Ford 2004, section 3.3).
use Rattle.std.specs.Prelude.{◌≡◌, ◌⊎◌, ℕ, ◌<◌, ◌≤◌, Bool, false, IfSome}
use Rattle.std.specs.Prelude.{◌&&◌, nat_lt, List, length, map, slice_index_or, Option, Some}
use Rattle.peg_bytes.specs.Extent.{Extent, between}
use Rattle.peg_coverage.specs.Steps.{IsWithinSteps}
use Rattle.peg_semantics.specs.Furthest.{IsFurthest}
use Rattle.peg_semantics.specs.Record.{Record}
use Rattle.peg_semantics.specs.Record as recognition
use Rattle.peg_semantics.specs.Rules.{Rule, names, is_defined}
use Rattle.peg_semantics.specs.Terminals.{extents_of_terminals}
use Rattle.peg_tree.specs.Json.{max_levels}
use Rattle.peg_tree.specs.Selected.{selected}
use Rattle.peg_tree.specs.Trees.{Trees, levels}
use Rattle.peg_tree.specs.declared.outcome.Outcome.{Outcome}
use Rattle.peg_tree.specs.declared.outcome.Parsed.{Parsed}
use Rattle.peg_tree.specs.declared.outcome.Parsed.TheVariants as parsed
use Rattle.peg_parser.specs.Cause.{NoSuchStart, StepLimit, TooDeep, TextTooLong}
use Rattle.peg_parser.specs.StepLimits.{TakesMoreSteps}
use Rattle.peg_grammar.specs.Limits.{max_text_bytes}
use Rattle.peg_semantics.specs.Starts.{Recognizes, start_name}
use Rattle.peg_json.specs.Reply.{Reply, Refused, Failed, Matched, with_text, with_text_if}
use Rattle.peg_json.specs.declared.tree_form.TreeForm.{TreeForm}
use Rattle.peg_json.specs.declared.tree_form.TreeForm.TheVariants.{Nested}

-- the spans in the grammar file of the terminals with these numbers
abbrev pub extents_at : List Rule → List ℕ → List Extent
extents_at rules terminals = map (λ terminal. slice_index_or (extents_of_terminals rules) terminal (between 0 0))
    terminals

-- A parse may have an answer: without a memo, it doesn't exceed the step limit. With a memo, how many steps a parse
-- takes depends on what is stored.
abbrev pub HasEnoughSteps : List Rule → List ℕ → (start : Option (List ℕ)) → (memo : ℕ) → (steps : Option ℕ) → Type 0
HasEnoughSteps rules text start memo steps = memo ≡ 0 → ¬ TakesMoreSteps rules text start steps

-- A parse has an answer within the step limit, with a memo, too. Its steps are those of a list of calls, which as a set
-- are those of Ford's record.
pub record AnswersWithin (rules : List Rule) (text : List ℕ) (start : Option (List ℕ)) (memo : ℕ) (steps : Option ℕ)
    : Type 0 where
  pub enough : HasEnoughSteps rules text start memo steps
  pub within : IfSome (start_name rules start) (λ from. IsWithinSteps rules text from steps)

-- The reply to a parse of a text from a start, with a memo of this capacity and an optional step limit. `all` asks for
-- a match of the whole text, and `form` is that of the printed tree, which has the root and the nodes of the rules that
-- are shown. A text that is too long is reported before a start that no rule has.
--
-- If the parse exceeds the step limit, that is reported. With a memo the result may be reported, too, if a parse with a
-- memo stays within the limit.
pub data ParsesTo (rules : List Rule) (text : List ℕ) (start : Option (List ℕ)) (memo : ℕ) (steps : Option ℕ)
    (all : Bool) (form : TreeForm) (shown : ℕ → Bool) : Reply → Type 0 where
  text_too_long : max_text_bytes < length text
      → ParsesTo rules text start memo steps all form shown (Refused TextTooLong)
  no_such_start : (name : List ℕ) → length text ≤ max_text_bytes → start ≡ Some name → is_defined rules name ≡ false
      → ParsesTo rules text start memo steps all form shown (Refused (NoSuchStart name))
  too_many_steps : length text ≤ max_text_bytes → TakesMoreSteps rules text start steps
      → ParsesTo rules text start memo steps all form shown (Refused StepLimit)
  failed : {from : List ℕ} {r : Record} {far : ℕ} {terminals : List ℕ} → length text ≤ max_text_bytes
      → AnswersWithin rules text start memo steps → start_name rules start ≡ Some from
      → Recognizes rules text from r → r.result ≡ recognition.Failed → IsFurthest r.tests far terminals
      → ParsesTo rules text start memo steps all form shown (Failed far (extents_at rules terminals))
  too_many_levels : {from : List ℕ} {r : Record} {end : ℕ} {tree : Trees} → length text ≤ max_text_bytes
      → AnswersWithin rules text start memo steps → start_name rules start ≡ Some from
      → Recognizes rules text from r → r.result ≡ recognition.Matched end tree
      → form ≡ Nested → max_levels < levels (selected shown tree)
      → ParsesTo rules text start memo steps all form shown (Refused TooDeep)
  matched : {from : List ℕ} {r : Record} {end far : ℕ} {terminals : List ℕ} {tree : Trees}
      → length text ≤ max_text_bytes → AnswersWithin rules text start memo steps
      → start_name rules start ≡ Some from → Recognizes rules text from r
      → r.result ≡ recognition.Matched end tree → (form ≡ Nested → levels (selected shown tree) ≤ max_levels)
      → IsFurthest r.tests far terminals
      → ParsesTo rules text start memo steps all form shown
      (Matched (all && nat_lt end (length text)) form end far (extents_at rules terminals) (names rules)
      (selected shown tree))

-- the reply that prints an outcome, for a text of this length
abbrev pub result_reply : List Rule → (len : ℕ) → (all : Bool) → TreeForm → (far : ℕ) → List Extent → Parsed → Reply
result_reply rules len all form far expected parsed.Failed = Failed far expected
result_reply rules len all form far expected (parsed.Matched end tree) =
    Matched (all && nat_lt end len) form end far expected (names rules) tree

abbrev pub outcome_reply : List Rule → Outcome → (len : ℕ) → (all : Bool) → TreeForm → Reply
outcome_reply rules outcome len all form =
    result_reply rules len all form outcome.far (extents_at rules outcome.expected.items) outcome.result

-- a result with the nodes of the rules that are shown
abbrev pub selected_result : (shown : ℕ → Bool) → Parsed → Parsed
selected_result shown parsed.Failed = parsed.Failed
selected_result shown (parsed.Matched end tree) = parsed.Matched end (selected shown tree)

-- an outcome with the nodes of the rules that are shown
abbrev pub selected_outcome : (shown : ℕ → Bool) → Outcome → Outcome
selected_outcome shown outcome = record outcome { result = selected_result shown outcome.result }

-- the tree of an outcome has more levels than the nested form may have
abbrev pub IsDeep : Parsed → Type 0
IsDeep parsed.Failed = ⊥
IsDeep (parsed.Matched end tree) = max_levels < levels tree

-- the reply to an outcome: the outcome, or that its tree is too deep for the nested form
abbrev pub PrintsOutcome : List Rule → Outcome → (len : ℕ) → (all : Bool) → TreeForm → Reply → Type 0
PrintsOutcome rules outcome len all form reply =
    ((form ≡ Nested) × IsDeep outcome.result × (reply ≡ Refused TooDeep))
    ⊎ ((form ≡ Nested → ¬ IsDeep outcome.result) × (reply ≡ outcome_reply rules outcome len all form))

-- the same reply, with the bytes of the text where the tree is printed
abbrev pub PrintsOutcomeWithText : List Rule → Outcome → (text : List ℕ) → (all : Bool) → TreeForm → Reply → Type 0
PrintsOutcomeWithText rules outcome text all form reply =
    (plain : Reply) × PrintsOutcome rules outcome (length text) all form plain × (reply ≡ with_text text plain)

-- the reply to an outcome, with these bytes if they are asked for
abbrev pub PrintsOutcomeAsked : List Rule → Outcome → (text : List ℕ) → (all : Bool) → TreeForm → (with_bytes : Bool)
    → Reply → Type 0
PrintsOutcomeAsked rules outcome text all form with_bytes reply =
    (plain : Reply) × PrintsOutcome rules outcome (length text) all form plain
    × (reply ≡ with_text_if with_bytes text plain)

-- the reply to a parse, with the bytes of the text where the tree is printed, if they are asked for
abbrev pub ParsesToAsked : List Rule → (text : List ℕ) → (start : Option (List ℕ)) → (memo : ℕ) → (steps : Option ℕ)
    → (all : Bool) → TreeForm → (shown : ℕ → Bool) → (with_bytes : Bool) → Reply → Type 0
ParsesToAsked rules text start memo steps all form shown with_bytes reply =
    (plain : Reply) × ParsesTo rules text start memo steps all form shown plain
    × (reply ≡ with_text_if with_bytes text plain)
