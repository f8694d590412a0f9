-- The tool's reply to a task on a grammar file and a text: the first case that applies.
use Rattle.std.specs.Prelude.{◌≡◌, ℕ, Bool, List, Option, None, Some, length}
use Rattle.peg_code.specs.Code.{entries_of, program_code}
use Rattle.peg_core.specs.CoreForm.{core_bodies}
use Rattle.peg_semantics.specs.AbstractOutcomes.{Can}
use Rattle.peg_semantics.specs.RuleOutcomes.{AreAbstractOutcomes}
use Rattle.peg_semantics.specs.Rules.{Rule, names}
use Rattle.peg_lint.specs.declared.warning.Selection.{Selection}
use Rattle.peg_parser.specs.Accepts.{IsRead, IsAcceptedGrammar, Accepts}
use Rattle.peg_parser.specs.Cause.{Cause, NoSuchRule}
use Rattle.peg_parser.specs.Refusals.{IsNoGrammar, IsIllFormed, HasTooMuchCode}
use Rattle.peg_json.specs.Lines.{IsLineOf}
use Rattle.peg_json.specs.Lints.{LintsTo}
use Rattle.peg_json.specs.Parses.{ParsesToAsked}
use Rattle.peg_json.specs.ProfileReplies.{ProfilesTo}
use Rattle.peg_json.specs.Reply.{Reply, Refused, Tabled, Accepted, Coded}
use Rattle.peg_json.specs.declared.tree_form.TreeForm.{TreeForm}
use Rattle.peg_io.specs.NamedFile.{NamedFile}
use Rattle.peg_io.specs.Split.{IsSplit}
use Rattle.peg_replies.specs.CoverageReplies.{CoversTo}
use Rattle.peg_replies.specs.PrintedNodes.{PrintedNodes, first_unknown, shown_by}
use Rattle.peg_coverage.specs.declared.text_match.RequiredMatch.{RequiredMatch}
use Rattle.peg_replies.specs.Task.{ToolTask, TableTask, CheckTask, CodeTask, LintTask, ProfileTask, CoverTask, ParseTask, Checks}
use Rattle.peg_coverage.specs.declared.text_match.RequiredMatch.{RequiredMatch}
use Rattle.peg_replies.specs.Task.{default_task}

-- the reply to a task on a grammar file and a text
pub data RepliesTo (file text : List ℕ) : ToolTask → Reply → Type 0 where
  refused_grammar : {task : ToolTask} {cause : Cause} → IsNoGrammar file cause
      → RepliesTo file text task (Refused cause)
  tabled : {rules : List Rule} {cans : List Can} → IsRead file rules → IsAcceptedGrammar rules
      → AreAbstractOutcomes rules cans
      → RepliesTo file text TableTask (Tabled (names rules) cans)
  refused_form : {task : ToolTask} {cause : Cause} → Checks task → IsIllFormed file cause
      → RepliesTo file text task (Refused cause)
  too_large : {task : ToolTask} {cause : Cause} → Checks task → HasTooMuchCode file cause
      → RepliesTo file text task (Refused cause)
  accepted : {rules : List Rule} → Accepts file rules → RepliesTo file text CheckTask (Accepted (length rules))
  coded : {rules : List Rule} → Accepts file rules → RepliesTo file text CodeTask
      (Coded (program_code (core_bodies rules)) (entries_of (core_bodies rules)))
  linted : {rules : List Rule} {start : Option (List ℕ)} {selection : Selection} {reply : Reply} → Accepts file rules
      → LintsTo file rules start selection reply → RepliesTo file text (LintTask start selection) reply
  profiled : {rules : List Rule} {start : Option (List ℕ)} {memo : ℕ} {steps : Option ℕ} {reply : Reply}
      → Accepts file rules → ProfilesTo rules text start memo steps reply
      → RepliesTo file text (ProfileTask start memo steps) reply
  covered : {rules : List Rule} {files : List NamedFile} {start : Option (List ℕ)} {memo : ℕ} {steps : Option ℕ}
      {needed : RequiredMatch} {reply : Reply} → Accepts file rules → CoversTo rules files start memo steps needed reply
      → RepliesTo file text (CoverTask files start memo steps needed) reply
  no_such_rule : {rules : List Rule} {start : Option (List ℕ)} {memo : ℕ} {steps : Option ℕ} {all : Bool}
      {form : TreeForm} {nodes : PrintedNodes} {with_bytes : Bool} (name : List ℕ) → Accepts file rules
      → first_unknown rules nodes ≡ Some name
      → RepliesTo file text (ParseTask start memo steps all form nodes with_bytes) (Refused (NoSuchRule name))
  parsed : {rules : List Rule} {start : Option (List ℕ)} {memo : ℕ} {steps : Option ℕ} {all : Bool} {form : TreeForm}
      {nodes : PrintedNodes} {with_bytes : Bool} {reply : Reply} → Accepts file rules
      → first_unknown rules nodes ≡ None
      → ParsesToAsked rules text start memo steps all form (shown_by rules nodes) with_bytes reply
      → RepliesTo file text (ParseTask start memo steps all form nodes with_bytes) reply

-- the line and the exit status of the reply to a task on a grammar file and a text
abbrev pub IsPrinted : ToolTask → (file text : List ℕ) → (line : List ℕ) → (status : ℕ) → Type 0
IsPrinted task file text = IsLineOf file (RepliesTo file text task)

-- the line and the exit status of a parse by the grammar file of the text, both from one input
abbrev pub IsPrintedJoined : (input : List ℕ) → (line : List ℕ) → (status : ℕ) → Type 0
IsPrintedJoined input line status =
    (file text : List ℕ) × IsSplit input file text × IsPrinted default_task file text line status

-- the most bytes held in memory of an input with a grammar file, a separator and a text
abbrev pub max_joined_bytes : ℕ
max_joined_bytes = 68157444
