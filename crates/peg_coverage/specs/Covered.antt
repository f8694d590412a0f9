-- What is tried and what matches on the way to the records of texts (Ford 2004, section 3.3), and which texts are
-- stopped.
use Rattle.std.specs.Prelude.{◌≡◌, ℕ, ◌==◌, All, Bool, true, false, ◌||◌, if◌then◌else◌, IfSome, List, Option, count_by}
use Rattle.std.specs.Prelude.{filter, length, map}
use Rattle.std.specs.List.{enumerate_from, list_any}
use Rattle.peg_diagnostics.specs.Attempts.{Attempt, AreAttempts, IsWithin, has_attempt, shown_by}
use Rattle.peg_diagnostics.specs.Marked.{alternatives_of_rules, marked_rules}
use Rattle.peg_parser.specs.Parser.{start_named}
use Rattle.peg_parser.specs.StepLimits.{TakesMoreSteps}
use Rattle.peg_parser.specs.declared.options.ParseOptions.{ParseOptions}
use Rattle.peg_semantics.specs.Record.{Recognition, Record}
use Rattle.peg_semantics.specs.Record as recognition
use Rattle.peg_semantics.specs.Rules.{Rule}
use Rattle.peg_tree.specs.Selected.{has_rule}
use Rattle.peg_coverage.specs.Steps.{IsWithinSteps}
use Rattle.peg_coverage.specs.declared.text_match.RequiredMatch.{RequiredMatch}
use Rattle.peg_coverage.specs.declared.text_match.RequiredMatch.TheVariants as required
use Rattle.peg_coverage.specs.declared.text_match.TextMatch.{TextMatch}
use Rattle.peg_coverage.specs.declared.text_match.TextMatch.TheVariants.{Whole, Prefix, Failed}

-- how much of a text with this length a result matches
abbrev pub match_of : (bytes : ℕ) → Recognition → TextMatch
match_of bytes recognition.Failed = Failed
match_of bytes (recognition.Matched end trees) = if end == bytes then Whole else Prefix

-- whether a match is as required
abbrev pub is_enough : RequiredMatch → TextMatch → Bool
is_enough required.Whole Whole = true
is_enough required.Whole Prefix = false
is_enough required.Whole Failed = false
is_enough required.Prefix Whole = true
is_enough required.Prefix Prefix = true
is_enough required.Prefix Failed = false

-- the attempt is of a rule or an alternative of the grammar
abbrev pub IsAttemptIn : List Rule → Attempt → Type 0
IsAttemptIn rules attempt = IsWithin (length rules) (alternatives_of_rules rules) attempt

-- whether a set of rules of the marked grammar has the one whose calls show an attempt
abbrev pub has_noted : List Rule → (set : List Bool) → Attempt → Bool
has_noted rules set attempt = has_rule set (shown_by (length rules) (alternatives_of_rules rules) attempt)

-- The set gets the attempts of a text by Ford's relation for the grammar as written, and keeps those it had.
abbrev pub HasCovered : List Rule → (text start : List ℕ) → (before after : List Bool) → TextMatch → Type 0
HasCovered rules text start before after found =
    (r : Record) × (attempts : List Attempt) × AreAttempts rules text start r attempts
    × (found ≡ match_of (length text) r.result)
    × ((attempt : Attempt) → IsAttemptIn rules attempt
    → has_noted rules after attempt ≡ (has_attempt attempt attempts || has_noted rules before attempt))

-- ---- several texts

-- How texts are parsed: from the rule with a name, or without one from the first rule, with a memo of this capacity (0
-- for none) and an optional limit of steps.
pub record ParseSettings : Type 0 where
  pub start : Option (List ℕ)
  pub memo : ℕ
  pub steps : Option ℕ

abbrev pub settings_of : ParseOptions → ParseSettings
settings_of options = record { start = start_named options; memo = options.memo; steps = options.steps }

-- how the parse of a text ends: with a match or a failure and the attempts on the way, or stopped by the limit of steps
pub data TextOutcome : Type 0 where
  Ended : (found : TextMatch) → (attempts : List Attempt) → TextOutcome
  Stopped : TextOutcome

-- a text, if its bytes are specified, and how its parse ends
pub record ParsedText : Type 0 where
  pub text : Option (List ℕ)
  pub outcome : TextOutcome

-- How the parse of a text may end. With a result: it is that of the text from a start by Ford's relation for the
-- grammar as written, and so are the attempts. The parse by the marked grammar stayed within the limit of steps, with a
-- memo, too. Stopped: the parse by the marked grammar takes more steps than the limit allows. Without a memo each parse
-- that does is stopped.
abbrev pub IsOutcomeOf : List Rule → (start : List ℕ) → ParseSettings → (text : List ℕ) → TextOutcome → Type 0
IsOutcomeOf rules start settings text (Ended found attempts) =
    ((r : Record) × AreAttempts rules text start r attempts × (found ≡ match_of (length text) r.result))
    × (settings.memo ≡ 0 → ¬ TakesMoreSteps (marked_rules rules) text settings.start settings.steps)
    × IsWithinSteps (marked_rules rules) text start settings.steps
IsOutcomeOf rules start settings text Stopped =
    TakesMoreSteps (marked_rules rules) text settings.start settings.steps

-- the same of a text whose bytes may not be specified
abbrev pub IsParsed : List Rule → (start : List ℕ) → ParseSettings → ParsedText → Type 0
IsParsed rules start settings item = IfSome item.text (λ text. IsOutcomeOf rules start settings text item.outcome)

-- whether an outcome has an attempt; a stopped parse has none
abbrev pub makes : Attempt → TextOutcome → Bool
makes attempt (Ended found attempts) = has_attempt attempt attempts
makes attempt Stopped = false

-- whether one of the texts makes an attempt
abbrev pub is_made : List ParsedText → Attempt → Bool
is_made parsed attempt = list_any (λ (item : ParsedText). makes attempt item.outcome) parsed

-- whether an outcome is a match as required
abbrev pub is_match : RequiredMatch → TextOutcome → Bool
is_match needed (Ended found attempts) = is_enough needed found
is_match needed Stopped = false

-- whether an outcome is that of a stopped parse
abbrev pub is_stopped : TextOutcome → Bool
is_stopped (Ended found attempts) = false
is_stopped Stopped = true

-- the numbers of the stopped texts from 0 on, in ascending order
abbrev pub stopped_numbers : List ParsedText → List ℕ
stopped_numbers items =
    map (λ (numbered : ℕ × ParsedText). numbered.0)
    (filter (λ (numbered : ℕ × ParsedText). is_stopped numbered.1.outcome) (enumerate_from 0 items))

-- How texts are parsed from a start: each has an outcome. `matched` of the outcomes are matches as required, and the
-- texts with the numbers `stopped` are stopped.
pub record AreParsed (rules : List Rule) (start : List ℕ) (settings : ParseSettings) (needed : RequiredMatch)
    (texts : List (Option (List ℕ))) (parsed : List ParsedText) (matched : ℕ) (stopped : List ℕ) : Type 0 where
  pub of_texts : map (λ (item : ParsedText). item.text) parsed ≡ texts
  pub right : All (IsParsed rules start settings) parsed
  pub matches : matched ≡ count_by (λ (item : ParsedText). is_match needed item.outcome) parsed
  pub stops : stopped ≡ stopped_numbers parsed

-- Texts are parsed from a start. The set gets the attempts of all the texts, and keeps those it had.
pub record HaveCovered (rules : List Rule) (start : List ℕ) (settings : ParseSettings) (needed : RequiredMatch)
    (texts : List (Option (List ℕ))) (before after : List Bool) (matched : ℕ) (stopped : List ℕ) : Type 0 where
  pub parsed : List ParsedText
  pub are : AreParsed rules start settings needed texts parsed matched stopped
  pub noted : (attempt : Attempt) → IsAttemptIn rules attempt
      → has_noted rules after attempt ≡ (is_made parsed attempt || has_noted rules before attempt)
