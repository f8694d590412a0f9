-- The reply that has the profile of a parse by an accepted grammar.
use Rattle.std.specs.Prelude.{◌≡◌, ◌≢◌, ℕ, ◌<◌, ◌≤◌, false, List, length, Option, Some}
use Rattle.peg_grammar.specs.Limits.{max_text_bytes}
use Rattle.peg_grammar.specs.Outcomes.{parsed_of}
use Rattle.peg_machine.specs.CoreOutcome.{saturated}
use Rattle.peg_semantics.specs.Record.{Record, RuleCall}
use Rattle.peg_semantics.specs.Rules.{Rule, names, is_defined}
use Rattle.peg_semantics.specs.Starts.{Recognizes, start_name}
use Rattle.peg_parser.specs.Calls.{AreCallsInOrder, AreCallsOf, AreCallsSoFar, AreFirstCalls, AreStepsOf}
use Rattle.peg_parser.specs.Cause.{NoSuchStart, TextTooLong}
use Rattle.peg_parser.specs.StepLimits.{TakesMoreSteps, TakesPlainSteps}
use Rattle.peg_profile.specs.Profiles.{AreProfilesOf}
use Rattle.peg_profile.specs.declared.counts.RuleProfile.{RuleProfile}
use Rattle.peg_json.specs.Parses.{HasEnoughSteps}
use Rattle.peg_json.specs.ProfileText.{parsed_end}
use Rattle.peg_json.specs.Reply.{Reply, Refused, Profiled}
use Rattle.peg_json.specs.declared.profile_end.ProfileEnd.TheVariants.{Stopped}

-- a number of steps of a parse: at most its plain steps, and without a memo exactly these
abbrev pub AreSteps : List Rule → List ℕ → (start : Option (List ℕ)) → (memo : ℕ) → (steps : ℕ) → Type 0
AreSteps rules text start memo steps =
    ((count : ℕ) × TakesPlainSteps rules text start count × (steps ≤ count))
    × (memo ≡ 0 → (count : ℕ) × TakesPlainSteps rules text start count × (steps ≡ saturated count))

-- The reply to a request for the profile of a parse from a start, with a memo of this capacity and an optional step
-- limit. The end is that of Ford's record. The profiles are those of some list of calls that has, as a set, the calls of
-- the record. Without a memo they are the calls of the record, each as often as it is made. With a memo the steps are
-- those of the bodies of the listed calls, and one more for a match. A text that is too long is reported before a start
-- that no rule has.
--
-- The steps stay within the limit, with a memo, too. A parse that takes more steps than the limit is stopped there. Its
-- profiles are of calls of the record, and without a memo of the first ones, in order.
pub data ProfilesTo (rules : List Rule) (text : List ℕ) (start : Option (List ℕ)) (memo : ℕ) (steps : Option ℕ)
    : Reply → Type 0 where
  text_over_limit : max_text_bytes < length text → ProfilesTo rules text start memo steps (Refused TextTooLong)
  start_without_rule : (name : List ℕ) → length text ≤ max_text_bytes → start ≡ Some name
      → is_defined rules name ≡ false → ProfilesTo rules text start memo steps (Refused (NoSuchStart name))
  steps_over_limit : {from : List ℕ} {limit : ℕ} {calls : List RuleCall} {profiles : List RuleProfile}
      → length text ≤ max_text_bytes → start_name rules start ≡ Some from → steps ≡ Some limit
      → TakesMoreSteps rules text start steps → AreCallsSoFar rules text from steps calls
      → (memo ≡ 0 → AreFirstCalls rules text from calls) → AreProfilesOf (length rules) calls profiles
      → ProfilesTo rules text start memo steps (Profiled Stopped limit (names rules) profiles)
  has_profile : {from : List ℕ} {r : Record} {taken : ℕ} {calls : List RuleCall} {profiles : List RuleProfile}
      → length text ≤ max_text_bytes → HasEnoughSteps rules text start memo steps → start_name rules start ≡ Some from
      → Recognizes rules text from r → AreSteps rules text start memo taken
      → ((limit : ℕ) → steps ≡ Some limit → taken ≤ limit) → AreCallsOf rules text from calls
      → (memo ≡ 0 → AreCallsInOrder rules text from calls)
      → (memo ≢ 0 → AreStepsOf rules text calls (parsed_of r.result) taken)
      → AreProfilesOf (length rules) calls profiles
      → ProfilesTo rules text start memo steps (Profiled (parsed_end (parsed_of r.result)) taken (names rules) profiles)
