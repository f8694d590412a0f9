-- A profile is the reply to the request for it.
use Rattle.std.proofs.Common.{◌≡◌, ℕ, ◌+◌, ◌≤◌, Bool, List, IfNone, IfSome, Option, None, Some}
use Rattle.std.proofs.Common.{length, refl, subst, sym, ap, ◌∙◌}
use Rattle.peg_grammar.specs.Limits.{max_text_bytes}
use Rattle.peg_grammar.specs.Outcomes.{parsed_of}
use Rattle.peg_machine.specs.SelectedTests.{shown_result}
use Rattle.peg_machine.specs.Traced.{end_of_run}
use Rattle.peg_machine.specs.CoreOutcome.{saturated}
use Rattle.peg_machine.specs.declared.answer.Answer.{Answer}
use Rattle.peg_semantics.specs.Record.{Recognition}
use Rattle.peg_semantics.specs.Record as recognition
use Rattle.peg_semantics.specs.Rules.{Rule, names}
use Rattle.peg_semantics.specs.Starts.{start_name}
use Rattle.peg_tree.specs.declared.outcome.Parsed.{Parsed}
use Rattle.peg_parser.specs.SelectedOutcomes.{IsParseOutcomeBy}
use Rattle.peg_parser.specs.StepLimits.{TakesMoreSteps, TakesPlainSteps}
use Rattle.peg_profile.specs.Profiles.{AreProfilesOfParse, AreProfilesSoFar}
use Rattle.peg_profile.specs.declared.counts.RuleProfile.{RuleProfile}
use Rattle.peg_profile.specs.declared.profile.Profile.{Profile}
use Rattle.peg_json.specs.ProfileReplies.{ProfilesTo, has_profile, steps_over_limit}
use Rattle.peg_json.specs.ProfileText.{end_of, parsed_end}
use Rattle.peg_json.specs.Reply.{Reply, Profiled}

-- how a parse ends doesn't depend on the rules that are shown
same-end : (set : Option (List Bool)) (result : Recognition) (steps : ℕ) (rules : List (List ℕ))
    (profiles : List RuleProfile)
    → Profiled (parsed_end (parsed_of (shown_result set result))) steps rules profiles
    ≡ Profiled (parsed_end (parsed_of result)) steps rules profiles
same-end None result steps rules profiles = refl
same-end (Some flags) recognition.Failed steps rules profiles = refl
same-end (Some flags) (recognition.Matched end tree) steps rules profiles = refl

same-own : (set : Option (List Bool)) (result : Recognition)
    → end_of_run (parsed_of (shown_result set result)) ≡ end_of_run (parsed_of result)
same-own None result = refl
same-own (Some flags) recognition.Failed = refl
same-own (Some flags) (recognition.Matched end tree) = refl

-- a profile whose parts are right is the reply
pub profile-replies : (set : Option (List Bool)) (rules : List Rule) (text : List ℕ) (start : Option (List ℕ)) (memo : ℕ) (steps : Option ℕ)
    (profile : Profile) → length text ≤ max_text_bytes → (start_name rules start ≡ None → ⊥)
    → IfSome profile.answer (λ answer. IfSome (start_name rules start)
    (λ from. IsParseOutcomeBy set None rules text from answer.outcome))
    → IfSome profile.answer (λ answer. IfSome (start_name rules start)
    (λ from. AreProfilesOfParse rules text from memo answer.outcome.result profile.steps profile.rules.items))
    → (memo ≡ 0 → IfSome profile.answer (λ answer. ¬ TakesMoreSteps rules text start steps))
    → (memo ≡ 0 → IfSome profile.answer (λ answer. (count : ℕ) × TakesPlainSteps rules text start count
    × (profile.steps ≡ saturated count)))
    → (count : ℕ) × TakesPlainSteps rules text start count × (profile.steps ≤ count)
    → ((limit : ℕ) → steps ≡ Some limit → profile.steps ≤ limit)
    → IfNone profile.answer (IfSome (start_name rules start)
    (λ from. AreProfilesSoFar rules text from memo steps profile.rules.items))
    → IfNone profile.answer (TakesMoreSteps rules text start steps)
    → IfNone profile.answer (steps ≡ Some profile.steps)
    → ProfilesTo rules text start memo steps
    (Profiled (end_of profile.answer) profile.steps (names rules) profile.rules.items)
profile-replies set rules text start memo steps profile within some is called enough exact taken allowed stopped more limit =
    by profile.answer (start_name rules start) refl some is called enough exact stopped more limit
  where
    by : (answer : Option Answer) (found : Option (List ℕ)) → start_name rules start ≡ found → (found ≡ None → ⊥)
        → IfSome answer (λ answer. IfSome found (λ from. IsParseOutcomeBy set None rules text from answer.outcome))
        → IfSome answer (λ answer. IfSome found
        (λ from. AreProfilesOfParse rules text from memo answer.outcome.result profile.steps profile.rules.items))
        → (memo ≡ 0 → IfSome answer (λ answer. ¬ TakesMoreSteps rules text start steps))
        → (memo ≡ 0 → IfSome answer (λ answer. (count : ℕ) × TakesPlainSteps rules text start count
        × (profile.steps ≡ saturated count)))
        → IfNone answer (IfSome found (λ from. AreProfilesSoFar rules text from memo steps profile.rules.items))
        → IfNone answer (TakesMoreSteps rules text start steps) → IfNone answer (steps ≡ Some profile.steps)
        → ProfilesTo rules text start memo steps
        (Profiled (end_of answer) profile.steps (names rules) profile.rules.items)
    by answer None there some is called enough exact stopped more limit = absurd (some refl)
    by (Some answer) (Some from) there some is called enough exact stopped more limit =
        let r = is.1.0 in
        let ended = ap (λ (p : Parsed). Profiled (parsed_end p) profile.steps (names rules) profile.rules.items) is.1.2
        ∙ same-end set r.result profile.steps (names rules) profile.rules.items in
        let own = ap end_of_run is.1.2 ∙ same-own set r.result in
        subst (λ (reply : Reply). ProfilesTo rules text start memo steps reply) (sym ended)
        (has_profile within enough there (is.0, is.1.1) (taken, exact) allowed called.1 called.2
        (λ some. let steps = called.3 some in (
          steps.0,
          steps.1,
          subst (λ (n : ℕ). profile.steps ≡ saturated (steps.0 + n)) own steps.2,
        ))
        called.4)
    by None (Some from) there some is called enough exact stopped more limit =
        steps_over_limit within there limit more stopped.1 stopped.2 stopped.3
