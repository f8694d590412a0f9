-- The printed profile of a parse: what each rule did.
use Rattle.std.specs.Prelude.{ℕ, ◌-◌, List, codes, map, Option, None, Some}
use Rattle.std.specs.List.{zip}
use Rattle.serde_json.specs.Data.{Data, Members, unsigned, number, string, array, object, no_members, member}
use Rattle.serde_json.specs.View.{items_of}
use Rattle.peg_machine.specs.declared.answer.Answer.{Answer}
use Rattle.peg_tree.specs.declared.outcome.Parsed.{Parsed}
use Rattle.peg_tree.specs.declared.outcome.Parsed.TheVariants as parse
use Rattle.peg_profile.specs.declared.counts.RuleProfile.{RuleProfile}
use Rattle.peg_json.specs.declared.profile_end.ProfileEnd.{ProfileEnd}
use Rattle.peg_json.specs.declared.profile_end.ProfileEnd.TheVariants.{Matched, Failed, Stopped}

-- The entry of a rule with this name. `again` counts its calls at positions where it had been called before.
abbrev pub rule_entry_data : (name : List ℕ) → RuleProfile → Data
rule_entry_data name profile =
    object (member (codes "again") (number (unsigned (profile.calls - profile.places)))
    (member (codes "calls") (number (unsigned profile.calls))
    (member (codes "places") (number (unsigned profile.places)) (member (codes "rule") (string name) no_members))))

-- the entries of rules with these names, in order
abbrev pub rule_entries_data : (names : List (List ℕ)) → List RuleProfile → List Data
rule_entries_data names profiles = map (λ entry. rule_entry_data entry.0 entry.1) (zip names profiles)

-- how a parse with this result has ended
abbrev pub parsed_end : Parsed → ProfileEnd
parsed_end parse.Failed = Failed
parsed_end (parse.Matched end tree) = Matched end

-- how a parse with this answer has ended; without one, its step limit stopped it
abbrev pub end_of : Option Answer → ProfileEnd
end_of None = Stopped
end_of (Some answer) = parsed_end answer.outcome.result

-- the members of a profile, with the number of consumed bytes first if the parse matched
abbrev pub with_end : ProfileEnd → Members → Members
with_end (Matched end) others = member (codes "consumed") (number (unsigned end)) others
with_end Failed others = others
with_end Stopped others = others

-- the printed result of a parse
abbrev pub end_word : ProfileEnd → List ℕ
end_word (Matched end) = codes "matched"
end_word Failed = codes "failed"
end_word Stopped = codes "stopped"

-- the members but the number of consumed bytes
abbrev pub profile_members : (end : ProfileEnd) → (steps : ℕ) → (names : List (List ℕ)) → List RuleProfile → Members
profile_members end steps names profiles =
    member (codes "result") (string (end_word end))
    (member (codes "rules") (array (items_of (rule_entries_data names profiles)))
    (member (codes "steps") (number (unsigned steps)) no_members))

-- the JSON of the profile of a parse with this end and this number of steps
abbrev pub profile_data : (end : ProfileEnd) → (steps : ℕ) → (names : List (List ℕ)) → List RuleProfile → Data
profile_data end steps names profiles = object (with_end end (profile_members end steps names profiles))

-- the exit status of a profile: 0 for a match, 1 for a failure, 6 if the step limit stopped the parse
abbrev pub status_of_end : ProfileEnd → ℕ
status_of_end (Matched end) = 0
status_of_end Failed = 1
status_of_end Stopped = 6
