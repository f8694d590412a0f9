-- The entries of a printed profile, in order; no entry contains a float.
use Rattle.std.proofs.Common.{◌≡◌, ℕ, ◌<◌, List, [], ◌∷◌, length, map, Bool, false, ◌||◌, ◌⊎◌, inl, inr, Option, Some}
use Rattle.std.proofs.Common.{codes, unwrap_or, get_or, refl, subst, suc, sym, ap, ◌∙◌, arith}
use Rattle.std.specs.List.{zip}
use Rattle.std.proofs.lemmas.List.{length-map, get_or-map}
use Rattle.std.proofs.lemmas.Option.{slice_get-map, unwrap_or-slice_get}
use Rattle.std.proofs.lemmas.Slice.Zip.{get_or-zip, length-zip}
use Rattle.serde.specs.Event.{Log, Logs}
use Rattle.serde.specs.Event as event
use Rattle.serde.specs.declared.name.Case.TheVariants.{AsIs}
use Rattle.serde_json.specs.Data.{Members, number, object, unsigned}
use Rattle.serde_json.specs.Events.{SendsMembers, SendsValue, members_len}
use Rattle.serde_json.specs.View.{items_of}
use Rattle.serde_json.specs.Written.{has_float, items_have_float, members_have_float}
use Rattle.peg_semantics.specs.Rules.{Rule, names, name_of}
use Rattle.peg_profile.specs.declared.counts.RuleProfile.{RuleProfile}
use Rattle.peg_json.specs.declared.profile_end.ProfileEnd.{ProfileEnd}
use Rattle.peg_json.specs.declared.profile_end.ProfileEnd.TheVariants.{Matched, Failed, Stopped}
use Rattle.peg_json.specs.ProfileText.{profile_data, profile_members, rule_entries_data, rule_entry_data, with_end}

-- ---- the beginning of a profile

-- of a parse that failed or was stopped
pub failed-begun : (end : ProfileEnd) (rest : Members) (old mid last : Log) → (end ≡ Failed) ⊎ (end ≡ Stopped)
    → Logs old mid (event.map_begins (Some 3)) → members_len rest ≡ 3 → SendsMembers rest mid last
    → SendsValue (object (with_end end rest)) old last
failed-begun end rest old mid last is begins count sent = elim is [
  | inl failed ↦ subst (λ (e : ProfileEnd). SendsValue (object (with_end e rest)) old last) (sym failed) begun
  | inr stopped ↦ subst (λ (e : ProfileEnd). SendsValue (object (with_end e rest)) old last) (sym stopped) begun
]
  where
    begun : SendsValue (object rest) old last
    begun = (mid, subst (λ (n : ℕ). Logs old mid (event.map_begins (Some n))) (sym count) begins, sent)

-- of a parse that matched up to an end
pub matched-begun : (end : ProfileEnd) (to : ℕ) (rest : Members) (old mid named inner last : Log) → end ≡ Matched to
    → Logs old mid (event.map_begins (Some 4)) → members_len rest ≡ 3
    → Logs mid named (event.field_key (codes "consumed") AsIs) → SendsValue (number (unsigned to)) named inner
    → SendsMembers rest inner last → SendsValue (object (with_end end rest)) old last
matched-begun end to rest old mid named inner last is begins count key consumed sent =
    subst (λ (e : ProfileEnd). SendsValue (object (with_end e rest)) old last) (sym is) (
      mid,
      subst (λ (n : ℕ). Logs old mid (event.map_begins (Some (suc n)))) (sym count) begins,
      (named, inner, key, consumed, sent),
    )

-- ---- no floats

-- no entry contains a float
entries-without_floats : (entries : List (List ℕ × RuleProfile)) → items_have_float
    (items_of (map (λ entry. rule_entry_data entry.0 entry.1) entries)) ≡ false
entries-without_floats [] = refl
entries-without_floats (entry ∷ entries) = entries-without_floats entries

end-without_floats : (end : ProfileEnd) (others : Members) → members_have_float others ≡ false
    → members_have_float (with_end end others) ≡ false
end-without_floats (Matched end) others clear = clear
end-without_floats Failed others clear = clear
end-without_floats Stopped others clear = clear

pub profile-without_floats : (end : ProfileEnd) (steps : ℕ) (names : List (List ℕ)) (profiles : List RuleProfile)
    → has_float (profile_data end steps names profiles) ≡ false
profile-without_floats end steps names profiles =
    end-without_floats end (profile_members end steps names profiles)
    (ap (λ (b : Bool). b || false) (entries-without_floats (zip names profiles)))

-- ---- the entries

-- the entry of a rule
pub profile_at : (rules : List Rule) (profiles : List RuleProfile) (rule : ℕ) (name : List ℕ) (other : RuleProfile)
    → rule < length rules → length profiles ≡ length rules → name ≡ name_of rules rule
    → (rule < length (rule_entries_data (names rules) profiles))
    × (get_or (rule_entries_data (names rules) profiles) rule (rule_entry_data [] other)
    ≡ rule_entry_data name (get_or profiles rule other))
profile_at rules profiles rule name other inside same named =
    let pairs = zip (names rules) profiles in
    let count : length (names rules) ≡ length rules = length-map rules (λ r. r.name) in
    let its_name : get_or (names rules) rule [] ≡ name =
    sym (unwrap_or-slice_get (names rules) rule [])
    ∙ (ap (λ (o : Option (List ℕ)). unwrap_or o []) (slice_get-map (λ r. r.name) rules rule) ∙ sym named) in
    let in_names : rule < length (names rules) = omega (arith, count, inside) in
    let in_profiles : rule < length profiles = omega (arith, same, inside) in
    let in_pairs : rule < length pairs = omega (arith, length-zip (names rules) profiles, in_names, in_profiles) in
    let entry = λ (pair : List ℕ × RuleProfile). rule_entry_data pair.0 pair.1 in
    let pair : get_or pairs rule ([], other) ≡ (name, get_or profiles rule other) =
    get_or-zip (names rules) profiles rule ([], other) in_names in_profiles
    ∙ (λ i. (its_name i, get_or profiles rule other)) in (
      omega (arith, length-map pairs entry, in_pairs),
      get_or-map entry pairs rule ([], other) (rule_entry_data [] other) in_pairs ∙ ap entry pair,
    )

-- there are as many entries as rules
pub length-rule_entries : (rules : List Rule) (profiles : List RuleProfile) → length profiles ≡ length rules
    → length (rule_entries_data (names rules) profiles) ≡ length rules
length-rule_entries rules profiles same =
    let entry = λ (pair : List ℕ × RuleProfile). rule_entry_data pair.0 pair.1 in
    omega (
      arith,
      length-map (zip (names rules) profiles) entry,
      length-zip (names rules) profiles,
      length-map rules (λ r. r.name),
      same,
    )
