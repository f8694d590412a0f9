-- Profiles from counts of calls.
use Rattle.std.proofs.Common.{◌≡◌, ◌↔◌, ◌≤◌, ℕ, ◌+◌, ◌<◌, inl, inr, true, Contains, IfSome, List, [], ◌∷◌, ◌++◌, length, get_or, nat_cmp}
use Rattle.std.proofs.Common.{None, Option, Some, refl, sym, ◌∙◌, subst, arith}
use Rattle.std.specs.List.{dedup}
use Rattle.std.specs.List.Sorted.{IsSorted, IsStrictlyIncreasing}
use Rattle.std.specs.Prelude.{IsPermutation}
use Rattle.std.proofs.lemmas.Bool.{cases_eq, cases_lt}
use Rattle.std.proofs.lemmas.List.{get_or_append_left, get_or_push}
use Rattle.std.proofs.lemmas.List.Kept.{Contains-dedup_nat, Contains-from_dedup}
use Rattle.std.proofs.lemmas.List.Sorted.{Contains-permutation}
use Rattle.std.proofs.Math.Dec.{eqb}
use Rattle.peg_machine.specs.Traced.{GetsCalls}
use Rattle.peg_machine.specs.declared.answer.Answer.{Answer}
use Rattle.peg_semantics.specs.Record.{RuleCall}
use Rattle.peg_semantics.specs.Rules.{Rule}
use Rattle.peg_parser.specs.Calls.{TracesCallsInOrder, TracesCallsOf, TracesCallsSoFar}
use Rattle.peg_profile.specs.Counts.{HasCounted}
use Rattle.peg_profile.specs.Positions.{positions_of}
use Rattle.peg_profile.specs.Profiles.{AreProfilesOf, AreProfilesOfParse, AreProfilesSoFar, IsProfileOf}
use Rattle.peg_profile.specs.declared.counts.CallCounts.{CallCounts}
use Rattle.peg_profile.specs.declared.counts.RuleProfile.{RuleProfile}

-- sorted positions without repetitions are the same positions
pub same-positions : (positions sorted distinct : List ℕ) → IsPermutation positions sorted → IsPermutation sorted positions
    → distinct ≡ dedup eqb sorted → (n : ℕ) → (Contains distinct n ↔ Contains positions n)
same-positions positions sorted distinct there back is n = (
  λ has. Contains-permutation sorted positions n back (Contains-from_dedup eqb sorted n (subst (λ (l : List ℕ). Contains l n) is has)),
  λ has. subst (λ (l : List ℕ). Contains l n) (sym is) (Contains-dedup_nat sorted n (Contains-permutation positions sorted n there has)),
)

-- the profile of a rule without calls
pub no-calls : (positions : List ℕ) (profile : RuleProfile) → positions ≡ [] → profile.calls ≡ 0 → profile.places ≡ 0
    → IsProfileOf positions profile
no-calls positions profile none calls places =
    subst (λ (l : List ℕ). IsProfileOf l profile) (sym none)
    (record {
      calls = calls;
      places = ([], (λ k below. absurd (omega (arith, below))), (λ n. ((λ has. has), λ has. has)), sym places);
    })

-- one more rule has its profile
pub profile-pushed : (calls : List RuleCall) (profiles : List RuleProfile) (index : ℕ) (profile : RuleProfile)
    → length profiles ≡ index
    → ((rule : ℕ) (d : RuleProfile) → rule < index → IsProfileOf (positions_of rule calls) (get_or profiles rule d))
    → IsProfileOf (positions_of index calls) profile
    → (rule : ℕ) (d : RuleProfile) → rule < index + 1
    → IsProfileOf (positions_of rule calls) (get_or (profiles ++ profile ∷ []) rule d)
profile-pushed calls profiles index profile counted done last rule d below = elim (cases_lt rule index) [
  | inl before ↦
      subst (IsProfileOf (positions_of rule calls))
      (sym (get_or_append_left profiles (profile ∷ []) d rule (omega (arith, before, counted)))) (done rule d before)
  | inr past ↦
      let here : index ≡ rule = omega (arith, past, below) in
      subst (IsProfileOf (positions_of rule calls)) (sym (get_or_push profiles profile d rule (counted ∙ here)))
      (subst (λ (k : ℕ). IsProfileOf (positions_of k calls) profile) here last)
]

module _ (rules : List Rule) (text : List ℕ) (memo : ℕ) (old new : CallCounts) (profiles : List RuleProfile)
    (begun : HasCounted old [])
    (right : (calls : List RuleCall) → HasCounted new calls → AreProfilesOf (length rules) calls profiles) where
  -- the profiles of the calls that a tracer got
  pub ended-profiles : (name : Option (List ℕ)) (answer : Answer)
      → IfSome name (λ start. TracesCallsOf rules text start answer (GetsCalls true HasCounted old new))
      → (memo ≡ 0 → IfSome name (λ start. TracesCallsInOrder rules text start (GetsCalls true HasCounted old new)))
      → IfSome name (λ start. AreProfilesOfParse rules text start memo answer.outcome.result answer.steps profiles)
  ended-profiles None answer traced ordered = tt
  ended-profiles (Some start) answer traced ordered = elim (cases_eq memo 0) [
    | inl none ↦
        let all = ordered none in (
          all.0.calls,
          (all.0, all.1, λ call. ((λ has. has), λ has. has)),
          (λ _. (all.0, all.1, refl)),
          (λ some. absurd (some none)),
          right all.0.calls (all.2 refl [] begun),
        )
    | inr some ↦ (
      traced.0.calls,
      traced.0.of_record,
      (λ none. absurd (some none)),
      (λ _. traced.0.steps),
      right traced.0.calls (traced.1 refl [] begun),
    )
  ]

  -- the profiles of the calls that it got before the limit
  pub stopped-profiles : (name : Option (List ℕ)) (max_steps : Option ℕ)
      → IfSome name (λ start. TracesCallsSoFar rules text start memo max_steps (GetsCalls true HasCounted old new))
      → IfSome name (λ start. AreProfilesSoFar rules text start memo max_steps profiles)
  stopped-profiles None max_steps traced = tt
  stopped-profiles (Some start) max_steps traced =
      (traced.0, traced.2, traced.3, right traced.0 (traced.1 refl [] begun))
