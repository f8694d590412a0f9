-- Profiles of rules: how often a rule is called, and at how many positions.
use Rattle.std.specs.Prelude.{◌≡◌, ◌≢◌, ◌↔◌, ℕ, ◌<◌, List, Contains, Option, length, slice_index_or}
use Rattle.std.specs.List.Sorted.{IsStrictlyIncreasing}
use Rattle.peg_parser.specs.Calls.{AreCallsInOrder, AreCallsOf, AreCallsSoFar, AreFirstCalls, AreStepsOf}
use Rattle.peg_semantics.specs.Record.{RuleCall}
use Rattle.peg_semantics.specs.Rules.{Rule}
use Rattle.peg_tree.specs.declared.outcome.Parsed.{Parsed}
use Rattle.peg_profile.specs.Positions.{positions_of}
use Rattle.peg_profile.specs.declared.counts.RuleProfile.{RuleProfile}

-- a list has this many different elements: as many as a strictly increasing list of the same elements
abbrev pub HasDistinct : List ℕ → (count : ℕ) → Type 0
HasDistinct elements count =
    (distinct : List ℕ) × IsStrictlyIncreasing distinct × ((n : ℕ) → (Contains distinct n ↔ Contains elements n))
    × (length distinct ≡ count)

-- the profile of a rule with calls at these positions
pub record IsProfileOf (positions : List ℕ) (profile : RuleProfile) : Type 0 where
  pub calls : profile.calls ≡ length positions
  pub places : HasDistinct positions profile.places

-- the profile of each rule of a grammar with this many, for these calls
pub record AreProfilesOf (rules : ℕ) (calls : List RuleCall) (profiles : List RuleProfile) : Type 0 where
  pub count : length profiles ≡ rules
  pub each : (rule : ℕ) (d : RuleProfile) → rule < rules
      → IsProfileOf (positions_of rule calls) (slice_index_or profiles rule d)

-- The profiles of a parse that has ended: they are of calls that are those of Ford's record as a set. Without a memo
-- they are these calls, each as often as it is made. With a memo the steps of the parse are those of their bodies.
abbrev pub AreProfilesOfParse : List Rule → List ℕ → (start : List ℕ) → (memo : ℕ) → Parsed → (steps : ℕ)
    → List RuleProfile → Type 0
AreProfilesOfParse rules text start memo result steps profiles =
    (calls : List RuleCall) × AreCallsOf rules text start calls
    × (memo ≡ 0 → AreCallsInOrder rules text start calls)
    × (memo ≢ 0 → AreStepsOf rules text calls result steps) × AreProfilesOf (length rules) calls profiles

-- The profiles of a parse that its step limit stopped: they are of the calls made, which are calls of Ford's record.
-- Without a memo they are the first of these calls, in order.
abbrev pub AreProfilesSoFar : List Rule → List ℕ → (start : List ℕ) → (memo : ℕ) → (max_steps : Option ℕ)
    → List RuleProfile → Type 0
AreProfilesSoFar rules text start memo max_steps profiles =
    (calls : List RuleCall) × AreCallsSoFar rules text start max_steps calls
    × (memo ≡ 0 → AreFirstCalls rules text start calls) × AreProfilesOf (length rules) calls profiles
