-- Each event preserves that the pairs traced have a memo entry or are active, so a new call was never traced.
use Rattle.std.proofs.Common.{◌≡◌, ◌≢◌, ◌⊎◌, inl, inr, List, [], ◌∷◌, ◌++◌, All, Contains, subst}
use Rattle.std.proofs.lemmas.List.Elements.{All-head, All-tail, Contains-append_cases}
use Rattle.peg_semantics.specs.Record.{Record, Test, RuleCall}
use Rattle.peg_memo.specs.MemoMap.{MemoMap}
use Rattle.peg_runs.specs.Local.{Effects, SavedChoice}
use Rattle.peg_machine.specs.Packrat.{IsOnStack, IsInMemo, AreInMemoOrActive}
use Rattle.peg_runs.specs.Running.{RunContext}
use Rattle.peg_runs.specs.PartialRuns.{ActiveCall, Mode, PartialRun}
use Rattle.peg_runs.proofs.AccountLemmas.{one_pair_on}
use Rattle.peg_runs.proofs.NotedLemmas.{head_or_tail, not_in_none}

-- no call below the newest has its pair
not_on_stack : (pair : RuleCall) (below : List ActiveCall) → All (λ (other : ActiveCall). other.frame.pair ≢ pair) below
    → IsOnStack below pair → ⊥
not_on_stack pair [] others on = on
not_on_stack pair (active ∷ below) others (inl same) =
    All-head (λ (other : ActiveCall). other.frame.pair ≢ pair) active below others same
not_on_stack pair (active ∷ below) others (inr on) =
    not_on_stack pair below (All-tail (λ (other : ActiveCall). other.frame.pair ≢ pair) active below others) on

-- A new call without a memo entry was never traced.
pub never_shown : (stored : MemoMap) (context : RunContext) (start : RuleCall) (answer : Record) (tests : List Test) (calls : List RuleCall)
    (to_come : Effects) (mode : Mode) (active : ActiveCall) (below : List ActiveCall) (traced : List RuleCall)
    → PartialRun context start answer tests calls to_come mode (active ∷ below) → AreInMemoOrActive stored traced below
    → (IsInMemo stored active.frame.pair → ⊥) → Contains traced active.frame.pair → ⊥
never_shown stored context start answer tests calls to_come mode active below traced partial_run are unheld has =
    elim (are active.frame.pair has) as (λ _. ⊥) [
      | inl is ↦ unheld is
      | inr on ↦ not_on_stack active.frame.pair below
          (one_pair_on context start answer tests calls to_come mode active below partial_run) on
    ]

-- a new call is traced and active
pub begins_held : (stored : MemoMap) (traced : List RuleCall) (active : ActiveCall) (below : List ActiveCall)
    → AreInMemoOrActive stored traced below → AreInMemoOrActive stored (traced ++ active.frame.pair ∷ []) (active ∷ below)
begins_held stored traced active below are pair has =
    by (Contains-append_cases traced (active.frame.pair ∷ []) pair has)
  where
    last : (active.frame.pair ≡ pair) ⊎ Contains [] pair → active.frame.pair ≡ pair
    last (inl same) = same
    last (inr none) = absurd (not_in_none pair none)

    before : IsInMemo stored pair ⊎ IsOnStack below pair → IsInMemo stored pair ⊎ IsOnStack (active ∷ below) pair
    before (inl is) = inl is
    before (inr on) = inr (inr on)

    by : Contains traced pair ⊎ Contains (active.frame.pair ∷ []) pair
        → IsInMemo stored pair ⊎ IsOnStack (active ∷ below) pair
    by (inl has) = before (are pair has)
    by (inr here) = inr (inl (last (head_or_tail active.frame.pair [] pair here)))

-- a call that has ended has a memo entry
pub ends_held : (stored more_held : MemoMap) (traced : List RuleCall) (active : ActiveCall) (below : List ActiveCall)
    → ((pair : RuleCall) → IsInMemo stored pair → IsInMemo more_held pair) → IsInMemo more_held active.frame.pair
    → AreInMemoOrActive stored traced (active ∷ below) → AreInMemoOrActive more_held traced below
ends_held stored more_held traced active below may_store is are pair has = by (are pair has)
  where
    by : IsInMemo stored pair ⊎ IsOnStack (active ∷ below) pair → IsInMemo more_held pair ⊎ IsOnStack below pair
    by (inl holds) = inl (may_store pair holds)
    by (inr (inl same)) = inl (subst (λ (p : RuleCall). IsInMemo more_held p) same is)
    by (inr (inr on)) = inr on

-- choice points don't matter
pub ways_held : (stored : MemoMap) (traced : List RuleCall) (active : ActiveCall) (choice_points : List SavedChoice) (below : List ActiveCall)
    → AreInMemoOrActive stored traced (active ∷ below)
    → AreInMemoOrActive stored traced (record active { choice_points = choice_points } ∷ below)
ways_held stored traced active choice_points below are = are
