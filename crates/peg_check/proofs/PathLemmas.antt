-- Paths grow at their ends. A path that comes back to one of its rules is a left cycle from that rule on.
use Rattle.std.proofs.Common.{◌≡◌, ◌≢◌, ℕ, zero, suc, ◌+◌, ◌-◌, ◌<◌, All, List, [], ◌∷◌, ◌++◌, Option, None, Some, drop, length, get_or, slice_get, refl, sym, ◌∙◌, subst, arith}
use Rattle.std.proofs.lemmas.List.{get_or-drop, length-drop}
use Rattle.std.proofs.lemmas.List.Elements.{All-cons, All-nil}
use Rattle.std.proofs.lemmas.List.Kept.{AllPairs-cons}
use Rattle.std.proofs.lemmas.List.Quantifiers.{all_pairs_push}
use Rattle.std.proofs.lemmas.Option.{slice_get_within}
use Rattle.peg_core.specs.CoreForm.{CoreForm}
use Rattle.peg_core.specs.CoreLoops.{CoreCanCallFirst, CoreLeftCalls, IsCoreChain, IsCoreLeftCycle}
use Rattle.peg_core.specs.CoreOutcomes.{BodyIs}
use Rattle.peg_check.specs.Paths.{IsPath, IsFrom}
use Rattle.peg_check.specs.Verdicts.{AllDiffer, IsSimpleLeftCycle}

module _ (bodies : List CoreForm) where
  turn-push : (before : ℕ) (path : List ℕ) (rule next : ℕ) → IsCoreChain bodies before (path ++ rule ∷ [])
      → CoreLeftCalls bodies rule next → IsCoreChain bodies before ((path ++ rule ∷ []) ++ next ∷ [])
  turn-push before [] rule next turn meets = (turn.0, (meets, tt))
  turn-push before (one ∷ path) rule next turn meets = (turn.0, turn-push one path rule next turn.1 meets)

  pub IsPath-push : (path : List ℕ) (rule next : ℕ) → IsPath bodies (path ++ rule ∷ []) → CoreLeftCalls bodies rule next
      → IsPath bodies ((path ++ rule ∷ []) ++ next ∷ [])
  IsPath-push [] rule next is meets = (meets, tt)
  IsPath-push (one ∷ path) rule next is meets = turn-push one path rule next is meets

  tail-path : (rule : ℕ) (path : List ℕ) → IsCoreChain bodies rule path → IsPath bodies path
  tail-path rule [] turn = tt
  tail-path rule (next ∷ path) turn = turn.1

  cycle-at : (path : List ℕ) (rule at : ℕ) → IsPath bodies (path ++ rule ∷ []) → at < length path → get_or path at 0 ≡ rule
      → IsCoreLeftCycle bodies (drop at path)
  cycle-at [] rule at is within there = absurd (omega arith)
  cycle-at (one ∷ path) rule zero is within there =
      subst (λ r. IsCoreChain bodies one (path ++ r ∷ [])) (sym there) is
  cycle-at (one ∷ path) rule (suc at) is within there =
      cycle-at path rule at (tail-path one (path ++ rule ∷ []) is) (omega arith) there

  pub cycle-from : (path : List ℕ) (rule : ℕ) (rest : List ℕ) → IsPath bodies (path ++ rule ∷ []) → IsFrom path rule rest
      → IsCoreLeftCycle bodies rest
  cycle-from path rule rest is from =
      subst (IsCoreLeftCycle bodies) (sym from.3) (cycle-at path rule from.0 is from.1 from.2)

-- ---- numbers that differ

pub AllDiffer-push : (numbers : List ℕ) (next : ℕ) → AllDiffer numbers → All (λ number. number ≢ next) numbers
    → AllDiffer (numbers ++ next ∷ [])
AllDiffer-push numbers next differ apart =
    all_pairs_push (λ first second. first ≢ second) numbers next differ (λ k d within. apart k d within)

pub AllDiffer-cons : (next : ℕ) (numbers : List ℕ) → All (λ number. next ≢ number) numbers → AllDiffer numbers
    → AllDiffer (next ∷ numbers)
AllDiffer-cons next numbers apart differ = AllPairs-cons (λ first second. first ≢ second) next numbers apart differ

AllDiffer-drop : (numbers : List ℕ) (at : ℕ) → AllDiffer numbers → AllDiffer (drop at numbers)
AllDiffer-drop numbers at differ i j d less within =
    let counted : length (drop at numbers) ≡ length numbers - at = length-drop at numbers in
    let apart = differ (at + i) (at + j) d (omega arith) (omega (arith, counted)) in
    λ same. apart (sym (get_or-drop at numbers i d) ∙ (same ∙ get_or-drop at numbers j d))

pub simple-cycle-from : (bodies : List CoreForm) (path : List ℕ) (rule : ℕ) (rest : List ℕ)
    → IsPath bodies (path ++ rule ∷ []) → AllDiffer path → IsFrom path rule rest → IsSimpleLeftCycle bodies rest
simple-cycle-from bodies path rule rest is differ from =
    (cycle-from bodies path rule rest is from, subst AllDiffer (sym from.3) (AllDiffer-drop path from.0 differ))

-- ---- the rules of a cycle have bodies

pub has-body : (bodies : List CoreForm) (P : CoreForm → Type 0) (rule : ℕ) → BodyIs P (slice_get bodies rule)
    → rule < length bodies
has-body bodies P rule is = by (slice_get bodies rule) refl is
  where
    by : (body : Option CoreForm) → slice_get bodies rule ≡ body → BodyIs P body → rule < length bodies
    by None there none = absurd none
    by (Some body) there some = slice_get_within bodies rule body there

turn-bodies : (bodies : List CoreForm) (before last : ℕ) (rules : List ℕ)
    → IsCoreChain bodies before (rules ++ last ∷ []) → All (λ rule. rule < length bodies) (before ∷ rules)
turn-bodies bodies before last [] turn =
    All-cons (λ rule. rule < length bodies) before [] (has-body bodies (λ body. CoreCanCallFirst bodies body last) before turn.0)
    (All-nil (λ rule. rule < length bodies))
turn-bodies bodies before last (next ∷ rules) turn =
    All-cons (λ rule. rule < length bodies) before (next ∷ rules)
    (has-body bodies (λ body. CoreCanCallFirst bodies body next) before turn.0) (turn-bodies bodies next last rules turn.1)

pub cycle-bodies : (bodies : List CoreForm) (path : List ℕ) → IsCoreLeftCycle bodies path
    → All (λ rule. rule < length bodies) path
cycle-bodies bodies [] cycle = absurd cycle
cycle-bodies bodies (rule ∷ more) cycle = turn-bodies bodies rule rule more cycle
