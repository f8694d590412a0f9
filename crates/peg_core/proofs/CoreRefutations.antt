-- If the forms in the rules' bodies are well-formed, there is no empty loop and no left cycle, since rounds decrease
-- along left calls.
use Rattle.std.proofs.Common.{◌≡◌, ℕ, zero, suc, ◌<◌, ◌≤◌, inl, inr, List, [], ◌∷◌, ◌++◌, Option, None, Some, slice_get, refl, sym, subst, arith}
use Rattle.peg_bytes.specs.Extent.{Extent}
use Rattle.peg_core.specs.CoreForm.{CoreForm, Empty, Test, Rule, Seq, Choice, Star, Not}
use Rattle.peg_core.specs.CoreLoops.{CoreCanCallFirst, CoreLeftCalls, IsCoreChain, IsCoreEmptyLoop, IsCoreLeftCycle, IsSubformOf, IsSubformOfBody}
use Rattle.peg_core.specs.CoreOutcomes.{CoreGivesNothing, BodyIs, IsCoreWellFormedIn, IsCoreWellFormed}
use Rattle.peg_core.proofs.SubformLemmas.{subform-itself}

-- ---- empty loops

pub star-refuted : (bodies : List CoreForm) (part : CoreForm) (origin : Extent) → CoreGivesNothing bodies part
    → IsCoreWellFormed bodies (Star part origin) → ⊥
unfolding IsCoreWellFormedIn
star-refuted bodies part origin gives (zero, is) = is
star-refuted bodies part origin gives (suc n, is) = is.1 gives

-- ---- left cycles

module _ (bodies : List CoreForm) where
  -- a rule's body is well-formed in fewer rounds
  abbrev pub InFewer : (n rule : ℕ) → Type 0
  InFewer n rule = (k : ℕ) × (k < n) × BodyIs (IsCoreWellFormedIn bodies k) (slice_get bodies rule)

  more-rounds : (n rule : ℕ) → InFewer n rule → InFewer (suc n) rule
  more-rounds n rule h = let less : h.0 < n = h.1 in (h.0, omega arith, h.2)

  -- a rule that a well-formed form left-calls is well-formed in fewer rounds
  pub met-in-fewer : (n : ℕ) (form : CoreForm) (rule : ℕ) → IsCoreWellFormedIn bodies n form → CoreCanCallFirst bodies form rule
      → InFewer n rule
  unfolding IsCoreWellFormedIn
  met-in-fewer zero form rule is meets = absurd is
  met-in-fewer (suc n) Empty rule is meets = absurd meets
  met-in-fewer (suc n) (Test set terminal) rule is meets = absurd meets
  met-in-fewer (suc n) (Rule used) rule is meets =
      (n, omega arith, subst (λ r. BodyIs (IsCoreWellFormedIn bodies n) (slice_get bodies r)) meets is)
  met-in-fewer (suc n) (Seq first rest) rule is (inl meets) =
      more-rounds n rule (met-in-fewer n first rule is.0 meets)
  met-in-fewer (suc n) (Seq first rest) rule is (inr meets) =
      more-rounds n rule (met-in-fewer n rest rule (is.1 meets.0) meets.1)
  met-in-fewer (suc n) (Choice first rest) rule is (inl meets) =
      more-rounds n rule (met-in-fewer n first rule is.0 meets)
  met-in-fewer (suc n) (Choice first rest) rule is (inr meets) =
      more-rounds n rule (met-in-fewer n rest rule is.1 meets)
  met-in-fewer (suc n) (Star part origin) rule is meets = more-rounds n rule (met-in-fewer n part rule is.0 meets)
  met-in-fewer (suc n) (Not part) rule is meets = more-rounds n rule (met-in-fewer n part rule is meets)

  body-met : (n rule : ℕ) (body : Option CoreForm) → BodyIs (IsCoreWellFormedIn bodies n) body
      → BodyIs (λ form. CoreCanCallFirst bodies form rule) body → InFewer n rule
  body-met n rule None is meets = absurd is
  body-met n rule (Some body) is meets = met-in-fewer n body rule is meets

  fewer-still : (n k rule : ℕ) → k < n → InFewer k rule → InFewer n rule
  fewer-still n k rule less h = let below : h.0 < k = h.1 in (h.0, omega arith, h.2)

  -- and so is the last rule of a path of left calls
  path-falls : (rules : List ℕ) (n before last : ℕ) → BodyIs (IsCoreWellFormedIn bodies n) (slice_get bodies before)
      → IsCoreChain bodies before (rules ++ last ∷ []) → InFewer n last
  path-falls [] n before last is turn = body-met n last (slice_get bodies before) is turn.0
  path-falls (rule ∷ more) n before last is turn =
      let here = body-met n rule (slice_get bodies before) is turn.0 in
      fewer-still n here.0 last here.1 (path-falls more here.0 rule last here.2 turn.1)

  -- so rounds would decrease forever along a cycle
  pub no-cycle : (bound n rule : ℕ) (more : List ℕ) → n ≤ bound → BodyIs (IsCoreWellFormedIn bodies n) (slice_get bodies rule)
      → IsCoreChain bodies rule (more ++ rule ∷ []) → ⊥
  no-cycle zero n rule more few is turn =
      let here = path-falls more n rule rule is turn in
      let less : here.0 < n = here.1 in
      absurd (omega arith)
  no-cycle (suc bound) n rule more few is turn =
      let here = path-falls more n rule rule is turn in
      let less : here.0 < n = here.1 in
      no-cycle bound here.0 rule more (omega arith) here.2 turn

-- the first rule of a cycle left-calls some rule
pub some-turn : (bodies : List CoreForm) (rule : ℕ) (more : List ℕ) → IsCoreChain bodies rule (more ++ rule ∷ [])
    → (next : ℕ) × CoreLeftCalls bodies rule next
some-turn bodies rule [] turn = (rule, turn.0)
some-turn bodies rule (next ∷ more) turn = (next, turn.0)

-- ---- the law

module _ (bodies : List CoreForm) (all : (form : CoreForm) → IsSubformOfBody bodies form → IsCoreWellFormed bodies form) where
  none-loops : (rule : ℕ) (origin : Extent) (body : Option CoreForm) → slice_get bodies rule ≡ body
      → BodyIs (λ form. (part : CoreForm) × (IsSubformOf (Star part origin) form × CoreGivesNothing bodies part)) body → ⊥
  none-loops rule origin None is loops = loops
  none-loops rule origin (Some body) is loops =
      star-refuted bodies loops.0 origin loops.1.1
      (all (Star loops.0 origin) (rule, subst (BodyIs (IsSubformOf (Star loops.0 origin))) (sym is) loops.1.0))

  pub no-empty-loop : (rule : ℕ) (origin : Extent) → IsCoreEmptyLoop bodies rule origin → ⊥
  no-empty-loop rule origin loops = none-loops rule origin (slice_get bodies rule) refl loops

  body-fine : (rule next : ℕ) (body : Option CoreForm) → slice_get bodies rule ≡ body
      → BodyIs (λ form. CoreCanCallFirst bodies form next) body
      → (n : ℕ) × BodyIs (IsCoreWellFormedIn bodies n) (slice_get bodies rule)
  body-fine rule next None is meets = absurd meets
  body-fine rule next (Some body) is meets =
      let fine = all body (rule, subst (BodyIs (IsSubformOf body)) (sym is) (subform-itself body)) in
      (fine.0, subst (BodyIs (IsCoreWellFormedIn bodies fine.0)) (sym is) fine.1)

  pub no-left-cycle : (path : List ℕ) → IsCoreLeftCycle bodies path → ⊥
  no-left-cycle [] cycle = cycle
  no-left-cycle (rule ∷ more) cycle =
      let met = some-turn bodies rule more cycle in
      let fine = body-fine rule met.0 (slice_get bodies rule) refl met.1 in
      no-cycle bodies fine.0 fine.0 rule more (omega arith) fine.1 cycle
