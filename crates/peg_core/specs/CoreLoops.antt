-- Empty loops and left cycles of core forms (Ford 2004, section 3.6). They follow the parts that Ford's rules for
-- well-formed expressions check, up to the names of rules.
use Rattle.std.specs.Prelude.{◌≡◌, ℕ, ◌⊎◌, List, [], ◌∷◌, ◌++◌, slice_get}
use Rattle.peg_bytes.specs.Extent.{Extent}
use Rattle.peg_core.specs.CoreForm.{CoreForm, Empty, Test, Rule, Seq, Choice, Star, Not}
use Rattle.peg_core.specs.CoreOutcomes.{CoreGivesNothing, BodyIs}

-- a form is part of another: it is that form, or part of one of its parts
abbrev pub IsSubformOf : (form whole : CoreForm) → Type 0
IsSubformOf form Empty = form ≡ Empty
IsSubformOf form (Test set terminal) = form ≡ Test set terminal
IsSubformOf form (Rule rule) = form ≡ Rule rule
IsSubformOf form (Seq first rest) = (form ≡ Seq first rest) ⊎ (IsSubformOf form first ⊎ IsSubformOf form rest)
IsSubformOf form (Choice first rest) = (form ≡ Choice first rest) ⊎ (IsSubformOf form first ⊎ IsSubformOf form rest)
IsSubformOf form (Star part origin) = (form ≡ Star part origin) ⊎ IsSubformOf form part
IsSubformOf form (Not part) = (form ≡ Not part) ⊎ IsSubformOf form part

-- a form is part of some rule's body
abbrev pub IsSubformOfBody : List CoreForm → CoreForm → Type 0
IsSubformOfBody bodies form = (rule : ℕ) × BodyIs (IsSubformOf form) (slice_get bodies rule)

-- an empty loop of a rule: a star in its body, written at this span, whose part may succeed without consuming a byte
abbrev pub IsCoreEmptyLoop : List CoreForm → (rule : ℕ) → (origin : Extent) → Type 0
IsCoreEmptyLoop bodies rule origin =
    BodyIs (λ body. (part : CoreForm) × (IsSubformOf (Star part origin) body × CoreGivesNothing bodies part))
    (slice_get bodies rule)

-- a form left-calls a rule: by the abstract outcomes it may call the rule before it consumes a byte
abbrev pub CoreCanCallFirst : List CoreForm → CoreForm → (rule : ℕ) → Type 0
CoreCanCallFirst bodies Empty rule = ⊥
CoreCanCallFirst bodies (Test set terminal) rule = ⊥
CoreCanCallFirst bodies (Rule used) rule = used ≡ rule
CoreCanCallFirst bodies (Seq first rest) rule =
    CoreCanCallFirst bodies first rule ⊎ (CoreGivesNothing bodies first × CoreCanCallFirst bodies rest rule)
CoreCanCallFirst bodies (Choice first rest) rule = CoreCanCallFirst bodies first rule
    ⊎ CoreCanCallFirst bodies rest rule
CoreCanCallFirst bodies (Star part origin) rule = CoreCanCallFirst bodies part rule
CoreCanCallFirst bodies (Not part) rule = CoreCanCallFirst bodies part rule

-- a rule left-calls another: its body does
abbrev pub CoreLeftCalls : List CoreForm → (rule other : ℕ) → Type 0
CoreLeftCalls bodies rule other = BodyIs (λ body. CoreCanCallFirst bodies body other) (slice_get bodies rule)

-- each rule is left-called by the one before it, the first of them by `before`
abbrev pub IsCoreChain : List CoreForm → (before : ℕ) → List ℕ → Type 0
IsCoreChain bodies before [] = Unit {0}
IsCoreChain bodies before (rule ∷ more) = CoreLeftCalls bodies before rule × IsCoreChain bodies rule more

-- a left cycle: some rules, each left-called by the one before it, and the first by the last
abbrev pub IsCoreLeftCycle : List CoreForm → List ℕ → Type 0
IsCoreLeftCycle bodies [] = ⊥
IsCoreLeftCycle bodies (rule ∷ more) = IsCoreChain bodies rule (more ++ rule ∷ [])
