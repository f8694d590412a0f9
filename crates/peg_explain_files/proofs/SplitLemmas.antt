-- The parts of a list, as one more element is read.
use Rattle.std.proofs.Common.{◌≡◌, ◌∙◌, Bool, true, false, cond, List, [], ◌∷◌, ◌++◌, ap, append_assoc, append-nil, refl, sym}
use Rattle.std.specs.List.{onto_first, slice_split}

module _ {X : Type 0} (p : X → Bool) where
  -- the parts with one more element in the last part
  abbrev onto_last : X → List (List X) → List (List X)
  onto_last y [] = (y ∷ []) ∷ []
  onto_last y (part ∷ []) = (part ++ y ∷ []) ∷ []
  onto_last y (part ∷ next ∷ parts) = part ∷ onto_last y (next ∷ parts)

  -- the parts after one more element, by whether it is an end
  abbrev split_step : Bool → X → List (List X) → List (List X)
  split_step true y parts = parts ++ [] ∷ []
  split_step false y parts = onto_last y parts

  -- there is a part
  slice_split-some : (xs : List X) → (part : List X) × (parts : List (List X)) × (slice_split p xs ≡ part ∷ parts)
  slice_split-some [] = ([], [], refl)
  slice_split-some (x ∷ xs) =
      let more = slice_split-some xs in
      by (p x) more.0 more.1 (slice_split p xs) more.2
    where
      by : (b : Bool) (first : List X) (others all : List (List X)) → all ≡ first ∷ others
          → (part : List X) × (parts : List (List X)) × (cond b ([] ∷ all) (onto_first x all) ≡ part ∷ parts)
      by true first others all is = ([], all, refl)
      by false first others all is = (x ∷ first, others, ap (onto_first x) is)

  -- an element before the list and one after it
  step-cons : (b c : Bool) (x y : X) (part : List X) (parts : List (List X))
      → cond b ([] ∷ split_step c y (part ∷ parts)) (onto_first x (split_step c y (part ∷ parts)))
      ≡ split_step c y (cond b ([] ∷ part ∷ parts) (onto_first x (part ∷ parts)))
  step-cons true true x y part parts = refl
  step-cons false true x y part parts = refl
  step-cons true false x y part parts = refl
  step-cons false false x y part [] = refl
  step-cons false false x y part (next ∷ parts) = refl

  slice_split-step : (xs : List X) (y : X) → slice_split p (xs ++ y ∷ []) ≡ split_step (p y) y (slice_split p xs)
  slice_split-step [] y = by (p y)
    where
      by : (b : Bool) → cond b ([] ∷ [] ∷ []) (onto_first y ([] ∷ [])) ≡ split_step b y ([] ∷ [])
      by true = refl
      by false = refl
  slice_split-step (x ∷ xs) y =
      let some = slice_split-some xs in
      ap (λ (l : List (List X)). cond (p x) ([] ∷ l) (onto_first x l)) (slice_split-step xs y ∙ ap (split_step (p y) y) some.2)
      ∙ (step-cons (p x) (p y) x y some.0 some.1
      ∙ ap (λ (l : List (List X)). split_step (p y) y (cond (p x) ([] ∷ l) (onto_first x l))) (sym some.2))

  onto_last-push : (y : X) (parts : List (List X)) (last : List X)
      → onto_last y (parts ++ last ∷ []) ≡ parts ++ (last ++ y ∷ []) ∷ []
  onto_last-push y [] last = refl
  onto_last-push y (part ∷ []) last = refl
  onto_last-push y (part ∷ next ∷ parts) last = ap (λ (l : List (List X)). part ∷ l) (onto_last-push y (next ∷ parts) last)

  -- an end begins a new part
  pub slice_split-push_end : (xs : List X) (y : X) (done : List (List X)) (last : List X) → p y ≡ true
      → slice_split p xs ≡ done ++ last ∷ [] → slice_split p (xs ++ y ∷ []) ≡ done ++ last ∷ [] ++ [] ∷ []
  slice_split-push_end xs y done last is parts =
      slice_split-step xs y ∙ (ap (λ b. split_step b y (slice_split p xs)) is ∙ ap (λ (l : List (List X)). l ++ [] ∷ []) parts)

  -- another element is one more of the last part
  pub slice_split-push_other : (xs : List X) (y : X) (done : List (List X)) (last : List X) → p y ≡ false
      → slice_split p xs ≡ done ++ last ∷ [] → slice_split p (xs ++ y ∷ []) ≡ done ++ (last ++ y ∷ []) ∷ []
  slice_split-push_other xs y done last is parts =
      slice_split-step xs y
      ∙ (ap (λ b. split_step b y (slice_split p xs)) is ∙ (ap (onto_last y) parts ∙ onto_last-push y done last))

  -- the parts before the last one stay
  pub slice_split-more : (rest xs : List X) (done : List (List X)) (last : List X) → slice_split p xs ≡ done ++ last ∷ []
      → (more : List (List X)) × (slice_split p (xs ++ rest) ≡ done ++ more)
  slice_split-more [] xs done last parts = (last ∷ [], ap (slice_split p) (append-nil xs) ∙ parts)
  slice_split-more (y ∷ rest) xs done last parts =
      by (p y) refl (λ before parts_before last_before is. slice_split-more rest before parts_before last_before is)
    where
      joined : (more : List (List X)) → slice_split p (xs ++ y ∷ [] ++ rest) ≡ more → slice_split p (xs ++ y ∷ rest) ≡ more
      joined more is = ap (slice_split p) (sym (append_assoc xs (y ∷ []) rest)) ∙ is

      by : (b : Bool) → p y ≡ b
          → ((before : List X) (parts_before : List (List X)) (last_before : List X)
          → slice_split p before ≡ parts_before ++ last_before ∷ []
          → (more : List (List X)) × (slice_split p (before ++ rest) ≡ parts_before ++ more))
          → (more : List (List X)) × (slice_split p (xs ++ y ∷ rest) ≡ done ++ more)
      by true is again =
          let later = again (xs ++ y ∷ []) (done ++ last ∷ []) [] (slice_split-push_end xs y done last is parts) in
          (last ∷ later.0, joined _ (later.1 ∙ append_assoc done (last ∷ []) later.0))
      by false is again =
          let later = again (xs ++ y ∷ []) done (last ++ y ∷ []) (slice_split-push_other xs y done last is parts) in
          (later.0, joined _ later.1)
