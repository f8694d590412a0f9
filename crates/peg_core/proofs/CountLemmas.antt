-- The iterations of a count are appended to other forms, the innermost first.
use Rattle.std.proofs.Common.{◌≡◌, ℕ, zero, suc, ◌-◌, ◌<◌, [], ◌∷◌, ◌++◌, length}
use Rattle.std.proofs.Common.{sym, ap, ◌∙◌, subst, append_assoc}
use Rattle.std.proofs.lemmas.List.{get_or_at}
use Rattle.peg_core.specs.CoreForm.{CoreForm, Empty, Seq, Choice, unfolded}
use Rattle.peg_core.specs.CoreParts.{rounds_of}
use Rattle.peg_core.specs.Appending.{Appends}
use Rattle.peg_core.specs.Layout.{Layout, form_at}
use Rattle.peg_core.proofs.LaidLemmas.{Appends-one, Appends-then, form_at-kept, pushed}

-- how many of the iterations from the innermost on must match
abbrev pub needed : (min max done : ℕ) → ℕ
needed min max done = min - (max - done)

-- the empty form and these iterations were appended, and this is the number of the last
abbrev pub LaysRounds : Layout → (part least most number : ℕ) → Layout → Type 0
LaysRounds old part least most number new =
    let form = form_at old.forms part in
    Appends old (Empty ∷ rounds_of form least most) [] (unfolded form least most) number new

module _ (old mid new : Layout) (part least most rest number : ℕ) (within : part < length old.forms)
    (so_far : LaysRounds old part least most rest mid)
    (put : new ≡ pushed mid (Seq (form_at mid.forms part) (form_at mid.forms rest)))
    (last : number ≡ length mid.forms) where
  abbrev form : CoreForm
  form = form_at old.forms part

  abbrev round : CoreForm
  round = Seq form (unfolded form least most)

  -- the part, and then the iterations so far
  one-more : Appends old (Empty ∷ (rounds_of form least most ++ round ∷ [])) [] round number new
  one-more =
      let before = Empty ∷ rounds_of form least most in
      let is : Seq (form_at mid.forms part) (form_at mid.forms rest) ≡ round =
      λ i. Seq (form_at-kept old mid before part so_far.forms within i) (so_far.last i) in
      Appends-then old mid new before (round ∷ []) [] (unfolded form least most) round rest number so_far
      (Appends-one mid new round number (put ∙ ap (pushed mid) is) last)

  -- one more iteration that must match
  pub needed-more : LaysRounds old part (suc least) (suc most) number new
  needed-more = one-more

-- or else nothing: one more iteration that need not match
pub optional-more : (old mid later new : Layout) (part most rest round nothing number : ℕ) → part < length old.forms
    → nothing ≡ length old.forms → LaysRounds old part zero most rest mid
    → later ≡ pushed mid (Seq (form_at mid.forms part) (form_at mid.forms rest)) → round ≡ length mid.forms
    → new ≡ pushed later (Choice (form_at later.forms round) (form_at later.forms nothing)) → number ≡ length later.forms
    → LaysRounds old part zero (suc most) number new
optional-more old mid later new part most rest round nothing number within first so_far put last more end =
    let form = form_at old.forms part in
    let before = rounds_of form zero most in
    let some = Seq form (unfolded form zero most) in
    let whole : CoreForm = Choice some Empty in
    let one = one-more old mid later part zero most rest round within so_far put last in
    let empty : form_at later.forms nothing ≡ Empty =
    ap (λ forms. form_at forms nothing) one.forms
    ∙ get_or_at old.forms Empty (before ++ some ∷ []) Empty nothing (sym first) in
    let is : Choice (form_at later.forms round) (form_at later.forms nothing) ≡ whole =
    λ i. Choice (one.last i) (empty i) in
    let both = Appends-then old later new (Empty ∷ (before ++ some ∷ [])) (whole ∷ []) [] some whole round number one
    (Appends-one later new whole number (more ∙ ap (pushed later) is) end) in
    subst (λ forms. Appends old (Empty ∷ forms) [] whole number new) (append_assoc before (some ∷ []) (whole ∷ [])) both
