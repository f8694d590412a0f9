-- Chains of entries grow at their newest ends.
use Rattle.std.proofs.Common.{◌≡◌, ℕ, zero, suc, ◌+◌, ◌<◌, ◌⊎◌, inl, inr, List, [], ◌∷◌, ◌++◌, length, get_or, set, slice_get, Some, refl, sym, ap, ◌∙◌, subst, arith, length-append, add-one}
use Rattle.std.proofs.lemmas.Bool.{cases_eq}
use Rattle.std.proofs.lemmas.List.{get_or_append_left, get_or_at, get_or-set_other, get_or-set_same}
use Rattle.std.proofs.lemmas.Option.{slice_get_within, get_or_from_slice_get, slice_get-get_or}
use Rattle.peg_check.specs.ReverseDeps.{ChainContains, here, there}
use Rattle.peg_check.specs.declared.reverse_deps.Edge.{Edge}

-- an entry stays the same when one is appended
still-there : (entries : List Edge) (e : Edge) (at : ℕ) (entry : Edge) → slice_get entries at ≡ Some entry
    → slice_get (entries ++ e ∷ []) at ≡ Some entry
still-there entries e at entry is =
    let within : at < length entries = slice_get_within entries at entry is in
    let longer : at < length (entries ++ e ∷ []) = omega (arith, length-append entries (e ∷ [])) in
    slice_get-get_or (entries ++ e ∷ []) at entry longer
    ∙ ap (λ (x : Edge). Some x) (get_or_append_left entries (e ∷ []) entry at within ∙ get_or_from_slice_get entries at entry entry is)

-- and the last one is the new one
last-there : (entries : List Edge) (e : Edge) → slice_get (entries ++ e ∷ []) (length entries) ≡ Some e
last-there entries e =
    let longer : length entries < length (entries ++ e ∷ []) = omega (arith, length-append entries (e ∷ [])) in
    slice_get-get_or (entries ++ e ∷ []) (length entries) e longer
    ∙ ap (λ (x : Edge). Some x) (get_or_at entries e [] e (length entries) refl)

-- chains stay
ChainContains-push : (entries : List Edge) (e : Edge) (from dependent : ℕ) → ChainContains entries from dependent → ChainContains (entries ++ e ∷ []) from dependent
ChainContains-push entries e _ _ (here at dependent entry is same) = here at dependent entry (still-there entries e at entry is) same
ChainContains-push entries e _ _ (there at dependent entry is leads) =
    there at dependent entry (still-there entries e at entry is) (ChainContains-push entries e entry.older dependent leads)

-- a chain leads to its newest entry's user, or to the older entries
pub ChainContains-next : (entries : List Edge) (at dependent : ℕ) (entry : Edge) → slice_get entries at ≡ Some entry
    → ChainContains entries (suc at) dependent → (entry.dependent ≡ dependent) ⊎ ChainContains entries entry.older dependent
ChainContains-next entries _ _ entry is (here at dependent other found same) =
    let e : other ≡ entry = let s : Some other ≡ Some entry = sym found ∙ is in cc in
    inl (ap (λ (x : Edge). x.dependent) (sym e) ∙ same)
ChainContains-next entries _ _ entry is (there at dependent other found leads) =
    let e : other ≡ entry = let s : Some other ≡ Some entry = sym found ∙ is in cc in
    inr (subst (λ (x : Edge). ChainContains entries x.older dependent) e leads)

-- a chain from 0 is empty
pub ChainContains-none : (entries : List Edge) (dependent : ℕ) → ChainContains entries zero dependent → ⊥
ChainContains-none entries dependent leads = elim leads [ ]

module _ (newest : List ℕ) (entries grown : List Edge) (part dependent last : ℕ) (within : part < length newest) (entry : Edge)
    (by : entry.dependent ≡ dependent) (older : entry.older ≡ get_or newest part 0) (more : grown ≡ entries ++ entry ∷ [])
    (is_last : last ≡ length entries + 1) where
  from_last : (u : ℕ) → ChainContains (entries ++ entry ∷ []) (suc (length entries)) u → ChainContains grown (get_or (set newest part last) part 0) u
  from_last u leads =
      let from : suc (length entries) ≡ get_or (set newest part last) part 0 = sym (get_or-set_same newest part last 0 within ∙ (is_last ∙ add-one (length entries))) in
      subst (λ n. ChainContains grown n u) from (subst (λ some. ChainContains some (suc (length entries)) u) (sym more) leads)

  -- the new user is in the chain
  pub dependent-added : ChainContains grown (get_or (set newest part last) part 0) dependent
  dependent-added = from_last dependent (here (length entries) dependent entry (last-there entries entry) by)

  -- and so are all earlier users
  pub dependents-kept : (p u : ℕ) → ChainContains entries (get_or newest p 0) u → ChainContains grown (get_or (set newest part last) p 0) u
  dependents-kept p u leads = cases (cases_eq p part)
    where
      cases : (p ≡ part) ⊎ (p ≡ part → ⊥) → ChainContains grown (get_or (set newest part last) p 0) u
      cases (inl same) =
          let chain : ChainContains entries entry.older u = subst (λ n. ChainContains entries n u) (ap (λ j. get_or newest j 0) same ∙ sym older) leads in
          subst (λ j. ChainContains grown (get_or (set newest part last) j 0) u) (sym same)
          (from_last u (there (length entries) u entry (last-there entries entry) (ChainContains-push entries entry entry.older u chain)))
      cases (inr other) =
          subst (λ n. ChainContains grown n u) (sym (get_or-set_other newest part p last 0 other))
          (subst (λ some. ChainContains some (get_or newest p 0) u) (sym more) (ChainContains-push entries entry (get_or newest p 0) u leads))
