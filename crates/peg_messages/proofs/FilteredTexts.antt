-- The texts of the items that pass a test, item by item.
use Rattle.std.proofs.Common.{◌≡◌, ℕ, ◌+◌, ◌<◌, Bool, true, false, if◌then◌else◌, List, ◌∷◌, drop, filter, length, map}
use Rattle.std.proofs.Common.{get_or, ap, sym, ◌∙◌}
use Rattle.std.proofs.lemmas.List.{at_drop_more}

-- the texts from an item on
abbrev pub texts_from : {X : Type 0} → (X → Bool) → (X → List ℕ) → List X → ℕ → List (List ℕ)
texts_from test text items at = map text (filter test (drop at items))

module _ {X : Type 0} (test : X → Bool) (text : X → List ℕ) (items : List X) (at : ℕ) (item : X) where
  from-item : (b : Bool) → at < length items → test (get_or items at item) ≡ b
      → texts_from test text items at
      ≡ map text (if b then get_or items at item ∷ filter test (drop (at + 1) items) else filter test (drop (at + 1) items))
  from-item b less is =
      at_drop_more (λ l. map text (filter test l)) items at item less
      ∙ ap (λ b. map text (if b then get_or items at item ∷ filter test (drop (at + 1) items)
      else filter test (drop (at + 1) items))) is

  -- an item that passes the test is next, and another one isn't
  pub text-next : at < length items → item ≡ get_or items at item → test item ≡ true
      → texts_from test text items at ≡ text item ∷ texts_from test text items (at + 1)
  text-next less here is =
      from-item true less (ap test (sym here) ∙ is)
      ∙ ap (λ i. text i ∷ texts_from test text items (at + 1)) (sym here)

  pub text-left_out : at < length items → item ≡ get_or items at item → test item ≡ false
      → texts_from test text items at ≡ texts_from test text items (at + 1)
  text-left_out less here is = from-item false less (ap test (sym here) ∙ is)
