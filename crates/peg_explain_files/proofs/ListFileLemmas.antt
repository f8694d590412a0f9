-- The file that lists names.
use Rattle.std.proofs.Common.{◌≡◌, ◌∙◌, ℕ, Bool, true, false, List, [], Option, None, Some, IsSome, ap, codes, if◌then◌else◌, refl, subst, sym}
use Rattle.std.proofs.lemmas.Slice.Eq.{bytes_eq-Decides}
use Rattle.peg_io.specs.NamedFile.{NamedFile, Unspecified, Missing, Holds, Readable, Folder, bytes_of}
use Rattle.peg_explain_files.specs.Names.{IsListingOf, Listing, Unopened, Whole, input_file, is_input, list_file}

module _ (file_at : List ℕ → NamedFile) (input : Option (List ℕ)) (list : Option (List ℕ)) where
  -- without a list nothing is read
  pub no-list : list ≡ None → IsListingOf (list_file file_at input list) (Whole [])
  no-list is = subst (λ (l : Option (List ℕ)). IsListingOf (list_file file_at input l) (Whole [])) (sym is) (refl, tt)

  -- what is read of the input
  pub listed-by_input : (name : List ℕ) (listing : Listing) → list ≡ Some name → is_input name ≡ true
      → IsListingOf (input_file input) listing → IsListingOf (list_file file_at input list) listing
  listed-by_input name listing is text right =
      let file : list_file file_at input list ≡ input_file input = ap (list_file file_at input) is
      ∙ ap (λ (b : Bool). if b then input_file input else file_at name) text in
      subst (λ (f : NamedFile). IsListingOf f listing) (sym file) right

  -- what is read of a file by name
  pub listed-by_name : (name : List ℕ) (listing : Listing) → list ≡ Some name → is_input name ≡ false
      → IsListingOf (file_at name) listing → IsListingOf (list_file file_at input list) listing
  listed-by_name name listing is other right =
      let file : list_file file_at input list ≡ file_at name = ap (list_file file_at input) is
      ∙ ap (λ (b : Bool). if b then input_file input else file_at name) other in
      subst (λ (f : NamedFile). IsListingOf f listing) (sym file) right

-- a list that can't be opened
pub unopened-list : (file : NamedFile) → (IsSome (bytes_of file) → ⊥) → IsListingOf file Unopened
unopened-list Unspecified none = tt
unopened-list (Missing kind) none = refl
unopened-list (Holds bytes) none = absurd (none refl)
unopened-list (Readable bytes) none = absurd (none refl)
unopened-list (Folder names) none = tt

-- whether a name is that of the input
pub is-input : (name : List ℕ) → name ≡ codes "-" → is_input name ≡ true
is-input name is = (bytes_eq-Decides name (codes "-")).1 is

pub not-input : (name : List ℕ) → (name ≡ codes "-" → ⊥) → is_input name ≡ false
not-input name other = by (is_input name) refl
  where
    by : (b : Bool) → is_input name ≡ b → b ≡ false
    by true is = absurd (other ((bytes_eq-Decides name (codes "-")).0 is))
    by false is = refl
