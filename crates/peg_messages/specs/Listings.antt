-- Describes code: the texts that a `Listing` has seen.
use Rattle.std.specs.Prelude.{◌≡◌, ℕ, ◌+◌, ◌-◌, ◌^◌, ◌≤◌, not, List, ◌++◌, filter, length, map, take}
use Rattle.std.specs.declared.vec.Vec.{Vec}
use Rattle.std.specs.declared.alloc.Global.{Global}
use Rattle.peg_messages.specs.declared.listing.Listing.{Listing}
use Rattle.peg_messages.specs.Listing.{distinct, first_texts, is_among, other_count}

-- the bytes of texts
abbrev pub bytes_of_each : List (Vec ℕ Global) → List (List ℕ)
bytes_of_each texts = map (λ (text : Vec ℕ Global). text.items) texts

-- `texts` are kept and `more` aren't, and with the rest of all texts these are all that is to be listed
pub record IsListing (texts : List (List ℕ)) (more : ℕ) (rest all : List (List ℕ)) : Type 0 where
  pub kept : texts ++ take (64 - length texts) (distinct texts rest) ≡ first_texts all
  pub others : more + length (filter (λ text. not (is_among (first_texts all) text)) rest) ≡ other_count all
  pub few : length texts ≤ 64

-- all of these texts are listed
pub record IsListed (all : List (List ℕ)) (listing : Listing) : Type 0 where
  pub texts : bytes_of_each listing.kept.items ≡ first_texts all
  pub others : listing.others ≡ other_count all
  pub few : length listing.kept.items ≤ 64
  pub bound : listing.others ≤ 2 ^ 34
