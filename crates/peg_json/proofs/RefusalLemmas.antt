-- The text of a left cycle: its printed object contains no float.
use Rattle.std.proofs.Common.{◌≡◌, ℕ, Bool, false, ◌||◌, List, [], ◌∷◌, map, refl, ap}
use Rattle.serde_json.specs.Data.{string}
use Rattle.serde_json.specs.View.{items_of}
use Rattle.serde_json.specs.Written.{has_float, items_have_float}
use Rattle.peg_json.specs.CauseText.{path_data}

names-without_floats : (names : List (List ℕ)) → items_have_float (items_of (map string names)) ≡ false
names-without_floats [] = refl
names-without_floats (name ∷ names) = names-without_floats names

pub path-without_floats : (path : List (List ℕ)) → has_float (path_data path) ≡ false
path-without_floats path = ap (λ (b : Bool). b || false) (names-without_floats path)
