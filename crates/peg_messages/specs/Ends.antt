-- The end of a text, as something that is expected.
use Rattle.std.specs.Prelude.{ℕ, Bool, true, false, List, [], ◌∷◌, codes}

-- the end, if it is expected
abbrev pub end_texts : Bool → List (List ℕ)
end_texts true = codes "the end" ∷ []
end_texts false = []
