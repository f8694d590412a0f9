-- The streams of a query.
use Rattle.std.specs.Prelude.{◌≡◌, ℕ, All, List, [], ◌∷◌, Option, Some, map}
use Rattle.peg_io.specs.NamedFile.{IsMissing, NamedFile, bytes_of}

-- what is specified of the streams with these names, or of the input without names
abbrev pub bytes_of_streams : (file_at : List ℕ → NamedFile) → (input : Option (List ℕ)) → (names : List (List ℕ))
    → List (Option (List ℕ))
bytes_of_streams file_at input [] = input ∷ []
bytes_of_streams file_at input (name ∷ names) = map (λ (n : List ℕ). bytes_of (file_at n)) (name ∷ names)

-- the streams hold these bytes
abbrev pub AreStreams : (file_at : List ℕ → NamedFile) → (input : Option (List ℕ)) → (names streams : List (List ℕ)) → Type 0
AreStreams file_at input names streams = bytes_of_streams file_at input names ≡ map Some streams

-- none of the texts with these names is specified to give an error when it is opened
abbrev pub ArePresent : (file_at : List ℕ → NamedFile) → (names : List (List ℕ)) → Type 0
ArePresent file_at names = All (λ (name : List ℕ). ¬ IsMissing (file_at name)) names
