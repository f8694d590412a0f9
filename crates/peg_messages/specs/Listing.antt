-- Lists of what is expected.
use Rattle.std.specs.Prelude.{ℕ, ◌+◌, ◌-◌, ◌==◌, Bool, not, if◌then◌else◌, nat_le}
use Rattle.std.specs.Prelude.{List, [], ◌∷◌, ◌++◌, codes, filter, length, take}
use Rattle.std.specs.Fmt.{decimal}
use Rattle.std.specs.List.{list_any}
use Rattle.std.specs.Str.{bytes_eq}

-- a text is among these
abbrev pub is_among : List (List ℕ) → (text : List ℕ) → Bool
is_among texts text = list_any (λ other. bytes_eq other text) texts

-- the texts that are neither among the earlier ones nor equal to one before them in the list
abbrev pub distinct : (earlier texts : List (List ℕ)) → List (List ℕ)
distinct earlier [] = []
distinct earlier (text ∷ rest) =
    if is_among earlier text then distinct earlier rest else text ∷ distinct (earlier ++ text ∷ []) rest

-- the first 64 different texts
abbrev pub first_texts : List (List ℕ) → List (List ℕ)
first_texts texts = take 64 (distinct [] texts)

-- the number of texts that are none of the first 64 different ones
abbrev pub other_count : List (List ℕ) → ℕ
other_count texts = length (filter (λ text. not (is_among (first_texts texts) text)) texts)

-- the first eight of these texts, and how many are left out: of these texts, and `more` others
abbrev pub alternatives : List (List ℕ) → (more : ℕ) → List (List ℕ)
alternatives texts more =
    if nat_le (length texts + more) 8 then texts else
    take 8 texts ++ (decimal (length texts + more - 8) ++ codes " more") ∷ []

-- texts after another one: `, B, C or D`
abbrev pub joined_rest : List (List ℕ) → List ℕ
joined_rest [] = []
joined_rest (text ∷ rest) =
    (if length rest == 0 then codes " or " else codes ", ") ++ text ++ joined_rest rest

-- texts as a list: `A, B, C or D`
abbrev pub joined : List (List ℕ) → List ℕ
joined [] = codes "something else"
joined (text ∷ rest) = text ++ joined_rest rest

-- the list of some texts, where equal ones are written once
unfoldable pub listed : List (List ℕ) → List ℕ
listed texts = joined (alternatives (first_texts texts) (other_count texts))
