-- Describes code: which texts are accepted as the values of options that are numbers.
use Rattle.std.specs.Prelude.{ℕ, ◌≤◌, List}
use Rattle.std.specs.Str.Parse.{IsNumeral, digits_value, without_leading_plus}

-- the decimal number that a text writes; a plus may come first
abbrev pub number_in : (text : List ℕ) → ℕ
number_in text = digits_value 10 (without_leading_plus text)

-- a text is a decimal number in a range; a plus may come first
abbrev pub IsNumberIn : (least most : ℕ) → (text : List ℕ) → Type 0
IsNumberIn least most text =
    IsNumeral 10 (without_leading_plus text) × (least ≤ number_in text) × (number_in text ≤ most)
