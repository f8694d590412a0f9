-- Spacing: the rules that repeat blanks and comments, and those that are called by such rules alone. This is the
-- project's own definition.
use Rattle.std.specs.Prelude.{ℕ, zero, suc, ◌==◌, Bool, true, false, not, ◌&&◌, ◌||◌, List, bytes_eq, length, map, option_map}
use Rattle.std.specs.Prelude.{[], Option, None, Some, position, slice_get, slice_index_or, unwrap_or}
use Rattle.std.specs.List.{list_any, range_with_len}
use Rattle.peg_semantics.specs.Form.{Form, Reference, Star, names_used}
use Rattle.peg_semantics.specs.Rules.{Rule, names}
use Rattle.peg_spacing.specs.Gaps.{gap_of, gaps_in}
use Rattle.peg_spacing.specs.declared.gaps.Gap.{Gap}
use Rattle.peg_spacing.specs.declared.gaps.Gap.TheVariants.{Blanks}

-- ---- rules that repeat blanks and comments

abbrev pub is_blanks : Gap → Bool
is_blanks Blanks = true
is_blanks gap = false

-- A star repeats blanks, or blanks and comments, given what each rule begins with.
abbrev pub repeats_gaps : List Rule → List Gap → Form → Bool
repeats_gaps rules gaps (Star part span) = is_blanks (gap_of rules gaps part)
repeats_gaps rules gaps other = false

-- ---- rules that are called from some rules

-- the flag of the rule with a number
abbrev pub has_flag : List Bool → (rule : ℕ) → Bool
has_flag flags rule = slice_index_or flags rule false

abbrev pub is_number : Option ℕ → (number : ℕ) → Bool
is_number None number = false
is_number (Some found) number = found == number

-- one of these references is to the rule with a number
abbrev pub refer_to : List Rule → List Reference → (rule : ℕ) → Bool
refer_to rules references rule =
    list_any (λ reference. is_number (position (bytes_eq reference.name) (names rules)) rule) references

-- the references in the expression of the rule with a number
abbrev pub references_in : List Rule → (rule : ℕ) → List Reference
references_in rules rule = unwrap_or (option_map (λ r. names_used r.body) (slice_get rules rule)) []

-- another rule with a flag calls the rule
abbrev pub is_called_by : List Rule → List Bool → (rule : ℕ) → Bool
is_called_by rules flags rule =
    list_any (λ caller. has_flag flags caller
    && (not (caller == rule) && refer_to rules (references_in rules caller) rule))
    (range_with_len 0 (length rules))

-- ---- spacing

-- The rule is in spacing, if that has these flags, or it is called from there and not by other rules.
abbrev pub is_inside : List Rule → List Bool → (rule : ℕ) → Bool
is_inside rules flags rule =
    has_flag flags rule || (is_called_by rules flags rule && not (is_called_by rules (map not flags) rule))

-- The rules in spacing, through at most n calls: first those that repeat blanks and comments.
abbrev pub spacing_in : List Rule → (n : ℕ) → List Bool
spacing_in rules zero = map (λ rule. repeats_gaps rules (gaps_in rules 4) rule.body) rules
spacing_in rules (suc n) = map (is_inside rules (spacing_in rules n)) (range_with_len 0 (length rules))

-- Whether each rule is in spacing, by number. At most four names lead from a rule to what it begins with, and at most
-- four calls from a rule that repeats blanks and comments to one that is in spacing, too.
unfoldable pub spacing_of : List Rule → List Bool
spacing_of rules = spacing_in rules 4
