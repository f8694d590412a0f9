-- The rule that may be meant by a name that no rule has.
use Rattle.std.specs.Prelude.{◌==◌, ◌&&◌, ◌||◌, ℕ, List, [], ◌∷◌, Bool, Option, bytes_eq, drop, false, find, if◌then◌else◌, length, nat_le}
use Rattle.std.specs.Str.{str_eq_ignore_ascii_case}

-- whether two texts are the same but for a byte at their start: it differs, or one of them lacks it
abbrev pub differ_at_start : (one other : List ℕ) → Bool
differ_at_start one other =
    bytes_eq (drop 1 one) (drop 1 other) || (bytes_eq one (drop 1 other) || bytes_eq (drop 1 one) other)

-- whether two texts are the same but for their first two bytes, which are exchanged
abbrev pub exchanged_at_start : (one other : List ℕ) → Bool
exchanged_at_start (a ∷ b ∷ one) (c ∷ d ∷ other) = a == d && (b == c && bytes_eq one other)
exchanged_at_start one other = false

-- whether two texts are the same but for one place, where a byte differs, is one more or less, or two are exchanged
abbrev pub near_at_start : (one other : List ℕ) → Bool
near_at_start one other = differ_at_start one other || exchanged_at_start one other

-- the same after what both begin with
abbrev pub is_near : (one other : List ℕ) → Bool
is_near (x ∷ one) (y ∷ other) = if x == y then is_near one other else near_at_start (x ∷ one) (y ∷ other)
is_near one other = near_at_start one other

-- whether a rule may be meant by a name: they differ in capital letters alone, or, if the name isn't short, in one place
abbrev pub may_be_meant : (name rule : List ℕ) → Bool
may_be_meant name rule = str_eq_ignore_ascii_case name rule || (nat_le 3 (length name) && is_near name rule)

-- the first of these rules that may be meant by a name
abbrev pub meant_by : (rules : List (List ℕ)) → (name : List ℕ) → Option (List ℕ)
meant_by rules name = find (may_be_meant name) rules
