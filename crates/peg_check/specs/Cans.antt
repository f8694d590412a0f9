-- Abstract outcomes in code and in definitions.
use Rattle.std.specs.Prelude.{ℕ, Bool, false, List, slice_index_or}
use Rattle.std.proofs.Common.{refl}
use Rattle.std.specs.Coded.{Coded, code_by, coded×, coded_bool, coded_list}
use Rattle.peg_semantics.specs.AbstractOutcomes.{Can}
use Rattle.peg_check.specs.declared.can.Can as code

-- the outcomes that a value in code denotes
abbrev pub can_of : code.Can → Can
can_of can = record { nothing = can.nothing; something = can.something; fails = can.fails }

-- no outcomes
abbrev pub nothing_known : code.Can
nothing_known = record { nothing = false; something = false; fails = false }

-- the known outcomes of the form with a number
abbrev pub can_at : List code.Can → ℕ → Can
can_at cans number = can_of (slice_index_or cans number nothing_known)

-- the outcomes of each form, in order
abbrev pub Cans : Type 0
Cans = List Can

abbrev can_code : Coded Can
can_code =
    code_by (Bool × (Bool × Bool)) (coded× coded_bool (coded× coded_bool coded_bool))
    (λ can. (can.nothing, (can.something, can.fails)))
    (λ p. record { nothing = p.0; something = p.1.0; fails = p.1.1 }) (λ _. refl)

abbrev pub cans_code : Coded Cans
cans_code = coded_list can_code
