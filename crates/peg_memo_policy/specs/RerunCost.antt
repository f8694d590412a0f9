-- The cost of a rule.
use Rattle.std.specs.Prelude.{ℕ, Bool, ◌||◌, not, Option, None, Some}
use Rattle.peg_bytes.specs.ByteSet.{bytes_of, has}
use Rattle.peg_memo_policy.specs.declared.rerun_cost.RerunCost.{RerunCost}

-- a failure costs little by itself, where this is the next byte, or None at the end of the text
abbrev pub is_cheap_failure : RerunCost → Option ℕ → Bool
is_cheap_failure cost None = cost.linear_on_failure || not cost.slow_at_end
is_cheap_failure cost (Some next) = cost.linear_on_failure || not (has (bytes_of cost.slow_next) next)
