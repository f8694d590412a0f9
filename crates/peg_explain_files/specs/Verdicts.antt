-- Which of two verdicts is worse.
use Rattle.std.specs.Prelude.{ℕ, if◌then◌else◌, nat_lt}
use Rattle.peg_explain_files.specs.declared.ended.Verdict.{Verdict}
use Rattle.peg_explain_files.specs.declared.ended.Verdict.TheVariants.{Matches, Differs, OverLimit, Unreadable, NoSuchStart, Refused}

-- a greater number for a worse verdict
abbrev pub severity : Verdict → ℕ
severity Matches = 0
severity Differs = 1
severity OverLimit = 2
severity Unreadable = 3
severity NoSuchStart = 4
severity Refused = 5

-- the verdict with the greater severity
abbrev pub worse : Verdict → Verdict → Verdict
worse verdict other = if nat_lt (severity verdict) (severity other) then other else verdict
