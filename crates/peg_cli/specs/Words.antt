-- What the command line arguments request.
use Rattle.std.specs.Prelude.{ℕ, ◌≤◌, Option, IfSome}
use Rattle.peg_cli.specs.declared.words.Words.{Words}
use Rattle.peg_cli.specs.declared.words.Words.TheVariants.{Joined, Help, Table, Check, Code, Lint, LintMessages, Profile, Coverage, RecordCoverage, Explain, ExplainRecords, Test, Parse, Records}

-- a limit of steps or of messages, if there is one, is from 1 to 1,000,000,000,000
abbrev pub IsLimit : Option ℕ → Type 0
IsLimit limit = IfSome limit (λ most. (1 ≤ most) × (most ≤ 1000000000000))

-- a memo has at most 1,000,000 entries, and a step limit is in its range
abbrev pub AreInRange : (memo : ℕ) → (steps : Option ℕ) → Type 0
AreInRange memo steps = (memo ≤ 1000000) × IsLimit steps

-- The capacity of the memo of `profile` where none is given: no memo, so that each call is counted; and with `--coverage`
-- that of `parse`, since what texts use doesn't depend on it.
abbrev pub default_profile_memo : ℕ
default_profile_memo = 0

abbrev pub default_coverage_memo : ℕ
default_coverage_memo = 4096

-- The arguments request a command or help. The capacity of a memo and a step limit are in their ranges.
abbrev pub IsAsking : Words → Type 0
IsAsking Joined = ⊥
IsAsking (Help text) = Unit {0}
IsAsking (Table g) = Unit {0}
IsAsking (Check g) = Unit {0}
IsAsking (Code g) = Unit {0}
IsAsking (Lint g start proved) = Unit {0}
IsAsking (LintMessages g start proved) = Unit {0}
IsAsking (Profile g t start memo steps) = AreInRange memo steps
IsAsking (Coverage g texts start memo steps prefix) = AreInRange memo steps
IsAsking (RecordCoverage g texts null crlf start memo steps prefix) = AreInRange memo steps
IsAsking (Explain g texts files_from null start memo steps rules terminals quiet) = AreInRange memo steps
IsAsking (ExplainRecords g texts null crlf start memo steps rules terminals quiet max_errors) =
    AreInRange memo steps × IsLimit max_errors
IsAsking (Test g folders start memo steps) = AreInRange memo steps
IsAsking (Parse g t start memo steps all rows no_tree show hide text) = AreInRange memo steps
IsAsking (Records g texts null crlf failed matched start memo steps all rows no_tree show hide text) =
    AreInRange memo steps
