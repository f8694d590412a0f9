-- Describes code: the numbers of exit statuses.
use Rattle.std.specs.Prelude.{ℕ}
use Rattle.peg_json.specs.declared.status.Status.{Status}
use Rattle.peg_json.specs.declared.status.Status.TheVariants.{Done, Failed, Refused, Usage, File, Memory, Limit}

-- the number of an exit status
abbrev pub status_code : Status → ℕ
status_code Done = 0
status_code Failed = 1
status_code Refused = 2
status_code Usage = 3
status_code File = 4
status_code Memory = 5
status_code Limit = 6
