-- The names of statuses in the header.
use Rattle.std.specs.Prelude.{ℕ, List, [], codes, if◌then◌else◌, ◌==◌}

-- the name of a status; no bytes for another number
abbrev pub status_name : (status : ℕ) → List ℕ
status_name status =
    if status == 0 then codes "PEG_OK"
    else (if status == 1 then codes "PEG_FAILED"
    else (if status == 2 then codes "PEG_REFUSED"
    else (if status == 3 then codes "PEG_NO_SUCH_START"
    else (if status == 4 then codes "PEG_WRONG_HANDLE"
    else (if status == 5 then codes "PEG_OUT_OF_MEMORY"
    else (if status == 6 then codes "PEG_STEP_LIMIT"
    else (if status == 7 then codes "PEG_TEXT_TOO_LONG"
    else (if status == 8 then codes "PEG_OUT_OF_RANGE"
    else (if status == 9 then codes "PEG_NO_SUCH_RULE"
    else [])))))))))
