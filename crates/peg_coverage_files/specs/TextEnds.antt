-- Describes code: how the parses of texts end, and their counts.
use Rattle.std.specs.Prelude.{ℕ, Bool, true, false, List, [], ◌∷◌, Result, Ok, Err}
use Rattle.peg_coverage.specs.Covered.{TextOutcome, Ended, Stopped, is_enough}
use Rattle.peg_coverage.specs.declared.text_match.RequiredMatch.{RequiredMatch}
use Rattle.peg_coverage.specs.declared.text_match.TextMatch.{TextMatch}
use Rattle.peg_parser.specs.declared.parser.ParseFault.{ParseFault}
use Rattle.peg_parser.specs.declared.parser.ParseFault.TheVariants as parse
use Rattle.peg_coverage_files.specs.declared.counts.TextEnd.{TextEnd}
use Rattle.peg_coverage_files.specs.declared.counts.TextEnd.TheVariants as end
use Rattle.peg_coverage_files.specs.declared.fault.CoveringFault.{CoveringFault}
use Rattle.peg_coverage_files.specs.declared.fault.CoveringFault.TheVariants as covering

-- the end of a parse with a result, by whether it is a match as required
abbrev pub ended_by : (is_enough : Bool) → TextEnd
ended_by true = end.Matched
ended_by false = end.Failed

-- the end of a parse with an outcome
abbrev pub end_of : RequiredMatch → TextOutcome → TextEnd
end_of needed (Ended found attempts) = ended_by (is_enough needed found)
end_of needed Stopped = end.Stopped

-- the end of a parse, or why there is none
abbrev pub end_of_parse : RequiredMatch → Result TextMatch ParseFault → Result TextEnd CoveringFault
end_of_parse needed (Ok found) = Ok (ended_by (is_enough needed found))
end_of_parse needed (Err parse.StepLimit) = Ok end.Stopped
end_of_parse needed (Err parse.NoSuchStart) = Err covering.NoSuchStart
end_of_parse needed (Err parse.TextTooLong) = Err covering.TextTooLong
end_of_parse needed (Err parse.Memory) = Err covering.Memory

-- how many matches a text is
abbrev pub matches_of : TextEnd → ℕ
matches_of end.Matched = 1
matches_of end.Failed = 0
matches_of end.Stopped = 0

-- the number of a text, if it is stopped
abbrev pub stops_of : (number : ℕ) → TextEnd → List ℕ
stops_of number end.Matched = []
stops_of number end.Failed = []
stops_of number end.Stopped = number ∷ []
