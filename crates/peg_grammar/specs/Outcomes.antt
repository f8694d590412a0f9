-- The outcome that belongs to a record.
use Rattle.std.specs.Prelude.{◌≡◌, ℕ, List, Option, Some}
use Rattle.peg_tree.specs.declared.outcome.Outcome.{Outcome}
use Rattle.peg_tree.specs.declared.outcome.Parsed.{Parsed}
use Rattle.peg_tree.specs.declared.outcome.Parsed.TheVariants.{Matched, Failed}
use Rattle.peg_semantics.specs.Furthest.{IsFurthest}
use Rattle.peg_semantics.specs.Record.{Recognition, Record, start_record}
use Rattle.peg_semantics.specs.Record as recognition
use Rattle.peg_semantics.specs.Rules.{Rule}
use Rattle.peg_semantics.specs.TestsAmong.{tests_among}

-- the result as a `Parsed`: failure, or a match with its end and its trees
abbrev pub parsed_of : Recognition → Parsed
parsed_of recognition.Failed = Failed
parsed_of (recognition.Matched end trees) = Matched end trees

-- a record exists, and the outcome has its result and the furthest of its failed tests
abbrev pub Answers : Option Record → Outcome → Type 0
Answers tried outcome =
    (r : Record) × (tried ≡ Some r) × (outcome.result ≡ parsed_of r.result)
    × IsFurthest r.tests outcome.far outcome.expected.items

-- the outcome of a grammar on a text from a start rule: that of Ford's record, in some depth
abbrev pub IsParseOutcome : List Rule → List ℕ → List ℕ → Outcome → Type 0
IsParseOutcome rules text start outcome = (n : ℕ) × Answers (start_record rules text n start) outcome

-- the same with the furthest of the failed tests among listed terminals, by their indices in the list
abbrev pub AnswersAmong : (terminals : List ℕ) → Option Record → Outcome → Type 0
AnswersAmong terminals tried outcome =
    (r : Record) × (tried ≡ Some r) × (outcome.result ≡ parsed_of r.result)
    × IsFurthest (tests_among terminals r.tests) outcome.far outcome.expected.items

-- the same outcome as of `IsParseOutcome`, with the furthest failure among listed terminals
abbrev pub IsParseOutcomeAmong : List Rule → List ℕ → (start terminals : List ℕ) → Outcome → Type 0
IsParseOutcomeAmong rules text start terminals outcome =
    (n : ℕ) × AnswersAmong terminals (start_record rules text n start) outcome
