-- Describes code: the state of the reference evaluator, and its results.
use Rattle.std.specs.Prelude.{◌≡◌, ℕ, ◌≤◌, List, ◌++◌, fold, Option, None, Some, Result, Ok, Err}
use Rattle.peg_tree.specs.Rows.{Row, rows_of, IsOneTree}
use Rattle.peg_tree.specs.Trees.{Trees, NoTrees}
use Rattle.peg_tree.specs.TreesOfRows.{trees_of}
use Rattle.peg_tree.specs.declared.outcome.Parsed.{Parsed}
use Rattle.peg_tree.specs.declared.outcome.Parsed.TheVariants as parsed
use Rattle.peg_semantics.specs.FurthestPass.{Furthest, note_test}
use Rattle.peg_semantics.specs.Record.{Recognition, Record}
use Rattle.peg_semantics.specs.Record as recognition
use Rattle.peg_grammar.specs.declared.found.Abort.{Abort}
use Rattle.peg_grammar.specs.declared.found.Abort.TheVariants.{AtDepth, OutOfMemory}
use Rattle.peg_grammar.specs.declared.found.MatchResult.{MatchResult}
use Rattle.peg_grammar.specs.declared.found.MatchResult.TheVariants.{EndsAt, Fails}

-- the furthest failure so far, and the nodes of the trees so far
pub record Evaluation : Type 0 where
  pub furthest : Furthest
  pub rows : List Row

-- the trees of a result; none for a failure
abbrev pub trees_left : Recognition → Trees
trees_left recognition.Failed = NoTrees
trees_left (recognition.Matched end trees) = trees

-- whether the result is a match, and the end of the match
abbrev pub match_result_of : Recognition → MatchResult
match_result_of recognition.Failed = Fails
match_result_of (recognition.Matched end trees) = EndsAt end

-- the state after a record: its failed tests are noted, and the nodes of its trees are appended
abbrev pub with_record : Evaluation → Record → Evaluation
with_record seen r =
    record { furthest = fold note_test seen.furthest r.tests; rows = seen.rows ++ rows_of (trees_left r.result) }

-- The result of an evaluation: the verdict of the record, which is added to the state; or that no record exists in the
-- depth; or that an allocation failed.
abbrev pub Evaluates : Option Record → Evaluation → Result MatchResult Abort → Evaluation → Type 0
Evaluates tried old (Ok match_result) new =
    (r : Record) × (tried ≡ Some r) × (match_result_of r.result ≡ match_result) × (new ≡ with_record old r)
Evaluates tried old (Err AtDepth) new = tried ≡ None
Evaluates tried old (Err OutOfMemory) new = Unit {0}

-- a match from `position` ends at `position` or later, within a text of length `len`
abbrev pub EndsWithin : (position len : ℕ) → MatchResult → Type 0
EndsWithin position len (EndsAt end) = (position ≤ end) × (end ≤ len)
EndsWithin position len Fails = Unit {0}

-- after a match, the nodes are one tree
abbrev pub LeavesTree : MatchResult → List Row → Type 0
LeavesTree Fails rows = Unit {0}
LeavesTree (EndsAt end) rows = IsOneTree rows

-- the `Parsed` of a verdict and of the trees that the nodes denote
abbrev pub IsParsed : MatchResult → List Row → Parsed → Type 0
IsParsed Fails rows result = result ≡ parsed.Failed
IsParsed (EndsAt end) rows result = result ≡ parsed.Matched end (trees_of rows)
