-- The outcome of a text by its blame. This is the project's own definition; the result is that of Ford's relation (Ford
-- 2004, section 3.3).
use Rattle.std.specs.Prelude.{◌≡◌, ℕ, false, List}
use Rattle.peg_diagnostics.specs.Blame.{StartHasBlame}
use Rattle.peg_semantics.specs.Furthest.{IsFurthest}
use Rattle.peg_semantics.specs.Record.{Recognition, Record}
use Rattle.peg_semantics.specs.Record as recognition
use Rattle.peg_semantics.specs.Rules.{Rule}
use Rattle.peg_semantics.specs.Starts.{Recognizes}
use Rattle.peg_tree.specs.Selected.{selected}
use Rattle.peg_tree.specs.declared.outcome.Outcome.{Outcome}
use Rattle.peg_tree.specs.declared.outcome.Parsed.{Parsed}
use Rattle.peg_tree.specs.declared.outcome.Parsed.TheVariants as parsed

-- a result with the root of its tree alone
abbrev pub root_alone : Recognition → Parsed
root_alone recognition.Failed = parsed.Failed
root_alone (recognition.Matched end tree) = parsed.Matched end (selected (λ _. false) tree)

-- The text has Ford's record and a blame from the start rule of this name, both with the outcome's result, of whose
-- tree the outcome has the root alone. The outcome has the furthest failure of an item outside predicates: the offset,
-- and the items that failed there, ascending.
pub record IsBlameOutcome (rules : List Rule) (text start : List ℕ) (outcome : Outcome) : Type 0 where
  pub recognition : Record
  pub blame : Record
  pub recognizes : Recognizes rules text start recognition
  pub is_blame : StartHasBlame rules text start blame
  pub result : outcome.result ≡ root_alone recognition.result
  pub blame_result : outcome.result ≡ root_alone blame.result
  pub furthest : IsFurthest blame.tests outcome.far outcome.expected.items
