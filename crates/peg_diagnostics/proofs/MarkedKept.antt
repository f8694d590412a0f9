-- The record of a marked expression in the marked rules of a grammar.
use Rattle.std.proofs.Common.{◌≡◌, ℕ, ◌+◌, ◌^◌, ◌≤◌, List, Option, Some, length, subst, suc}
use Rattle.peg_semantics.specs.Form.{Form}
use Rattle.peg_semantics.specs.Record.{Recognition, Failed, Matched, Record, IsRecord, record_in}
use Rattle.peg_semantics.specs.Rules.{Rule, names}
use Rattle.peg_diagnostics.specs.Attempts.{Attempt, ShowAttempts, attempts_in}
use Rattle.peg_diagnostics.specs.Marked.{alternatives, alternatives_of_rules, mark, marked_rules, markers_of_rules}
use Rattle.peg_diagnostics.specs.MarkedResults.{IsMarkedResult}
use Rattle.peg_diagnostics.proofs.Lookups.{Distinct}
use Rattle.peg_diagnostics.proofs.MarkedLookups.{has_marked, has_marker}
use Rattle.peg_diagnostics.proofs.MarkedRecords.{Shows, Shows-mark, same_unmarked, thrice}
use Rattle.peg_diagnostics.proofs.Simulation.{SameResult}

marked_result : (count : ℕ) (result marked : Recognition) → SameResult (same_unmarked count) result marked
    → IsMarkedResult count result marked
marked_result count Failed Failed same = tt
marked_result count Failed (Matched end trees) same = absurd same
marked_result count (Matched end trees) Failed same = absurd same
marked_result count (Matched end trees) (Matched other more) same = same

-- a record of the marked grammar with the result of a record, and calls that show these attempts
abbrev pub HasMarkedRecord : List Rule → List ℕ → Form → (other position : ℕ) → Record → List Attempt → Type 0
HasMarkedRecord rules text marked other position r attempts =
    (m : Record) × IsRecord (marked_rules rules) text marked other position m
    × IsMarkedResult (length rules) r.result m.result × ShowAttempts rules attempts m.calls

pub marked-record : (rules : List Rule) → Distinct (names (marked_rules rules)) → markers_of_rules rules ≤ 2 ^ 64
    → (text : List ℕ) (n : ℕ) (e : Form) (number terminal other position : ℕ) (r : Record)
    → number + alternatives e ≤ alternatives_of_rules rules → record_in rules text n e terminal position ≡ Some r
    → HasMarkedRecord rules text (mark number e) other position r
    (attempts_in rules text n e number terminal position)
marked-record rules distinct few text n e number terminal other position r within is =
    let count = length rules in
    let total = alternatives_of_rules rules in
    let attempts = attempts_in rules text n e number terminal position in
    let marked = record_in (marked_rules rules) text (suc (thrice n)) (mark number e) other position in
    let follows : Shows count total (Some r) attempts marked =
    subst (λ (first : Option Record). Shows count total first attempts marked) is
    (Shows-mark count total rules (marked_rules rules) text (has_marked rules) (has_marker rules distinct few) n e number
    terminal other position within) in
    let all = follows.2 in (
      follows.0,
      (suc (thrice n), follows.1),
      marked_result count r.result (follows.0).result all.results,
      record { order = all.calls; within = all.within },
    )
