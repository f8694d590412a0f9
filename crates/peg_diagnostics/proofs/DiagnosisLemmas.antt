-- The diagnostic grammar computes the blame of each name.
use Rattle.std.proofs.Common.{◌≡◌, ℕ, List, length, Option, Some, refl, sym, ◌∙◌}
use Rattle.peg_bytes.specs.Extent.{Extent}
use Rattle.peg_semantics.specs.Form.{Form, Name}
use Rattle.peg_semantics.specs.Record.{Recognition, Failed, Matched, Record, record_in}
use Rattle.peg_semantics.specs.Rules.{Rule, names}
use Rattle.peg_diagnostics.specs.Blame.{blame_in}
use Rattle.peg_diagnostics.specs.Diagnosis.{Diagnosis}
use Rattle.peg_diagnostics.specs.Diagnostic.{loud, diagnostic_rules}
use Rattle.peg_diagnostics.specs.ItemTests.{item_of_terminal}
use Rattle.peg_diagnostics.proofs.BlameResults.{same_results, Simulates-blame}
use Rattle.peg_diagnostics.proofs.Lookups.{Distinct, loud_copies, quiet_copies}
use Rattle.peg_diagnostics.specs.Placed.{IsPlaced}
use Rattle.peg_diagnostics.proofs.LoudRecords.{same_items, twice, Simulates-loud}
use Rattle.peg_diagnostics.proofs.Simulation.{SameResult, Simulates-gives}

-- related results with equal trees are equal
pub equal_results : (result other : Recognition) → SameResult same_results result other → other ≡ result
equal_results Failed Failed same = refl
equal_results Failed (Matched end trees) same = absurd same
equal_results (Matched end trees) Failed same = absurd same
equal_results (Matched end trees) (Matched other more) same = λ i. Matched (sym same.0 i) (sym same.1 i)

pub equal_items : (item : ℕ → Option ℕ) (count : ℕ) (result other : Recognition)
    → SameResult (same_items item count) result other → other ≡ result
equal_items item count Failed Failed same = refl
equal_items item count Failed (Matched end trees) same = absurd same
equal_items item count (Matched end trees) Failed same = absurd same
equal_items item count (Matched end trees) (Matched other more) same = λ i. Matched (sym same.0 i) (sym same.1 i)

module _ (rules : List Rule) (text : List ℕ) (distinct : Distinct (names (diagnostic_rules rules))) where
  -- an expression whose added empty classes are those of its items
  pub diagnosis : (n : ℕ) (e : Form) (t terminal number position : ℕ) (r : Record)
      → IsPlaced (item_of_terminal rules) e terminal number → record_in rules text n e t position ≡ Some r
      → Diagnosis rules text e terminal number position r
  diagnosis n e t terminal number position r placed is =
      let item = item_of_terminal rules in
      let count = length rules in
      let blamed = Simulates-gives same_results (record_in rules text n e t position)
      (blame_in rules text n e number position) r is (Simulates-blame rules text n e t number position) in
      let shown = Simulates-gives (same_items item count) (blame_in rules text n e number position)
      (record_in (diagnostic_rules rules) text (twice n) (loud e) terminal position) blamed.0 blamed.1
      (Simulates-loud item count rules (diagnostic_rules rules) text (loud_copies rules) (quiet_copies rules distinct)
      n e terminal number position placed) in
      let same = equal_results r.result (blamed.0).result (blamed.2).results in
      record {
        blame = blamed.0;
        shown = shown.0;
        is_blame = (n, blamed.1);
        is_record = (twice n, shown.1);
        blame_result = same;
        shown_result = equal_items item count (blamed.0).result (shown.0).result (shown.2).results ∙ same;
        tests = (shown.2).tests;
        calls = (shown.2).calls;
      }

  pub name_diagnosis : (n : ℕ) (name : List ℕ) (span : Extent) (t terminal number position : ℕ) (r : Record)
      → record_in rules text n (Name name span) t position ≡ Some r
      → Diagnosis rules text (Name name span) terminal number position r
  name_diagnosis n name span t terminal number position r is =
      diagnosis n (Name name span) t terminal number position r tt is
