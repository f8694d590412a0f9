-- An expression and its loud expression have the same results, wherever their terminals are numbered from.
use Rattle.std.proofs.Common.{◌≡◌, ◌≢◌, ℕ, ◌+◌, ◌<◌, ◌≤◌, List, [], ◌++◌, length, map, Option, Some, refl}
use Rattle.std.proofs.Common.{sym, ap, ◌∙◌, arith, append-nil}
use Rattle.std.proofs.lemmas.List.Elements.{All-nil, All-append, All-weaker}
use Rattle.peg_semantics.specs.Form.{Form, terminals}
use Rattle.peg_semantics.specs.Record.{Record, IsRecord, record_in}
use Rattle.peg_semantics.specs.Rules.{Rule, Meaning, names, meaning_of}
use Rattle.peg_diagnostics.specs.Blame.{HasBlame, blame_in}
use Rattle.peg_diagnostics.specs.Diagnostic.{loud, quiet_name, diagnostic_rules, quiet_rule}
use Rattle.peg_diagnostics.specs.Items.{item_meaning_of}
use Rattle.peg_diagnostics.specs.ItemTests.{added_terminals, item_terminals}
use Rattle.peg_diagnostics.proofs.BlameResults.{same_results, Simulates-blame, other_terminal}
use Rattle.peg_diagnostics.proofs.DiagnosisLemmas.{equal_results, equal_items}
use Rattle.peg_diagnostics.proofs.Lookups.{Distinct, AreRulesPlaced, rules_placed, rules-below}
use Rattle.peg_diagnostics.proofs.Lookups.{finds_loud, quiet_copy, loud_terminals, quiet_terminals}
use Rattle.peg_diagnostics.proofs.Lookups.{item_meaning_of-below}
use Rattle.peg_diagnostics.specs.Placed.{IsPlaced}
use Rattle.peg_diagnostics.proofs.LoudRecords.{IsOwn, HasLoud, no_items, same_items, twice, Simulates-loud}
use Rattle.peg_diagnostics.proofs.LoudRecords.{SameCall-quiet}
use Rattle.peg_diagnostics.proofs.Placement.{Below-more, From-less, added-from, item_in, placed}
use Rattle.peg_diagnostics.proofs.Placement.{place_from-none}
use Rattle.peg_diagnostics.proofs.Renaming.{HasCopy}
use Rattle.peg_diagnostics.proofs.Simulation.{Simulates-gives}

-- the blame of an expression with a record has the record's result
pub blame_of_record : (rules : List Rule) (text : List ℕ) (n : ℕ) (e : Form) (terminal item position : ℕ) (r : Record)
    → record_in rules text n e terminal position ≡ Some r
    → (b : Record) × HasBlame rules text e item position b × (b.result ≡ r.result)
blame_of_record rules text n e terminal item position r is =
    let blamed = Simulates-gives same_results (record_in rules text n e terminal position)
    (blame_in rules text n e item position) r is (Simulates-blame rules text n e terminal item position) in
    (blamed.0, (n, blamed.1), equal_results r.result (blamed.0).result (blamed.2).results)

-- An expression whose terminals are numbered after all others. Then each added empty class is that of one item.
module _ (rules : List Rule) (distinct : Distinct (names (diagnostic_rules rules))) (e : Form) where
  -- a number above all terminals of the diagnostic grammar
  abbrev past : ℕ
  past = loud_terminals rules + quiet_terminals rules

  -- the added empty classes of the rules, and then those of the expression
  abbrev all : List ℕ
  all = item_terminals rules ++ added_terminals e past

  abbrev item : ℕ → Option ℕ
  item = item_in all

  rules_there : AreRulesPlaced item rules 0 0
  rules_there =
      rules_placed all rules [] (added_terminals e past) 0 0 (record {
        is = refl;
        long = refl;
        below = All-nil (λ x. x < 0);
        from = From-less (0 + loud_terminals rules) past (added_terminals e past) (omega arith) (added-from e past);
      })

  itself_there : IsPlaced item e past (length (item_terminals rules))
  itself_there =
      placed all e (item_terminals rules) [] past (length (item_terminals rules)) (record {
        is = ap (λ l. item_terminals rules ++ l) (sym (append-nil (added_terminals e past)));
        long = refl;
        below = Below-more (0 + loud_terminals rules) past (item_terminals rules) (omega arith) (rules-below rules 0);
        from = All-nil (λ x. past + terminals (loud e) ≤ x);
      })

  loud_there : (name : List ℕ) (m : Meaning) → item_meaning_of rules name ≡ Some m
      → HasLoud item (length rules) (diagnostic_rules rules) name m
  loud_there name m is =
      let found = finds_loud item rules (map quiet_rule rules) 0 0 0 name m rules_there is in
      record {
        copy = found.0;
        found = found.1;
        numbered = (found.2).numbered;
        below = item_meaning_of-below rules name m is;
        loudened = (found.2).loudened;
        placed = (found.2).placed;
      }

  quiet_there : (name : List ℕ) (m : Meaning) → meaning_of rules name ≡ Some m
      → HasCopy (no_items item (length rules)) (IsOwn item) quiet_name (diagnostic_rules rules) name m
  quiet_there name m is =
      let found = quiet_copy rules distinct name m is in
      record {
        copy = found.0;
        found = found.1;
        renamed = found.2;
        free = λ k below. place_from-none ((found.0).terminal + k) 0 all
            (All-append (λ x. x ≢ (found.0).terminal + k) (item_terminals rules) (added_terminals e past)
            (All-weaker (λ x. x < 0 + loud_terminals rules) (λ x. x ≢ (found.0).terminal + k)
            (λ x small same. omega (arith, small, same, found.3)) (item_terminals rules) (rules-below rules 0))
            (All-weaker (λ x. past ≤ x) (λ x. x ≢ (found.0).terminal + k)
            (λ x great same. omega (arith, great, same, below, found.4)) (added_terminals e past) (added-from e past)));
        node = λ start end a b same. tt;
        call = SameCall-quiet item (length rules) m.rule (found.0).rule found.5;
      }

  -- the loud expression of an expression with a record has a record with the same result
  pub shown_of_record : (text : List ℕ) (n terminal other position : ℕ) (r : Record)
      → record_in rules text n e terminal position ≡ Some r
      → (d : Record) × IsRecord (diagnostic_rules rules) text (loud e) other position d × (d.result ≡ r.result)
  shown_of_record text n terminal other position r is =
      let shown_rules = diagnostic_rules rules in
      let number = length (item_terminals rules) in
      let count = length rules in
      let blamed = Simulates-gives same_results (record_in rules text n e terminal position)
      (blame_in rules text n e number position) r is (Simulates-blame rules text n e terminal number position) in
      let there = Simulates-gives (same_items item count) (blame_in rules text n e number position)
      (record_in shown_rules text (twice n) (loud e) past position) blamed.0 blamed.1
      (Simulates-loud item count rules shown_rules text loud_there quiet_there n e past number position itself_there) in
      let moved = Simulates-gives same_results (record_in shown_rules text (twice n) (loud e) past position)
      (record_in shown_rules text (twice n) (loud e) other position) there.0 there.1
      (other_terminal shown_rules text (twice n) (loud e) past other position) in (
        moved.0,
        (twice n, moved.1),
        equal_results (there.0).result (moved.0).result (moved.2).results
            ∙ equal_items item count (blamed.0).result (there.0).result (there.2).results
            ∙ equal_results r.result (blamed.0).result (blamed.2).results,
      )
