-- The abstract outcomes of quiet and of loud expressions in the diagnostic grammar.
use Rattle.std.proofs.Common.{◌≡◌, ℕ, zero, suc, Bool, true, false, ◌&&◌, ◌||◌, List, [], ◌∷◌}
use Rattle.std.proofs.Common.{All, refl, sym, ap, ap₂, ◌∙◌, subst, ◌++◌}
use Rattle.std.proofs.lemmas.List.Elements.{All-head}
use Rattle.peg_bytes.specs.Extent.{Extent}
use Rattle.peg_semantics.specs.AbstractOutcomes.{Can, CanAll, no_outcome, seq_outcome, choice_outcome, optional_outcome}
use Rattle.peg_semantics.specs.AbstractOutcomes.{star_outcome, plus_outcome, repeat_outcome, and_outcome, not_outcome}
use Rattle.peg_semantics.specs.AbstractOutcomes.{OutcomeOf}
use Rattle.peg_semantics.specs.AbstractOutcomes.{outcome_of_items, outcome_of_choice, outcome_of_meaning, can_table}
use Rattle.peg_semantics.specs.AbstractOutcomes.{can_in}
use Rattle.peg_semantics.specs.AbstractOutcomes.{GivesNothing, always_empty}
use Rattle.peg_semantics.specs.Form.{Form, Forms, Literal, Class, Any, Name, Seq, Choice, Optional, Star, Plus, Counted}
use Rattle.peg_semantics.specs.Form.{And, Not, End, Then, names_used, names_used_by_all}
use Rattle.peg_semantics.specs.Rules.{Rule, names, references, meaning_of}
use Rattle.peg_semantics.proofs.RoundsLemmas.{CanAll-refl, CanAll-trans, CanAll-no_outcome, CanAll-seq_outcome}
use Rattle.peg_semantics.proofs.RoundsLemmas.{CanAll-choice_outcome, CanAll-optional_outcome, CanAll-star_outcome}
use Rattle.peg_semantics.proofs.RoundsLemmas.{CanAll-plus_outcome, CanAll-repeat_outcome, can_in-more}
use Rattle.peg_diagnostics.specs.Diagnostic.{rename_all, quiet, quiet_name, no_bytes, or_fail, loud, loud_all}
use Rattle.peg_diagnostics.specs.Diagnostic.{diagnostic_rules}
use Rattle.peg_diagnostics.proofs.EmptySet.{has_some-no_bytes}
use Rattle.peg_diagnostics.proofs.KnownNames.{All-front, All-back, IsKnown, UsesKnown, AllUseKnown, MeansKnown}
use Rattle.peg_diagnostics.proofs.KnownNames.{known_meaning}
use Rattle.peg_diagnostics.proofs.KnownNames.{loud_meaning, quiet_meaning}
use Rattle.peg_diagnostics.proofs.Lookups.{Distinct}

-- the outcome of an empty class: it fails
abbrev only_fails : Can
only_fails = record { nothing = false; something = false; fails = true }

true_before : (x y : Bool) → (x || (y && false)) ≡ true → x ≡ true
true_before true y is = refl
true_before false true is = cc
true_before false false is = cc

true_beside : (x : Bool) → (x && true) ≡ true → x ≡ true
true_beside true is = refl
true_beside false is = cc

-- an alternative that only fails adds no outcome
CanAll-or_fail : (a b : Can) → CanAll b only_fails → CanAll (choice_outcome a b) a
CanAll-or_fail a b fails =
    CanAll-trans (choice_outcome a b) (choice_outcome a only_fails) a
    (CanAll-choice_outcome a b a only_fails (CanAll-refl a) fails)
    (record {
      nothing = true_before a.nothing a.fails;
      something = true_before a.something a.fails;
      fails = true_beside a.fails;
    })

CanAll-empty_class : (rules : List Rule) (n : ℕ) (span : Extent)
    → CanAll (can_in rules n (Class no_bytes span)) only_fails
unfolding can_in
CanAll-empty_class rules zero span = CanAll-no_outcome only_fails
CanAll-empty_class rules (suc n) span =
    subst (λ some. CanAll (record { nothing = false; something = some; fails = true }) only_fails)
    (sym has_some-no_bytes)
    (CanAll-refl only_fails)

module _ (rules : List Rule) (closed : All (IsKnown (names rules)) (references rules)) where
  abbrev pub Known : Form → Type 0
  Known e = UsesKnown (names rules) e

  abbrev pub KnownAll : Forms → Type 0
  KnownAll items = AllUseKnown (names rules) items

  pub known-front : (e : Form) (rest : Forms) → All (IsKnown (names rules)) (names_used e ++ names_used_by_all rest)
      → Known e
  known-front e rest known = All-front (IsKnown (names rules)) (names_used e) (names_used_by_all rest) known

  pub known-back : (e : Form) (rest : Forms) → All (IsKnown (names rules)) (names_used e ++ names_used_by_all rest)
      → KnownAll rest
  known-back e rest known = All-back (IsKnown (names rules)) (names_used e) (names_used_by_all rest) known

  pub known-name : (name : List ℕ) (span : Extent) → Known (Name name span)
      → MeansKnown (names rules) (meaning_of rules name)
  known-name name span known =
      known_meaning rules closed name (All-head (IsKnown (names rules)) (record { name = name; span = span }) [] known)

  -- ---- quiet expressions

  module _ (distinct : Distinct (names (diagnostic_rules rules))) where
    module _ (judge other : OutcomeOf) (same : (e : Form) → Known e → other (quiet e) ≡ judge e) where
      items-quiet : (items : Forms) → KnownAll items
          → outcome_of_items other (rename_all quiet_name items) ≡ outcome_of_items judge items
      items-quiet End known = refl
      items-quiet (Then e rest) known =
          ap₂ seq_outcome (same e (known-front e rest known)) (items-quiet rest (known-back e rest known))

      first-quiet : (e : Form) (rest : Forms) → Known e → KnownAll rest
          → outcome_of_choice other (quiet e) (rename_all quiet_name rest) ≡ outcome_of_choice judge e rest
      first-quiet e End known also = same e known
      first-quiet e (Then next rest) known also =
          ap₂ choice_outcome (same e known)
          (first-quiet next rest (known-front next rest also) (known-back next rest also))

      name-quiet : (name : List ℕ) (span : Extent) → Known (Name name span)
          → outcome_of_meaning other (meaning_of (diagnostic_rules rules) (quiet_name name))
          ≡ outcome_of_meaning judge (meaning_of rules name)
      name-quiet name span known =
          let means = known-name name span known in
          let copy = quiet_meaning rules distinct name means.0 means.1 in
          ap (outcome_of_meaning other) copy.1 ∙ ap other copy.2 ∙ same (means.0).body means.2
          ∙ sym (ap (outcome_of_meaning judge) means.1)

      can_table-quiet : (e : Form) → Known e → can_table (diagnostic_rules rules) other (quiet e)
          ≡ can_table rules judge e
      can_table-quiet (Literal [] span) known = refl
      can_table-quiet (Literal (b ∷ bs) span) known = refl
      can_table-quiet (Class set span) known = refl
      can_table-quiet (Any span) known = refl
      can_table-quiet (Name name span) known = name-quiet name span known
      can_table-quiet (Seq items span) known = items-quiet items known
      can_table-quiet (Choice first rest span) known =
          first-quiet first rest (known-front first rest known) (known-back first rest known)
      can_table-quiet (Optional part span) known = ap optional_outcome (same part known)
      can_table-quiet (Star part span) known = ap star_outcome (same part known)
      can_table-quiet (Plus part span) known = ap plus_outcome (same part known)
      can_table-quiet (Counted part min max span) known = ap (λ a. repeat_outcome a min max) (same part known)
      can_table-quiet (And part span) known = ap and_outcome (same part known)
      can_table-quiet (Not part span) known = ap not_outcome (same part known)

    pub can_in-quiet : (n : ℕ) (e : Form) → Known e → can_in (diagnostic_rules rules) n (quiet e) ≡ can_in rules n e
    unfolding can_in
    can_in-quiet zero e known = refl
    can_in-quiet (suc n) e known =
        can_table-quiet (can_in rules n) (can_in (diagnostic_rules rules) n) (can_in-quiet n) e known

    pub GivesNothing-quiet : (e : Form) → Known e → GivesNothing (diagnostic_rules rules) (quiet e)
        ≡ GivesNothing rules e
    GivesNothing-quiet e known = λ i. (n : ℕ) × ((can_in-quiet n e known i).nothing ≡ true)

    -- ---- loud expressions

    module _ (n : ℕ) (same : (e : Form) → Known e
        → CanAll (can_in (diagnostic_rules rules) n (loud e)) (can_in rules n e)) where
      abbrev judge : OutcomeOf
      judge = can_in rules n

      abbrev other : OutcomeOf
      other = can_in (diagnostic_rules rules) n

      items-loud : (items : Forms) → KnownAll items
          → CanAll (outcome_of_items other (loud_all items)) (outcome_of_items judge items)
      items-loud End known = CanAll-refl always_empty
      items-loud (Then e rest) known =
          CanAll-seq_outcome (other (loud e)) (outcome_of_items other (loud_all rest)) (judge e)
          (outcome_of_items judge rest)
          (same e (known-front e rest known)) (items-loud rest (known-back e rest known))

      first-loud : (e : Form) (rest : Forms) → Known e → KnownAll rest
          → CanAll (outcome_of_choice other (loud e) (loud_all rest)) (outcome_of_choice judge e rest)
      first-loud e End known also = same e known
      first-loud e (Then next rest) known also =
          CanAll-choice_outcome (other (loud e)) (outcome_of_choice other (loud next) (loud_all rest)) (judge e)
          (outcome_of_choice judge next rest) (same e known)
          (first-loud next rest (known-front next rest also) (known-back next rest also))

      name-loud : (name : List ℕ) (span : Extent) → Known (Name name span)
          → CanAll (outcome_of_meaning other (meaning_of (diagnostic_rules rules) name))
          (outcome_of_meaning judge (meaning_of rules name))
      name-loud name span known =
          let means = known-name name span known in
          let copy = loud_meaning rules name means.0 means.1 in
          subst (λ a. CanAll a (outcome_of_meaning judge (meaning_of rules name)))
          (sym (ap (outcome_of_meaning other) copy.1 ∙ ap other copy.2))
          (subst (CanAll (other (loud (means.0).body))) (sym (ap (outcome_of_meaning judge) means.1))
          (same (means.0).body means.2))

      item-loud : (e : Form) (span : Extent) → Known e
          → CanAll (can_table (diagnostic_rules rules) other (or_fail (quiet e) span)) (can_in rules (suc n) e)
      item-loud e span known =
          CanAll-trans (choice_outcome (other (quiet e)) (other (Class no_bytes span))) (other (quiet e))
          (can_in rules (suc n) e)
          (CanAll-or_fail (other (quiet e)) (other (Class no_bytes span))
          (CanAll-empty_class (diagnostic_rules rules) n span))
          (subst (λ a. CanAll a (can_in rules (suc n) e)) (sym (can_in-quiet n e known)) (can_in-more rules n e))

      can_table-loud : (e : Form) → Known e
          → CanAll (can_table (diagnostic_rules rules) other (loud e)) (can_in rules (suc n) e)
      unfolding can_in
      can_table-loud (Literal bytes span) known = item-loud (Literal bytes span) span known
      can_table-loud (Class set span) known = item-loud (Class set span) span known
      can_table-loud (Any span) known = item-loud (Any span) span known
      can_table-loud (Name name span) known = name-loud name span known
      can_table-loud (Seq items span) known = items-loud items known
      can_table-loud (Choice first rest span) known =
          first-loud first rest (known-front first rest known) (known-back first rest known)
      can_table-loud (Optional part span) known =
          CanAll-optional_outcome (other (loud part)) (judge part) (same part known)
      can_table-loud (Star part span) known = CanAll-star_outcome (other (loud part)) (judge part) (same part known)
      can_table-loud (Plus part span) known = CanAll-plus_outcome (other (loud part)) (judge part) (same part known)
      can_table-loud (Counted part min max span) known =
          CanAll-repeat_outcome (other (loud part)) (judge part) (same part known) min max
      can_table-loud (And part span) known = item-loud (And part span) span known
      can_table-loud (Not part span) known = item-loud (Not part span) span known

    pub can_in-loud : (n : ℕ) (e : Form) → Known e
        → CanAll (can_in (diagnostic_rules rules) n (loud e)) (can_in rules n e)
    unfolding can_in
    can_in-loud zero e known = CanAll-refl no_outcome
    can_in-loud (suc n) e known = can_table-loud n (can_in-loud n) e known

    pub GivesNothing-loud : (e : Form) → Known e → GivesNothing (diagnostic_rules rules) (loud e) → GivesNothing rules e
    GivesNothing-loud e known gives = (gives.0, (can_in-loud gives.0 e known).nothing gives.1)
