-- Rules with cut counts are a grammar of the same weight, with the same names and outcomes.
use Rattle.std.proofs.Common.{AllPairs, Contains, ◌≢◌, ◌≡◌, ◌↔◌, ℕ, zero, suc, ◌+◌, Bool, true, false, ◌&&◌, List, [], ◌∷◌, ◌++◌, All}
use Rattle.std.proofs.Common.{sum_by, nat_le, refl, sym, ap, ap₂, ◌∙◌, subst}
use Rattle.std.proofs.lemmas.List.{length-map}
use Rattle.std.proofs.lemmas.List.Elements.{All-cons, All-head, All-tail, All-append}
use Rattle.std.proofs.lemmas.List.Sums.{sum_by-cons}
use Rattle.std.specs.List.{AllZip}
use Rattle.peg_bytes.specs.Extent.{Extent}
use Rattle.peg_semantics.specs.AbstractOutcomes.{Can}
use Rattle.peg_semantics.specs.CutCounts.{at_most_one, cut_counts, cut_all_counts, cut_rule, cut_rules}
use Rattle.peg_semantics.specs.Form.{Form, Forms, Literal, Class, Any, Name, Seq, Choice, Optional, Star, Plus, Counted}
use Rattle.peg_semantics.specs.Form.{And, Not, End, Then, Count, names_used, names_used_by_all, counts_written}
use Rattle.peg_semantics.specs.Form.{counts_written_by_all, form_weight, forms_weight, Reference}
use Rattle.peg_semantics.specs.Grammar.{IsGrammar, CountsAreInRange, greatest_count, is_in_range}
use Rattle.peg_semantics.specs.RuleOutcomes.{IsAbstractOutcome, AreAbstractOutcomes}
use Rattle.peg_semantics.specs.Rules.{Rule, names, references, counts, weight_of}
use Rattle.peg_semantics.proofs.CutOutcomes.{GivesNothing-cut, GivesSomething-cut, CanFail-cut}
use Rattle.peg_semantics.proofs.MeaningLemmas.{All-front, All-back}

-- ---- names

pub names-cut : (rules : List Rule) → names (cut_rules rules) ≡ names rules
names-cut [] = refl
names-cut (rule ∷ rules) = ap (λ l. rule.name ∷ l) (names-cut rules)

mutual
  names_used-cut : (e : Form) → names_used (cut_counts e) ≡ names_used e
  names_used-cut (Literal bytes span) = refl
  names_used-cut (Class set span) = refl
  names_used-cut (Any span) = refl
  names_used-cut (Name name span) = refl
  names_used-cut (Seq items span) = all_names_used-cut items
  names_used-cut (Choice first rest span) = ap₂ ◌++◌ (names_used-cut first) (all_names_used-cut rest)
  names_used-cut (Optional part span) = names_used-cut part
  names_used-cut (Star part span) = names_used-cut part
  names_used-cut (Plus part span) = names_used-cut part
  names_used-cut (Counted part min max span) = names_used-cut part
  names_used-cut (And part span) = names_used-cut part
  names_used-cut (Not part span) = names_used-cut part

  all_names_used-cut : (items : Forms) → names_used_by_all (cut_all_counts items) ≡ names_used_by_all items
  all_names_used-cut End = refl
  all_names_used-cut (Then e rest) = ap₂ ◌++◌ (names_used-cut e) (all_names_used-cut rest)

references-cut : (rules : List Rule) → references (cut_rules rules) ≡ references rules
references-cut [] = refl
references-cut (rule ∷ rules) = ap₂ ◌++◌ (names_used-cut rule.body) (references-cut rules)

-- ---- counts in range

abbrev InRange : Count → Type 0
InRange count = is_in_range count ≡ true

-- no count up to 0 is in range
not_to_zero : (a : Bool) → (a && nat_le 1 0 && nat_le 0 greatest_count) ≡ true → ⊥
not_to_zero true is = cc
not_to_zero false is = cc

-- a cut count stays in range
in_range-cut : (min max : ℕ) (span : Extent) → InRange (record { min = min; max = max; span = span })
    → InRange (record { min = at_most_one min; max = at_most_one max; span = span })
in_range-cut min zero span is = absurd (not_to_zero (nat_le min 0) is)
in_range-cut zero (suc max) span is = refl
in_range-cut (suc min) (suc max) span is = refl

mutual
  counts_written-cut : (e : Form) → All InRange (counts_written e) → All InRange (counts_written (cut_counts e))
  counts_written-cut (Literal bytes span) all = all
  counts_written-cut (Class set span) all = all
  counts_written-cut (Any span) all = all
  counts_written-cut (Name name span) all = all
  counts_written-cut (Seq items span) all = all_counts_written-cut items all
  counts_written-cut (Choice first rest span) all =
      let front = All-front InRange (counts_written first) (counts_written_by_all rest) all in
      let back = All-back InRange (counts_written first) (counts_written_by_all rest) all in
      All-append InRange (counts_written (cut_counts first)) (counts_written_by_all (cut_all_counts rest))
      (counts_written-cut first front) (all_counts_written-cut rest back)
  counts_written-cut (Optional part span) all = counts_written-cut part all
  counts_written-cut (Star part span) all = counts_written-cut part all
  counts_written-cut (Plus part span) all = counts_written-cut part all
  counts_written-cut (Counted part min max span) all =
      let count : Count = record { min = min; max = max; span = span } in
      let cut : Count = record { min = at_most_one min; max = at_most_one max; span = span } in
      All-cons InRange cut (counts_written (cut_counts part))
      (in_range-cut min max span (All-head InRange count (counts_written part) all))
      (counts_written-cut part (All-tail InRange count (counts_written part) all))
  counts_written-cut (And part span) all = counts_written-cut part all
  counts_written-cut (Not part span) all = counts_written-cut part all

  all_counts_written-cut : (items : Forms) → All InRange (counts_written_by_all items)
      → All InRange (counts_written_by_all (cut_all_counts items))
  all_counts_written-cut End all = all
  all_counts_written-cut (Then e rest) all =
      let front = All-front InRange (counts_written e) (counts_written_by_all rest) all in
      let back = All-back InRange (counts_written e) (counts_written_by_all rest) all in
      All-append InRange (counts_written (cut_counts e)) (counts_written_by_all (cut_all_counts rest))
      (counts_written-cut e front) (all_counts_written-cut rest back)

counts-cut : (rules : List Rule) → CountsAreInRange rules → CountsAreInRange (cut_rules rules)
counts-cut [] all = all
counts-cut (rule ∷ rules) all =
    let front = All-front InRange (counts_written rule.body) (counts rules) all in
    let back = All-back InRange (counts_written rule.body) (counts rules) all in
    All-append InRange (counts_written (cut_counts rule.body)) (counts (cut_rules rules))
    (counts_written-cut rule.body front) (counts-cut rules back)

-- ---- grammars

abbrev Distinct : List (List ℕ) → Type 0
Distinct some = AllPairs (λ (a b : List ℕ). a ≢ b) some

abbrev AllKnown : List (List ℕ) → List Reference → Type 0
AllKnown known references = All (λ (reference : Reference). Contains known reference.name) references

some-cut : (rules : List Rule) → (rules ≡ [] → ⊥) → cut_rules rules ≡ [] → ⊥
some-cut [] some none = some refl
some-cut (rule ∷ rules) some none = cc

pub IsGrammar-cut : (rules : List Rule) → IsGrammar rules → IsGrammar (cut_rules rules)
IsGrammar-cut rules is = record {
  some = some-cut rules is.some;
  distinct = subst (λ l. Distinct l) (sym (names-cut rules)) is.distinct;
  defined = subst (λ l. AllKnown l (references (cut_rules rules))) (sym (names-cut rules))
      (subst (AllKnown (names rules)) (sym (references-cut rules)) is.defined);
  counted = counts-cut rules is.counted;
}

-- ---- weights

mutual
  form_weight-cut : (e : Form) → form_weight (cut_counts e) ≡ form_weight e
  form_weight-cut (Literal bytes span) = refl
  form_weight-cut (Class set span) = refl
  form_weight-cut (Any span) = refl
  form_weight-cut (Name name span) = refl
  form_weight-cut (Seq items span) = ap (λ n. 1 + n) (forms_weight-cut items)
  form_weight-cut (Choice first rest span) =
      ap₂ (λ a b. 1 + a + b) (form_weight-cut first) (forms_weight-cut rest)
  form_weight-cut (Optional part span) = ap (λ n. 1 + n) (form_weight-cut part)
  form_weight-cut (Star part span) = ap (λ n. 1 + n) (form_weight-cut part)
  form_weight-cut (Plus part span) = ap (λ n. 1 + n) (form_weight-cut part)
  form_weight-cut (Counted part min max span) = ap (λ n. 1 + n) (form_weight-cut part)
  form_weight-cut (And part span) = ap (λ n. 1 + n) (form_weight-cut part)
  form_weight-cut (Not part span) = ap (λ n. 1 + n) (form_weight-cut part)

  forms_weight-cut : (items : Forms) → forms_weight (cut_all_counts items) ≡ forms_weight items
  forms_weight-cut End = refl
  forms_weight-cut (Then e rest) = ap₂ ◌+◌ (form_weight-cut e) (forms_weight-cut rest)

abbrev rule_weight : Rule → ℕ
rule_weight rule = form_weight rule.body

rule_weights-cut : (rules : List Rule) → sum_by rule_weight (cut_rules rules) ≡ sum_by rule_weight rules
rule_weights-cut [] = refl
rule_weights-cut (rule ∷ rules) =
    sum_by-cons rule_weight (cut_rule rule) (cut_rules rules)
    ∙ ap₂ ◌+◌ (form_weight-cut rule.body) (rule_weights-cut rules) ∙ sym (sum_by-cons rule_weight rule rules)

pub weight_of-cut : (rules : List Rule) → weight_of (cut_rules rules) ≡ weight_of rules
weight_of-cut rules = ap₂ ◌+◌ (length-map rules cut_rule) (rule_weights-cut rules)

-- ---- the outcomes of the rules

module _ (rules : List Rule) where
  outcome-cut : (e : Form) (can : Can)
      → IsAbstractOutcome (cut_rules rules) (cut_counts e) can ↔ IsAbstractOutcome rules e can
  outcome-cut e can = (
    λ is. record {
      nothing = subst (λ T. (can.nothing ≡ true) ↔ T) (GivesNothing-cut rules e) is.nothing;
      something = subst (λ T. (can.something ≡ true) ↔ T) (GivesSomething-cut rules e) is.something;
      fails = subst (λ T. (can.fails ≡ true) ↔ T) (CanFail-cut rules e) is.fails;
    },
    λ is. record {
      nothing = subst (λ T. (can.nothing ≡ true) ↔ T) (sym (GivesNothing-cut rules e)) is.nothing;
      something = subst (λ T. (can.something ≡ true) ↔ T) (sym (GivesSomething-cut rules e)) is.something;
      fails = subst (λ T. (can.fails ≡ true) ↔ T) (sym (CanFail-cut rules e)) is.fails;
    },
  )

  abbrev CutOutcome : Rule → Can → Type 0
  CutOutcome rule can = IsAbstractOutcome (cut_rules rules) rule.body can

  abbrev Outcome : Rule → Can → Type 0
  Outcome rule can = IsAbstractOutcome rules rule.body can

  outcomes-uncut : (some : List Rule) (cans : List Can) → AllZip CutOutcome (cut_rules some) cans
      → AllZip Outcome some cans
  outcomes-uncut [] [] all = tt
  outcomes-uncut [] (can ∷ cans) all = absurd all
  outcomes-uncut (rule ∷ some) [] all = absurd all
  outcomes-uncut (rule ∷ some) (can ∷ cans) all = ((outcome-cut rule.body can).0 all.0, outcomes-uncut some cans all.1)

  outcomes-cut : (some : List Rule) (cans : List Can) → AllZip Outcome some cans
      → AllZip CutOutcome (cut_rules some) cans
  outcomes-cut [] [] all = tt
  outcomes-cut [] (can ∷ cans) all = absurd all
  outcomes-cut (rule ∷ some) [] all = absurd all
  outcomes-cut (rule ∷ some) (can ∷ cans) all = ((outcome-cut rule.body can).1 all.0, outcomes-cut some cans all.1)

  pub AreAbstractOutcomes-cut : (cans : List Can)
      → AreAbstractOutcomes (cut_rules rules) cans ↔ AreAbstractOutcomes rules cans
  AreAbstractOutcomes-cut cans = (outcomes-uncut rules cans, outcomes-cut rules cans)
