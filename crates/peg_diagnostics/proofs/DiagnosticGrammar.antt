-- The diagnostic grammar of a grammar is a grammar, if no name of a rule has the mark of quiet copies.
use Rattle.std.proofs.Common.{◌≡◌, ◌≢◌, ℕ, zero, suc, true, List, [], ◌∷◌, ◌++◌, map, All, AllPairs, Contains}
use Rattle.std.proofs.Common.{append-nil, refl, sym, ap, ap₂, ◌∙◌, subst, arith}
use Rattle.std.proofs.lemmas.List.{append_cancel_right}
use Rattle.std.proofs.lemmas.List.Elements.{All-nil, All-cons, All-head, All-tail, All-append, All-weaker, All-contains}
use Rattle.std.proofs.lemmas.List.Elements.{Contains-append_left, Contains-append_right, Contains-push}
use Rattle.std.proofs.lemmas.Grind.{flat_map-append}
use Rattle.peg_semantics.specs.Form.{Form, Forms, Literal, Class, Any, Name, Seq, Choice, Optional, Star, Plus, Counted}
use Rattle.peg_semantics.specs.Form.{And, Not, End, Then, Count, names_used, names_used_by_all}
use Rattle.peg_semantics.specs.Form.{counts_written, counts_written_by_all}
use Rattle.peg_semantics.specs.Grammar.{IsGrammar, CountsAreInRange, is_in_range}
use Rattle.peg_semantics.specs.Rules.{Rule, names, references, counts}
use Rattle.peg_diagnostics.specs.Diagnostic.{rename_all, quiet, quiet_name, loud, loud_all, loud_rule, quiet_rule}
use Rattle.peg_diagnostics.specs.Diagnostic.{diagnostic_rules, HaveNoMark}
use Rattle.peg_diagnostics.proofs.KnownNames.{All-front, All-back, IsKnown}
use Rattle.peg_diagnostics.proofs.Lookups.{Distinct, names-diagnostic, AllPairs-head, AllPairs-tail, Contains-first}

-- ---- distinct names

module _ {X : Type 0} (R : X → X → Type 0) where
  pub AllPairs-nil : AllPairs R []
  AllPairs-nil i j d before within = absurd (omega (arith, within))

  pub AllPairs-cons : (x : X) (xs : List X) → All (R x) xs → AllPairs R xs → AllPairs R (x ∷ xs)
  AllPairs-cons x xs here later zero zero d before within = absurd (omega (arith, before))
  AllPairs-cons x xs here later zero (suc j) d before within = here j d (omega (arith, within))
  AllPairs-cons x xs here later (suc i) zero d before within = absurd (omega (arith, before))
  AllPairs-cons x xs here later (suc i) (suc j) d before within =
      later i j d (omega (arith, before)) (omega (arith, within))

  pub AllPairs-append : (xs ys : List X) → AllPairs R xs → AllPairs R ys → All (λ x. All (R x) ys) xs
      → AllPairs R (xs ++ ys)
  AllPairs-append [] ys first second cross = second
  AllPairs-append (x ∷ xs) ys first second cross =
      AllPairs-cons x (xs ++ ys)
      (All-append (R x) xs ys (AllPairs-head R x xs first) (All-head (λ x. All (R x) ys) x xs cross))
      (AllPairs-append xs ys (AllPairs-tail R x xs first) second (All-tail (λ x. All (R x) ys) x xs cross))

abbrev pub Apart : List ℕ → List ℕ → Type 0
Apart a b = a ≢ b

quiet-injective : (a b : List ℕ) → quiet_name a ≡ quiet_name b → a ≡ b
quiet-injective a b same = append_cancel_right a b (33 ∷ []) same

quiet_names-apart : (name : List ℕ) (rules : List Rule) → All (Apart name) (names rules)
    → All (Apart (quiet_name name)) (names (map quiet_rule rules))
quiet_names-apart name [] apart = All-nil (Apart (quiet_name name))
quiet_names-apart name (r ∷ rs) apart =
    All-cons (Apart (quiet_name name)) (quiet_name r.name) (names (map quiet_rule rs))
    (λ same. All-head (Apart name) r.name (names rs) apart (quiet-injective name r.name same))
    (quiet_names-apart name rs (All-tail (Apart name) r.name (names rs) apart))

quiet_names-distinct : (rules : List Rule) → Distinct (names rules) → Distinct (names (map quiet_rule rules))
quiet_names-distinct [] distinct = AllPairs-nil Apart
quiet_names-distinct (r ∷ rs) distinct =
    AllPairs-cons Apart (quiet_name r.name) (names (map quiet_rule rs))
    (quiet_names-apart r.name rs (AllPairs-head Apart r.name (names rs) distinct))
    (quiet_names-distinct rs (AllPairs-tail Apart r.name (names rs) distinct))

-- a name without the mark is that of no quiet copy
unmarked-apart : (name : List ℕ) (rules : List Rule) → ¬ Contains name 33
    → All (Apart name) (names (map quiet_rule rules))
unmarked-apart name [] unmarked = All-nil (Apart name)
unmarked-apart name (r ∷ rs) unmarked =
    All-cons (Apart name) (quiet_name r.name) (names (map quiet_rule rs))
    (λ same. unmarked (subst (λ n. Contains n 33) (sym same) (Contains-push r.name 33)))
    (unmarked-apart name rs unmarked)

names_distinct : (rules : List Rule) → Distinct (names rules) → HaveNoMark rules
    → Distinct (names (diagnostic_rules rules))
names_distinct rules distinct unmarked =
    subst Distinct (sym (names-diagnostic rules))
    (AllPairs-append Apart (names rules) (names (map quiet_rule rules)) distinct (quiet_names-distinct rules distinct)
    (All-weaker (λ name. ¬ Contains name 33) (λ name. All (Apart name) (names (map quiet_rule rules)))
    (λ name no. unmarked-apart name rules no) (names rules) unmarked))

-- ---- references

module _ (known shown : List (List ℕ)) (loud_known : (name : List ℕ) → Contains known name → Contains shown name)
    (quiet_known : (name : List ℕ) → Contains known name → Contains shown (quiet_name name)) where
  mutual
    quiet-refers : (e : Form) → All (IsKnown known) (names_used e) → All (IsKnown shown) (names_used (quiet e))
    quiet-refers (Literal bytes span) all = All-nil (IsKnown shown)
    quiet-refers (Class set span) all = All-nil (IsKnown shown)
    quiet-refers (Any span) all = All-nil (IsKnown shown)
    quiet-refers (Name name span) all =
        All-cons (IsKnown shown) (record { name = quiet_name name; span = span }) []
        (quiet_known name (All-head (IsKnown known) (record { name = name; span = span }) [] all))
        (All-nil (IsKnown shown))
    quiet-refers (Seq items span) all = all_quiet-refer items all
    quiet-refers (Choice first rest span) all =
        All-append (IsKnown shown) (names_used (quiet first)) (names_used_by_all (rename_all quiet_name rest))
        (quiet-refers first (All-front (IsKnown known) (names_used first) (names_used_by_all rest) all))
        (all_quiet-refer rest (All-back (IsKnown known) (names_used first) (names_used_by_all rest) all))
    quiet-refers (Optional part span) all = quiet-refers part all
    quiet-refers (Star part span) all = quiet-refers part all
    quiet-refers (Plus part span) all = quiet-refers part all
    quiet-refers (Counted part min max span) all = quiet-refers part all
    quiet-refers (And part span) all = quiet-refers part all
    quiet-refers (Not part span) all = quiet-refers part all

    all_quiet-refer : (items : Forms) → All (IsKnown known) (names_used_by_all items)
        → All (IsKnown shown) (names_used_by_all (rename_all quiet_name items))
    all_quiet-refer End all = All-nil (IsKnown shown)
    all_quiet-refer (Then e rest) all =
        All-append (IsKnown shown) (names_used (quiet e)) (names_used_by_all (rename_all quiet_name rest))
        (quiet-refers e (All-front (IsKnown known) (names_used e) (names_used_by_all rest) all))
        (all_quiet-refer rest (All-back (IsKnown known) (names_used e) (names_used_by_all rest) all))

  -- a predicate made quiet, and then the empty class
  predicate-refers : (part : Form) → All (IsKnown known) (names_used part)
      → All (IsKnown shown) (names_used (quiet part) ++ [])
  predicate-refers part all =
      All-append (IsKnown shown) (names_used (quiet part)) [] (quiet-refers part all) (All-nil (IsKnown shown))

  mutual
    loud-refers : (e : Form) → All (IsKnown known) (names_used e) → All (IsKnown shown) (names_used (loud e))
    loud-refers (Literal bytes span) all = All-nil (IsKnown shown)
    loud-refers (Class set span) all = All-nil (IsKnown shown)
    loud-refers (Any span) all = All-nil (IsKnown shown)
    loud-refers (Name name span) all =
        All-cons (IsKnown shown) (record { name = name; span = span }) []
        (loud_known name (All-head (IsKnown known) (record { name = name; span = span }) [] all))
        (All-nil (IsKnown shown))
    loud-refers (Seq items span) all = all_loud-refer items all
    loud-refers (Choice first rest span) all =
        All-append (IsKnown shown) (names_used (loud first)) (names_used_by_all (loud_all rest))
        (loud-refers first (All-front (IsKnown known) (names_used first) (names_used_by_all rest) all))
        (all_loud-refer rest (All-back (IsKnown known) (names_used first) (names_used_by_all rest) all))
    loud-refers (Optional part span) all = loud-refers part all
    loud-refers (Star part span) all = loud-refers part all
    loud-refers (Plus part span) all = loud-refers part all
    loud-refers (Counted part min max span) all = loud-refers part all
    loud-refers (And part span) all = predicate-refers part all
    loud-refers (Not part span) all = predicate-refers part all

    all_loud-refer : (items : Forms) → All (IsKnown known) (names_used_by_all items)
        → All (IsKnown shown) (names_used_by_all (loud_all items))
    all_loud-refer End all = All-nil (IsKnown shown)
    all_loud-refer (Then e rest) all =
        All-append (IsKnown shown) (names_used (loud e)) (names_used_by_all (loud_all rest))
        (loud-refers e (All-front (IsKnown known) (names_used e) (names_used_by_all rest) all))
        (all_loud-refer rest (All-back (IsKnown known) (names_used e) (names_used_by_all rest) all))

  loud_rules-refer : (rules : List Rule) → All (IsKnown known) (references rules)
      → All (IsKnown shown) (references (map loud_rule rules))
  loud_rules-refer [] all = All-nil (IsKnown shown)
  loud_rules-refer (r ∷ rs) all =
      All-append (IsKnown shown) (names_used (loud r.body)) (references (map loud_rule rs))
      (loud-refers r.body (All-front (IsKnown known) (names_used r.body) (references rs) all))
      (loud_rules-refer rs (All-back (IsKnown known) (names_used r.body) (references rs) all))

  quiet_rules-refer : (rules : List Rule) → All (IsKnown known) (references rules)
      → All (IsKnown shown) (references (map quiet_rule rules))
  quiet_rules-refer [] all = All-nil (IsKnown shown)
  quiet_rules-refer (r ∷ rs) all =
      All-append (IsKnown shown) (names_used (quiet r.body)) (references (map quiet_rule rs))
      (quiet-refers r.body (All-front (IsKnown known) (names_used r.body) (references rs) all))
      (quiet_rules-refer rs (All-back (IsKnown known) (names_used r.body) (references rs) all))

-- the quiet copy of a rule has the quiet name
quiet_names-known : (rules : List Rule) (name : List ℕ) → Contains (names rules) name
    → Contains (names (map quiet_rule rules)) (quiet_name name)
quiet_names-known rules name there =
    All-contains (λ n. Contains (names (map quiet_rule rules)) (quiet_name n)) (names rules) name (each rules) there
  where
    each : (some : List Rule) → All (λ n. Contains (names (map quiet_rule some)) (quiet_name n)) (names some)
    each [] = All-nil (λ n. Contains [] (quiet_name n))
    each (r ∷ rs) =
        let copies = names (map quiet_rule rs) in
        let Later : List ℕ → Type 0 = λ n. Contains (quiet_name r.name ∷ copies) (quiet_name n) in
        All-cons Later r.name (names rs) (Contains-first (quiet_name r.name) copies)
        (All-weaker (λ n. Contains copies (quiet_name n)) Later
        (λ n h. Contains-append_right (quiet_name r.name ∷ []) copies (quiet_name n) h) (names rs) (each rs))

references_known : (rules : List Rule) → All (IsKnown (names rules)) (references rules)
    → All (IsKnown (names (diagnostic_rules rules))) (references (diagnostic_rules rules))
references_known rules all =
    let copies = names (map quiet_rule rules) in
    let both = names rules ++ copies in
    let louder : (name : List ℕ) → Contains (names rules) name → Contains both name =
    λ name there. Contains-append_left (names rules) copies name there in
    let quieter : (name : List ℕ) → Contains (names rules) name → Contains both (quiet_name name) =
    λ name there. Contains-append_right (names rules) copies (quiet_name name) (quiet_names-known rules name there) in
    subst (λ known. All (IsKnown known) (references (diagnostic_rules rules))) (sym (names-diagnostic rules))
    (subst (All (IsKnown both))
    (sym (flat_map-append (λ (rule : Rule). names_used rule.body) (map loud_rule rules) (map quiet_rule rules)))
    (All-append (IsKnown both) (references (map loud_rule rules)) (references (map quiet_rule rules))
    (loud_rules-refer (names rules) both louder quieter rules all)
    (quiet_rules-refer (names rules) both louder quieter rules all)))

-- ---- counts

mutual
  counts-quiet : (e : Form) → counts_written (quiet e) ≡ counts_written e
  counts-quiet (Literal bytes span) = refl
  counts-quiet (Class set span) = refl
  counts-quiet (Any span) = refl
  counts-quiet (Name name span) = refl
  counts-quiet (Seq items span) = all_counts-quiet items
  counts-quiet (Choice first rest span) = ap₂ ◌++◌ (counts-quiet first) (all_counts-quiet rest)
  counts-quiet (Optional part span) = counts-quiet part
  counts-quiet (Star part span) = counts-quiet part
  counts-quiet (Plus part span) = counts-quiet part
  counts-quiet (Counted part min max span) =
      ap (λ l. record { min = min; max = max; span = span } ∷ l) (counts-quiet part)
  counts-quiet (And part span) = counts-quiet part
  counts-quiet (Not part span) = counts-quiet part

  all_counts-quiet : (items : Forms) → counts_written_by_all (rename_all quiet_name items) ≡ counts_written_by_all items
  all_counts-quiet End = refl
  all_counts-quiet (Then e rest) = ap₂ ◌++◌ (counts-quiet e) (all_counts-quiet rest)

mutual
  counts-loud : (e : Form) → counts_written (loud e) ≡ counts_written e
  counts-loud (Literal bytes span) = refl
  counts-loud (Class set span) = refl
  counts-loud (Any span) = refl
  counts-loud (Name name span) = refl
  counts-loud (Seq items span) = all_counts-loud items
  counts-loud (Choice first rest span) = ap₂ ◌++◌ (counts-loud first) (all_counts-loud rest)
  counts-loud (Optional part span) = counts-loud part
  counts-loud (Star part span) = counts-loud part
  counts-loud (Plus part span) = counts-loud part
  counts-loud (Counted part min max span) =
      ap (λ l. record { min = min; max = max; span = span } ∷ l) (counts-loud part)
  counts-loud (And part span) = append-nil (counts_written (quiet part)) ∙ counts-quiet part
  counts-loud (Not part span) = append-nil (counts_written (quiet part)) ∙ counts-quiet part

  all_counts-loud : (items : Forms) → counts_written_by_all (loud_all items) ≡ counts_written_by_all items
  all_counts-loud End = refl
  all_counts-loud (Then e rest) = ap₂ ◌++◌ (counts-loud e) (all_counts-loud rest)

loud_rules-count : (rules : List Rule) → counts (map loud_rule rules) ≡ counts rules
loud_rules-count [] = refl
loud_rules-count (r ∷ rs) = ap₂ ◌++◌ (counts-loud r.body) (loud_rules-count rs)

quiet_rules-count : (rules : List Rule) → counts (map quiet_rule rules) ≡ counts rules
quiet_rules-count [] = refl
quiet_rules-count (r ∷ rs) = ap₂ ◌++◌ (counts-quiet r.body) (quiet_rules-count rs)

abbrev pub InRange : Count → Type 0
InRange count = is_in_range count ≡ true

counts_in_range : (rules : List Rule) → CountsAreInRange rules → CountsAreInRange (diagnostic_rules rules)
counts_in_range rules all =
    subst (All InRange)
    (sym (flat_map-append (λ (rule : Rule). counts_written rule.body) (map loud_rule rules) (map quiet_rule rules)))
    (All-append InRange (counts (map loud_rule rules)) (counts (map quiet_rule rules))
    (subst (All InRange) (sym (loud_rules-count rules)) all) (subst (All InRange) (sym (quiet_rules-count rules)) all))

-- ---- grammars

not_empty : (rules : List Rule) → rules ≢ [] → diagnostic_rules rules ≢ []
not_empty [] some none = some refl
not_empty (r ∷ rs) some none = cc

pub IsGrammar-diagnostic : (rules : List Rule) → IsGrammar rules → HaveNoMark rules → IsGrammar (diagnostic_rules rules)
IsGrammar-diagnostic rules is unmarked = record {
  some = not_empty rules is.some;
  distinct = names_distinct rules is.distinct unmarked;
  defined = references_known rules is.defined;
  counted = counts_in_range rules is.counted;
}
