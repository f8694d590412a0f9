-- Well-formedness carries over to the diagnostic grammar, and back.
use Rattle.std.proofs.Common.{◌≡◌, ℕ, zero, suc, ◌+◌, List, [], ◌∷◌, ◌++◌, map, get_or, All}
use Rattle.std.proofs.Common.{refl, sym, ap, ap₂, ◌∙◌, subst, arith}
use Rattle.std.proofs.lemmas.List.{map-append}
use Rattle.std.proofs.lemmas.List.Elements.{All-nil, All-cons, All-head, All-tail, All-map, All-append}
use Rattle.peg_bytes.specs.Extent.{Extent}
use Rattle.peg_semantics.specs.Form.{Form, Forms, Literal, Class, Any, Name, Seq, Choice, Optional, Star, Plus, Counted}
use Rattle.peg_semantics.specs.Form.{And, Not, End, Then, names_used, names_used_by_all}
use Rattle.peg_semantics.specs.Rules.{Rule, names, references, meaning_of}
use Rattle.peg_semantics.specs.WellFormed.{FormPredicate, ItemsAre, AllAre, MeaningIs, RepeatsWell, WellFormedTable}
use Rattle.peg_semantics.specs.WellFormed.{IsWellFormedIn, IsWellFormed, below, below_all, subexpressions}
use Rattle.peg_semantics.specs.WellFormed.{IsWellFormedGrammar}
use Rattle.peg_semantics.proofs.RoundsLemmas.{IsWellFormedIn-more, IsWellFormedIn-later}
use Rattle.peg_diagnostics.specs.Diagnostic.{rename_all, quiet, quiet_name, no_bytes, or_fail, loud, loud_all}
use Rattle.peg_diagnostics.specs.Diagnostic.{loud_rule, quiet_rule}
use Rattle.peg_diagnostics.specs.Diagnostic.{diagnostic_rules}
use Rattle.peg_diagnostics.proofs.DiagnosticOutcomes.{known-front, known-back, known-name}
use Rattle.peg_diagnostics.proofs.DiagnosticOutcomes.{GivesNothing-quiet, GivesNothing-loud}
use Rattle.peg_diagnostics.proofs.KnownNames.{All-front, All-back, IsKnown, UsesKnown, loud_meaning, quiet_meaning}
use Rattle.peg_diagnostics.proofs.Lookups.{Distinct}
use Rattle.peg_diagnostics.proofs.LoudRecords.{twice, twice-more}

-- a property of all elements of a mapped list
All-unmap : {X Y : Type 0} (P : Y → Type 0) (f : X → Y) (xs : List X) → All P (map f xs) → All (λ x. P (f x)) xs
All-unmap P f [] all = All-nil (λ x. P (f x))
All-unmap P f (x ∷ xs) all =
    All-cons (λ x. P (f x)) x xs (All-head P (f x) (map f xs) all) (All-unmap P f xs (All-tail P (f x) (map f xs) all))

-- the subexpressions of a quiet expression are quiet
mutual
  below-quiet : (e : Form) → below (quiet e) ≡ map quiet (below e)
  below-quiet (Literal bytes span) = refl
  below-quiet (Class set span) = refl
  below-quiet (Any span) = refl
  below-quiet (Name name span) = refl
  below-quiet (Seq items span) = below_all-quiet items
  below-quiet (Choice first rest span) =
      ap (λ l. quiet first ∷ l)
      (ap₂ ◌++◌ (below-quiet first) (below_all-quiet rest) ∙ sym (map-append quiet (below first) (below_all rest)))
  below-quiet (Optional part span) = ap (λ l. quiet part ∷ l) (below-quiet part)
  below-quiet (Star part span) = ap (λ l. quiet part ∷ l) (below-quiet part)
  below-quiet (Plus part span) = ap (λ l. quiet part ∷ l) (below-quiet part)
  below-quiet (Counted part min max span) = ap (λ l. quiet part ∷ l) (below-quiet part)
  below-quiet (And part span) = ap (λ l. quiet part ∷ l) (below-quiet part)
  below-quiet (Not part span) = ap (λ l. quiet part ∷ l) (below-quiet part)

  below_all-quiet : (items : Forms) → below_all (rename_all quiet_name items) ≡ map quiet (below_all items)
  below_all-quiet End = refl
  below_all-quiet (Then e rest) =
      ap (λ l. quiet e ∷ l)
      (ap₂ ◌++◌ (below-quiet e) (below_all-quiet rest) ∙ sym (map-append quiet (below e) (below_all rest)))

subexpressions-quiet : (e : Form) → subexpressions (quiet e) ≡ map quiet (subexpressions e)
subexpressions-quiet e = ap (λ l. quiet e ∷ l) (below-quiet e)

module _ (rules : List Rule) (closed : All (IsKnown (names rules)) (references rules))
    (distinct : Distinct (names (diagnostic_rules rules))) where
  abbrev shown : List Rule
  shown = diagnostic_rules rules

  -- the names that an expression refers to are defined
  abbrev Uses : Form → Type 0
  Uses e = UsesKnown (names rules) e

  abbrev UsesAll : Forms → Type 0
  UsesAll items = All (IsKnown (names rules)) (names_used_by_all items)

  front : (e : Form) (rest : Forms) → All (IsKnown (names rules)) (names_used e ++ names_used_by_all rest) → Uses e
  front e rest known = known-front rules closed e rest known

  back : (e : Form) (rest : Forms) → All (IsKnown (names rules)) (names_used e ++ names_used_by_all rest) → UsesAll rest
  back e rest known = known-back rules closed e rest known

  -- ---- quiet expressions: the types of the facts on both sides are equal

  module _ (Is Other : FormPredicate) (same : (e : Form) → Uses e → Other (quiet e) ≡ Is e) where
    ItemsAre-quiet : (items : Forms) → UsesAll items
        → ItemsAre shown Other (rename_all quiet_name items) ≡ ItemsAre rules Is items
    ItemsAre-quiet End known = refl
    ItemsAre-quiet (Then e rest) known =
        let here = same e (front e rest known) in
        let gives = GivesNothing-quiet rules closed distinct e (front e rest known) in
        let later = ItemsAre-quiet rest (back e rest known) in
        λ i. here i × (gives i → later i)

    AllAre-quiet : (items : Forms) → UsesAll items → AllAre Other (rename_all quiet_name items) ≡ AllAre Is items
    AllAre-quiet End known = refl
    AllAre-quiet (Then e rest) known =
        let here = same e (front e rest known) in
        let later = AllAre-quiet rest (back e rest known) in
        λ i. here i × later i

    MeaningIs-quiet : (name : List ℕ) (span : Extent) → Uses (Name name span)
        → MeaningIs Other (meaning_of shown (quiet_name name)) ≡ MeaningIs Is (meaning_of rules name)
    MeaningIs-quiet name span known =
        let means = known-name rules closed name span known in
        let copy = quiet_meaning rules distinct name means.0 means.1 in
        ap (MeaningIs Other) copy.1 ∙ ap Other copy.2 ∙ same (means.0).body means.2 ∙ sym (ap (MeaningIs Is) means.1)

    RepeatsWell-quiet : (part : Form) → Uses part → RepeatsWell shown Other (quiet part) ≡ RepeatsWell rules Is part
    RepeatsWell-quiet part known =
        let here = same part known in
        let gives = GivesNothing-quiet rules closed distinct part known in
        λ i. here i × (¬ (gives i))

    WellFormedTable-quiet : (e : Form) → Uses e
        → WellFormedTable shown Other (quiet e) ≡ WellFormedTable rules Is e
    WellFormedTable-quiet (Literal bytes span) known = refl
    WellFormedTable-quiet (Class set span) known = refl
    WellFormedTable-quiet (Any span) known = refl
    WellFormedTable-quiet (Name name span) known = MeaningIs-quiet name span known
    WellFormedTable-quiet (Seq items span) known = ItemsAre-quiet items known
    WellFormedTable-quiet (Choice first rest span) known =
        let here = same first (front first rest known) in
        let later = AllAre-quiet rest (back first rest known) in
        λ i. here i × later i
    WellFormedTable-quiet (Optional part span) known = same part known
    WellFormedTable-quiet (Star part span) known = RepeatsWell-quiet part known
    WellFormedTable-quiet (Plus part span) known = RepeatsWell-quiet part known
    WellFormedTable-quiet (Counted part min max span) known = same part known
    WellFormedTable-quiet (And part span) known = same part known
    WellFormedTable-quiet (Not part span) known = same part known

  IsWellFormedIn-quiet : (n : ℕ) (e : Form) → Uses e → IsWellFormedIn shown n (quiet e) ≡ IsWellFormedIn rules n e
  unfolding IsWellFormedIn
  IsWellFormedIn-quiet zero e known = refl
  IsWellFormedIn-quiet (suc n) e known =
      WellFormedTable-quiet (IsWellFormedIn rules n) (IsWellFormedIn shown n) (IsWellFormedIn-quiet n) e known

  quiet_is : (e : Form) → Uses e → IsWellFormed rules e → IsWellFormed shown (quiet e)
  quiet_is e known is = (is.0, subst (λ T. T) (sym (IsWellFormedIn-quiet is.0 e known)) is.1)

  unquiet_is : (e : Form) → Uses e → IsWellFormed shown (quiet e) → IsWellFormed rules e
  unquiet_is e known is = (is.0, subst (λ T. T) (IsWellFormedIn-quiet is.0 e known) is.1)

  -- ---- loud expressions

  module _ (Is Other : FormPredicate) (same : (e : Form) → Uses e → Is e → Other (loud e)) where
    ItemsAre-loud : (items : Forms) → UsesAll items → ItemsAre rules Is items → ItemsAre shown Other (loud_all items)
    ItemsAre-loud End known are = tt
    ItemsAre-loud (Then e rest) known are = (
      same e (front e rest known) are.0,
      λ gives. ItemsAre-loud rest (back e rest known)
          (are.1 (GivesNothing-loud rules closed distinct e (front e rest known) gives)),
    )

    AllAre-loud : (items : Forms) → UsesAll items → AllAre Is items → AllAre Other (loud_all items)
    AllAre-loud End known are = tt
    AllAre-loud (Then e rest) known are =
        (same e (front e rest known) are.0, AllAre-loud rest (back e rest known) are.1)

    MeaningIs-loud : (name : List ℕ) (span : Extent) → Uses (Name name span) → MeaningIs Is (meaning_of rules name)
        → MeaningIs Other (meaning_of shown name)
    MeaningIs-loud name span known is =
        let means = known-name rules closed name span known in
        let copy = loud_meaning rules name means.0 means.1 in
        subst (MeaningIs Other) (sym copy.1)
        (subst Other (sym copy.2) (same (means.0).body means.2 (subst (MeaningIs Is) means.1 is)))

    RepeatsWell-loud : (part : Form) → Uses part → RepeatsWell rules Is part → RepeatsWell shown Other (loud part)
    RepeatsWell-loud part known is =
        (same part known is.0, λ gives. is.1 (GivesNothing-loud rules closed distinct part known gives))

    module _ (items_are : (e : Form) (span : Extent) → Uses e → WellFormedTable rules Is e
        → WellFormedTable shown Other (or_fail (quiet e) span)) where
      WellFormedTable-loud : (e : Form) → Uses e → WellFormedTable rules Is e → WellFormedTable shown Other (loud e)
      WellFormedTable-loud (Literal bytes span) known is = items_are (Literal bytes span) span known is
      WellFormedTable-loud (Class set span) known is = items_are (Class set span) span known is
      WellFormedTable-loud (Any span) known is = items_are (Any span) span known is
      WellFormedTable-loud (Name name span) known is = MeaningIs-loud name span known is
      WellFormedTable-loud (Seq items span) known is = ItemsAre-loud items known is
      WellFormedTable-loud (Choice first rest span) known is =
          (same first (front first rest known) is.0, AllAre-loud rest (back first rest known) is.1)
      WellFormedTable-loud (Optional part span) known is = same part known is
      WellFormedTable-loud (Star part span) known is = RepeatsWell-loud part known is
      WellFormedTable-loud (Plus part span) known is = RepeatsWell-loud part known is
      WellFormedTable-loud (Counted part min max span) known is = same part known is
      WellFormedTable-loud (And part span) known is = items_are (And part span) span known is
      WellFormedTable-loud (Not part span) known is = items_are (Not part span) span known is

  -- the first part of an item's loud expression, and its empty class
  item_is : (n : ℕ) (e : Form) (span : Extent) → Uses e → IsWellFormedIn rules (suc n) e
      → WellFormedTable shown (IsWellFormedIn shown (suc (twice n))) (or_fail (quiet e) span)
  unfolding IsWellFormedIn
  item_is n e span known is =
      let deep : n + suc n ≡ suc (twice n) = omega (arith, twice-more n) in (
        subst (λ d. IsWellFormedIn shown d (quiet e)) deep
            (IsWellFormedIn-later shown n (suc n) (quiet e)
            (subst (λ T. T) (sym (IsWellFormedIn-quiet (suc n) e known)) is)),
        (tt, tt),
      )

  IsWellFormedIn-loud : (n : ℕ) (e : Form) → Uses e → IsWellFormedIn rules n e → IsWellFormedIn shown (twice n) (loud e)
  unfolding IsWellFormedIn
  IsWellFormedIn-loud zero e known is = absurd is
  IsWellFormedIn-loud (suc n) e known is =
      WellFormedTable-loud (IsWellFormedIn rules n) (IsWellFormedIn shown (suc (twice n)))
      (λ part uses fine. IsWellFormedIn-more shown (twice n) (loud part) (IsWellFormedIn-loud n part uses fine))
      (item_is n) e known is

  loud_is : (e : Form) → Uses e → IsWellFormed rules e → IsWellFormed shown (loud e)
  loud_is e known is = (twice is.0, IsWellFormedIn-loud is.0 e known is.1)

  -- ---- subexpressions

  mutual
    below-uses : (e : Form) → Uses e → All Uses (below e)
    below-uses (Literal bytes span) known = All-nil Uses
    below-uses (Class set span) known = All-nil Uses
    below-uses (Any span) known = All-nil Uses
    below-uses (Name name span) known = All-nil Uses
    below-uses (Seq items span) known = below_all-uses items known
    below-uses (Choice first rest span) known =
        All-cons Uses first (below first ++ below_all rest) (front first rest known)
        (All-append Uses (below first) (below_all rest) (below-uses first (front first rest known))
        (below_all-uses rest (back first rest known)))
    below-uses (Optional part span) known = All-cons Uses part (below part) known (below-uses part known)
    below-uses (Star part span) known = All-cons Uses part (below part) known (below-uses part known)
    below-uses (Plus part span) known = All-cons Uses part (below part) known (below-uses part known)
    below-uses (Counted part min max span) known = All-cons Uses part (below part) known (below-uses part known)
    below-uses (And part span) known = All-cons Uses part (below part) known (below-uses part known)
    below-uses (Not part span) known = All-cons Uses part (below part) known (below-uses part known)

    below_all-uses : (items : Forms) → UsesAll items → All Uses (below_all items)
    below_all-uses End known = All-nil Uses
    below_all-uses (Then e rest) known =
        All-cons Uses e (below e ++ below_all rest) (front e rest known)
        (All-append Uses (below e) (below_all rest) (below-uses e (front e rest known))
        (below_all-uses rest (back e rest known)))

  subexpressions-use : (e : Form) → Uses e → All Uses (subexpressions e)
  subexpressions-use e known = All-cons Uses e (below e) known (below-uses e known)

  all_quiet : (e : Form) → Uses e → All (IsWellFormed rules) (subexpressions e)
      → All (IsWellFormed shown) (subexpressions (quiet e))
  all_quiet e known all =
      subst (All (IsWellFormed shown)) (sym (subexpressions-quiet e))
      (All-map (IsWellFormed shown) quiet (subexpressions e)
      (λ k d within. quiet_is (get_or (subexpressions e) k d) (subexpressions-use e known k d within) (all k d within)))

  all_unquiet : (e : Form) → Uses e → All (IsWellFormed shown) (subexpressions (quiet e))
      → All (IsWellFormed rules) (subexpressions e)
  all_unquiet e known all =
      let quieted = All-unmap (IsWellFormed shown) quiet (subexpressions e)
      (subst (All (IsWellFormed shown)) (subexpressions-quiet e) all) in
      λ k d within. unquiet_is (get_or (subexpressions e) k d) (subexpressions-use e known k d within)
      (quieted k d within)

  empty_class_is : (span : Extent) → IsWellFormed shown (Class no_bytes span)
  unfolding IsWellFormedIn
  empty_class_is span = (suc zero, tt)

  -- an item's subexpressions, then the empty class
  item_parts : (e : Form) (span : Extent) → Uses e → All (IsWellFormed rules) (subexpressions e)
      → All (IsWellFormed shown) (below (or_fail (quiet e) span))
  item_parts e span known all =
      All-append (IsWellFormed shown) (subexpressions (quiet e)) (Class no_bytes span ∷ []) (all_quiet e known all)
      (All-cons (IsWellFormed shown) (Class no_bytes span) [] (empty_class_is span) (All-nil (IsWellFormed shown)))

  -- the loud expression itself, and then its parts
  with_parts : (e : Form) → Uses e → All (IsWellFormed rules) (subexpressions e)
      → All (IsWellFormed shown) (below (loud e)) → All (IsWellFormed shown) (subexpressions (loud e))
  with_parts e known all parts =
      All-cons (IsWellFormed shown) (loud e) (below (loud e))
      (loud_is e known (All-head (IsWellFormed rules) e (below e) all)) parts

  mutual
    loud_parts : (e : Form) → Uses e → All (IsWellFormed rules) (subexpressions e)
        → All (IsWellFormed shown) (below (loud e))
    loud_parts (Literal bytes span) known all = item_parts (Literal bytes span) span known all
    loud_parts (Class set span) known all = item_parts (Class set span) span known all
    loud_parts (Any span) known all = item_parts (Any span) span known all
    loud_parts (Name name span) known all = All-nil (IsWellFormed shown)
    loud_parts (Seq items span) known all =
        all_loud_parts items known (All-tail (IsWellFormed rules) (Seq items span) (below_all items) all)
    loud_parts (Choice first rest span) known all =
        let parts = All-tail (IsWellFormed rules) (Choice first rest span) (below_all (Then first rest)) all in
        let here = All-front (IsWellFormed rules) (subexpressions first) (below_all rest) parts in
        All-append (IsWellFormed shown) (subexpressions (loud first)) (below_all (loud_all rest))
        (with_parts first (front first rest known) here (loud_parts first (front first rest known) here))
        (all_loud_parts rest (back first rest known)
        (All-back (IsWellFormed rules) (subexpressions first) (below_all rest) parts))
    loud_parts (Optional part span) known all =
        let parts = All-tail (IsWellFormed rules) (Optional part span) (subexpressions part) all in
        with_parts part known parts (loud_parts part known parts)
    loud_parts (Star part span) known all =
        let parts = All-tail (IsWellFormed rules) (Star part span) (subexpressions part) all in
        with_parts part known parts (loud_parts part known parts)
    loud_parts (Plus part span) known all =
        let parts = All-tail (IsWellFormed rules) (Plus part span) (subexpressions part) all in
        with_parts part known parts (loud_parts part known parts)
    loud_parts (Counted part min max span) known all =
        let parts = All-tail (IsWellFormed rules) (Counted part min max span) (subexpressions part) all in
        with_parts part known parts (loud_parts part known parts)
    loud_parts (And part span) known all = item_parts (And part span) span known all
    loud_parts (Not part span) known all = item_parts (Not part span) span known all

    all_loud_parts : (items : Forms) → UsesAll items → All (IsWellFormed rules) (below_all items)
        → All (IsWellFormed shown) (below_all (loud_all items))
    all_loud_parts End known all = All-nil (IsWellFormed shown)
    all_loud_parts (Then e rest) known all =
        All-append (IsWellFormed shown) (subexpressions (loud e)) (below_all (loud_all rest))
        (with_parts e (front e rest known) (All-front (IsWellFormed rules) (subexpressions e) (below_all rest) all)
        (loud_parts e (front e rest known) (All-front (IsWellFormed rules) (subexpressions e) (below_all rest) all)))
        (all_loud_parts rest (back e rest known)
        (All-back (IsWellFormed rules) (subexpressions e) (below_all rest) all))

  loud_whole : (e : Form) → Uses e → All (IsWellFormed rules) (subexpressions e)
      → All (IsWellFormed shown) (subexpressions (loud e))
  loud_whole e known all = with_parts e known all (loud_parts e known all)

  -- ---- grammars

  abbrev RuleIs : List Rule → Rule → Type 0
  RuleIs among rule = All (IsWellFormed among) (subexpressions rule.body)

  abbrev RuleUses : Rule → Type 0
  RuleUses rule = Uses rule.body

  rules_use : (some : List Rule) → All (IsKnown (names rules)) (references some) → All RuleUses some
  rules_use [] all = All-nil RuleUses
  rules_use (rule ∷ some) all =
      All-cons RuleUses rule some (All-front (IsKnown (names rules)) (names_used rule.body) (references some) all)
      (rules_use some (All-back (IsKnown (names rules)) (names_used rule.body) (references some) all))

  pub well_formed_shown : IsWellFormedGrammar rules → IsWellFormedGrammar (diagnostic_rules rules)
  well_formed_shown is =
      let known = rules_use rules closed in
      All-append (RuleIs shown) (map loud_rule rules) (map quiet_rule rules)
      (All-map (RuleIs shown) loud_rule rules
      (λ k d within. loud_whole (get_or rules k d).body (known k d within) (is k d within)))
      (All-map (RuleIs shown) quiet_rule rules
      (λ k d within. all_quiet (get_or rules k d).body (known k d within) (is k d within)))

  pub well_formed_unshown : IsWellFormedGrammar (diagnostic_rules rules) → IsWellFormedGrammar rules
  well_formed_unshown is =
      let known = rules_use rules closed in
      let quieted = All-unmap (RuleIs shown) quiet_rule rules
      (All-back (RuleIs shown) (map loud_rule rules) (map quiet_rule rules) is) in
      λ k d within. all_unquiet (get_or rules k d).body (known k d within) (quieted k d within)
