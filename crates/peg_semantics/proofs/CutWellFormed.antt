-- Cut counts keep well-formedness and loops.
use Rattle.std.proofs.Common.{◌≡◌, ◌⊎◌, inl, inr, ℕ, zero, suc, List, [], ◌∷◌, ◌++◌, map, All, Contains, Option, None, Some}
use Rattle.std.proofs.Common.{option_map, slice_get, refl, sym, ap, ap₂, ◌∙◌, subst}
use Rattle.std.proofs.lemmas.List.{map-append}
use Rattle.std.proofs.lemmas.List.Elements.{All-nil, All-cons, All-head, All-tail, All-map, All-weaker, All-contains, All-contains_itself}
use Rattle.std.proofs.lemmas.Option.{slice_get-map}
use Rattle.peg_bytes.specs.Extent.{Extent}
use Rattle.peg_semantics.specs.AbstractOutcomes.{GivesNothing}
use Rattle.peg_semantics.specs.CutCounts.{cut_counts, cut_all_counts, cut_rule, cut_rules}
use Rattle.peg_semantics.specs.Form.{Form, Forms, Literal, Class, Any, Name, Seq, Choice, Optional, Star, Plus, Counted}
use Rattle.peg_semantics.specs.Form.{And, Not, End, Then}
use Rattle.peg_semantics.specs.Loops.{CanCallFirst, ItemsCanCallFirst, SomeCanCallFirst, LeftCalls, IsChain, IsCycle}
use Rattle.peg_semantics.specs.Loops.{IsLeftCycle, HasLoopOver, IsEmptyLoop}
use Rattle.peg_semantics.specs.Rules.{Rule, Meaning, meaning_of}
use Rattle.peg_semantics.specs.WellFormed.{FormPredicate, ItemsAre, AllAre, MeaningIs, RepeatsWell, WellFormedTable}
use Rattle.peg_semantics.specs.WellFormed.{IsWellFormedIn, IsWellFormed, below, below_all, subexpressions, IsWellFormedGrammar}
use Rattle.peg_semantics.proofs.CutOutcomes.{GivesNothing-cut, cut_meaning, meaning_of-cut}

-- ---- well-formed expressions

-- The types of the facts on both sides are equal, so each implies the other.
module _ (rules : List Rule) where
  module _ (Is Other : FormPredicate) (same : (e : Form) → Other (cut_counts e) ≡ Is e) where
    ItemsAre-cut : (items : Forms) → ItemsAre (cut_rules rules) Other (cut_all_counts items) ≡ ItemsAre rules Is items
    ItemsAre-cut End = refl
    ItemsAre-cut (Then e rest) = λ i. same e i × (GivesNothing-cut rules e i → ItemsAre-cut rest i)

    AllAre-cut : (items : Forms) → AllAre Other (cut_all_counts items) ≡ AllAre Is items
    AllAre-cut End = refl
    AllAre-cut (Then e rest) = λ i. same e i × AllAre-cut rest i

    MeaningIs-cut : (meaning : Option Meaning) → MeaningIs Other (option_map cut_meaning meaning) ≡ MeaningIs Is meaning
    MeaningIs-cut None = refl
    MeaningIs-cut (Some m) = same m.body

    RepeatsWell-cut : (part : Form) → RepeatsWell (cut_rules rules) Other (cut_counts part) ≡ RepeatsWell rules Is part
    RepeatsWell-cut part = λ i. same part i × (¬ (GivesNothing-cut rules part i))

    WellFormedTable-cut : (e : Form) → WellFormedTable (cut_rules rules) Other (cut_counts e) ≡ WellFormedTable rules Is e
    WellFormedTable-cut (Literal bytes span) = refl
    WellFormedTable-cut (Class set span) = refl
    WellFormedTable-cut (Any span) = refl
    WellFormedTable-cut (Name name span) =
        ap (MeaningIs Other) (meaning_of-cut rules name) ∙ MeaningIs-cut (meaning_of rules name)
    WellFormedTable-cut (Seq items span) = ItemsAre-cut items
    WellFormedTable-cut (Choice first rest span) = λ i. same first i × AllAre-cut rest i
    WellFormedTable-cut (Optional part span) = same part
    WellFormedTable-cut (Star part span) = RepeatsWell-cut part
    WellFormedTable-cut (Plus part span) = RepeatsWell-cut part
    WellFormedTable-cut (Counted part min max span) = same part
    WellFormedTable-cut (And part span) = same part
    WellFormedTable-cut (Not part span) = same part

  IsWellFormedIn-cut : (n : ℕ) (e : Form) → IsWellFormedIn (cut_rules rules) n (cut_counts e) ≡ IsWellFormedIn rules n e
  unfolding IsWellFormedIn
  IsWellFormedIn-cut zero e = refl
  IsWellFormedIn-cut (suc n) e =
      WellFormedTable-cut (IsWellFormedIn rules n) (IsWellFormedIn (cut_rules rules) n) (IsWellFormedIn-cut n) e

  IsWellFormed-cut : (e : Form) → IsWellFormed (cut_rules rules) (cut_counts e) ≡ IsWellFormed rules e
  IsWellFormed-cut e = λ i. (n : ℕ) × IsWellFormedIn-cut n e i

-- ---- the subexpressions of a cut expression

mutual
  below-cut : (e : Form) → below (cut_counts e) ≡ map cut_counts (below e)
  below-cut (Literal bytes span) = refl
  below-cut (Class set span) = refl
  below-cut (Any span) = refl
  below-cut (Name name span) = refl
  below-cut (Seq items span) = all_below-cut items
  below-cut (Choice first rest span) =
      ap (λ l. cut_counts first ∷ l)
      (ap₂ ◌++◌ (below-cut first) (all_below-cut rest) ∙ sym (map-append cut_counts (below first) (below_all rest)))
  below-cut (Optional part span) = ap (λ l. cut_counts part ∷ l) (below-cut part)
  below-cut (Star part span) = ap (λ l. cut_counts part ∷ l) (below-cut part)
  below-cut (Plus part span) = ap (λ l. cut_counts part ∷ l) (below-cut part)
  below-cut (Counted part min max span) = ap (λ l. cut_counts part ∷ l) (below-cut part)
  below-cut (And part span) = ap (λ l. cut_counts part ∷ l) (below-cut part)
  below-cut (Not part span) = ap (λ l. cut_counts part ∷ l) (below-cut part)

  all_below-cut : (items : Forms) → below_all (cut_all_counts items) ≡ map cut_counts (below_all items)
  all_below-cut End = refl
  all_below-cut (Then e rest) =
      ap (λ l. cut_counts e ∷ l)
      (ap₂ ◌++◌ (below-cut e) (all_below-cut rest) ∙ sym (map-append cut_counts (below e) (below_all rest)))

subexpressions-cut : (e : Form) → subexpressions (cut_counts e) ≡ map cut_counts (subexpressions e)
subexpressions-cut e = ap (λ l. cut_counts e ∷ l) (below-cut e)

-- a property of the images of all elements, as one of all images, and back
unmapped : {X Y : Type 0} (P : Y → Type 0) (f : X → Y) (xs : List X) → All P (map f xs) → All (λ x. P (f x)) xs
unmapped P f [] all = All-nil (λ x. P (f x))
unmapped P f (x ∷ xs) all =
    All-cons (λ x. P (f x)) x xs (All-head P (f x) (map f xs) all) (unmapped P f xs (All-tail P (f x) (map f xs) all))

-- the image of an element is one of the images
Contains-map : {X Y : Type 0} (f : X → Y) (xs : List X) (x : X) → Contains xs x → Contains (map f xs) (f x)
Contains-map f xs x there =
    All-contains (λ x. Contains (map f xs) (f x)) xs x
    (unmapped (Contains (map f xs)) f xs (All-contains_itself (map f xs))) there

-- an image is the image of some element
Contains-unmap : {X Y : Type 0} (f : X → Y) (xs : List X) (y : Y) → Contains (map f xs) y
    → (x : X) × Contains xs x × (f x ≡ y)
Contains-unmap {X = X} {Y = Y} f xs y there =
    let Comes : Y → Type 0 = λ y. (x : X) × Contains xs x × (f x ≡ y) in
    All-contains Comes (map f xs) y
    (All-map Comes f xs
    (All-weaker (Contains xs) (λ x. Comes (f x)) (λ x here. (x, here, refl)) xs (All-contains_itself xs)))
    there

-- ---- well-formed grammars

-- a cut rule is well-formed with all its subexpressions exactly if the rule is
abbrev AllWellFormed : List Rule → Rule → Type 0
AllWellFormed rules rule = All (IsWellFormed rules) (subexpressions rule.body)

rule-cut : (rules : List Rule) (rule : Rule) → AllWellFormed rules rule → AllWellFormed (cut_rules rules) (cut_rule rule)
rule-cut rules rule all =
    subst (All (IsWellFormed (cut_rules rules))) (sym (subexpressions-cut rule.body))
    (All-map (IsWellFormed (cut_rules rules)) cut_counts (subexpressions rule.body)
    (All-weaker (IsWellFormed rules) (λ e. IsWellFormed (cut_rules rules) (cut_counts e))
    (λ e is. subst (λ T. T) (sym (IsWellFormed-cut rules e)) is) (subexpressions rule.body) all))

rule-uncut : (rules : List Rule) (rule : Rule) → AllWellFormed (cut_rules rules) (cut_rule rule)
    → AllWellFormed rules rule
rule-uncut rules rule all =
    All-weaker (λ e. IsWellFormed (cut_rules rules) (cut_counts e)) (IsWellFormed rules)
    (λ e is. subst (λ T. T) (IsWellFormed-cut rules e) is) (subexpressions rule.body)
    (unmapped (IsWellFormed (cut_rules rules)) cut_counts (subexpressions rule.body)
    (subst (All (IsWellFormed (cut_rules rules))) (subexpressions-cut rule.body) all))

pub well_formed-cut : (rules : List Rule) → IsWellFormedGrammar rules → IsWellFormedGrammar (cut_rules rules)
well_formed-cut rules all =
    All-map (AllWellFormed (cut_rules rules)) cut_rule rules
    (All-weaker (AllWellFormed rules) (λ rule. AllWellFormed (cut_rules rules) (cut_rule rule)) (rule-cut rules) rules all)

pub well_formed-uncut : (rules : List Rule) → IsWellFormedGrammar (cut_rules rules) → IsWellFormedGrammar rules
well_formed-uncut rules all =
    All-weaker (λ rule. AllWellFormed (cut_rules rules) (cut_rule rule)) (AllWellFormed rules) (rule-uncut rules) rules
    (unmapped (AllWellFormed (cut_rules rules)) cut_rule rules all)

-- ---- empty loops

-- an expression that is cut to a star is a star, and one that is cut to a plus is a plus
star-uncut : (e part : Form) (span : Extent) → cut_counts e ≡ Star part span
    → (whole : Form) × (e ≡ Star whole span) × (cut_counts whole ≡ part)
star-uncut (Literal bytes other) part span is = cc
star-uncut (Class set other) part span is = cc
star-uncut (Any other) part span is = cc
star-uncut (Name name other) part span is = cc
star-uncut (Seq items other) part span is = cc
star-uncut (Choice first rest other) part span is = cc
star-uncut (Optional whole other) part span is = cc
star-uncut (Star whole other) part span is = (whole, (let same : other ≡ span = cc in ap (Star whole) same), cc)
star-uncut (Plus whole other) part span is = cc
star-uncut (Counted whole min max other) part span is = cc
star-uncut (And whole other) part span is = cc
star-uncut (Not whole other) part span is = cc

plus-uncut : (e part : Form) (span : Extent) → cut_counts e ≡ Plus part span
    → (whole : Form) × (e ≡ Plus whole span) × (cut_counts whole ≡ part)
plus-uncut (Literal bytes other) part span is = cc
plus-uncut (Class set other) part span is = cc
plus-uncut (Any other) part span is = cc
plus-uncut (Name name other) part span is = cc
plus-uncut (Seq items other) part span is = cc
plus-uncut (Choice first rest other) part span is = cc
plus-uncut (Optional whole other) part span is = cc
plus-uncut (Star whole other) part span is = cc
plus-uncut (Plus whole other) part span is = (whole, (let same : other ≡ span = cc in ap (Plus whole) same), cc)
plus-uncut (Counted whole min max other) part span is = cc
plus-uncut (And whole other) part span is = cc
plus-uncut (Not whole other) part span is = cc

loop-cut : (e part : Form) (span : Extent) → HasLoopOver (subexpressions e) part span
    → HasLoopOver (subexpressions (cut_counts e)) (cut_counts part) span
loop-cut e part span (inl star) =
    inl (subst (λ l. Contains l (Star (cut_counts part) span)) (sym (subexpressions-cut e))
    (Contains-map cut_counts (subexpressions e) (Star part span) star))
loop-cut e part span (inr plus) =
    inr (subst (λ l. Contains l (Plus (cut_counts part) span)) (sym (subexpressions-cut e))
    (Contains-map cut_counts (subexpressions e) (Plus part span) plus))

loop-uncut : (e part : Form) (span : Extent) → HasLoopOver (subexpressions (cut_counts e)) part span
    → (whole : Form) × HasLoopOver (subexpressions e) whole span × (cut_counts whole ≡ part)
loop-uncut e part span (inl star) =
    let comes = Contains-unmap cut_counts (subexpressions e) (Star part span)
    (subst (λ l. Contains l (Star part span)) (subexpressions-cut e) star) in
    let found = star-uncut comes.0 part span comes.2 in
    (found.0, inl (subst (Contains (subexpressions e)) found.1 comes.1), found.2)
loop-uncut e part span (inr plus) =
    let comes = Contains-unmap cut_counts (subexpressions e) (Plus part span)
    (subst (λ l. Contains l (Plus part span)) (subexpressions-cut e) plus) in
    let found = plus-uncut comes.0 part span comes.2 in
    (found.0, inr (subst (Contains (subexpressions e)) found.1 comes.1), found.2)

module _ (rules : List Rule) (number : ℕ) where
  -- the rule with a number is cut
  pub numbered-cut : slice_get (cut_rules rules) number ≡ option_map cut_rule (slice_get rules number)
  numbered-cut = slice_get-map cut_rule rules number

  -- a cut rule with this number is the cut of the rule with this number
  pub numbered-uncut : (found : Option Rule) (cut : Rule) → slice_get rules number ≡ found
      → option_map cut_rule found ≡ Some cut
      → (rule : Rule) × (slice_get rules number ≡ Some rule) × (cut_rule rule ≡ cut)
  numbered-uncut None cut at is = cc
  numbered-uncut (Some rule) cut at is = (rule, at, (let same : cut_rule rule ≡ cut = cc in same))

  pub empty_loop-cut : (span : Extent) → IsEmptyLoop rules number span → IsEmptyLoop (cut_rules rules) number span
  empty_loop-cut span loop = record {
    rule = cut_rule loop.rule;
    part = cut_counts loop.part;
    numbered = numbered-cut ∙ ap (option_map cut_rule) loop.numbered;
    written = loop-cut loop.rule.body loop.part span loop.written;
    idle = subst (λ T. T) (sym (GivesNothing-cut rules loop.part)) loop.idle;
  }

  pub empty_loop-uncut : (span : Extent) → IsEmptyLoop (cut_rules rules) number span → IsEmptyLoop rules number span
  empty_loop-uncut span loop =
      let from = numbered-uncut (slice_get rules number) loop.rule refl (sym numbered-cut ∙ loop.numbered) in
      let written = loop-uncut from.0.body loop.part span
      (subst (λ (rule : Rule). HasLoopOver (subexpressions rule.body) loop.part span) (sym from.2) loop.written) in
      record {
        rule = from.0;
        part = written.0;
        numbered = from.1;
        written = written.1;
        idle = subst (λ T. T) (GivesNothing-cut rules written.0)
            (subst (GivesNothing (cut_rules rules)) (sym written.2) loop.idle);
      }

-- ---- left cycles

module _ (rules : List Rule) (name : List ℕ) where
  mutual
    CanCallFirst-cut : (e : Form)
        → CanCallFirst (GivesNothing (cut_rules rules)) (cut_counts e) name ≡ CanCallFirst (GivesNothing rules) e name
    CanCallFirst-cut (Literal bytes span) = refl
    CanCallFirst-cut (Class set span) = refl
    CanCallFirst-cut (Any span) = refl
    CanCallFirst-cut (Name other span) = refl
    CanCallFirst-cut (Seq items span) = ItemsCanCallFirst-cut items
    CanCallFirst-cut (Choice first rest span) = ap₂ ◌⊎◌ (CanCallFirst-cut first) (SomeCanCallFirst-cut rest)
    CanCallFirst-cut (Optional part span) = CanCallFirst-cut part
    CanCallFirst-cut (Star part span) = CanCallFirst-cut part
    CanCallFirst-cut (Plus part span) = CanCallFirst-cut part
    CanCallFirst-cut (Counted part min max span) = CanCallFirst-cut part
    CanCallFirst-cut (And part span) = CanCallFirst-cut part
    CanCallFirst-cut (Not part span) = CanCallFirst-cut part

    ItemsCanCallFirst-cut : (items : Forms)
        → ItemsCanCallFirst (GivesNothing (cut_rules rules)) (cut_all_counts items) name
        ≡ ItemsCanCallFirst (GivesNothing rules) items name
    ItemsCanCallFirst-cut End = refl
    ItemsCanCallFirst-cut (Then e rest) =
        ap₂ ◌⊎◌ (CanCallFirst-cut e) (λ i. GivesNothing-cut rules e i × ItemsCanCallFirst-cut rest i)

    SomeCanCallFirst-cut : (items : Forms)
        → SomeCanCallFirst (GivesNothing (cut_rules rules)) (cut_all_counts items) name
        ≡ SomeCanCallFirst (GivesNothing rules) items name
    SomeCanCallFirst-cut End = refl
    SomeCanCallFirst-cut (Then e rest) = ap₂ ◌⊎◌ (CanCallFirst-cut e) (SomeCanCallFirst-cut rest)

-- the rule that a name refers to has the same number
means-cut : (rules : List Rule) (name : List ℕ)
    → option_map (λ (m : Meaning). m.rule) (meaning_of (cut_rules rules) name)
    ≡ option_map (λ (m : Meaning). m.rule) (meaning_of rules name)
means-cut rules name =
    ap (option_map (λ (m : Meaning). m.rule)) (meaning_of-cut rules name) ∙ by (meaning_of rules name)
  where
    by : (found : Option Meaning) → option_map (λ (m : Meaning). m.rule) (option_map cut_meaning found)
        ≡ option_map (λ (m : Meaning). m.rule) found
    by None = refl
    by (Some m) = refl

module _ (rules : List Rule) (first second : ℕ) where
  calls-cut : LeftCalls rules first second → LeftCalls (cut_rules rules) first second
  calls-cut calls = record {
    rule = cut_rule calls.rule;
    name = calls.name;
    numbered = numbered-cut rules first ∙ ap (option_map cut_rule) calls.numbered;
    reached = subst (λ T. T) (sym (CanCallFirst-cut rules calls.name calls.rule.body)) calls.reached;
    means = means-cut rules calls.name ∙ calls.means;
  }

  calls-uncut : LeftCalls (cut_rules rules) first second → LeftCalls rules first second
  calls-uncut calls =
      let from = numbered-uncut rules first (slice_get rules first) calls.rule refl
      (sym (numbered-cut rules first) ∙ calls.numbered) in
      record {
        rule = from.0;
        name = calls.name;
        numbered = from.1;
        reached = subst (λ T. T) (CanCallFirst-cut rules calls.name from.0.body)
            (subst (λ (rule : Rule). CanCallFirst (GivesNothing (cut_rules rules)) rule.body calls.name) (sym from.2)
            calls.reached);
        means = sym (means-cut rules calls.name) ∙ calls.means;
      }

-- a chain by one relation is a chain by another that follows from it
chain-weaker : (Calls Others : ℕ → ℕ → Type 0) → ((a b : ℕ) → Calls a b → Others a b) → (before : ℕ) (path : List ℕ)
    → IsChain Calls before path → IsChain Others before path
chain-weaker Calls Others to before [] chain = chain
chain-weaker Calls Others to before (next ∷ more) chain =
    (to before next chain.0, chain-weaker Calls Others to next more chain.1)

cycle-weaker : (Calls Others : ℕ → ℕ → Type 0) → ((a b : ℕ) → Calls a b → Others a b) → (path : List ℕ)
    → IsCycle Calls path → IsCycle Others path
cycle-weaker Calls Others to [] cycle = cycle
cycle-weaker Calls Others to (first ∷ more) cycle = chain-weaker Calls Others to first (more ++ first ∷ []) cycle

pub left_cycle-cut : (rules : List Rule) (path : List ℕ) → IsLeftCycle rules path → IsLeftCycle (cut_rules rules) path
left_cycle-cut rules path = cycle-weaker (LeftCalls rules) (LeftCalls (cut_rules rules)) (calls-cut rules) path

pub left_cycle-uncut : (rules : List Rule) (path : List ℕ) → IsLeftCycle (cut_rules rules) path → IsLeftCycle rules path
left_cycle-uncut rules path = cycle-weaker (LeftCalls (cut_rules rules)) (LeftCalls rules) (calls-uncut rules) path
