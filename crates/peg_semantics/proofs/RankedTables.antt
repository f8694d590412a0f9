-- A computable test: whether given outcomes and ranks, one pair for each rule, show that a grammar is well-formed.
use Rattle.std.proofs.Common.{◌≡◌, inl, inr, ℕ, zero, suc, ◌+◌, ◌<◌, Bool, true, false, ◌&&◌, ◌||◌, not, nat_lt, List}
use Rattle.std.proofs.Common.{[], ◌∷◌, ◌++◌}
use Rattle.std.proofs.Common.{All, Option, None, Some, option_map, get_or, slice_get, if◌then◌else◌, bytes_eq, refl, ap}
use Rattle.std.proofs.Common.{◌∙◌, subst, arith}
use Rattle.std.proofs.lemmas.Bool.{ltb-true}
use Rattle.std.proofs.lemmas.List.Elements.{All-nil, All-cons, All-append}
use Rattle.peg_semantics.specs.AbstractOutcomes.{Can, CanAll, no_outcome, always_empty, consumes_or_fails, can_of_set, seq_outcome}
use Rattle.peg_semantics.specs.AbstractOutcomes.{choice_outcome}
use Rattle.peg_semantics.specs.AbstractOutcomes.{optional_outcome, star_outcome, plus_outcome, repeat_outcome, and_outcome, not_outcome}
use Rattle.peg_semantics.specs.AbstractOutcomes.{outcome_of_items, outcome_of_choice, outcome_of_meaning, can_table}
use Rattle.peg_semantics.specs.Form.{Form, Forms, Literal, Class, Any, Name, Seq, Choice, Optional, Star, Plus, Counted, And, Not}
use Rattle.peg_semantics.specs.Form.{End, Then}
use Rattle.peg_semantics.specs.Form.{terminals}
use Rattle.peg_semantics.specs.Grammar.{IsGrammar}
use Rattle.peg_semantics.specs.Loops.{CanCallFirst, ItemsCanCallFirst, SomeCanCallFirst, LeftCallsBy}
use Rattle.peg_semantics.specs.Ranked.{NullableBy, RepeatsNonEmpty, IsRanked}
use Rattle.peg_semantics.specs.Rules.{Rule, Meaning, meaning_from, meaning_of}
use Rattle.peg_semantics.specs.WellFormed.{IsWellFormedGrammar, below_all, subexpressions}
use Rattle.peg_semantics.proofs.RankedRules.{IsWellFormedGrammar-from_ranks}
use Rattle.peg_semantics.proofs.RoundsLemmas.{CanAll-refl, CanAll-no_outcome}

-- the given data of a rule: the outcomes of its expression, and its rank
pub record Stated : Type 0 where
  pub can : Can
  pub rank : ℕ

abbrev pub unstated : Stated
unstated = record { can = no_outcome; rank = 0 }

-- the given data of the rule that a name refers to
abbrev pub stated_of : List Rule → List Stated → List ℕ → Stated
stated_of [] stated name = unstated
stated_of (r ∷ rs) [] name = unstated
stated_of (r ∷ rs) (t ∷ ts) name = if bytes_eq name r.name then t else stated_of rs ts name

-- ---- the outcomes of an expression from the given data of the names

abbrev mutual
  pub judged : (List ℕ → Stated) → Form → Can
  judged stated (Literal [] span) = always_empty
  judged stated (Literal (b ∷ bs) span) = consumes_or_fails
  judged stated (Class set span) = can_of_set set
  judged stated (Any span) = consumes_or_fails
  judged stated (Name name span) = (stated name).can
  judged stated (Seq items span) = judged_items stated items
  judged stated (Choice first rest span) = judged_first stated (judged stated first) rest
  judged stated (Optional part span) = optional_outcome (judged stated part)
  judged stated (Star part span) = star_outcome (judged stated part)
  judged stated (Plus part span) = plus_outcome (judged stated part)
  judged stated (Counted part min max span) = repeat_outcome (judged stated part) min max
  judged stated (And part span) = and_outcome (judged stated part)
  judged stated (Not part span) = not_outcome (judged stated part)

  pub judged_items : (List ℕ → Stated) → Forms → Can
  judged_items stated End = always_empty
  judged_items stated (Then e rest) = seq_outcome (judged stated e) (judged_items stated rest)

  pub judged_first : (List ℕ → Stated) → Can → Forms → Can
  judged_first stated can End = can
  judged_first stated can (Then e rest) = choice_outcome can (judged_first stated (judged stated e) rest)

-- no star or plus in an expression has a part that gives 0 by these outcomes
abbrev mutual
  pub repeats_something : (List ℕ → Stated) → Form → Bool
  repeats_something stated (Literal bytes span) = true
  repeats_something stated (Class set span) = true
  repeats_something stated (Any span) = true
  repeats_something stated (Name name span) = true
  repeats_something stated (Seq items span) = all_repeat_something stated items
  repeats_something stated (Choice first rest span) = repeats_something stated first && all_repeat_something stated rest
  repeats_something stated (Optional part span) = repeats_something stated part
  repeats_something stated (Star part span) = not (judged stated part).nothing && repeats_something stated part
  repeats_something stated (Plus part span) = not (judged stated part).nothing && repeats_something stated part
  repeats_something stated (Counted part min max span) = repeats_something stated part
  repeats_something stated (And part span) = repeats_something stated part
  repeats_something stated (Not part span) = repeats_something stated part

  pub all_repeat_something : (List ℕ → Stated) → Forms → Bool
  all_repeat_something stated End = true
  all_repeat_something stated (Then e rest) = repeats_something stated e && all_repeat_something stated rest

-- the names that an expression left-calls, by these outcomes, have lower ranks
abbrev mutual
  pub falls : (List ℕ → Stated) → ℕ → Form → Bool
  falls stated rank (Literal bytes span) = true
  falls stated rank (Class set span) = true
  falls stated rank (Any span) = true
  falls stated rank (Name name span) = nat_lt (stated name).rank rank
  falls stated rank (Seq items span) = items_fall stated rank items
  falls stated rank (Choice first rest span) = falls stated rank first && all_fall stated rank rest
  falls stated rank (Optional part span) = falls stated rank part
  falls stated rank (Star part span) = falls stated rank part
  falls stated rank (Plus part span) = falls stated rank part
  falls stated rank (Counted part min max span) = falls stated rank part
  falls stated rank (And part span) = falls stated rank part
  falls stated rank (Not part span) = falls stated rank part

  pub items_fall : (List ℕ → Stated) → ℕ → Forms → Bool
  items_fall stated rank End = true
  items_fall stated rank (Then e rest) = falls stated rank e && (not (judged stated e).nothing || items_fall stated rank rest)

  pub all_fall : (List ℕ → Stated) → ℕ → Forms → Bool
  all_fall stated rank End = true
  all_fall stated rank (Then e rest) = falls stated rank e && all_fall stated rank rest

-- ---- the test

-- every outcome of the first is an outcome of the second
abbrev pub is_within : Can → Can → Bool
is_within a b = (not a.nothing || b.nothing) && ((not a.something || b.something) && (not a.fails || b.fails))

abbrev pub rule_shows : (List ℕ → Stated) → Rule → Stated → Bool
rule_shows stated r t =
    is_within (judged stated r.body) t.can && (repeats_something stated r.body && falls stated t.rank r.body)

abbrev pub rules_show : (List ℕ → Stated) → List Rule → List Stated → Bool
rules_show stated [] [] = true
rules_show stated [] (t ∷ ts) = false
rules_show stated (r ∷ rs) [] = false
rules_show stated (r ∷ rs) (t ∷ ts) = rule_shows stated r t && rules_show stated rs ts

abbrev pub shows_well_formed : List Rule → List Stated → Bool
shows_well_formed rules stated = rules_show (stated_of rules stated) rules stated

-- ---- what a passed test implies

and-left : (a b : Bool) → (a && b) ≡ true → a ≡ true
and-left true b e = refl
and-left false b e = e

and-right : (a b : Bool) → (a && b) ≡ true → b ≡ true
and-right true b e = e
and-right false b e = cc

implied : (a b : Bool) → (not a || b) ≡ true → a ≡ true → b ≡ true
implied true b e is = e
implied false b e is = cc

not-true : (a : Bool) → not a ≡ true → a ≡ false
not-true true e = cc
not-true false e = refl

CanAll-is_within : (a b : Can) → is_within a b ≡ true → CanAll a b
CanAll-is_within a b e =
    let nothing = not a.nothing || b.nothing in
    let something = not a.something || b.something in
    let fails = not a.fails || b.fails in
    let rest = and-right nothing (something && fails) e in
    record {
      nothing = implied a.nothing b.nothing (and-left nothing (something && fails) e);
      something = implied a.something b.something (and-left something fails rest);
      fails = implied a.fails b.fails (and-right something fails rest);
    }

module _ (stated : List ℕ → Stated) where
  abbrev Repeats : Form → Type 0
  Repeats = RepeatsNonEmpty (judged stated)

  loop-shown : (part : Form) → (not (judged stated part).nothing && repeats_something stated part) ≡ true
      → (judged stated part).nothing ≡ false
  loop-shown part e =
      let nothing = (judged stated part).nothing in
      not-true nothing (and-left (not nothing) (repeats_something stated part) e)

  part-shown : (part : Form) → (not (judged stated part).nothing && repeats_something stated part) ≡ true
      → repeats_something stated part ≡ true
  part-shown part e = and-right (not (judged stated part).nothing) (repeats_something stated part) e

  mutual
    repeats-shown : (e : Form) → repeats_something stated e ≡ true → All Repeats (subexpressions e)
    repeats-shown (Literal bytes span) e = All-cons Repeats (Literal bytes span) [] tt (All-nil Repeats)
    repeats-shown (Class set span) e = All-cons Repeats (Class set span) [] tt (All-nil Repeats)
    repeats-shown (Any span) e = All-cons Repeats (Any span) [] tt (All-nil Repeats)
    repeats-shown (Name name span) e = All-cons Repeats (Name name span) [] tt (All-nil Repeats)
    repeats-shown (Seq items span) e = All-cons Repeats (Seq items span) (below_all items) tt (all-shown items e)
    repeats-shown (Choice first rest span) e =
        All-cons Repeats (Choice first rest span) (subexpressions first ++ below_all rest) tt
        (All-append Repeats (subexpressions first) (below_all rest)
        (repeats-shown first (and-left (repeats_something stated first) (all_repeat_something stated rest) e))
        (all-shown rest (and-right (repeats_something stated first) (all_repeat_something stated rest) e)))
    repeats-shown (Optional part span) e =
        All-cons Repeats (Optional part span) (subexpressions part) tt (repeats-shown part e)
    repeats-shown (Star part span) e =
        All-cons Repeats (Star part span) (subexpressions part) (loop-shown part e)
        (repeats-shown part (part-shown part e))
    repeats-shown (Plus part span) e =
        All-cons Repeats (Plus part span) (subexpressions part) (loop-shown part e)
        (repeats-shown part (part-shown part e))
    repeats-shown (Counted part min max span) e =
        All-cons Repeats (Counted part min max span) (subexpressions part) tt (repeats-shown part e)
    repeats-shown (And part span) e = All-cons Repeats (And part span) (subexpressions part) tt (repeats-shown part e)
    repeats-shown (Not part span) e = All-cons Repeats (Not part span) (subexpressions part) tt (repeats-shown part e)

    all-shown : (items : Forms) → all_repeat_something stated items ≡ true → All Repeats (below_all items)
    all-shown End e = All-nil Repeats
    all-shown (Then first rest) e =
        All-append Repeats (subexpressions first) (below_all rest)
        (repeats-shown first (and-left (repeats_something stated first) (all_repeat_something stated rest) e))
        (all-shown rest (and-right (repeats_something stated first) (all_repeat_something stated rest) e))

  module _ (rank : ℕ) (name : List ℕ) where
    abbrev IsLower : Type 0
    IsLower = (stated name).rank < rank

    mutual
      falls-shown : (e : Form) → falls stated rank e ≡ true → CanCallFirst (NullableBy (judged stated)) e name → IsLower
      falls-shown (Literal bytes span) e reached = absurd reached
      falls-shown (Class set span) e reached = absurd reached
      falls-shown (Any span) e reached = absurd reached
      falls-shown (Name other span) e reached =
          subst (λ n. (stated n).rank < rank) reached (ltb-true (stated other).rank rank e)
      falls-shown (Seq items span) e reached = items-shown items e reached
      falls-shown (Choice first rest span) e (inl here) =
          falls-shown first (and-left (falls stated rank first) (all_fall stated rank rest) e) here
      falls-shown (Choice first rest span) e (inr there) =
          some-shown rest (and-right (falls stated rank first) (all_fall stated rank rest) e) there
      falls-shown (Optional part span) e reached = falls-shown part e reached
      falls-shown (Star part span) e reached = falls-shown part e reached
      falls-shown (Plus part span) e reached = falls-shown part e reached
      falls-shown (Counted part min max span) e reached = falls-shown part e reached
      falls-shown (And part span) e reached = falls-shown part e reached
      falls-shown (Not part span) e reached = falls-shown part e reached

      items-shown : (items : Forms) → items_fall stated rank items ≡ true
          → ItemsCanCallFirst (NullableBy (judged stated)) items name → IsLower
      items-shown End e reached = absurd reached
      items-shown (Then first rest) e (inl here) =
          falls-shown first
          (and-left (falls stated rank first) (not (judged stated first).nothing || items_fall stated rank rest) e) here
      items-shown (Then first rest) e (inr there) =
          let nothing = (judged stated first).nothing in
          let following = and-right (falls stated rank first) (not nothing || items_fall stated rank rest) e in
          items-shown rest (implied nothing (items_fall stated rank rest) following there.0) there.1

      some-shown : (items : Forms) → all_fall stated rank items ≡ true
          → SomeCanCallFirst (NullableBy (judged stated)) items name → IsLower
      some-shown End e reached = absurd reached
      some-shown (Then first rest) e (inl here) =
          falls-shown first (and-left (falls stated rank first) (all_fall stated rank rest) e) here
      some-shown (Then first rest) e (inr there) =
          some-shown rest (and-right (falls stated rank first) (all_fall stated rank rest) e) there

  -- ---- the table is closed if it is closed at names

  items-judged : (items : Forms) → outcome_of_items (judged stated) items ≡ judged_items stated items
  items-judged End = refl
  items-judged (Then e rest) = ap (seq_outcome (judged stated e)) (items-judged rest)

  first-judged : (e : Form) (rest : Forms) → outcome_of_choice (judged stated) e rest ≡ judged_first stated (judged stated e) rest
  first-judged e End = refl
  first-judged e (Then next rest) = ap (choice_outcome (judged stated e)) (first-judged next rest)

  same-can : (a b : Can) → a ≡ b → CanAll a b
  same-can a b same = subst (CanAll a) same (CanAll-refl a)

  judged-closed : (rules : List Rule)
      → ((name : List ℕ) → CanAll (outcome_of_meaning (judged stated) (meaning_of rules name)) (stated name).can) → (e : Form)
      → CanAll (can_table rules (judged stated) e) (judged stated e)
  judged-closed rules names (Literal [] span) = CanAll-refl always_empty
  judged-closed rules names (Literal (b ∷ bs) span) = CanAll-refl consumes_or_fails
  judged-closed rules names (Class set span) = CanAll-refl (can_of_set set)
  judged-closed rules names (Any span) = CanAll-refl consumes_or_fails
  judged-closed rules names (Name name span) = names name
  judged-closed rules names (Seq items span) =
      same-can (outcome_of_items (judged stated) items) (judged_items stated items) (items-judged items)
  judged-closed rules names (Choice first rest span) =
      same-can (outcome_of_choice (judged stated) first rest) (judged_first stated (judged stated first) rest)
      (first-judged first rest)
  judged-closed rules names (Optional part span) = CanAll-refl (judged stated (Optional part span))
  judged-closed rules names (Star part span) = CanAll-refl (judged stated (Star part span))
  judged-closed rules names (Plus part span) = CanAll-refl (judged stated (Plus part span))
  judged-closed rules names (Counted part min max span) = CanAll-refl (judged stated (Counted part min max span))
  judged-closed rules names (And part span) = CanAll-refl (judged stated (And part span))
  judged-closed rules names (Not part span) = CanAll-refl (judged stated (Not part span))

  -- ---- the given data of a name are those of the rule that it refers to

  can-shown : (r : Rule) (t : Stated) → rule_shows stated r t ≡ true → is_within (judged stated r.body) t.can ≡ true
  can-shown r t e =
      and-left (is_within (judged stated r.body) t.can) (repeats_something stated r.body && falls stated t.rank r.body) e

  seq_outcome-shown : (r : Rule) (t : Stated) → rule_shows stated r t ≡ true
      → (repeats_something stated r.body ≡ true) × (falls stated t.rank r.body ≡ true)
  seq_outcome-shown r t e =
      let repeats = repeats_something stated r.body in
      let lower = falls stated t.rank r.body in
      let seq_outcome = and-right (is_within (judged stated r.body) t.can) (repeats && lower) e in
      (and-left repeats lower seq_outcome, and-right repeats lower seq_outcome)

  rule-shown : (r : Rule) (t : Stated) (rs : List Rule) (ts : List Stated) → rules_show stated (r ∷ rs) (t ∷ ts) ≡ true
      → rule_shows stated r t ≡ true
  rule-shown r t rs ts e = and-left (rule_shows stated r t) (rules_show stated rs ts) e

  rest-shown : (r : Rule) (t : Stated) (rs : List Rule) (ts : List Stated) → rules_show stated (r ∷ rs) (t ∷ ts) ≡ true
      → rules_show stated rs ts ≡ true
  rest-shown r t rs ts e = and-right (rule_shows stated r t) (rules_show stated rs ts) e

  -- a meaning and its given data, at its number counted from the first
  abbrev StatedAt : (rule : ℕ) → List Rule → List Stated → List ℕ → Meaning → Type 0
  StatedAt rule rs ts name m =
      (i : ℕ) × (m.rule ≡ i + rule) × (stated_of rs ts name ≡ get_or ts i unstated)
      × CanAll (judged stated m.body) (stated_of rs ts name).can

  stated-at : (rule terminal : ℕ) (rs : List Rule) (ts : List Stated) (name : List ℕ) (m : Meaning)
      → rules_show stated rs ts ≡ true → meaning_from rule terminal rs name ≡ Some m → StatedAt rule rs ts name m
  stated-at rule terminal [] ts name m shown is = cc
  stated-at rule terminal (r ∷ rs) [] name m shown is = cc
  stated-at rule terminal (r ∷ rs) (t ∷ ts) name m shown is =
      let rest = rest-shown r t rs ts shown in
      by (bytes_eq name r.name) (stated-at (rule + 1) (terminal + terminals r.body) rs ts name m rest) is
    where
      first : Meaning
      first = record { rule = rule; terminal = terminal; body = r.body }

      here : CanAll (judged stated r.body) t.can
      here = CanAll-is_within (judged stated r.body) t.can (can-shown r t (rule-shown r t rs ts shown))

      by : (b : Bool)
          → (meaning_from (rule + 1) (terminal + terminals r.body) rs name ≡ Some m → StatedAt (rule + 1) rs ts name m)
          → (if b then Some first else meaning_from (rule + 1) (terminal + terminals r.body) rs name) ≡ Some m
          → (i : ℕ) × (m.rule ≡ i + rule) × ((if b then t else stated_of rs ts name) ≡ get_or (t ∷ ts) i unstated)
          × CanAll (judged stated m.body) (if b then t else stated_of rs ts name).can
      by true later found =
          let same : first ≡ m = cc in (
            0,
            omega (arith, ap (λ (m : Meaning). m.rule) same),
            refl,
            subst (λ (m : Meaning). CanAll (judged stated m.body) t.can) same here,
          )
      by false later found =
          let following = later found in (suc following.0, omega (arith, following.1), following.2, following.3)

-- ---- a grammar that passes the test is well-formed

module _ (rules : List Rule) (written : List Stated) (shown : shows_well_formed rules written ≡ true) where
  abbrev stated : List ℕ → Stated
  stated = stated_of rules written

  abbrev rank : ℕ → ℕ
  rank i = (get_or written i unstated).rank

  name-closed : (name : List ℕ) → CanAll (outcome_of_meaning (judged stated) (meaning_of rules name)) (stated name).can
  name-closed name = by (meaning_of rules name) (λ m is. (stated-at stated 0 0 rules written name m shown is).3)
    where
      by : (meaning : Option Meaning)
          → ((m : Meaning) → meaning ≡ Some m → CanAll (judged stated m.body) (stated name).can)
          → CanAll (outcome_of_meaning (judged stated) meaning) (stated name).can
      by None each = CanAll-no_outcome (stated name).can
      by (Some m) each = each m refl

  abbrev AllRepeat : Rule → Type 0
  AllRepeat rule = All (RepeatsNonEmpty (judged stated)) (subexpressions rule.body)

  loops-shown : (rs : List Rule) (ts : List Stated) → rules_show stated rs ts ≡ true → All AllRepeat rs
  loops-shown [] ts e = All-nil AllRepeat
  loops-shown (r ∷ rs) [] e = cc
  loops-shown (r ∷ rs) (t ∷ ts) e =
      let here = seq_outcome-shown stated r t (rule-shown stated r t rs ts e) in
      All-cons AllRepeat r rs (repeats-shown stated r.body here.0) (loops-shown rs ts (rest-shown stated r t rs ts e))

  falls-at : (rs : List Rule) (ts : List Stated) (i : ℕ) (r : Rule) → rules_show stated rs ts ≡ true
      → slice_get rs i ≡ Some r → falls stated (get_or ts i unstated).rank r.body ≡ true
  falls-at [] ts i r e at = cc
  falls-at (s ∷ rs) [] i r e at = cc
  falls-at (s ∷ rs) (t ∷ ts) zero r e at =
      let here = seq_outcome-shown stated s t (rule-shown stated s t rs ts e) in
      let same : s ≡ r = cc in
      subst (λ (rule : Rule). falls stated t.rank rule.body ≡ true) same here.1
  falls-at (s ∷ rs) (t ∷ ts) (suc i) r e at = falls-at rs ts i r (rest-shown stated s t rs ts e) at

  -- the rank of a name is that of its rule
  name-rank : (name : List ℕ) (j : ℕ) → option_map (λ (m : Meaning). m.rule) (meaning_of rules name) ≡ Some j
      → (stated name).rank ≡ rank j
  name-rank name j means = by (meaning_of rules name) (λ m is. stated-at stated 0 0 rules written name m shown is) means
    where
      by : (meaning : Option Meaning) → ((m : Meaning) → meaning ≡ Some m → StatedAt stated 0 rules written name m)
          → option_map (λ (m : Meaning). m.rule) meaning ≡ Some j → (stated name).rank ≡ rank j
      by None each is = cc
      by (Some m) each is =
          let at = each m refl in
          let number : m.rule ≡ j = cc in
          let same : at.0 ≡ j = omega (arith, at.1, number) in
          ap (λ (t : Stated). t.rank) at.2 ∙ ap rank same

  ranks-fall : (first second : ℕ) → LeftCallsBy rules (NullableBy (judged stated)) first second → rank second < rank first
  ranks-fall first second meets =
      let here = falls-at rules written first meets.rule shown meets.numbered in
      subst (λ n. n < rank first) (name-rank meets.name second meets.means)
      (falls-shown stated (rank first) meets.name meets.rule.body here meets.reached)

  pub IsRanked-shown : IsRanked rules (judged stated) rank
  IsRanked-shown = record {
    closed = judged-closed stated rules name-closed;
    loops = loops-shown rules written shown;
    falls = ranks-fall;
  }

  pub IsWellFormedGrammar-shown : IsGrammar rules → IsWellFormedGrammar rules
  IsWellFormedGrammar-shown grammar = IsWellFormedGrammar-from_ranks rules (judged stated) rank grammar IsRanked-shown
