-- Abstract outcomes and well-formedness are monotone in the number of rounds.
use Rattle.std.proofs.Common.{◌≡◌, ℕ, zero, suc, ◌+◌, Bool, true, false, ◌&&◌, ◌||◌, List, [], ◌∷◌, Option, None, Some, refl, ap, ◌∙◌, zero-add, suc-add}
use Rattle.peg_semantics.specs.Form.{Form, Forms, Literal, Class, Any, Name, Seq, Choice, Optional, Star, Plus, Counted, And, Not, End, Then}
use Rattle.peg_semantics.specs.Rules.{Rule, Meaning, meaning_of}
use Rattle.peg_semantics.specs.AbstractOutcomes.{Can, CanAll, no_outcome, succeeds, seq_outcome, choice_outcome, optional_outcome, star_outcome, plus_outcome, repeat_outcome, and_outcome, not_outcome, OutcomeOf, outcome_of_items, outcome_of_choice, outcome_of_meaning, can_table, can_in}
use Rattle.peg_semantics.specs.WellFormed.{FormPredicate, ItemsAre, AllAre, MeaningIs, WellFormedTable, IsWellFormedIn}

-- if the first test is true, so is the second
abbrev pub Implies : Bool → Bool → Type 0
Implies a b = a ≡ true → b ≡ true

pub or_right : (a b : Bool) → b ≡ true → (a || b) ≡ true
or_right true b e = refl
or_right false b e = e

pub Implies-and : (a b c d : Bool) → Implies a c → Implies b d → Implies (a && b) (c && d)
Implies-and true b c d h k e = ap (λ x. x && d) (h refl) ∙ k e
Implies-and false b c d h k e = cc

pub Implies-or : (a b c d : Bool) → Implies a c → Implies b d → Implies (a || b) (c || d)
Implies-or true b c d h k e = ap (λ x. x || d) (h refl)
Implies-or false b c d h k e = or_right c d (k e)

pub CanAll-refl : (a : Can) → CanAll a a
CanAll-refl a = record { nothing = λ e. e; something = λ e. e; fails = λ e. e }

pub CanAll-trans : (a b c : Can) → CanAll a b → CanAll b c → CanAll a c
CanAll-trans a b c h k = record {
  nothing = λ e. k.nothing (h.nothing e);
  something = λ e. k.something (h.something e);
  fails = λ e. k.fails (h.fails e);
}

pub CanAll-no_outcome : (a : Can) → CanAll no_outcome a
CanAll-no_outcome a = record { nothing = λ e. cc; something = λ e. cc; fails = λ e. cc }

-- Each of Ford's rules is monotone in the outcomes of the parts.
pub Implies-succeeds : (a c : Can) → CanAll a c → Implies (succeeds a) (succeeds c)
Implies-succeeds a c h = Implies-or a.nothing a.something c.nothing c.something h.nothing h.something

pub CanAll-seq_outcome : (a b c d : Can) → CanAll a c → CanAll b d → CanAll (seq_outcome a b) (seq_outcome c d)
CanAll-seq_outcome a b c d h k = record {
  nothing = Implies-and a.nothing b.nothing c.nothing d.nothing h.nothing k.nothing;
  something =
      Implies-and (succeeds a && succeeds b) (a.something || b.something) (succeeds c && succeeds d) (c.something || d.something)
      (Implies-and (succeeds a) (succeeds b) (succeeds c) (succeeds d) (Implies-succeeds a c h) (Implies-succeeds b d k))
      (Implies-or a.something b.something c.something d.something h.something k.something);
  fails =
      Implies-or a.fails (succeeds a && b.fails) c.fails (succeeds c && d.fails) h.fails
      (Implies-and (succeeds a) b.fails (succeeds c) d.fails (Implies-succeeds a c h) k.fails);
}

pub CanAll-choice_outcome : (a b c d : Can) → CanAll a c → CanAll b d → CanAll (choice_outcome a b) (choice_outcome c d)
CanAll-choice_outcome a b c d h k = record {
  nothing =
      Implies-or a.nothing (a.fails && b.nothing) c.nothing (c.fails && d.nothing) h.nothing
      (Implies-and a.fails b.nothing c.fails d.nothing h.fails k.nothing);
  something =
      Implies-or a.something (a.fails && b.something) c.something (c.fails && d.something) h.something
      (Implies-and a.fails b.something c.fails d.something h.fails k.something);
  fails = Implies-and a.fails b.fails c.fails d.fails h.fails k.fails;
}

pub CanAll-optional_outcome : (a c : Can) → CanAll a c → CanAll (optional_outcome a) (optional_outcome c)
CanAll-optional_outcome a c h = record {
  nothing = Implies-or a.nothing a.fails c.nothing c.fails h.nothing h.fails;
  something = h.something;
  fails = λ e. e;
}

pub CanAll-star_outcome : (a c : Can) → CanAll a c → CanAll (star_outcome a) (star_outcome c)
CanAll-star_outcome a c h = record { nothing = h.fails; something = h.something; fails = λ e. e }

pub CanAll-plus_outcome : (a c : Can) → CanAll a c → CanAll (plus_outcome a) (plus_outcome c)
CanAll-plus_outcome a c h = record {
  nothing = Implies-and a.nothing a.fails c.nothing c.fails h.nothing h.fails;
  something = h.something;
  fails = h.fails;
}

pub CanAll-repeat_outcome : (a c : Can) → CanAll a c → (min max : ℕ) → CanAll (repeat_outcome a min max) (repeat_outcome c min max)
CanAll-repeat_outcome a c h min zero = CanAll-refl (repeat_outcome a min zero)
CanAll-repeat_outcome a c h zero (suc max) =
    CanAll-optional_outcome (seq_outcome a (repeat_outcome a zero max)) (seq_outcome c (repeat_outcome c zero max))
    (CanAll-seq_outcome a (repeat_outcome a zero max) c (repeat_outcome c zero max) h (CanAll-repeat_outcome a c h zero max))
CanAll-repeat_outcome a c h (suc min) (suc max) =
    CanAll-seq_outcome a (repeat_outcome a min max) c (repeat_outcome c min max) h (CanAll-repeat_outcome a c h min max)

pub CanAll-and_outcome : (a c : Can) → CanAll a c → CanAll (and_outcome a) (and_outcome c)
CanAll-and_outcome a c h = record { nothing = Implies-succeeds a c h; something = λ e. e; fails = h.fails }

pub CanAll-not_outcome : (a c : Can) → CanAll a c → CanAll (not_outcome a) (not_outcome c)
CanAll-not_outcome a c h = record { nothing = h.fails; something = λ e. e; fails = Implies-succeeds a c h }

-- monotonicity passes from outcomes of parts to the table over them
module _ (judge more : OutcomeOf) (h : (e : Form) → CanAll (judge e) (more e)) where
  pub CanAll-items : (items : Forms) → CanAll (outcome_of_items judge items) (outcome_of_items more items)
  CanAll-items End = CanAll-refl (outcome_of_items judge End)
  CanAll-items (Then e rest) =
      CanAll-seq_outcome (judge e) (outcome_of_items judge rest) (more e) (outcome_of_items more rest) (h e) (CanAll-items rest)

  pub CanAll-first : (e : Form) (rest : Forms) → CanAll (outcome_of_choice judge e rest) (outcome_of_choice more e rest)
  CanAll-first e End = h e
  CanAll-first e (Then next rest) =
      CanAll-choice_outcome (judge e) (outcome_of_choice judge next rest) (more e) (outcome_of_choice more next rest) (h e) (CanAll-first next rest)

  pub CanAll-meaning : (meaning : Option Meaning) → CanAll (outcome_of_meaning judge meaning) (outcome_of_meaning more meaning)
  CanAll-meaning None = CanAll-refl no_outcome
  CanAll-meaning (Some m) = h m.body

  pub CanAll-table : (rules : List Rule) (e : Form) → CanAll (can_table rules judge e) (can_table rules more e)
  CanAll-table rules (Literal [] span) = CanAll-refl (can_table rules judge (Literal [] span))
  CanAll-table rules (Literal (b ∷ bs) span) = CanAll-refl (can_table rules judge (Literal (b ∷ bs) span))
  CanAll-table rules (Class set span) = CanAll-refl (can_table rules judge (Class set span))
  CanAll-table rules (Any span) = CanAll-refl (can_table rules judge (Any span))
  CanAll-table rules (Name name span) = CanAll-meaning (meaning_of rules name)
  CanAll-table rules (Seq items span) = CanAll-items items
  CanAll-table rules (Choice first rest span) = CanAll-first first rest
  CanAll-table rules (Optional part span) = CanAll-optional_outcome (judge part) (more part) (h part)
  CanAll-table rules (Star part span) = CanAll-star_outcome (judge part) (more part) (h part)
  CanAll-table rules (Plus part span) = CanAll-plus_outcome (judge part) (more part) (h part)
  CanAll-table rules (Counted part min max span) = CanAll-repeat_outcome (judge part) (more part) (h part) min max
  CanAll-table rules (And part span) = CanAll-and_outcome (judge part) (more part) (h part)
  CanAll-table rules (Not part span) = CanAll-not_outcome (judge part) (more part) (h part)

-- the outcomes in n rounds are among those in n + 1 rounds
pub can_in-more : (rules : List Rule) (n : ℕ) (e : Form) → CanAll (can_in rules n e) (can_in rules (suc n) e)
unfolding can_in
can_in-more rules zero e = CanAll-no_outcome (can_in rules (suc zero) e)
can_in-more rules (suc n) e = CanAll-table (can_in rules n) (can_in rules (suc n)) (can_in-more rules n) rules e

-- the same for every greater number of rounds
pub can_in-later : (rules : List Rule) (more n : ℕ) (e : Form) → CanAll (can_in rules n e) (can_in rules (more + n) e)
can_in-later rules zero n e = rw zero-add (CanAll-refl (can_in rules n e))
can_in-later rules (suc more) n e =
    rw suc-add
    (CanAll-trans (can_in rules n e) (can_in rules (more + n) e) (can_in rules (suc (more + n)) e)
    (can_in-later rules more n e) (can_in-more rules (more + n) e))

-- monotonicity passes from a property of parts to the table over it
module _ (rules : List Rule) (Is More : FormPredicate) (h : (e : Form) → Is e → More e) where
  pub ItemsAre-more : (items : Forms) → ItemsAre rules Is items → ItemsAre rules More items
  ItemsAre-more End are = are
  ItemsAre-more (Then e rest) are = (h e are.0, λ gives. ItemsAre-more rest (are.1 gives))

  pub AllAre-more : (items : Forms) → AllAre Is items → AllAre More items
  AllAre-more End are = are
  AllAre-more (Then e rest) are = (h e are.0, AllAre-more rest are.1)

  pub MeaningIs-more : (meaning : Option Meaning) → MeaningIs Is meaning → MeaningIs More meaning
  MeaningIs-more None is = is
  MeaningIs-more (Some m) is = h m.body is

  pub WellFormedTable-more : (e : Form) → WellFormedTable rules Is e → WellFormedTable rules More e
  WellFormedTable-more (Literal bytes span) is = is
  WellFormedTable-more (Class set span) is = is
  WellFormedTable-more (Any span) is = is
  WellFormedTable-more (Name name span) is = MeaningIs-more (meaning_of rules name) is
  WellFormedTable-more (Seq items span) is = ItemsAre-more items is
  WellFormedTable-more (Choice first rest span) is = (h first is.0, AllAre-more rest is.1)
  WellFormedTable-more (Optional part span) is = h part is
  WellFormedTable-more (Star part span) is = (h part is.0, is.1)
  WellFormedTable-more (Plus part span) is = (h part is.0, is.1)
  WellFormedTable-more (Counted part min max span) is = h part is
  WellFormedTable-more (And part span) is = h part is
  WellFormedTable-more (Not part span) is = h part is

-- an expression that is well-formed in n rounds is well-formed in n + 1 rounds
pub IsWellFormedIn-more : (rules : List Rule) (n : ℕ) (e : Form) → IsWellFormedIn rules n e → IsWellFormedIn rules (suc n) e
unfolding IsWellFormedIn
IsWellFormedIn-more rules zero e is = absurd is
IsWellFormedIn-more rules (suc n) e is =
    WellFormedTable-more rules (IsWellFormedIn rules n) (IsWellFormedIn rules (suc n)) (IsWellFormedIn-more rules n) e is

-- the same for every greater number of rounds
pub IsWellFormedIn-later : (rules : List Rule) (more n : ℕ) (e : Form) → IsWellFormedIn rules n e → IsWellFormedIn rules (more + n) e
IsWellFormedIn-later rules zero n e is = rw zero-add is
IsWellFormedIn-later rules (suc more) n e is =
    rw suc-add (IsWellFormedIn-more rules (more + n) e (IsWellFormedIn-later rules more n e is))
