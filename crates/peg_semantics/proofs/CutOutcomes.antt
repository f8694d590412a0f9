-- Cut counts keep abstract outcomes, round by round.
use Rattle.std.proofs.Common.{◌≡◌, ℕ, zero, suc, ◌+◌, Bool, true, false, if◌then◌else◌, List, [], ◌∷◌, Option, None, Some}
use Rattle.std.proofs.Common.{bytes_eq, option_map, refl, sym, ap, ap₂, ◌∙◌}
use Rattle.peg_semantics.specs.AbstractOutcomes.{Can, seq_outcome, choice_outcome, optional_outcome}
use Rattle.peg_semantics.specs.AbstractOutcomes.{star_outcome, plus_outcome, repeat_outcome, and_outcome, not_outcome, OutcomeOf}
use Rattle.peg_semantics.specs.AbstractOutcomes.{outcome_of_items, outcome_of_choice, outcome_of_meaning, can_table, can_in}
use Rattle.peg_semantics.specs.AbstractOutcomes.{GivesNothing, GivesSomething, CanFail}
use Rattle.peg_semantics.specs.CutCounts.{at_most_one, cut_counts, cut_all_counts, cut_rules}
use Rattle.peg_semantics.specs.Form.{Form, Forms, Literal, Class, Any, Name, Seq, Choice, Optional, Star, Plus, Counted}
use Rattle.peg_semantics.specs.Form.{And, Not, End, Then, terminals, terminals_of_all}
use Rattle.peg_semantics.specs.Rules.{Rule, Meaning, meaning_from, meaning_of}

-- ---- one iteration of a count and more of them

abbrev can : (nothing something fails : Bool) → Can
can nothing something fails = record { nothing = nothing; something = something; fails = fails }

-- a part twice has the outcomes of the part once
twice-of : (x y z : Bool)
    → seq_outcome (can x y z) (repeat_outcome (can x y z) 1 1) ≡ repeat_outcome (can x y z) 1 1
twice-of true true true = refl
twice-of true true false = refl
twice-of true false true = refl
twice-of true false false = refl
twice-of false true true = refl
twice-of false true false = refl
twice-of false false true = refl
twice-of false false false = refl

-- a part and then the optional part have the outcomes of the part
once_or_twice-of : (x y z : Bool)
    → seq_outcome (can x y z) (repeat_outcome (can x y z) 0 1) ≡ repeat_outcome (can x y z) 1 1
once_or_twice-of true true true = refl
once_or_twice-of true true false = refl
once_or_twice-of true false true = refl
once_or_twice-of true false false = refl
once_or_twice-of false true true = refl
once_or_twice-of false true false = refl
once_or_twice-of false false true = refl
once_or_twice-of false false false = refl

once_more : (a : Can) (min max : ℕ)
    → seq_outcome a (repeat_outcome a (at_most_one min) (at_most_one max)) ≡ repeat_outcome a 1 1
once_more a min zero = refl
once_more a zero (suc max) = once_or_twice-of a.nothing a.something a.fails
once_more a (suc min) (suc max) = twice-of a.nothing a.something a.fails

-- the outcomes of a count are those of the count cut to one iteration
repeat_outcome-cut : (a : Can) (min max : ℕ)
    → repeat_outcome a (at_most_one min) (at_most_one max) ≡ repeat_outcome a min max
repeat_outcome-cut a min zero = refl
repeat_outcome-cut a zero (suc max) =
    ap optional_outcome (sym (once_more a zero max) ∙ ap (seq_outcome a) (repeat_outcome-cut a zero max))
repeat_outcome-cut a (suc min) (suc max) =
    sym (once_more a min max) ∙ ap (seq_outcome a) (repeat_outcome-cut a min max)

-- ---- the meaning of a name

mutual
  pub terminals-cut : (e : Form) → terminals (cut_counts e) ≡ terminals e
  terminals-cut (Literal bytes span) = refl
  terminals-cut (Class set span) = refl
  terminals-cut (Any span) = refl
  terminals-cut (Name name span) = refl
  terminals-cut (Seq items span) = all_terminals-cut items
  terminals-cut (Choice first rest span) = ap₂ ◌+◌ (terminals-cut first) (all_terminals-cut rest)
  terminals-cut (Optional part span) = terminals-cut part
  terminals-cut (Star part span) = terminals-cut part
  terminals-cut (Plus part span) = terminals-cut part
  terminals-cut (Counted part min max span) = terminals-cut part
  terminals-cut (And part span) = terminals-cut part
  terminals-cut (Not part span) = terminals-cut part

  all_terminals-cut : (items : Forms) → terminals_of_all (cut_all_counts items) ≡ terminals_of_all items
  all_terminals-cut End = refl
  all_terminals-cut (Then e rest) = ap₂ ◌+◌ (terminals-cut e) (all_terminals-cut rest)

-- the meaning with its expression cut
abbrev pub cut_meaning : Meaning → Meaning
cut_meaning m = record { rule = m.rule; terminal = m.terminal; body = cut_counts m.body }

meaning_from-cut : (rule terminal : ℕ) (rules : List Rule) (name : List ℕ)
    → meaning_from rule terminal (cut_rules rules) name ≡ option_map cut_meaning (meaning_from rule terminal rules name)
meaning_from-cut rule terminal [] name = refl
meaning_from-cut rule terminal (r ∷ rs) name =
    by (bytes_eq name r.name) (meaning_from-cut (rule + 1) (terminal + terminals r.body) rs name)
  where
    first : Meaning
    first = record { rule = rule; terminal = terminal; body = r.body }

    later : ℕ → Option Meaning
    later count = meaning_from (rule + 1) (terminal + count) (cut_rules rs) name

    by : (b : Bool)
        → later (terminals r.body) ≡ option_map cut_meaning (meaning_from (rule + 1) (terminal + terminals r.body) rs name)
        → (if b then Some (cut_meaning first) else later (terminals (cut_counts r.body)))
        ≡ option_map cut_meaning (if b then Some first else meaning_from (rule + 1) (terminal + terminals r.body) rs name)
    by true same = refl
    by false same = ap later (terminals-cut r.body) ∙ same

pub meaning_of-cut : (rules : List Rule) (name : List ℕ)
    → meaning_of (cut_rules rules) name ≡ option_map cut_meaning (meaning_of rules name)
meaning_of-cut rules name = meaning_from-cut 0 0 rules name

-- ---- Ford's rules for outcomes

module _ (judge other : OutcomeOf) (same : (e : Form) → other (cut_counts e) ≡ judge e) where
  items-cut : (items : Forms) → outcome_of_items other (cut_all_counts items) ≡ outcome_of_items judge items
  items-cut End = refl
  items-cut (Then e rest) = ap₂ seq_outcome (same e) (items-cut rest)

  first-cut : (e : Form) (rest : Forms)
      → outcome_of_choice other (cut_counts e) (cut_all_counts rest) ≡ outcome_of_choice judge e rest
  first-cut e End = same e
  first-cut e (Then next rest) = ap₂ choice_outcome (same e) (first-cut next rest)

  meant-cut : (meaning : Option Meaning)
      → outcome_of_meaning other (option_map cut_meaning meaning) ≡ outcome_of_meaning judge meaning
  meant-cut None = refl
  meant-cut (Some m) = same m.body

  can_table-cut : (rules : List Rule) (e : Form)
      → can_table (cut_rules rules) other (cut_counts e) ≡ can_table rules judge e
  can_table-cut rules (Literal [] span) = refl
  can_table-cut rules (Literal (b ∷ bs) span) = refl
  can_table-cut rules (Class set span) = refl
  can_table-cut rules (Any span) = refl
  can_table-cut rules (Name name span) =
      ap (outcome_of_meaning other) (meaning_of-cut rules name) ∙ meant-cut (meaning_of rules name)
  can_table-cut rules (Seq items span) = items-cut items
  can_table-cut rules (Choice first rest span) = first-cut first rest
  can_table-cut rules (Optional part span) = ap optional_outcome (same part)
  can_table-cut rules (Star part span) = ap star_outcome (same part)
  can_table-cut rules (Plus part span) = ap plus_outcome (same part)
  can_table-cut rules (Counted part min max span) =
      ap (λ a. repeat_outcome a (at_most_one min) (at_most_one max)) (same part)
      ∙ repeat_outcome-cut (judge part) min max
  can_table-cut rules (And part span) = ap and_outcome (same part)
  can_table-cut rules (Not part span) = ap not_outcome (same part)

pub can_in-cut : (rules : List Rule) (n : ℕ) (e : Form)
    → can_in (cut_rules rules) n (cut_counts e) ≡ can_in rules n e
unfolding can_in
can_in-cut rules zero e = refl
can_in-cut rules (suc n) e = can_table-cut (can_in rules n) (can_in (cut_rules rules) n) (can_in-cut rules n) rules e

pub GivesNothing-cut : (rules : List Rule) (e : Form)
    → GivesNothing (cut_rules rules) (cut_counts e) ≡ GivesNothing rules e
GivesNothing-cut rules e = λ i. (n : ℕ) × ((can_in-cut rules n e i).nothing ≡ true)

pub GivesSomething-cut : (rules : List Rule) (e : Form)
    → GivesSomething (cut_rules rules) (cut_counts e) ≡ GivesSomething rules e
GivesSomething-cut rules e = λ i. (n : ℕ) × ((can_in-cut rules n e i).something ≡ true)

pub CanFail-cut : (rules : List Rule) (e : Form) → CanFail (cut_rules rules) (cut_counts e) ≡ CanFail rules e
CanFail-cut rules e = λ i. (n : ℕ) × ((can_in-cut rules n e i).fails ≡ true)
