-- Rules by number: the first terminal of each rule, and the rule that a name refers to.
use Rattle.std.proofs.Common.{◌≡◌, ℕ, zero, suc, ◌+◌, ◌≤◌, ◌<◌, Bool, true, false, List, [], ◌∷◌, length, get_or, slice_get, position, nat_lt, sum_by, Option, None, Some, option_map, option_and_then, if◌then◌else◌, not, cond, one-add, bytes_eq, refl, ap, ◌∙◌, arith}
use Rattle.std.proofs.lemmas.Bool.Decides.{nat_tests}
use Rattle.std.proofs.lemmas.List.{length-map}
use Rattle.std.proofs.lemmas.List.Sums.{sum_by-cons}
use Rattle.std.proofs.lemmas.Option.{slice_get_past}
use Rattle.std.specs.List.{position_or_len}
use Rattle.peg_semantics.specs.Form.{Form, Forms, Literal, Class, Any, Name, Seq, Choice, Optional, Star, Plus, Counted, And, Not, End, Then, terminals, terminals_of_all, form_weight, forms_weight}
use Rattle.peg_semantics.specs.Numbers.{first_from, terminals_of}
use Rattle.peg_semantics.specs.Record.{Recognizer, as_call}
use Rattle.peg_semantics.specs.Rules.{Rule, Meaning, names, meaning_from, weight_of}

-- ---- the number of terminals

-- an expression has at most as many terminals as its weight
mutual
  pub terminals-weight : (e : Form) → terminals e ≤ form_weight e
  terminals-weight (Literal bytes span) = omega arith
  terminals-weight (Class set span) = omega arith
  terminals-weight (Any span) = omega arith
  terminals-weight (Name name span) = omega arith
  terminals-weight (Seq items span) = omega (arith, all_terminals-weight items)
  terminals-weight (Choice first rest span) = omega (arith, terminals-weight first, all_terminals-weight rest)
  terminals-weight (Optional part span) = omega (arith, terminals-weight part)
  terminals-weight (Star part span) = omega (arith, terminals-weight part)
  terminals-weight (Plus part span) = omega (arith, terminals-weight part)
  terminals-weight (Counted part min max span) = omega (arith, terminals-weight part)
  terminals-weight (And part span) = omega (arith, terminals-weight part)
  terminals-weight (Not part span) = omega (arith, terminals-weight part)

  all_terminals-weight : (es : Forms) → terminals_of_all es ≤ forms_weight es
  all_terminals-weight End = omega arith
  all_terminals-weight (Then e rest) = omega (arith, terminals-weight e, all_terminals-weight rest)

-- rules have at most as many terminals as their weight
pub terminals_of-weight : (rules : List Rule) → terminals_of rules ≤ weight_of rules
terminals_of-weight [] = omega arith
terminals_of-weight (r ∷ rs) =
    let weight : weight_of (r ∷ rs) ≡ suc (length rs) + (form_weight r.body + sum_by (λ rule. form_weight rule.body) rs) = ap (λ n. suc (length rs) + n) (sum_by-cons (λ rule. form_weight rule.body) r rs) in
    let count : terminals_of (r ∷ rs) ≡ terminals r.body + terminals_of rs = sum_by-cons (λ rule. terminals rule.body) r rs in
    omega (arith, weight, count, terminals-weight r.body, terminals_of-weight rs)

-- ---- the first terminals

pub length-first_from : (terminal : ℕ) (rules : List Rule) → length (first_from terminal rules) ≡ length rules
length-first_from terminal [] = refl
length-first_from terminal (r ∷ rs) = ap (λ n. suc n) (length-first_from (terminal + terminals r.body) rs)

-- the terminals of a rule are among those of all rules
pub first_from-within : (terminal : ℕ) (rules : List Rule) (rule : ℕ) (e : Form) → option_map (λ (r : Rule). r.body) (slice_get rules rule) ≡ Some e → get_or (first_from terminal rules) rule 0 + terminals e ≤ terminal + terminals_of rules
first_from-within terminal [] rule e h = cc
first_from-within terminal (r ∷ rs) zero e h =
    let same : r.body ≡ e = cc in
    let body : terminals r.body ≡ terminals e = ap terminals same in
    let count : terminals_of (r ∷ rs) ≡ terminals r.body + terminals_of rs = sum_by-cons (λ rule. terminals rule.body) r rs in
    let first : get_or (first_from terminal (r ∷ rs)) 0 0 ≡ terminal = refl in
    omega (arith, body, count, first)
first_from-within terminal (r ∷ rs) (suc rule) e h =
    let count : terminals_of (r ∷ rs) ≡ terminals r.body + terminals_of rs = sum_by-cons (λ rule. terminals rule.body) r rs in
    let first : get_or (first_from terminal (r ∷ rs)) (suc rule) 0 ≡ get_or (first_from (terminal + terminals r.body) rs) rule 0 = refl in
    omega (arith, count, first, first_from-within (terminal + terminals r.body) rs rule e h)

-- ---- the rule that a name refers to

-- a rule as the meaning of a name
abbrev pub meaning : (rule terminal : ℕ) → Rule → Meaning
meaning rule terminal r = record { rule = rule; terminal = terminal; body = r.body }

-- the rule with a number, and its first terminal
abbrev pub meaning_at : ℕ → ℕ → List Rule → ℕ → Option Meaning
meaning_at first terminal rules rule =
    option_map (meaning (first + rule) (get_or (first_from terminal rules) rule 0)) (slice_get rules rule)

meaning_from-at : (first terminal : ℕ) (rules : List Rule) (name : List ℕ) → meaning_from first terminal rules name ≡ meaning_at first terminal rules (position_or_len (bytes_eq name) (names rules))
meaning_from-at first terminal [] name = refl
meaning_from-at first terminal (r ∷ rs) name =
    by (bytes_eq name r.name) (meaning_from-at (first + 1) (terminal + terminals r.body) rs name)
  where
    at : ℕ
    at = position_or_len (bytes_eq name) (names rs)

    next : (first + 1) + at ≡ first + (1 + at)
    next = omega arith

    by : (b : Bool) → meaning_from (first + 1) (terminal + terminals r.body) rs name ≡ meaning_at (first + 1) (terminal + terminals r.body) rs at
        → (if b then Some (meaning first terminal r) else meaning_from (first + 1) (terminal + terminals r.body) rs name) ≡ meaning_at first terminal (r ∷ rs) (cond (not b) (1 + at) 0)
    by true h =
        let same : first ≡ first + 0 = omega arith in ap (λ n. Some (meaning n terminal r)) same
    by false h =
        h ∙ (ap (λ n. option_map (meaning n (get_or (first_from (terminal + terminals r.body) rs) at 0)) (slice_get rs at)) next ∙ rw one-add refl)

position-at : (b : Bool) (at rule : ℕ) → cond b (Some at) None ≡ Some rule → at ≡ rule
position-at true at rule e = cc
position-at false at rule e = cc

-- a name at a position in the list of names refers to the rule at that position
pub meant-position : (rules : List Rule) (name : List ℕ) (rule : ℕ) → position (bytes_eq name) (names rules) ≡ Some rule → meaning_from 0 0 rules name ≡ meaning_at 0 0 rules rule
meant-position rules name rule h =
    let at = position_or_len (bytes_eq name) (names rules) in
    meaning_from-at 0 0 rules name ∙ ap (meaning_at 0 0 rules) (position-at (nat_lt at (length (names rules))) at rule h)

-- a name that is not in the list refers to no rule
pub meant-no_position : (rules : List Rule) (name : List ℕ) → position (bytes_eq name) (names rules) ≡ None → meaning_from 0 0 rules name ≡ None
meant-no_position rules name h =
    let at = position_or_len (bytes_eq name) (names rules) in
    let beyond : length (names rules) ≤ at = by (nat_lt at (length (names rules))) refl h in
    meaning_from-at 0 0 rules name ∙ ap (option_map (meaning (0 + at) (get_or (first_from 0 rules) at 0))) (slice_get_past rules at (rw length-map at beyond))
  where
    by : (b : Bool) → nat_lt (position_or_len (bytes_eq name) (names rules)) (length (names rules)) ≡ b → cond b (Some (position_or_len (bytes_eq name) (names rules))) None ≡ None → length (names rules) ≤ position_or_len (bytes_eq name) (names rules)
    by true e k = cc
    by false e k = grind (arith, nat_tests)

-- a position in the list of names is the number of a rule
pub position-within : (rules : List Rule) (name : List ℕ) (rule : ℕ) → position (bytes_eq name) (names rules) ≡ Some rule → rule < length rules
position-within rules name rule h = rw length-map at (by (nat_lt (position_or_len (bytes_eq name) (names rules)) (length (names rules))) refl h)
  where
    by : (b : Bool) → nat_lt (position_or_len (bytes_eq name) (names rules)) (length (names rules)) ≡ b → cond b (Some (position_or_len (bytes_eq name) (names rules))) None ≡ Some rule → rule < length (names rules)
    by true e k = let same : position_or_len (bytes_eq name) (names rules) ≡ rule = cc in grind (arith, nat_tests)
    by false e k = cc

-- the record of a name is the record of a call of the rule that it refers to
pub named-used : (take : Recognizer) (position rule : ℕ) (rules : List Rule) (found : Option Meaning) → found ≡ meaning_at 0 0 rules rule
    → option_and_then (λ (m : Meaning). option_map (as_call m.rule position) (take m.body m.terminal position)) found
    ≡ option_and_then (λ (r : Rule). option_map (as_call rule position) (take r.body (get_or (first_from 0 rules) rule 0) position)) (slice_get rules rule)
named-used take position rule rules found is =
    ap (option_and_then (λ (m : Meaning). option_map (as_call m.rule position) (take m.body m.terminal position))) is ∙ by (slice_get rules rule)
  where
    first : ℕ
    first = get_or (first_from 0 rules) rule 0

    same : 0 + rule ≡ rule
    same = omega arith

    by : (found : Option Rule) → option_and_then (λ (m : Meaning). option_map (as_call m.rule position) (take m.body m.terminal position)) (option_map (meaning (0 + rule) first) found)
        ≡ option_and_then (λ (r : Rule). option_map (as_call rule position) (take r.body first position)) found
    by None = refl
    by (Some r) = ap (λ n. option_map (as_call n position) (take r.body first position)) same
