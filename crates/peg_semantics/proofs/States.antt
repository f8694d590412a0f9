-- The finitely many parts that recognition evaluates: expressions, each with the number of its first terminal. The
-- parts of each part are among them.
use Rattle.std.proofs.Common.{◌≡◌, ℕ, suc, ◌+◌, ◌*◌, ◌≤◌, Bool, true, false, if◌then◌else◌}
use Rattle.std.proofs.Common.{List, [], ◌∷◌, ◌++◌, length, All, Contains, Some, bytes_eq, ap, subst, sum_by, arith}
use Rattle.std.proofs.lemmas.List.{length-append}
use Rattle.std.proofs.lemmas.List.Elements.{All-nil, All-cons, All-head, All-tail, All-append, All-contains}
use Rattle.std.proofs.lemmas.List.Elements.{All-contains_itself}
use Rattle.std.proofs.lemmas.List.Sums.{sum_by-cons}
use Rattle.peg_bytes.specs.Extent.{between}
use Rattle.peg_semantics.specs.Form.{Form, Forms, Literal, Class, Any, Name, Seq, Choice, Optional, Star, Plus, Counted, And, Not}
use Rattle.peg_semantics.specs.Form.{End, Then, terminals, form_weight, forms_weight}
use Rattle.peg_semantics.specs.Rules.{Rule, Meaning, meaning_from, meaning_of, weight_of}
use Rattle.peg_semantics.proofs.MeaningLemmas.{All-front, All-back}

-- an expression, and the number of its first terminal
pub record Part : Type 0 where
  pub terminal : ℕ
  pub form : Form

abbrev pub part_of : (terminal : ℕ) → Form → Part
part_of terminal e = record { terminal = terminal; form = e }

-- the parts below an expression: its proper subexpressions, and the star of a plus
abbrev mutual
  pub below : (terminal : ℕ) → Form → List Part
  below terminal (Literal bytes span) = []
  below terminal (Class set span) = []
  below terminal (Any span) = []
  below terminal (Name name span) = []
  below terminal (Seq items span) = below_all terminal items
  below terminal (Choice first rest span) =
      part_of terminal first ∷ (below terminal first ++ below_all (terminal + terminals first) rest)
  below terminal (Optional part span) = part_of terminal part ∷ below terminal part
  below terminal (Star part span) = part_of terminal part ∷ below terminal part
  below terminal (Plus part span) = part_of terminal (Star part span) ∷ part_of terminal part ∷ below terminal part
  below terminal (Counted part min max span) = part_of terminal part ∷ below terminal part
  below terminal (And part span) = part_of terminal part ∷ below terminal part
  below terminal (Not part span) = part_of terminal part ∷ below terminal part

  pub below_all : (terminal : ℕ) → Forms → List Part
  below_all terminal End = []
  below_all terminal (Then e rest) =
      part_of terminal e ∷ (below terminal e ++ below_all (terminal + terminals e) rest)

-- the parts of rules, if the first terminal of the first rule has number `terminal`
abbrev pub parts_from : (terminal : ℕ) → List Rule → List Part
parts_from terminal [] = []
parts_from terminal (r ∷ rs) =
    (part_of terminal r.body ∷ below terminal r.body) ++ parts_from (terminal + terminals r.body) rs

-- ---- the number of parts

mutual
  length-below : (terminal : ℕ) (e : Form) → suc (length (below terminal e)) ≤ 2 * form_weight e
  length-below terminal (Literal bytes span) = omega arith
  length-below terminal (Class set span) = omega arith
  length-below terminal (Any span) = omega arith
  length-below terminal (Name name span) = omega arith
  length-below terminal (Seq items span) = omega (arith, length-below_all terminal items)
  length-below terminal (Choice first rest span) =
      let following = length-below_all (terminal + terminals first) rest in
      let all = length-append (below terminal first) (below_all (terminal + terminals first) rest) in
      omega (arith, length-below terminal first, following, all)
  length-below terminal (Optional part span) = omega (arith, length-below terminal part)
  length-below terminal (Star part span) = omega (arith, length-below terminal part)
  length-below terminal (Plus part span) = omega (arith, length-below terminal part)
  length-below terminal (Counted part min max span) = omega (arith, length-below terminal part)
  length-below terminal (And part span) = omega (arith, length-below terminal part)
  length-below terminal (Not part span) = omega (arith, length-below terminal part)

  length-below_all : (terminal : ℕ) (items : Forms) → length (below_all terminal items) ≤ 2 * forms_weight items
  length-below_all terminal End = omega arith
  length-below_all terminal (Then e rest) =
      let following = length-below_all (terminal + terminals e) rest in
      let all = length-append (below terminal e) (below_all (terminal + terminals e) rest) in
      omega (arith, length-below terminal e, following, all)

length-parts_from : (terminal : ℕ) (rules : List Rule) → length (parts_from terminal rules) ≤ 2 * weight_of rules
length-parts_from terminal [] = omega arith
length-parts_from terminal (r ∷ rs) =
    let weigh = λ (rule : Rule). form_weight rule.body in
    let weight : weight_of (r ∷ rs) ≡ suc (length rs) + (weigh r + sum_by weigh rs) =
    ap (λ n. suc (length rs) + n) (sum_by-cons weigh r rs) in
    let following = length-parts_from (terminal + terminals r.body) rs in
    let all =
    length-append (part_of terminal r.body ∷ below terminal r.body) (parts_from (terminal + terminals r.body) rs) in
    omega (arith, weight, following, all, length-below terminal r.body)

-- ---- the parts of each part are among them

module _ (known : List Part) where
  -- the expressions of a list are among the parts
  abbrev pub AreAmong : (terminal : ℕ) → Forms → Type 0
  AreAmong terminal End = Unit {0}
  AreAmong terminal (Then e rest) = Contains known (part_of terminal e) × AreAmong (terminal + terminals e) rest

  -- the expressions that a case of recognition evaluates are among the parts
  abbrev pub AsksAmong : (terminal : ℕ) → Form → Type 0
  AsksAmong terminal (Literal bytes span) = Unit {0}
  AsksAmong terminal (Class set span) = Unit {0}
  AsksAmong terminal (Any span) = Unit {0}
  AsksAmong terminal (Name name span) = Unit {0}
  AsksAmong terminal (Seq items span) = AreAmong terminal items
  AsksAmong terminal (Choice first rest span) = AreAmong terminal (Then first rest)
  AsksAmong terminal (Optional part span) = Contains known (part_of terminal part)
  AsksAmong terminal (Star part span) = Contains known (part_of terminal part)
  AsksAmong terminal (Plus part span) =
      Contains known (part_of terminal (Star part span)) × Contains known (part_of terminal part)
  AsksAmong terminal (Counted part min max span) = Contains known (part_of terminal part)
  AsksAmong terminal (And part span) = Contains known (part_of terminal part)
  AsksAmong terminal (Not part span) = Contains known (part_of terminal part)

  abbrev pub Closed : Part → Type 0
  Closed p = AsksAmong p.terminal p.form

  abbrev Known : List Part → Type 0
  Known parts = All (Contains known) parts

  are_among : (terminal : ℕ) (items : Forms) → Known (below_all terminal items) → AreAmong terminal items
  are_among terminal End all = tt
  are_among terminal (Then e rest) all =
      let following = below_all (terminal + terminals e) rest in (
        All-head (Contains known) (part_of terminal e) (below terminal e ++ following) all,
        are_among (terminal + terminals e) rest
            (All-back (Contains known) (below terminal e) following
            (All-tail (Contains known) (part_of terminal e) (below terminal e ++ following) all)),
      )

  asks_among : (terminal : ℕ) (e : Form) → Known (below terminal e) → AsksAmong terminal e
  asks_among terminal (Literal bytes span) all = tt
  asks_among terminal (Class set span) all = tt
  asks_among terminal (Any span) all = tt
  asks_among terminal (Name name span) all = tt
  asks_among terminal (Seq items span) all = are_among terminal items all
  asks_among terminal (Choice first rest span) all = are_among terminal (Then first rest) all
  asks_among terminal (Optional part span) all =
      All-head (Contains known) (part_of terminal part) (below terminal part) all
  asks_among terminal (Star part span) all =
      All-head (Contains known) (part_of terminal part) (below terminal part) all
  asks_among terminal (Plus part span) all =
      let star = part_of terminal (Star part span) in
      let rest = part_of terminal part ∷ below terminal part in (
        All-head (Contains known) star rest all,
        All-head (Contains known) (part_of terminal part) (below terminal part)
            (All-tail (Contains known) star rest all),
      )
  asks_among terminal (Counted part min max span) all =
      All-head (Contains known) (part_of terminal part) (below terminal part) all
  asks_among terminal (And part span) all =
      All-head (Contains known) (part_of terminal part) (below terminal part) all
  asks_among terminal (Not part span) all =
      All-head (Contains known) (part_of terminal part) (below terminal part) all

  -- an expression and its parts
  closed : (terminal : ℕ) (e : Form) → Known (part_of terminal e ∷ below terminal e)
      → (Known (below terminal e) → All Closed (below terminal e))
      → All Closed (part_of terminal e ∷ below terminal e)
  closed terminal e all inside =
      let under = All-tail (Contains known) (part_of terminal e) (below terminal e) all in
      All-cons Closed (part_of terminal e) (below terminal e) (asks_among terminal e under) (inside under)

  -- an expression, its parts, and the parts after it
  closed_both : (terminal : ℕ) (e : Form) (following : List Part)
      → Known (part_of terminal e ∷ (below terminal e ++ following))
      → (Known (below terminal e) → All Closed (below terminal e)) → (Known following → All Closed following)
      → All Closed (part_of terminal e ∷ (below terminal e ++ following))
  closed_both terminal e following all inside after =
      let here = part_of terminal e ∷ below terminal e in
      All-append Closed here following (closed terminal e (All-front (Contains known) here following all) inside)
      (after (All-back (Contains known) here following all))

  mutual
    closed_below : (terminal : ℕ) (e : Form) → Known (below terminal e) → All Closed (below terminal e)
    closed_below terminal (Literal bytes span) all = All-nil Closed
    closed_below terminal (Class set span) all = All-nil Closed
    closed_below terminal (Any span) all = All-nil Closed
    closed_below terminal (Name name span) all = All-nil Closed
    closed_below terminal (Seq items span) all = closed_all terminal items all
    closed_below terminal (Choice first rest span) all =
        closed_both terminal first (below_all (terminal + terminals first) rest) all (closed_below terminal first)
        (closed_all (terminal + terminals first) rest)
    closed_below terminal (Optional part span) all = closed terminal part all (closed_below terminal part)
    closed_below terminal (Star part span) all = closed terminal part all (closed_below terminal part)
    closed_below terminal (Plus part span) all =
        let star = part_of terminal (Star part span) in
        let rest = part_of terminal part ∷ below terminal part in
        let following = All-tail (Contains known) star rest all in
        All-cons Closed star rest (asks_among terminal (Star part span) following)
        (closed terminal part following (closed_below terminal part))
    closed_below terminal (Counted part min max span) all = closed terminal part all (closed_below terminal part)
    closed_below terminal (And part span) all = closed terminal part all (closed_below terminal part)
    closed_below terminal (Not part span) all = closed terminal part all (closed_below terminal part)

    closed_all : (terminal : ℕ) (items : Forms) → Known (below_all terminal items)
        → All Closed (below_all terminal items)
    closed_all terminal End all = All-nil Closed
    closed_all terminal (Then e rest) all =
        closed_both terminal e (below_all (terminal + terminals e) rest) all (closed_below terminal e)
        (closed_all (terminal + terminals e) rest)

  closed_rules : (terminal : ℕ) (rules : List Rule) → Known (parts_from terminal rules)
      → All Closed (parts_from terminal rules)
  closed_rules terminal [] all = All-nil Closed
  closed_rules terminal (r ∷ rs) all =
      closed_both terminal r.body (parts_from (terminal + terminals r.body) rs) all (closed_below terminal r.body)
      (closed_rules (terminal + terminals r.body) rs)

  -- the expression that a name refers to is among the parts
  abbrev IsKnown : Meaning → Type 0
  IsKnown m = Contains known (part_of m.terminal m.body)

  meaning_known : (rule terminal : ℕ) (rules : List Rule) (name : List ℕ) (m : Meaning)
      → Known (parts_from terminal rules) → meaning_from rule terminal rules name ≡ Some m → IsKnown m
  meaning_known rule terminal [] name m all is = cc
  meaning_known rule terminal (r ∷ rs) name m all is =
      by (bytes_eq name r.name)
      (meaning_known (rule + 1) (terminal + terminals r.body) rs name m (All-back (Contains known) here following all)) is
    where
      here : List Part
      here = part_of terminal r.body ∷ below terminal r.body

      following : List Part
      following = parts_from (terminal + terminals r.body) rs

      first : Meaning
      first = record { rule = rule; terminal = terminal; body = r.body }

      by : (b : Bool)
          → (meaning_from (rule + 1) (terminal + terminals r.body) rs name ≡ Some m → IsKnown m)
          → (if b then Some first else meaning_from (rule + 1) (terminal + terminals r.body) rs name) ≡ Some m
          → IsKnown m
      by true later found =
          let same : first ≡ m = cc in
          subst IsKnown same
          (All-head (Contains known) (part_of terminal r.body) (below terminal r.body ++ following) all)
      by false later found = later found

-- ---- the parts of a grammar from a start rule

module _ (rules : List Rule) (name : List ℕ) where
  abbrev pub start : Form
  start = Name name (between 0 0)

  -- the name of the start rule, and the parts of the rules
  abbrev pub parts : List Part
  parts = part_of 0 start ∷ parts_from 0 rules

  itself : All (Contains parts) parts
  itself = All-contains_itself parts

  of_rules : All (Contains parts) (parts_from 0 rules)
  of_rules = All-tail (Contains parts) (part_of 0 start) (parts_from 0 rules) itself

  pub start-among : Contains parts (part_of 0 start)
  start-among = All-head (Contains parts) (part_of 0 start) (parts_from 0 rules) itself

  pub asked-among : (terminal : ℕ) (e : Form) → Contains parts (part_of terminal e) → AsksAmong parts terminal e
  asked-among terminal e there =
      All-contains (Closed parts) parts (part_of terminal e)
      (All-cons (Closed parts) (part_of 0 start) (parts_from 0 rules) tt (closed_rules parts 0 rules of_rules)) there

  pub meaning_of-among : (used : List ℕ) (m : Meaning) → meaning_of rules used ≡ Some m
      → Contains parts (part_of m.terminal m.body)
  meaning_of-among used m is = meaning_known parts 0 0 rules used m of_rules is

  pub length-parts : length parts ≤ 1 + 2 * weight_of rules
  length-parts = omega (arith, length-parts_from 0 rules)
