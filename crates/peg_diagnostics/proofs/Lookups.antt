-- What names refer to in the diagnostic grammar: the loud rule of the same number, and the quiet copy.
use Rattle.std.proofs.Common.{◌≡◌, ◌≢◌, ℕ, suc, ◌+◌, ◌<◌, ◌≤◌, Bool, true, false, if◌then◌else◌, List, [], ◌∷◌, ◌++◌}
use Rattle.std.proofs.Common.{Option, Some, refl, sym, ap, ◌∙◌, subst, arith, bytes_eq, map, All}
use Rattle.std.proofs.Common.{AllPairs, Contains, append-nil, le_refl, length}
use Rattle.std.proofs.lemmas.List.{append_cancel_right, map-append}
use Rattle.std.proofs.lemmas.List.Elements.{All-nil, All-cons, All-head, All-tail, All-contains, Contains-append_left}
use Rattle.std.proofs.lemmas.List.Elements.{Contains-append_right, Contains-push, All-weaker}
use Rattle.std.proofs.lemmas.Slice.Eq.{bytes_eq-Decides}
use Rattle.std.proofs.lemmas.Bool.{false≢true}
use Rattle.peg_semantics.specs.Form.{terminals}
use Rattle.peg_semantics.specs.Rules.{Rule, Meaning, names, meaning_from, meaning_of}
use Rattle.peg_diagnostics.specs.Diagnostic.{quiet, quiet_name, loud, loud_rule, quiet_rule, diagnostic_rules}
use Rattle.peg_diagnostics.specs.Items.{items, item_meaning_from, item_meaning_of}
use Rattle.peg_diagnostics.specs.ItemTests.{added_terminals, added_terminals_from, item_terminals, item_of_terminal}
use Rattle.peg_diagnostics.specs.Placed.{IsPlaced}
use Rattle.peg_diagnostics.proofs.LoudRecords.{IsOwn, HasLoud, no_items, SameCall-quiet}
use Rattle.peg_diagnostics.proofs.Placement.{Below, From, IsPart, item_in, part-front, part-back, placed}
use Rattle.peg_diagnostics.proofs.Placement.{length-added, added-below, added-from, place_from-none, two_parts-from}
use Rattle.peg_diagnostics.proofs.Placement.{two_parts-below}
use Rattle.peg_diagnostics.proofs.Renaming.{HasCopy, terminals-rename}

-- ---- equal names

pub bytes_eq-same : (a b : List ℕ) → bytes_eq a b ≡ true → a ≡ b
bytes_eq-same a b is = (bytes_eq-Decides a b).0 is

pub bytes_eq-itself : (a : List ℕ) → bytes_eq a a ≡ true
bytes_eq-itself a = (bytes_eq-Decides a a).1 refl

pub bytes_eq-apart : (a b : List ℕ) → a ≢ b → bytes_eq a b ≡ false
bytes_eq-apart a b apart = by (bytes_eq a b) refl
  where
    by : (equal : Bool) → bytes_eq a b ≡ equal → bytes_eq a b ≡ false
    by true is = absurd (apart (bytes_eq-same a b is))
    by false is = is

-- names of quiet copies are equal exactly if the names are
bytes_eq-quiet : (a b : List ℕ) (equal : Bool) → bytes_eq a b ≡ equal → bytes_eq (quiet_name a) (quiet_name b) ≡ equal
bytes_eq-quiet a b true is =
    subst (λ n. bytes_eq (quiet_name a) (quiet_name n) ≡ true) (bytes_eq-same a b is) (bytes_eq-itself (quiet_name a))
bytes_eq-quiet a b false is =
    bytes_eq-apart (quiet_name a) (quiet_name b)
    (λ same. absurd (false≢true (sym is ∙ subst (λ n. bytes_eq a n ≡ true)
    (append_cancel_right a b (33 ∷ []) same) (bytes_eq-itself a))))

-- ---- distinct names

module _ {X : Type 0} (R : X → X → Type 0) where
  pub AllPairs-head : (x : X) (xs : List X) → AllPairs R (x ∷ xs) → All (R x) xs
  AllPairs-head x xs all k d within = all 0 (suc k) d (omega arith) (omega (arith, within))

  pub AllPairs-tail : (x : X) (xs : List X) → AllPairs R (x ∷ xs) → AllPairs R xs
  AllPairs-tail x xs all i j d before within = all (suc i) (suc j) d (omega (arith, before)) (omega (arith, within))

  pub AllPairs-cross : (xs ys : List X) (y : X) → AllPairs R (xs ++ ys) → Contains ys y → All (λ x. R x y) xs
  AllPairs-cross [] ys y all there = All-nil (λ x. R x y)
  AllPairs-cross (x ∷ xs) ys y all there =
      All-cons (λ x. R x y) x xs
      (All-contains (R x) (xs ++ ys) y (AllPairs-head x (xs ++ ys) all) (Contains-append_right xs ys y there))
      (AllPairs-cross xs ys y (AllPairs-tail x (xs ++ ys) all) there)

-- distinct names
abbrev pub Distinct : List (List ℕ) → Type 0
Distinct some = AllPairs (λ (a b : List ℕ). a ≢ b) some

names-loud : (rules : List Rule) → names (map loud_rule rules) ≡ names rules
names-loud [] = refl
names-loud (rule ∷ rules) = ap (λ l. rule.name ∷ l) (names-loud rules)

pub names-diagnostic : (rules : List Rule)
    → names (diagnostic_rules rules) ≡ names rules ++ names (map quiet_rule rules)
names-diagnostic rules =
    map-append (λ (rule : Rule). rule.name) (map loud_rule rules) (map quiet_rule rules)
    ∙ ap (λ l. l ++ names (map quiet_rule rules)) (names-loud rules)

pub Contains-first : {X : Type 0} (x : X) (xs : List X) → Contains (x ∷ xs) x
Contains-first x xs = Contains-append_left (x ∷ []) xs x (Contains-push [] x)

-- a name that refers to a rule has a quiet copy
quiet-known : (rule terminal : ℕ) (rules : List Rule) (name : List ℕ) (m : Meaning)
    → meaning_from rule terminal rules name ≡ Some m → Contains (names (map quiet_rule rules)) (quiet_name name)
quiet-known rule terminal [] name m is = cc
quiet-known rule terminal (r ∷ rs) name m is =
    by (bytes_eq name r.name) refl (quiet-known (rule + 1) (terminal + terminals r.body) rs name m) is
  where
    copies : List (List ℕ)
    copies = names (map quiet_rule rs)

    by : (b : Bool) → bytes_eq name r.name ≡ b
        → (meaning_from (rule + 1) (terminal + terminals r.body) rs name ≡ Some m → Contains copies (quiet_name name))
        → (if b
        then Some (record { rule = rule; terminal = terminal; body = r.body })
        else meaning_from (rule + 1) (terminal + terminals r.body) rs name)
        ≡ Some m
        → Contains (quiet_name r.name ∷ copies) (quiet_name name)
    by true equal later found =
        subst (λ n. Contains (quiet_name n ∷ copies) (quiet_name name)) (bytes_eq-same name r.name equal)
        (Contains-first (quiet_name name) copies)
    by false equal later found =
        Contains-append_right (quiet_name r.name ∷ []) copies (quiet_name name) (later found)

-- no rule has the name of the quiet copy of a rule
apart_from_quiet : (rules : List Rule) → Distinct (names (diagnostic_rules rules)) → (name : List ℕ) (m : Meaning)
    → meaning_of rules name ≡ Some m → All (λ n. n ≢ quiet_name name) (names rules)
apart_from_quiet rules distinct name m is =
    AllPairs-cross (λ a b. a ≢ b) (names rules) (names (map quiet_rule rules)) (quiet_name name)
    (subst Distinct (names-diagnostic rules) distinct) (quiet-known 0 0 rules name m is)

-- ---- the terminals of loud rules

-- the number of terminals of the rules made loud
abbrev pub loud_terminals : List Rule → ℕ
loud_terminals [] = 0
loud_terminals (rule ∷ rules) = terminals (loud rule.body) + loud_terminals rules

pub rules-below : (rules : List Rule) (terminal : ℕ)
    → Below (terminal + loud_terminals rules) (added_terminals_from terminal rules)
rules-below [] terminal = All-nil (λ x. x < terminal + 0)
rules-below (r ∷ rs) terminal =
    let later = terminal + terminals (loud r.body) in
    two_parts-below (added_terminals r.body terminal) (added_terminals_from later rs) terminal (terminals (loud r.body))
    (loud_terminals rs) (added-below r.body terminal) (rules-below rs later)

rules-from : (rules : List Rule) (terminal : ℕ) → From terminal (added_terminals_from terminal rules)
rules-from [] terminal = All-nil (λ x. terminal ≤ x)
rules-from (r ∷ rs) terminal =
    let later = terminal + terminals (loud r.body) in
    two_parts-from (added_terminals r.body terminal) (added_terminals_from later rs) terminal (terminals (loud r.body))
    (added-from r.body terminal) (rules-from rs later)

-- the added empty classes of each rule are those of its items
abbrev pub AreRulesPlaced : (ℕ → Option ℕ) → List Rule → (terminal number : ℕ) → Type 0
AreRulesPlaced item [] terminal number = Unit {0}
AreRulesPlaced item (r ∷ rs) terminal number =
    IsPlaced item r.body terminal number
    × AreRulesPlaced item rs (terminal + terminals (loud r.body)) (number + items r.body)

pub rules_placed : (all : List ℕ) (rules : List Rule) (before after : List ℕ) (terminal number : ℕ)
    → IsPart all before (added_terminals_from terminal rules) after terminal (loud_terminals rules) number
    → AreRulesPlaced (item_in all) rules terminal number
rules_placed all [] before after terminal number part = tt
rules_placed all (r ∷ rs) before after terminal number part =
    let later = terminal + terminals (loud r.body) in
    let xs = added_terminals r.body terminal in
    let ys = added_terminals_from later rs in (
      placed all r.body before (ys ++ after) terminal number
          (part-front all before xs ys after terminal (terminals (loud r.body)) (loud_terminals rs) number part
          (rules-from rs later)),
      rules_placed all rs (before ++ xs) after later (number + items r.body)
          (part-back all before xs ys after terminal (terminals (loud r.body)) (loud_terminals rs) number part
          (items r.body)
          (length-added r.body terminal) (added-below r.body terminal)),
    )

all_rules_placed : (rules : List Rule) → AreRulesPlaced (item_of_terminal rules) rules 0 0
all_rules_placed rules =
    rules_placed (item_terminals rules) rules [] [] 0 0 (record {
      is = sym (append-nil (item_terminals rules));
      long = refl;
      below = All-nil (λ x. x < 0);
      from = All-nil (λ x. 0 + loud_terminals rules ≤ x);
    })

-- ---- loud rules

-- the loud copy of what a name refers to
pub record IsLoudOf (item : ℕ → Option ℕ) (copy m : Meaning) : Type 0 where
  pub numbered : m.rule ≡ copy.rule
  pub loudened : copy.body ≡ loud m.body
  pub placed : IsPlaced item m.body copy.terminal m.terminal

abbrev pub FindsLoud : (ℕ → Option ℕ) → Option Meaning → Meaning → Type 0
FindsLoud item found m = (copy : Meaning) × (found ≡ Some copy) × IsLoudOf item copy m

pub finds_loud : (item : ℕ → Option ℕ) (rules more : List Rule) (rule terminal number : ℕ) (name : List ℕ) (m : Meaning)
    → AreRulesPlaced item rules terminal number → item_meaning_from rule number rules name ≡ Some m
    → FindsLoud item (meaning_from rule terminal (map loud_rule rules ++ more) name) m
finds_loud item [] more rule terminal number name m there is = cc
finds_loud item (r ∷ rs) more rule terminal number name m there is =
    by (bytes_eq name r.name)
    (finds_loud item rs more (rule + 1) (terminal + terminals (loud r.body)) (number + items r.body) name m there.1) is
  where
    first : Meaning
    first = record { rule = rule; terminal = number; body = r.body }

    copy : Meaning
    copy = record { rule = rule; terminal = terminal; body = loud r.body }

    others : Option Meaning
    others = meaning_from (rule + 1) (terminal + terminals (loud r.body)) (map loud_rule rs ++ more) name

    by : (b : Bool)
        → (item_meaning_from (rule + 1) (number + items r.body) rs name ≡ Some m → FindsLoud item others m)
        → (if b then Some first else item_meaning_from (rule + 1) (number + items r.body) rs name) ≡ Some m
        → FindsLoud item (if b then Some copy else others) m
    by true later found =
        let same : first ≡ m = cc in
        subst (FindsLoud item (Some copy)) same
        (copy, refl, record { numbered = refl; loudened = refl; placed = there.0 })
    by false later found = later found

-- The rule that a name refers to is one of the rules, which bounds its number.
item_meaning_from-below : (rule item : ℕ) (rules : List Rule) (name : List ℕ) (m : Meaning)
    → item_meaning_from rule item rules name ≡ Some m → m.rule < rule + length rules
item_meaning_from-below rule item [] name m is = cc
item_meaning_from-below rule item (r ∷ rs) name m is =
    by (bytes_eq name r.name) (item_meaning_from-below (rule + 1) (item + items r.body) rs name m) is
  where
    first : Meaning
    first = record { rule = rule; terminal = item; body = r.body }

    others : Option Meaning
    others = item_meaning_from (rule + 1) (item + items r.body) rs name

    by : (b : Bool) → (others ≡ Some m → m.rule < rule + 1 + length rs) → (if b then Some first else others) ≡ Some m
        → m.rule < rule + length (r ∷ rs)
    by true later found =
        let same : first ≡ m = cc in
        let here : rule < rule + length (r ∷ rs) = omega arith in
        subst (λ (m : Meaning). m.rule < rule + length (r ∷ rs)) same here
    by false later found = omega (arith, later found)

pub item_meaning_of-below : (rules : List Rule) (name : List ℕ) (m : Meaning) → item_meaning_of rules name ≡ Some m
    → m.rule < length rules
item_meaning_of-below rules name m is = omega (arith, item_meaning_from-below 0 0 rules name m is)

pub loud_copies : (rules : List Rule) (name : List ℕ) (m : Meaning) → item_meaning_of rules name ≡ Some m
    → HasLoud (item_of_terminal rules) (length rules) (diagnostic_rules rules) name m
loud_copies rules name m is =
    let found = finds_loud (item_of_terminal rules) rules (map quiet_rule rules) 0 0 0 name m (all_rules_placed rules)
    is in
    record {
      copy = found.0;
      found = found.1;
      numbered = (found.2).numbered;
      below = item_meaning_of-below rules name m is;
      loudened = (found.2).loudened;
      placed = (found.2).placed;
    }

-- ---- quiet copies

-- a lookup passes over loud rules of other names
passes_loud : (rules more : List Rule) (name : List ℕ) (rule terminal : ℕ) → All (λ n. n ≢ name) (names rules)
    → (number : ℕ) × (start : ℕ) × (terminal + loud_terminals rules ≡ start) × (rule + length rules ≡ number)
    × (meaning_from rule terminal (map loud_rule rules ++ more) name ≡ meaning_from number start more name)
passes_loud [] more name rule terminal apart = (rule, terminal, omega arith, omega arith, refl)
passes_loud (r ∷ rs) more name rule terminal apart =
    let later = passes_loud rs more name (rule + 1) (terminal + terminals (loud r.body))
    (All-tail (λ n. n ≢ name) r.name (names rs) apart) in
    let other : bytes_eq name r.name ≡ false =
    bytes_eq-apart name r.name (λ same. All-head (λ n. n ≢ name) r.name (names rs) apart (sym same)) in (
      later.0,
      later.1,
      omega (arith, later.2),
      omega (arith, later.3),
      ap (λ b. if b
          then Some (record { rule = rule; terminal = terminal; body = loud r.body })
          else meaning_from (rule + 1) (terminal + terminals (loud r.body)) (map loud_rule rs ++ more) name) other
          ∙ later.4,
    )

-- the number of terminals of the quiet copies of rules
abbrev pub quiet_terminals : List Rule → ℕ
quiet_terminals [] = 0
quiet_terminals (rule ∷ rules) = terminals (quiet rule.body) + quiet_terminals rules

-- The quiet copy of what a name refers to. Its terminals are from `least` up to `most`, and its rule number is at least
-- `first`.
abbrev pub FindsQuiet : (first least most : ℕ) → Option Meaning → Meaning → Type 0
FindsQuiet first least most found m =
    (copy : Meaning) × (found ≡ Some copy) × (copy.body ≡ quiet m.body) × (least ≤ copy.terminal)
    × (copy.terminal + terminals m.body ≤ most) × (first ≤ copy.rule)

finds_quiet : (rules : List Rule) (rule terminal number start : ℕ) (name : List ℕ) (m : Meaning)
    → meaning_from rule terminal rules name ≡ Some m
    → FindsQuiet number start (start + quiet_terminals rules)
    (meaning_from number start (map quiet_rule rules) (quiet_name name)) m
finds_quiet [] rule terminal number start name m is = cc
finds_quiet (r ∷ rs) rule terminal number start name m is =
    by (bytes_eq name r.name) refl
    (finds_quiet rs (rule + 1) (terminal + terminals r.body) (number + 1) (start + terminals (quiet r.body)) name m) is
  where
    first : Meaning
    first = record { rule = rule; terminal = terminal; body = r.body }

    copy : Meaning
    copy = record { rule = number; terminal = start; body = quiet r.body }

    others : Option Meaning
    others = meaning_from (number + 1) (start + terminals (quiet r.body)) (map quiet_rule rs) (quiet_name name)

    by : (b : Bool) → bytes_eq name r.name ≡ b
        → (meaning_from (rule + 1) (terminal + terminals r.body) rs name ≡ Some m
        → FindsQuiet (number + 1) (start + terminals (quiet r.body))
        (start + terminals (quiet r.body) + quiet_terminals rs) others m)
        → (if b then Some first else meaning_from (rule + 1) (terminal + terminals r.body) rs name) ≡ Some m
        → FindsQuiet number start (start + quiet_terminals (r ∷ rs))
        (if bytes_eq (quiet_name name) (quiet_name r.name) then Some copy else others) m
    by true equal later found =
        let same : first ≡ m = cc in
        subst (λ b. FindsQuiet number start (start + quiet_terminals (r ∷ rs)) (if b then Some copy else others) m)
        (sym (bytes_eq-quiet name r.name true equal))
        (subst (FindsQuiet number start (start + quiet_terminals (r ∷ rs)) (Some copy)) same
        (copy, refl, refl, le_refl start, omega (arith, terminals-rename quiet_name r.body), le_refl number))
    by false equal later found =
        let more = later found in
        subst (λ b. FindsQuiet number start (start + quiet_terminals (r ∷ rs)) (if b then Some copy else others) m)
        (sym (bytes_eq-quiet name r.name false equal))
        (more.0, more.1, more.2, omega (arith, more.3), omega (arith, more.4), omega (arith, more.5))

module _ (rules : List Rule) (distinct : Distinct (names (diagnostic_rules rules))) where
  pub quiet_copy : (name : List ℕ) (m : Meaning) → meaning_of rules name ≡ Some m
      → FindsQuiet (length rules) (loud_terminals rules) (loud_terminals rules + quiet_terminals rules)
      (meaning_of (diagnostic_rules rules) (quiet_name name)) m
  quiet_copy name m is =
      let passed = passes_loud rules (map quiet_rule rules) (quiet_name name) 0 0
      (apart_from_quiet rules distinct name m is) in
      let found = finds_quiet rules 0 0 passed.0 passed.1 name m is in (
        found.0,
        passed.4 ∙ found.1,
        found.2,
        omega (arith, passed.2, found.3),
        omega (arith, passed.2, found.4),
        omega (arith, passed.3, found.5),
      )

  pub quiet_copies : (name : List ℕ) (m : Meaning) → meaning_of rules name ≡ Some m
      → HasCopy (no_items (item_of_terminal rules) (length rules)) (IsOwn (item_of_terminal rules)) quiet_name
      (diagnostic_rules rules) name m
  quiet_copies name m is =
      let found = quiet_copy name m is in
      record {
        copy = found.0;
        found = found.1;
        renamed = found.2;
        free = λ k below. place_from-none ((found.0).terminal + k) 0 (item_terminals rules)
            (All-weaker (λ x. x < 0 + loud_terminals rules) (λ x. x ≢ (found.0).terminal + k)
            (λ x small same. omega (arith, small, same, found.3)) (item_terminals rules) (rules-below rules 0));
        node = λ start end a b same. tt;
        call = SameCall-quiet (item_of_terminal rules) (length rules) m.rule (found.0).rule found.5;
      }
