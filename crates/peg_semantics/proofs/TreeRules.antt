-- Every node of a record's trees has the number of a rule of the grammar.
use Rattle.std.proofs.Common.{◌≡◌, ℕ, zero, suc, ◌+◌, ◌<◌, Bool, true, false, List, [], ◌∷◌, length, drop}
use Rattle.std.proofs.Common.{bytes_eq, ◌==◌, if◌then◌else◌, Option, None, Some, IfSome, option_map, option_and_then, refl, subst, arith}
use Rattle.peg_bytes.specs.Extent.{between}
use Rattle.peg_bytes.specs.ByteSet.{has}
use Rattle.peg_tree.specs.Nodes.{RulesBelow}
use Rattle.peg_tree.specs.Trees.{Trees, NoTrees, Tree, followed_by}
use Rattle.peg_semantics.specs.Form.{Form, Forms, Literal, Class, Any, Name, Seq, Choice, Optional, Star, Plus, Counted, And, Not, End, Then}
use Rattle.peg_semantics.specs.Form.{terminals}
use Rattle.peg_semantics.specs.Rules.{Rule, Meaning, meaning_from, meaning_of}
use Rattle.peg_semantics.specs.Record.{Recognition, Failed, Matched, Record, Recognizer, matched_at, failed_at, after_both, prepend_trees, then_result, then_at}
use Rattle.peg_semantics.specs.Record.{choice_result, or_else, star_result, if_matched, if_failed, with_result, literal_at, byte_at, as_tree, as_call}
use Rattle.peg_semantics.specs.Record.{recognize_seq, recognize_choice, recognize_repeat, table, record_in, start_record}

-- a bound on the rule numbers of two lists of trees holds for both together
RulesBelow-followed_by : (most : ℕ) (trees more : Trees) → RulesBelow most trees → RulesBelow most more
    → RulesBelow most (followed_by trees more)
RulesBelow-followed_by most NoTrees more h k = k
RulesBelow-followed_by most (Tree rule start end children rest) more h k =
    (h.0, h.1, RulesBelow-followed_by most rest more h.2 k)

-- the rule that a name refers to is one of the rules
meaning_from-rule : (rule terminal : ℕ) (rules : List Rule) (name : List ℕ) (m : Meaning)
    → meaning_from rule terminal rules name ≡ Some m → m.rule < rule + length rules
meaning_from-rule rule terminal [] name m is = cc
meaning_from-rule rule terminal (r ∷ rs) name m is =
    by (bytes_eq name r.name) (meaning_from-rule (rule + 1) (terminal + terminals r.body) rs name m) is
  where
    by : (b : Bool)
        → (meaning_from (rule + 1) (terminal + terminals r.body) rs name ≡ Some m → m.rule < rule + 1 + length rs)
        → (if b then Some (record { rule = rule; terminal = terminal; body = r.body }) else meaning_from (rule + 1) (terminal + terminals r.body) rs name) ≡ Some m
        → m.rule < rule + length (r ∷ rs)
    by true later found =
        let first : Meaning = record { rule = rule; terminal = terminal; body = r.body } in
        let same : first ≡ m = cc in
        subst (λ (meaning : Meaning). meaning.rule < rule + length (r ∷ rs)) same (omega arith)
    by false later found =
        let prepend_trees = later found in
        omega arith

meaning_of-rule : (rules : List Rule) (name : List ℕ) → IfSome (meaning_of rules name) (λ (m : Meaning). m.rule < length rules)
meaning_of-rule rules name = by (meaning_of rules name) (meaning_from-rule 0 0 rules name)
  where
    by : (meaning : Option Meaning) → ((m : Meaning) → meaning ≡ Some m → m.rule < 0 + length rules)
        → IfSome meaning (λ (m : Meaning). m.rule < length rules)
    by None found = tt
    by (Some m) found = omega (arith, found m refl)

-- a match leaves trees with rule numbers below a bound
abbrev LeavesBelow : ℕ → Recognition → Type 0
LeavesBelow most Failed = Unit {0}
LeavesBelow most (Matched end trees) = RulesBelow most trees

-- Each combinator of the recognition rules preserves this property.
module _ (most : ℕ) where
  -- the property holds for the record, if there is one
  abbrev Keeps : Option Record → Type 0
  Keeps tried = IfSome tried (λ (r : Record). LeavesBelow most r.result)

  -- the property holds for the records of what comes next, at each position
  abbrev KeepsNext : (ℕ → Option Record) → Type 0
  KeepsNext next = (end : ℕ) → Keeps (next end)

  -- the property holds for every expression at each position
  abbrev KeepsAll : Recognizer → Type 0
  KeepsAll take = (e : Form) (terminal position : ℕ) → Keeps (take e terminal position)

  LeavesBelow-prepend_trees : (trees : Trees) (result : Recognition) → RulesBelow most trees → LeavesBelow most result
      → LeavesBelow most (prepend_trees trees result)
  LeavesBelow-prepend_trees trees Failed h k = tt
  LeavesBelow-prepend_trees trees (Matched end more) h k = RulesBelow-followed_by most trees more h k

  Keeps-then_result : (result : Recognition) (part : Record) (next : ℕ → Option Record) → LeavesBelow most result
      → LeavesBelow most part.result → KeepsNext next → Keeps (then_result result part next)
  Keeps-then_result Failed part next leaves h k = h
  Keeps-then_result (Matched end trees) part next leaves h k = by (next end) (k end)
    where
      by : (tried : Option Record) → Keeps tried
          → Keeps (option_map (λ more. after_both part more (prepend_trees trees more.result)) tried)
      by None kept = tt
      by (Some more) kept = LeavesBelow-prepend_trees trees more.result leaves kept

  Keeps-then_at : (tried : Option Record) (next : ℕ → Option Record) → Keeps tried → KeepsNext next
      → Keeps (then_at tried next)
  Keeps-then_at None next h k = tt
  Keeps-then_at (Some part) next h k = Keeps-then_result part.result part next h h k

  Keeps-choice_result : (result : Recognition) (part : Record) (other : Option Record) → LeavesBelow most part.result
      → Keeps other → Keeps (choice_result result part other)
  Keeps-choice_result Failed part None h k = tt
  Keeps-choice_result Failed part (Some more) h k = k
  Keeps-choice_result (Matched end trees) part other h k = h

  Keeps-or_else : (tried other : Option Record) → Keeps tried → Keeps other → Keeps (or_else tried other)
  Keeps-or_else None other h k = tt
  Keeps-or_else (Some part) other h k = Keeps-choice_result part.result part other h k

  Keeps-star_result : (result : Recognition) (position : ℕ) (part : Record) (next : ℕ → Option Record)
      → LeavesBelow most result → LeavesBelow most part.result → KeepsNext next
      → Keeps (star_result result position part next)
  Keeps-star_result Failed position part next leaves h k = Keeps-choice_result Failed part (Some (matched_at position)) h tt
  Keeps-star_result (Matched end trees) position part next leaves h k =
      Keeps-then_result (Matched end trees) part next leaves h k

  Keeps-rounds : (tried : Option Record) (position : ℕ) (next : ℕ → Option Record) → Keeps tried → KeepsNext next
      → Keeps (option_and_then (λ (round : Record). star_result round.result position round next) tried)
  Keeps-rounds None position next h k = tt
  Keeps-rounds (Some round) position next h k = Keeps-star_result round.result position round next h h k

  -- the repetitions of a part
  Keeps-recognize_repeat : (take : ℕ → Option Record) → KeepsNext take → (min max position : ℕ)
      → Keeps (recognize_repeat take min max position)
  Keeps-recognize_repeat take h min zero position = tt
  Keeps-recognize_repeat take h zero (suc max) position =
      Keeps-rounds (take position) position (λ end. recognize_repeat take zero max end) (h position)
      (λ end. Keeps-recognize_repeat take h zero max end)
  Keeps-recognize_repeat take h (suc min) (suc max) position =
      Keeps-then_at (take position) (λ end. recognize_repeat take min max end) (h position)
      (λ end. Keeps-recognize_repeat take h min max end)

  LeavesBelow-if_matched : (position : ℕ) (result : Recognition) → LeavesBelow most (if_matched result position)
  LeavesBelow-if_matched position Failed = tt
  LeavesBelow-if_matched position (Matched end trees) = tt

  LeavesBelow-if_failed : (position : ℕ) (result : Recognition) → LeavesBelow most (if_failed result position)
  LeavesBelow-if_failed position Failed = tt
  LeavesBelow-if_failed position (Matched end trees) = tt

  Keeps-predicate : (tried : Option Record) (result : Recognition → Recognition)
      → ((part : Recognition) → LeavesBelow most (result part))
      → Keeps (option_map (λ (r : Record). with_result r (result r.result)) tried)
  Keeps-predicate None result leaves = tt
  Keeps-predicate (Some r) result leaves = leaves r.result

  LeavesBelow-as_tree : (rule position : ℕ) (result : Recognition) → rule < most → LeavesBelow most result
      → LeavesBelow most (as_tree rule position result)
  LeavesBelow-as_tree rule position Failed below h = tt
  LeavesBelow-as_tree rule position (Matched end trees) below h = (below, h, tt)

  Keeps-as_call : (rule position : ℕ) (tried : Option Record) → rule < most → Keeps tried
      → Keeps (option_map (as_call rule position) tried)
  Keeps-as_call rule position None below h = tt
  Keeps-as_call rule position (Some r) below h = LeavesBelow-as_tree rule position r.result below h

  -- terminals leave no tree
  LeavesBelow-literal_at : (terminal position : ℕ) (bytes rest : List ℕ)
      → LeavesBelow most (literal_at terminal position bytes rest).result
  LeavesBelow-literal_at terminal position [] rest = tt
  LeavesBelow-literal_at terminal position (b ∷ bs) [] = tt
  LeavesBelow-literal_at terminal position (b ∷ bs) (c ∷ rest) =
      by (b == c) (LeavesBelow-literal_at terminal (position + 1) bs rest)
    where
      by : (same : Bool) → LeavesBelow most (literal_at terminal (position + 1) bs rest).result
          → LeavesBelow most (if same then literal_at terminal (position + 1) bs rest else failed_at terminal position).result
      by true later = later
      by false later = tt

  LeavesBelow-byte_at : (test : ℕ → Bool) (terminal position : ℕ) (rest : List ℕ)
      → LeavesBelow most (byte_at test terminal position rest).result
  LeavesBelow-byte_at test terminal position [] = tt
  LeavesBelow-byte_at test terminal position (c ∷ rest) = by (test c)
    where
      by : (passes : Bool)
          → LeavesBelow most (if passes then matched_at (position + 1) else failed_at terminal position).result
      by true = tt
      by false = tt

  -- if a recognizer has the property, so does the table over it
  module _ (take : Recognizer) (h : KeepsAll take) where
    Keeps-take_items : (items : Forms) (terminal position : ℕ) → Keeps (recognize_seq take items terminal position)
    Keeps-take_items End terminal position = tt
    Keeps-take_items (Then e rest) terminal position =
        Keeps-then_at (take e terminal position) (λ end. recognize_seq take rest (terminal + terminals e) end)
        (h e terminal position) (λ end. Keeps-take_items rest (terminal + terminals e) end)

    Keeps-take_first : (e : Form) (rest : Forms) (terminal position : ℕ) → Keeps (recognize_choice take e rest terminal position)
    Keeps-take_first e End terminal position = h e terminal position
    Keeps-take_first e (Then next rest) terminal position =
        Keeps-or_else (take e terminal position) (recognize_choice take next rest (terminal + terminals e) position)
        (h e terminal position) (Keeps-take_first next rest (terminal + terminals e) position)

    Keeps-name : (position : ℕ) (meaning : Option Meaning) → IfSome meaning (λ (m : Meaning). m.rule < most)
        → Keeps (option_and_then (λ (m : Meaning). option_map (as_call m.rule position) (take m.body m.terminal position)) meaning)
    Keeps-name position None below = tt
    Keeps-name position (Some m) below =
        Keeps-as_call m.rule position (take m.body m.terminal position) below (h m.body m.terminal position)

-- the table over such a recognizer, with the number of rules as the bound
Keeps-table : (rules : List Rule) (text : List ℕ) (take : Recognizer) → KeepsAll (length rules) take
    → KeepsAll (length rules) (table rules text take)
Keeps-table rules text take h (Literal bytes span) terminal position =
    LeavesBelow-literal_at (length rules) terminal position bytes (drop position text)
Keeps-table rules text take h (Class set span) terminal position =
    LeavesBelow-byte_at (length rules) (has set) terminal position (drop position text)
Keeps-table rules text take h (Any span) terminal position =
    LeavesBelow-byte_at (length rules) (λ byte. true) terminal position (drop position text)
Keeps-table rules text take h (Name name span) terminal position =
    Keeps-name (length rules) take h position (meaning_of rules name) (meaning_of-rule rules name)
Keeps-table rules text take h (Seq items span) terminal position =
    Keeps-take_items (length rules) take h items terminal position
Keeps-table rules text take h (Choice first rest span) terminal position =
    Keeps-take_first (length rules) take h first rest terminal position
Keeps-table rules text take h (Optional part span) terminal position =
    Keeps-or_else (length rules) (take part terminal position) (Some (matched_at position)) (h part terminal position) tt
Keeps-table rules text take h (Star part span) terminal position =
    Keeps-rounds (length rules) (take part terminal position) position (λ end. take (Star part span) terminal end)
    (h part terminal position) (λ end. h (Star part span) terminal end)
Keeps-table rules text take h (Plus part span) terminal position =
    Keeps-then_at (length rules) (take part terminal position) (λ end. take (Star part span) terminal end)
    (h part terminal position) (λ end. h (Star part span) terminal end)
Keeps-table rules text take h (Counted part min max span) terminal position =
    Keeps-recognize_repeat (length rules) (λ at. take part terminal at) (λ at. h part terminal at) min max position
Keeps-table rules text take h (And part span) terminal position =
    Keeps-predicate (length rules) (take part terminal position) (λ result. if_matched result position)
    (LeavesBelow-if_matched (length rules) position)
Keeps-table rules text take h (Not part span) terminal position =
    Keeps-predicate (length rules) (take part terminal position) (λ result. if_failed result position)
    (LeavesBelow-if_failed (length rules) position)

-- the records in depth n of an expression at a position
Keeps-record_in : (rules : List Rule) (text : List ℕ) (n : ℕ) → KeepsAll (length rules) (record_in rules text n)
unfolding record_in
Keeps-record_in rules text zero = λ e terminal position. tt
Keeps-record_in rules text (suc n) =
    Keeps-table rules text (record_in rules text n) (Keeps-record_in rules text n)

-- every node of a match has the number of a rule
pub record_in-rules : (rules : List Rule) (text : List ℕ) (n : ℕ) (e : Form) (terminal position end : ℕ) (trees : Trees)
    (r : Record) → record_in rules text n e terminal position ≡ Some r → r.result ≡ Matched end trees
    → RulesBelow (length rules) trees
record_in-rules rules text n e terminal position end trees r is matched =
    let most = length rules in
    let leaves : LeavesBelow most r.result =
    subst (λ (tried : Option Record). IfSome tried (λ (s : Record). LeavesBelow most s.result)) is
    (Keeps-record_in rules text n e terminal position) in
    subst (LeavesBelow most) matched leaves

-- the same for a match from a start rule
pub start_record-rules : (rules : List Rule) (text : List ℕ) (n : ℕ) (name : List ℕ) (r : Record) (end : ℕ)
    (trees : Trees) → start_record rules text n name ≡ Some r → r.result ≡ Matched end trees
    → RulesBelow (length rules) trees
start_record-rules rules text n name r end trees is matched =
    record_in-rules rules text n (Name name (between 0 0)) 0 0 end trees r is matched
