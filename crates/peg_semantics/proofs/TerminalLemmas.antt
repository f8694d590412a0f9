-- The terminals of an expression and their extents are equally many. The failed tests of a record are of terminals in
-- the rules and at positions in the text, and a match ends within the text.
use Rattle.std.proofs.Common.{◌≡◌, ℕ, zero, suc, ◌+◌, ◌<◌, ◌≤◌, Bool, true, false, List, [], ◌∷◌, length, drop, All, Contains, sum_by}
use Rattle.std.proofs.Common.{bytes_eq, ◌==◌, if◌then◌else◌, Option, None, Some, IfSome, option_map, option_and_then, refl, ap, ◌∙◌, subst, le_refl, arith}
use Rattle.std.proofs.lemmas.List.{length-append, length-drop}
use Rattle.std.proofs.lemmas.List.Concat.{length-flat_map}
use Rattle.std.proofs.lemmas.List.Elements.{All-nil, All-cons, All-append, All-contains, All-contains_itself, All-weaker}
use Rattle.peg_bytes.specs.Extent.{between}
use Rattle.peg_bytes.specs.ByteSet.{has}
use Rattle.peg_tree.specs.Trees.{Trees}
use Rattle.peg_semantics.specs.Form.{Form, Forms, Literal, Class, Any, Name, Seq, Choice, Optional, Star, Plus, Counted, And, Not, End, Then}
use Rattle.peg_semantics.specs.Form.{terminals, terminals_of_all}
use Rattle.peg_semantics.specs.Furthest.{IsFurthest}
use Rattle.peg_semantics.specs.Rules.{Rule, Meaning, meaning_from, meaning_of}
use Rattle.peg_semantics.specs.Record.{Recognition, Failed, Matched, Test, Record, Recognizer, matched_at, failed_at, after_both, prepend_trees, then_result, then_at}
use Rattle.peg_semantics.specs.Record.{choice_result, or_else, star_result, if_matched, if_failed, with_result, literal_at, byte_at, as_tree, as_call}
use Rattle.peg_semantics.specs.Record.{recognize_seq, recognize_choice, recognize_repeat, table, record_in, start_record}
use Rattle.peg_semantics.specs.Terminals.{terminal_extents, terminal_extents_of_all, extents_of_terminals}

-- an expression has as many terminal extents as terminals
mutual
  pub length-terminal_extents : (e : Form) → length (terminal_extents e) ≡ terminals e
  length-terminal_extents (Literal bytes span) = refl
  length-terminal_extents (Class set span) = refl
  length-terminal_extents (Any span) = refl
  length-terminal_extents (Name name span) = refl
  length-terminal_extents (Seq items span) = length-terminal_extents_of_all items
  length-terminal_extents (Choice first rest span) =
      let here = length-terminal_extents first in
      let prepend_trees = length-terminal_extents_of_all rest in
      omega (arith, length-append (terminal_extents first) (terminal_extents_of_all rest))
  length-terminal_extents (Optional part span) = length-terminal_extents part
  length-terminal_extents (Star part span) = length-terminal_extents part
  length-terminal_extents (Plus part span) = length-terminal_extents part
  length-terminal_extents (Counted part min max span) = length-terminal_extents part
  length-terminal_extents (And part span) = length-terminal_extents part
  length-terminal_extents (Not part span) = length-terminal_extents part

  pub length-terminal_extents_of_all : (items : Forms) → length (terminal_extents_of_all items) ≡ terminals_of_all items
  length-terminal_extents_of_all End = refl
  length-terminal_extents_of_all (Then e rest) =
      let here = length-terminal_extents e in
      let prepend_trees = length-terminal_extents_of_all rest in
      omega (arith, length-append (terminal_extents e) (terminal_extents_of_all rest))

-- the same for rules
pub length-extents_of_terminals : (rules : List Rule)
    → length (extents_of_terminals rules) ≡ sum_by (λ (rule : Rule). terminals rule.body) rules
length-extents_of_terminals rules =
    length-flat_map (λ (rule : Rule). terminal_extents rule.body) rules
    ∙ ap (λ (count : Rule → ℕ). sum_by count rules) (λ i rule. length-terminal_extents rule.body i)

-- a rule whose terminals have numbers below a bound
abbrev IsBelow : ℕ → Meaning → Type 0
IsBelow most m = m.terminal + terminals m.body ≤ most

-- the terminals of the rule that a name refers to are among those of the rules
meaning_from-below : (rule terminal : ℕ) (rules : List Rule) (name : List ℕ) (m : Meaning)
    → meaning_from rule terminal rules name ≡ Some m → IsBelow (terminal + length (extents_of_terminals rules)) m
meaning_from-below rule terminal [] name m is = cc
meaning_from-below rule terminal (r ∷ rs) name m is =
    by (bytes_eq name r.name) (meaning_from-below (rule + 1) (terminal + terminals r.body) rs name m) is
  where
    by : (b : Bool)
        → (meaning_from (rule + 1) (terminal + terminals r.body) rs name ≡ Some m
        → IsBelow (terminal + terminals r.body + length (extents_of_terminals rs)) m)
        → (if b then Some (record { rule = rule; terminal = terminal; body = r.body }) else meaning_from (rule + 1) (terminal + terminals r.body) rs name) ≡ Some m
        → IsBelow (terminal + length (extents_of_terminals (r ∷ rs))) m
    by true later found =
        let first : Meaning = record { rule = rule; terminal = terminal; body = r.body } in
        let same : first ≡ m = cc in
        let here = length-terminal_extents r.body in
        subst (IsBelow (terminal + length (extents_of_terminals (r ∷ rs)))) same
        (omega (arith, length-append (terminal_extents r.body) (extents_of_terminals rs)))
    by false later found =
        let prepend_trees = later found in
        let here = length-terminal_extents r.body in
        omega (arith, length-append (terminal_extents r.body) (extents_of_terminals rs))

meaning_of-below : (most : ℕ) (rules : List Rule) → length (extents_of_terminals rules) ≤ most
    → (name : List ℕ) → IfSome (meaning_of rules name) (IsBelow most)
meaning_of-below most rules enough name = by (meaning_of rules name) (meaning_from-below 0 0 rules name)
  where
    by : (meaning : Option Meaning)
        → ((m : Meaning) → meaning ≡ Some m → IsBelow (0 + length (extents_of_terminals rules)) m)
        → IfSome meaning (IsBelow most)
    by None found = tt
    by (Some m) found = omega (arith, found m refl)

-- a match ends within a text of length `len`
abbrev EndsBy : ℕ → Recognition → Type 0
EndsBy len Failed = Unit {0}
EndsBy len (Matched end trees) = end ≤ len

-- The failed tests of a record are of terminals below a bound and at positions in a text of length `len`. The match of
-- the record ends within that text.
record IsWithin (most len : ℕ) (r : Record) : Type 0 where
  below : All (λ (test : Test). test.terminal < most) r.tests
  in_text : All (λ (test : Test). test.position ≤ len) r.tests
  ends : EndsBy len r.result

-- Each combinator of the recognition rules preserves this property.
module _ (most len : ℕ) where
  abbrev Below : Test → Type 0
  Below test = test.terminal < most

  abbrev InText : Test → Type 0
  InText test = test.position ≤ len

  -- the property holds for the record, if there is one
  abbrev Keeps : Option Record → Type 0
  Keeps tried = IfSome tried (IsWithin most len)

  -- the property holds for the records of what comes next, at each position in the text
  abbrev KeepsNext : (ℕ → Option Record) → Type 0
  KeepsNext next = (end : ℕ) → end ≤ len → Keeps (next end)

  -- the property holds for each expression at each position in the text, if the terminals of the expression are below
  -- the bound
  abbrev KeepsAll : Recognizer → Type 0
  KeepsAll take = (e : Form) (terminal position : ℕ) → terminal + terminals e ≤ most → position ≤ len → Keeps (take e terminal position)

  IsWithin-matched_at : (position : ℕ) → position ≤ len → IsWithin most len (matched_at position)
  IsWithin-matched_at position here = record { below = All-nil Below; in_text = All-nil InText; ends = here }

  IsWithin-failed_at : (terminal position : ℕ) → terminal < most → position ≤ len → IsWithin most len (failed_at terminal position)
  IsWithin-failed_at terminal position room here =
      let test : Test = record { position = position; terminal = terminal } in
      record {
        below = All-cons Below test [] room (All-nil Below);
        in_text = All-cons InText test [] here (All-nil InText);
        ends = tt;
      }

  IsWithin-with_result : (part : Record) (result : Recognition) → IsWithin most len part → EndsBy len result
      → IsWithin most len (with_result part result)
  IsWithin-with_result part result h ends = record { below = h.below; in_text = h.in_text; ends = ends }

  IsWithin-after_both : (part next : Record) (result : Recognition) → IsWithin most len part → IsWithin most len next
      → EndsBy len result → IsWithin most len (after_both part next result)
  IsWithin-after_both part next result h k ends = record {
    below = All-append Below part.tests next.tests h.below k.below;
    in_text = All-append InText part.tests next.tests h.in_text k.in_text;
    ends = ends;
  }

  EndsBy-prepend_trees : (trees : Trees) (result : Recognition) → EndsBy len result → EndsBy len (prepend_trees trees result)
  EndsBy-prepend_trees trees Failed ends = tt
  EndsBy-prepend_trees trees (Matched end more) ends = ends

  Keeps-then_result : (result : Recognition) (part : Record) (next : ℕ → Option Record) → EndsBy len result
      → IsWithin most len part → KeepsNext next → Keeps (then_result result part next)
  Keeps-then_result Failed part next ends h k = h
  Keeps-then_result (Matched end trees) part next ends h k = by (next end) (k end ends)
    where
      by : (tried : Option Record) → Keeps tried
          → Keeps (option_map (λ more. after_both part more (prepend_trees trees more.result)) tried)
      by None kept = tt
      by (Some more) kept =
          IsWithin-after_both part more (prepend_trees trees more.result) h kept (EndsBy-prepend_trees trees more.result kept.ends)

  Keeps-then_at : (tried : Option Record) (next : ℕ → Option Record) → Keeps tried → KeepsNext next
      → Keeps (then_at tried next)
  Keeps-then_at None next h k = tt
  Keeps-then_at (Some part) next h k = Keeps-then_result part.result part next h.ends h k

  Keeps-choice_result : (result : Recognition) (part : Record) (other : Option Record) → IsWithin most len part → Keeps other
      → Keeps (choice_result result part other)
  Keeps-choice_result Failed part None h k = tt
  Keeps-choice_result Failed part (Some more) h k = IsWithin-after_both part more more.result h k k.ends
  Keeps-choice_result (Matched end trees) part other h k = h

  Keeps-or_else : (tried other : Option Record) → Keeps tried → Keeps other → Keeps (or_else tried other)
  Keeps-or_else None other h k = tt
  Keeps-or_else (Some part) other h k = Keeps-choice_result part.result part other h k

  Keeps-star_result : (result : Recognition) (position : ℕ) (part : Record) (next : ℕ → Option Record) → position ≤ len
      → EndsBy len result → IsWithin most len part → KeepsNext next → Keeps (star_result result position part next)
  Keeps-star_result Failed position part next here ends h k =
      Keeps-choice_result Failed part (Some (matched_at position)) h (IsWithin-matched_at position here)
  Keeps-star_result (Matched end trees) position part next here ends h k =
      Keeps-then_result (Matched end trees) part next ends h k

  Keeps-rounds : (tried : Option Record) (position : ℕ) (next : ℕ → Option Record) → position ≤ len → Keeps tried
      → KeepsNext next → Keeps (option_and_then (λ (round : Record). star_result round.result position round next) tried)
  Keeps-rounds None position next here h k = tt
  Keeps-rounds (Some round) position next here h k = Keeps-star_result round.result position round next here h.ends h k

  -- the repetitions of a part
  Keeps-recognize_repeat : (take : ℕ → Option Record) → KeepsNext take → (min max position : ℕ) → position ≤ len
      → Keeps (recognize_repeat take min max position)
  Keeps-recognize_repeat take h min zero position here = IsWithin-matched_at position here
  Keeps-recognize_repeat take h zero (suc max) position here =
      Keeps-rounds (take position) position (λ end. recognize_repeat take zero max end) here (h position here)
      (λ end within. Keeps-recognize_repeat take h zero max end within)
  Keeps-recognize_repeat take h (suc min) (suc max) position here =
      Keeps-then_at (take position) (λ end. recognize_repeat take min max end) (h position here)
      (λ end within. Keeps-recognize_repeat take h min max end within)

  EndsBy-if_matched : (position : ℕ) → position ≤ len → (result : Recognition) → EndsBy len (if_matched result position)
  EndsBy-if_matched position here Failed = tt
  EndsBy-if_matched position here (Matched end trees) = here

  EndsBy-if_failed : (position : ℕ) → position ≤ len → (result : Recognition) → EndsBy len (if_failed result position)
  EndsBy-if_failed position here Failed = here
  EndsBy-if_failed position here (Matched end trees) = tt

  Keeps-predicate : (tried : Option Record) (result : Recognition → Recognition)
      → ((part : Recognition) → EndsBy len (result part)) → Keeps tried
      → Keeps (option_map (λ (r : Record). with_result r (result r.result)) tried)
  Keeps-predicate None result ends h = tt
  Keeps-predicate (Some r) result ends h = IsWithin-with_result r (result r.result) h (ends r.result)

  EndsBy-as_tree : (rule position : ℕ) (result : Recognition) → EndsBy len result → EndsBy len (as_tree rule position result)
  EndsBy-as_tree rule position Failed ends = tt
  EndsBy-as_tree rule position (Matched end trees) ends = ends

  Keeps-as_call : (rule position : ℕ) (tried : Option Record) → Keeps tried → Keeps (option_map (as_call rule position) tried)
  Keeps-as_call rule position None h = tt
  Keeps-as_call rule position (Some r) h =
      record { below = h.below; in_text = h.in_text; ends = EndsBy-as_tree rule position r.result h.ends }

  -- bytes from a position on, no more than the text has there
  IsWithin-literal_at : (terminal position : ℕ) (bytes rest : List ℕ) → terminal < most → position + length rest ≤ len
      → IsWithin most len (literal_at terminal position bytes rest)
  IsWithin-literal_at terminal position [] rest room fits = IsWithin-matched_at position (omega arith)
  IsWithin-literal_at terminal position (b ∷ bs) [] room fits = IsWithin-failed_at terminal position room (omega arith)
  IsWithin-literal_at terminal position (b ∷ bs) (c ∷ rest) room fits =
      by (b == c) (IsWithin-literal_at terminal (position + 1) bs rest room (omega arith))
    where
      by : (same : Bool) → IsWithin most len (literal_at terminal (position + 1) bs rest)
          → IsWithin most len (if same then literal_at terminal (position + 1) bs rest else failed_at terminal position)
      by true later = later
      by false later = IsWithin-failed_at terminal position room (omega arith)

  IsWithin-byte_at : (test : ℕ → Bool) (terminal position : ℕ) (rest : List ℕ) → terminal < most
      → position + length rest ≤ len → IsWithin most len (byte_at test terminal position rest)
  IsWithin-byte_at test terminal position [] room fits = IsWithin-failed_at terminal position room (omega arith)
  IsWithin-byte_at test terminal position (c ∷ rest) room fits = by (test c)
    where
      by : (passes : Bool) → IsWithin most len (if passes then matched_at (position + 1) else failed_at terminal position)
      by true = IsWithin-matched_at (position + 1) (omega arith)
      by false = IsWithin-failed_at terminal position room (omega arith)

  -- if a recognizer has the property, so does the table over it
  module _ (take : Recognizer) (h : KeepsAll take) where
    Keeps-take_items : (items : Forms) (terminal position : ℕ) → terminal + terminals_of_all items ≤ most → position ≤ len
        → Keeps (recognize_seq take items terminal position)
    Keeps-take_items End terminal position room here = IsWithin-matched_at position here
    Keeps-take_items (Then e rest) terminal position room here =
        Keeps-then_at (take e terminal position) (λ end. recognize_seq take rest (terminal + terminals e) end)
        (h e terminal position (omega arith) here)
        (λ end within. Keeps-take_items rest (terminal + terminals e) end (omega arith) within)

    Keeps-take_first : (e : Form) (rest : Forms) (terminal position : ℕ)
        → terminal + (terminals e + terminals_of_all rest) ≤ most → position ≤ len
        → Keeps (recognize_choice take e rest terminal position)
    Keeps-take_first e End terminal position room here = h e terminal position (omega arith) here
    Keeps-take_first e (Then next rest) terminal position room here =
        Keeps-or_else (take e terminal position) (recognize_choice take next rest (terminal + terminals e) position)
        (h e terminal position (omega arith) here)
        (Keeps-take_first next rest (terminal + terminals e) position (omega arith) here)

    Keeps-name : (position : ℕ) (meaning : Option Meaning) → position ≤ len → IfSome meaning (IsBelow most)
        → Keeps (option_and_then (λ (m : Meaning). option_map (as_call m.rule position) (take m.body m.terminal position)) meaning)
    Keeps-name position None here below = tt
    Keeps-name position (Some m) here below =
        Keeps-as_call m.rule position (take m.body m.terminal position) (h m.body m.terminal position below here)

    module _ (rules : List Rule) (text : List ℕ) (enough : length (extents_of_terminals rules) ≤ most) (long : length text ≤ len) where
      rest_fits : (position : ℕ) → position ≤ len → position + length (drop position text) ≤ len
      rest_fits position here = omega (arith, length-drop position text)

      Keeps-table : KeepsAll (table rules text take)
      Keeps-table (Literal bytes span) terminal position room here =
          IsWithin-literal_at terminal position bytes (drop position text) (omega arith) (rest_fits position here)
      Keeps-table (Class set span) terminal position room here =
          IsWithin-byte_at (has set) terminal position (drop position text) (omega arith) (rest_fits position here)
      Keeps-table (Any span) terminal position room here =
          IsWithin-byte_at (λ byte. true) terminal position (drop position text) (omega arith) (rest_fits position here)
      Keeps-table (Name name span) terminal position room here =
          Keeps-name position (meaning_of rules name) here (meaning_of-below most rules enough name)
      Keeps-table (Seq items span) terminal position room here = Keeps-take_items items terminal position room here
      Keeps-table (Choice first rest span) terminal position room here =
          Keeps-take_first first rest terminal position room here
      Keeps-table (Optional part span) terminal position room here =
          Keeps-or_else (take part terminal position) (Some (matched_at position)) (h part terminal position room here)
          (IsWithin-matched_at position here)
      Keeps-table (Star part span) terminal position room here =
          Keeps-rounds (take part terminal position) position (λ end. take (Star part span) terminal end) here
          (h part terminal position room here) (λ end within. h (Star part span) terminal end room within)
      Keeps-table (Plus part span) terminal position room here =
          Keeps-then_at (take part terminal position) (λ end. take (Star part span) terminal end)
          (h part terminal position room here) (λ end within. h (Star part span) terminal end room within)
      Keeps-table (Counted part min max span) terminal position room here =
          Keeps-recognize_repeat (λ at. take part terminal at) (λ at within. h part terminal at room within) min max position
          here
      Keeps-table (And part span) terminal position room here =
          Keeps-predicate (take part terminal position) (λ result. if_matched result position) (EndsBy-if_matched position here)
          (h part terminal position room here)
      Keeps-table (Not part span) terminal position room here =
          Keeps-predicate (take part terminal position) (λ result. if_failed result position) (EndsBy-if_failed position here)
          (h part terminal position room here)

-- the records in depth n at a position in the text, if all terminals are below a bound
Keeps-record_in : (most : ℕ) (rules : List Rule) (text : List ℕ) → length (extents_of_terminals rules) ≤ most
    → (n : ℕ) → KeepsAll most (length text) (record_in rules text n)
unfolding record_in
Keeps-record_in most rules text enough zero = λ e terminal position room here. tt
Keeps-record_in most rules text enough (suc n) =
    Keeps-table most (length text) (record_in rules text n) (Keeps-record_in most rules text enough n) rules text enough
    (le_refl (length text))

IsWithin-record_in : (most : ℕ) (rules : List Rule) (text : List ℕ) → length (extents_of_terminals rules) ≤ most
    → (n : ℕ) (e : Form) (terminal position : ℕ) (r : Record) → terminal + terminals e ≤ most → position ≤ length text
    → record_in rules text n e terminal position ≡ Some r → IsWithin most (length text) r
IsWithin-record_in most rules text enough n e terminal position r room here is =
    subst (λ (tried : Option Record). IfSome tried (IsWithin most (length text))) is
    (Keeps-record_in most rules text enough n e terminal position room here)

-- the failed tests of a start record are of terminals in the rules
pub start_record-below : (rules : List Rule) (text : List ℕ) (n : ℕ) (name : List ℕ) (r : Record)
    → start_record rules text n name ≡ Some r
    → All (λ (test : Test). test.terminal < length (extents_of_terminals rules)) r.tests
start_record-below rules text n name r is =
    let most = length (extents_of_terminals rules) in
    let start = Name name (between 0 0) in
    (IsWithin-record_in most rules text (le_refl most) n start 0 0 r (omega arith) (omega arith) is).below

-- the same for the terminals of the furthest failure
pub expected-below : (most : ℕ) (tests : List Test) (far : ℕ) (expected : List ℕ) → IsFurthest tests far expected
    → All (λ (test : Test). test.terminal < most) tests → All (λ terminal. terminal < most) expected
expected-below most tests far expected furthest below =
    All-weaker (Contains expected) (λ terminal. terminal < most) of_a_test expected (All-contains_itself expected)
  where
    of_a_test : (terminal : ℕ) → Contains expected terminal → terminal < most
    of_a_test terminal there =
        let failed : Test = record { position = far; terminal = terminal } in
        All-contains (λ (test : Test). test.terminal < most) tests failed below ((furthest.exactly terminal).0 there)

-- a bound on the numbers of all terminals of an expression and of the rules
abbrev enough_for : List Rule → ℕ → Form → ℕ
enough_for rules terminal e = terminal + terminals e + length (extents_of_terminals rules)

-- from a position in the text, the failed tests are at positions in the text
pub record_in-in_text : (rules : List Rule) (text : List ℕ) (n : ℕ) (e : Form) (terminal position : ℕ) (r : Record)
    → position ≤ length text → record_in rules text n e terminal position ≡ Some r
    → All (λ (test : Test). test.position ≤ length text) r.tests
record_in-in_text rules text n e terminal position r here is =
    let most = enough_for rules terminal e in
    (IsWithin-record_in most rules text (omega arith) n e terminal position r (omega arith) here is).in_text

-- a match ends within the text
pub record_in-ends : (rules : List Rule) (text : List ℕ) (n : ℕ) (e : Form) (terminal position end : ℕ) (trees : Trees)
    (r : Record) → position ≤ length text → record_in rules text n e terminal position ≡ Some r → r.result ≡ Matched end trees
    → end ≤ length text
record_in-ends rules text n e terminal position end trees r here is matched =
    let most = enough_for rules terminal e in
    subst (EndsBy (length text)) matched
    (IsWithin-record_in most rules text (omega arith) n e terminal position r (omega arith) here is).ends
