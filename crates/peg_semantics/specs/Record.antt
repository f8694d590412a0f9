-- Ford's recognition relation on expressions as written (Ford 2004, section 3.3), extended by the failed terminal tests
-- and the calls of rules. A depth n, which bounds the nesting of cases, replaces Ford's step counts.
use Rattle.std.specs.Prelude.{◌≡◌, ℕ, zero, suc, ◌+◌, Bool, true, List, [], ◌∷◌, ◌++◌, drop, Option, None, Some}
use Rattle.std.specs.Prelude.{option_map, option_and_then, if◌then◌else◌, ◌==◌}
use Rattle.peg_bytes.specs.ByteSet.{has}
use Rattle.peg_bytes.specs.Extent.{between}
use Rattle.peg_tree.specs.Trees.{Trees, NoTrees, Tree, followed_by}
use Rattle.peg_semantics.specs.Form.{Form, Forms, Literal, Class, Any, Name, Seq, Choice, Optional, Star, Plus, Counted}
use Rattle.peg_semantics.specs.Form.{And, Not, End, Then, terminals}
use Rattle.peg_semantics.specs.Rules.{Rule, Meaning, meaning_of}

-- the result of an expression at a position: failure, or a match with its end position and its trees
pub data Recognition : Type 0 where
  Failed : Recognition
  Matched : (end : ℕ) → (trees : Trees) → Recognition

-- a failed test of one byte against a terminal, at a position
pub record Test : Type 0 where
  pub position : ℕ
  pub terminal : ℕ

-- a call of a rule at a position
pub record RuleCall : Type 0 where
  pub rule : ℕ
  pub position : ℕ

-- The result of an expression, with all failed tests and all calls on the way to it. Those in predicates and in
-- abandoned alternatives are included.
pub record Record : Type 0 where
  pub result : Recognition
  pub tests : List Test
  pub calls : List RuleCall

-- a match that ends at a position, without trees, tests or calls
abbrev pub matched_at : ℕ → Record
matched_at end = record { result = Matched end NoTrees; tests = []; calls = [] }

-- the failed test of a terminal at a position
abbrev pub test_of : (terminal position : ℕ) → Test
test_of terminal position = record { position = position; terminal = terminal }

-- a failure by one failed test
abbrev pub failed_at : (terminal position : ℕ) → Record
failed_at terminal position = record { result = Failed; tests = test_of terminal position ∷ []; calls = [] }

-- the given result, with the tests and calls of a part and of what was evaluated after it
abbrev pub after_both : Record → Record → Recognition → Record
after_both part next result =
    record { result = result; tests = part.tests ++ next.tests; calls = part.calls ++ next.calls }

-- the trees, followed by those of the result if it is a match
abbrev pub prepend_trees : Trees → Recognition → Recognition
prepend_trees trees Failed = Failed
prepend_trees trees (Matched end more) = Matched end (followed_by trees more)

-- A sequence: fails if the first part fails; else `next` is evaluated from the end of the first part.
abbrev pub then_result : Recognition → Record → (ℕ → Option Record) → Option Record
then_result Failed part next = Some part
then_result (Matched end trees) part next = option_map (λ more. after_both part more
    (prepend_trees trees more.result)) (next end)

abbrev pub then_at : Option Record → (ℕ → Option Record) → Option Record
then_at tried next = option_and_then (λ part. then_result part.result part next) tried

-- A choice: matches as the first part does; if the first part fails, the result is that of the other part.
abbrev pub choice_result : Recognition → Record → Option Record → Option Record
choice_result Failed part other = option_map (λ more. after_both part more more.result) other
choice_result (Matched end trees) part other = Some part

abbrev pub or_else : Option Record → Option Record → Option Record
or_else tried other = option_and_then (λ part. choice_result part.result part other) tried

-- a star: matches the empty string if the part fails; else the next iteration starts at the end of the part
abbrev pub star_result : Recognition → ℕ → Record → (ℕ → Option Record) → Option Record
star_result Failed position part next = choice_result Failed part (Some (matched_at position))
star_result (Matched end trees) position part next = then_result (Matched end trees) part next

-- the results of the predicates, which consume nothing and leave no tree
abbrev pub if_matched : Recognition → ℕ → Recognition
if_matched Failed position = Failed
if_matched (Matched end trees) position = Matched position NoTrees

abbrev pub if_failed : Recognition → ℕ → Recognition
if_failed Failed position = Matched position NoTrees
if_failed (Matched end trees) position = Failed

abbrev pub with_result : Record → Recognition → Record
with_result part result = record { result = result; tests = part.tests; calls = part.calls }

-- a literal against the bytes from `position` on; it fails at the first byte that differs or is missing
abbrev pub literal_at : (terminal position : ℕ) → List ℕ → List ℕ → Record
literal_at terminal position [] rest = matched_at position
literal_at terminal position (b ∷ bs) [] = failed_at terminal position
literal_at terminal position (b ∷ bs) (c ∷ rest) =
    if b == c then literal_at terminal (position + 1) bs rest else failed_at terminal position

-- a test of one byte against the bytes from `position` on
abbrev pub byte_at : (ℕ → Bool) → (terminal position : ℕ) → List ℕ → Record
byte_at test terminal position [] = failed_at terminal position
byte_at test terminal position (c ∷ rest) = if test c then matched_at (position + 1) else failed_at terminal position

-- the result of a rule's expression as one tree for the rule, if it matched
abbrev pub as_tree : (rule position : ℕ) → Recognition → Recognition
as_tree rule position Failed = Failed
as_tree rule position (Matched end trees) = Matched end (Tree rule position end trees NoTrees)

-- a call: the record of the rule's expression, with its trees under one node, and with the call added
abbrev pub as_call : (rule position : ℕ) → Record → Record
as_call rule position part = record {
  result = as_tree rule position part.result;
  tests = part.tests;
  calls = record { rule = rule; position = position } ∷ part.calls;
}

-- a recognizer: the record of an expression at a position, if there is one; `terminal` is its first terminal's number
abbrev pub Recognizer : Type 0
Recognizer = Form → (terminal position : ℕ) → Option Record

-- the items of a sequence, each from the end of the item before
abbrev pub recognize_seq : Recognizer → Forms → (terminal position : ℕ) → Option Record
recognize_seq take End terminal position = Some (matched_at position)
recognize_seq take (Then e rest) terminal position =
    then_at (take e terminal position) (λ end. recognize_seq take rest (terminal + terminals e) end)

-- an ordered choice: the first alternative that matches, all tried at the same position
abbrev pub recognize_choice : Recognizer → Form → Forms → (terminal position : ℕ) → Option Record
recognize_choice take e End terminal position = take e terminal position
recognize_choice take e (Then next rest) terminal position =
    or_else (take e terminal position) (recognize_choice take next rest (terminal + terminals e) position)

-- At least `min` and at most `max` repetitions of a part, each from the end of the one before. With max 0 nothing is
-- matched. While min is above 0 the part is required; after that the repetition ends at its first failure.
abbrev pub recognize_repeat : (ℕ → Option Record) → (min max position : ℕ) → Option Record
recognize_repeat take min zero position = Some (matched_at position)
recognize_repeat take zero (suc max) position =
    option_and_then (λ (round : Record). star_result round.result position round
    (λ end. recognize_repeat take zero max end))
    (take position)
recognize_repeat take (suc min) (suc max) position = then_at (take position) (λ end. recognize_repeat take min max end)

-- Ford's recognition rules, one for each form of expression, given a recognizer for its parts.
abbrev pub table : List Rule → List ℕ → Recognizer → Recognizer
table rules text take (Literal bytes span) terminal position = Some (literal_at terminal position bytes
    (drop position text))
table rules text take (Class set span) terminal position = Some (byte_at (has set) terminal position
    (drop position text))
table rules text take (Any span) terminal position = Some (byte_at (λ byte. true) terminal position
    (drop position text))
table rules text take (Name name span) terminal position =
    option_and_then (λ (m : Meaning). option_map (as_call m.rule position) (take m.body m.terminal position))
    (meaning_of rules name)
table rules text take (Seq items span) terminal position = recognize_seq take items terminal position
table rules text take (Choice first rest span) terminal position = recognize_choice take first rest terminal position
table rules text take (Optional part span) terminal position = or_else (take part terminal position) (Some
    (matched_at position))
table rules text take (Star part span) terminal position =
    option_and_then (λ (round : Record). star_result round.result position round (λ end. take
    (Star part span) terminal end))
    (take part terminal position)
table rules text take (Plus part span) terminal position =
    then_at (take part terminal position) (λ end. take (Star part span) terminal end)
table rules text take (Counted part min max span) terminal position =
    recognize_repeat (λ at. take part terminal at) min max position
table rules text take (And part span) terminal position =
    option_map (λ (r : Record). with_result r (if_matched r.result position)) (take part terminal position)
table rules text take (Not part span) terminal position =
    option_map (λ (r : Record). with_result r (if_failed r.result position)) (take part terminal position)

-- The record of an expression at a position in depth n. In depth 0 there is none; else it follows from the records of
-- the parts in depth n - 1.
unfoldable pub record_in : List Rule → List ℕ → ℕ → Recognizer
record_in rules text zero e terminal position = None
record_in rules text (suc n) e terminal position = table rules text (record_in rules text n) e terminal position

-- Ford's relation: an expression has record `r` at a position if it has `r` in some depth.
abbrev pub IsRecord : List Rule → List ℕ → Form → (terminal position : ℕ) → Record → Type 0
IsRecord rules text e terminal position r = (n : ℕ) × (record_in rules text n e terminal position ≡ Some r)

-- the record of a grammar on a text in depth n: that of the start rule's name at position 0
abbrev pub start_record : List Rule → List ℕ → ℕ → List ℕ → Option Record
start_record rules text n start = record_in rules text n (Name start (between 0 0)) 0 0
