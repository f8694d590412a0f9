-- Grammars worked by hand, with the record of the first rule on a text or the outcomes of the rules. They test the
-- definitions.
use Rattle.std.specs.Prelude.{ℕ, Bool, true, false, List, [], ◌∷◌, map, codes}
use Rattle.peg_bytes.specs.Extent.{between}
use Rattle.peg_tree.specs.Trees.{Trees, NoTrees, Tree}
use Rattle.peg_semantics.specs.AbstractOutcomes.{Can, no_outcome, can_in}
use Rattle.peg_semantics.specs.Form.{Form, Literal, Class, Any, Name, Seq, Choice, Optional, Star, Plus, Counted, And, Not}
use Rattle.peg_semantics.specs.Form.{End, Then}
use Rattle.peg_semantics.specs.Furthest.{IsFurthest}
use Rattle.peg_semantics.specs.Record.{Record, Failed, Matched, Test, RuleCall, IsRecord}
use Rattle.peg_semantics.specs.Rules.{Rule}

abbrev test : (position terminal : ℕ) → Test
test position terminal = record { position = position; terminal = terminal }

abbrev call_at : (rule position : ℕ) → RuleCall
call_at rule position = record { rule = rule; position = position }

-- a node with the given children
abbrev node : (rule start end : ℕ) → Trees → Trees
node rule start end children = Tree rule start end children NoTrees

-- the start's record is `r`, and its furthest failure is `far` with `expected`
pub record Gives (rules : List Rule) (start text : List ℕ) (r : Record) (far : ℕ) (expected : List ℕ) : Type 0 where
  pub recognized : IsRecord rules text (Name start (between 0 0)) 0 0 r
  pub furthest : IsFurthest r.tests far expected

-- S <- 'a' S / 'b'
abbrev pub nested : List Rule
nested =
    record {
      name = codes "S";
      span = between 0 1;
      body = Choice
          (Seq (Then (Literal (codes "a") (between 5 8)) (Then (Name (codes "S") (between 9 10)) End)) (between 5 10))
          (Then (Literal (codes "b") (between 13 16)) End)
          (between 5 16);
    } ∷ []

-- on aab: the third call fails to match 'a' before it matches 'b'
abbrev pub nested_record : Record
nested_record = record {
  result = Matched 3 (node 0 0 3 (node 0 1 3 (node 0 2 3 NoTrees)));
  tests = test 2 0 ∷ [];
  calls = call_at 0 0 ∷ call_at 0 1 ∷ call_at 0 2 ∷ [];
}

-- D <- &(A !'b') 'a'* B !.
-- A <- 'a' A 'b' / ''
-- B <- 'b' B 'c' / ''
abbrev pub abc_grammar : List Rule
abc_grammar =
    record {
      name = codes "D";
      span = between 0 1;
      body = Seq
          (Then
          (And
          (Seq
          (Then (Name (codes "A") (between 7 8)) (Then (Not (Literal (codes "b") (between 10 13)) (between 9 13)) End))
          (between 7 13))
          (between 5 14))
          (Then
          (Star (Literal (codes "a") (between 15 18)) (between 15 19))
          (Then (Name (codes "B") (between 20 21)) (Then (Not (Any (between 23 24)) (between 22 24)) End))))
          (between 5 24);
    } ∷ record {
      name = codes "A";
      span = between 25 26;
      body = Choice
          (Seq
          (Then (Literal (codes "a") (between 30 33))
          (Then (Name (codes "A") (between 34 35)) (Then (Literal (codes "b") (between 36 39)) End)))
          (between 30 39))
          (Then (Literal [] (between 42 44)) End)
          (between 30 44);
    } ∷ record {
      name = codes "B";
      span = between 45 46;
      body = Choice
          (Seq
          (Then (Literal (codes "b") (between 50 53))
          (Then (Name (codes "B") (between 54 55)) (Then (Literal (codes "c") (between 56 59)) End)))
          (between 50 59))
          (Then (Literal [] (between 62 64)) End)
          (between 50 64);
    } ∷ []

-- on aabbcc: the predicate leaves no tree, but its failed tests count
abbrev pub abc_record : Record
abc_record = record {
  result = Matched 6 (node 0 0 6 (node 2 2 6 (node 2 3 5 (node 2 4 4 NoTrees))));
  tests = test 2 3 ∷ test 4 0 ∷ test 2 1 ∷ test 4 6 ∷ test 6 2 ∷ [];
  calls = call_at 0 0 ∷ call_at 1 0 ∷ call_at 1 1 ∷ call_at 1 2 ∷ call_at 2 2 ∷ call_at 2 3 ∷ call_at 2 4 ∷ [];
}

-- S <- 'a' / 'ab'
abbrev pub ordered : List Rule
ordered =
    record {
      name = codes "S";
      span = between 0 1;
      body = Choice
          (Literal (codes "a") (between 5 8))
          (Then (Literal (codes "ab") (between 11 15)) End)
          (between 5 15);
    } ∷ []

-- on ab: the first alternative matches, so the longer one is not tried
abbrev pub ordered_record : Record
ordered_record = record { result = Matched 1 (node 0 0 1 NoTrees); tests = []; calls = call_at 0 0 ∷ [] }

-- A <- '(' A ')' 'x' / '(' A ')' 'y' / 'a'
abbrev pub repeated_prefix : List Rule
repeated_prefix =
    record {
      name = codes "A";
      span = between 0 1;
      body = Choice
          (Seq
          (Then
          (Literal (codes "(") (between 5 8))
          (Then
          (Name (codes "A") (between 9 10))
          (Then (Literal (codes ")") (between 11 14)) (Then (Literal (codes "x") (between 15 18)) End))))
          (between 5 18))
          (Then
          (Seq
          (Then
          (Literal (codes "(") (between 21 24))
          (Then
          (Name (codes "A") (between 25 26))
          (Then (Literal (codes ")") (between 27 30)) (Then (Literal (codes "y") (between 31 34)) End))))
          (between 21 34))
          (Then (Literal (codes "a") (between 37 40)) End))
          (between 5 40);
    } ∷ []

-- on (a)y: the abandoned alternative leaves no tree, but its failed tests and its calls count
abbrev pub repeated_prefix_record : Record
repeated_prefix_record = record {
  result = Matched 4 (node 0 0 4 (node 0 1 2 NoTrees));
  tests = test 1 0 ∷ test 1 3 ∷ test 3 2 ∷ test 1 0 ∷ test 1 3 ∷ [];
  calls = call_at 0 0 ∷ call_at 0 1 ∷ call_at 0 1 ∷ [];
}

-- A <- 'a'{2,4}
abbrev pub two_to_four : List Rule
two_to_four =
    record {
      name = codes "A";
      span = between 0 1;
      body = Counted (Literal (codes "a") (between 5 8)) 2 4 (between 5 13);
    } ∷ []

-- on aaa: the fourth attempt at 'a' fails, and the count still matches
abbrev pub three_record : Record
three_record = record { result = Matched 3 (node 0 0 3 NoTrees); tests = test 3 0 ∷ []; calls = call_at 0 0 ∷ [] }

-- on a: the second 'a' is required
abbrev pub too_few_record : Record
too_few_record = record { result = Failed; tests = test 1 0 ∷ []; calls = call_at 0 0 ∷ [] }

-- on aaaaa: the fifth byte is not tested
abbrev pub four_record : Record
four_record = record { result = Matched 4 (node 0 0 4 NoTrees); tests = []; calls = call_at 0 0 ∷ [] }

-- a triple of outcomes: matches the empty string, matches a byte or more, fails
abbrev can : (nothing something fails : Bool) → Can
can nothing something fails = record { nothing = nothing; something = something; fails = fails }

-- the outcomes of each rule's expression in round n
abbrev pub all_can_in : List Rule → ℕ → List Can
all_can_in rules n = map (λ (rule : Rule). can_in rules n rule.body) rules

-- A and B match the empty literal if nothing else matches, so they never fail; the predicates of D can fail
abbrev pub abc_can : List Can
abc_can = can true true true ∷ can true true false ∷ can true true false ∷ []

-- S <- 'a' S / 'b' consumes a byte or fails
abbrev pub nested_can : List Can
nested_can = can false true true ∷ []

-- 'a'{2,4} consumes a byte or fails
abbrev pub two_to_four_can : List Can
two_to_four_can = can false true true ∷ []

-- T <- T
abbrev pub itself : List Rule
itself = record { name = codes "T"; span = between 0 1; body = Name (codes "T") (between 5 6) } ∷ []

-- the least outcomes of T: none
abbrev pub itself_can : List Can
itself_can = no_outcome ∷ []

-- expressions with operators: 'x'?  .+  ''*  &[]  !''  'x'* .  !'x' / [] 'x'
abbrev pub operators : List Rule
operators = map
    (λ (body : Form). record { name = codes "A"; span = between 0 1; body = body })
    (Optional (Literal (codes "x") (between 0 3)) (between 0 4)
    ∷ Plus (Any (between 0 1)) (between 0 2)
    ∷ Star (Literal [] (between 0 2)) (between 0 3)
    ∷ And (Class [] (between 1 3)) (between 0 3)
    ∷ Not (Literal [] (between 1 3)) (between 0 3)
    ∷ Seq (Then (Star (Literal (codes "x") (between 0 3)) (between 0 4)) (Then (Any (between 5 6)) End)) (between 0 6)
    ∷ Choice
    (Not (Literal (codes "x") (between 1 4)) (between 0 4))
    (Then (Seq (Then (Class [] (between 7 9)) (Then (Literal (codes "x") (between 10 13)) End)) (between 7 13)) End)
    (between 0 13)
    ∷ [])

-- by Ford's rules, expression by expression; the star of '' has no outcome
abbrev pub operators_can : List Can
operators_can =
    can true true false
    ∷ can false true true
    ∷ can false false false
    ∷ can false false true
    ∷ can false false true
    ∷ can false true true
    ∷ can true false true
    ∷ []

-- expressions with a loop that consumes nothing: ('a'*)*, ('')+ and (('')?)*
abbrev pub star_of_star : Form
star_of_star = Star (Star (Literal (codes "a") (between 6 9)) (between 6 10)) (between 5 12)

abbrev pub plus_of_empty : Form
plus_of_empty = Plus (Literal [] (between 6 8)) (between 5 10)

abbrev pub star_of_optional : Form
star_of_optional = Star (Optional (Literal [] (between 7 9)) (between 6 11)) (between 5 13)
