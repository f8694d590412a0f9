-- Grammars worked by hand, with the blame of the first rule on a text. They test the definitions.
use Rattle.std.specs.Prelude.{ℕ, List, [], ◌∷◌, codes}
use Rattle.peg_bytes.specs.Extent.{between}
use Rattle.peg_semantics.specs.Form.{Literal, Any, Name, Seq, Plus, Not, End, Then}
use Rattle.peg_semantics.specs.Record.{Record, Failed, Matched, RuleCall, test_of}
use Rattle.peg_semantics.specs.Rules.{Rule}
use Rattle.peg_tree.specs.Trees.{NoTrees, Tree}

abbrev call_of : (rule position : ℕ) → RuleCall
call_of rule position = record { rule = rule; position = position }

-- S <- 'ab' !'c' .
-- The items are 'ab', !'c' and the dot.
abbrev pub guarded : List Rule
guarded =
    record {
      name = codes "S";
      span = between 0 1;
      body = Seq
          (Then
          (Literal (codes "ab") (between 5 9))
          (Then (Not (Literal (codes "c") (between 11 14)) (between 10 14)) (Then (Any (between 15 16)) End)))
          (between 5 16);
    } ∷ []

-- on abc: the predicate fails at 2, where no byte differs from that of a terminal
abbrev pub predicate_blame : Record
predicate_blame = record { result = Failed; tests = test_of 1 2 ∷ []; calls = call_of 0 0 ∷ [] }

-- on ax: the second byte of 'ab' differs, and the literal counts at its own start
abbrev pub literal_blame : Record
literal_blame = record { result = Failed; tests = test_of 0 0 ∷ []; calls = call_of 0 0 ∷ [] }

-- on abd: 'c' fails inside the predicate, which therefore matches
abbrev pub matched_blame : Record
matched_blame = record { result = Matched 3 (Tree 0 0 3 NoTrees NoTrees); tests = []; calls = call_of 0 0 ∷ [] }

-- S <- !K I
-- K <- 'if'
-- I <- .+
-- The items are !K, 'if' and the dot.
abbrev pub keyword : List Rule
keyword =
    record {
      name = codes "S";
      span = between 0 1;
      body = Seq
          (Then (Not (Name (codes "K") (between 6 7)) (between 5 7)) (Then (Name (codes "I") (between 8 9)) End))
          (between 5 9);
    } ∷ record {
      name = codes "K";
      span = between 10 11;
      body = Literal (codes "if") (between 15 19);
    } ∷ record {
      name = codes "I";
      span = between 20 21;
      body = Plus (Any (between 25 26)) (between 25 27);
    } ∷ []

-- on if: the predicate fails, and the call of K inside it does not count
abbrev pub keyword_blame : Record
keyword_blame = record { result = Failed; tests = test_of 0 0 ∷ []; calls = call_of 0 0 ∷ [] }

-- on ix: 'if' fails inside the predicate only; at the end of the text the dot fails
abbrev pub identifier_blame : Record
identifier_blame = record {
  result = Matched 2 (Tree 0 0 2 (Tree 2 0 2 NoTrees NoTrees) NoTrees);
  tests = test_of 2 2 ∷ [];
  calls = call_of 0 0 ∷ call_of 2 0 ∷ [];
}
