-- Grammars worked by hand, one with its marked rules and the result of its first rule on a text, and the attempts of
-- texts. They test the definitions.
use Rattle.std.specs.Prelude.{ℕ, List, [], ◌∷◌, codes}
use Rattle.peg_bytes.specs.Extent.{between}
use Rattle.peg_diagnostics.specs.Attempts.{Attempt, TriedRule, MatchedRule, TriedAlternative, MatchedAlternative}
use Rattle.peg_semantics.specs.Form.{Form, Literal, Any, Name, Seq, Choice, Optional, Not, End, Then}
use Rattle.peg_semantics.specs.Record.{Recognition, Matched}
use Rattle.peg_semantics.specs.Rules.{Rule}
use Rattle.peg_tree.specs.Trees.{NoTrees, Tree}

abbrev a : Form
a = Literal (codes "a") (between 5 8)

abbrev b : Form
b = Literal (codes "b") (between 12 15)

abbrev c : Form
c = Literal (codes "c") (between 18 21)

abbrev d : Form
d = Optional (Literal (codes "d") (between 23 26)) (between 23 27)

-- S <- 'a' / ('b' / 'c') 'd'?
-- The alternatives are 'a', the sequence, 'b' and 'c'.
abbrev pub nested : List Rule
nested =
    record {
      name = codes "S";
      span = between 0 1;
      body = Choice a (Then (Seq (Then (Choice b (Then c End) (between 12 21)) (Then d End)) (between 11 27)) End)
          (between 5 27);
    } ∷ []

-- S <- (f 'a' g / h ((j 'b' k / l 'c' m) 'd'?) i) o, and then the markers, which have these names
abbrev pub nested_with : (f g h i j k l m o : List ℕ) → List Rule
nested_with f g h i j k l m o =
    record {
      name = codes "S";
      span = between 0 1;
      body = Seq (Then (Choice
          (Seq (Then (Name f (between 5 8)) (Then a (Then (Name g (between 5 8)) End))) (between 5 8))
          (Then (Seq (Then (Name h (between 11 27)) (Then
          (Seq (Then (Choice
          (Seq (Then (Name j (between 12 15)) (Then b (Then (Name k (between 12 15)) End))) (between 12 15))
          (Then (Seq (Then (Name l (between 18 21)) (Then c (Then (Name m (between 18 21)) End))) (between 18 21)) End)
          (between 12 21))
          (Then d End)) (between 11 27)) (Then (Name i (between 11 27)) End))) (between 11 27)) End)
          (between 5 27)) (Then (Name o (between 0 1)) End)) (between 0 1);
    } ∷ record { name = f; span = between 5 8; body = Seq End (between 5 8) }
    ∷ record { name = g; span = between 5 8; body = Seq End (between 5 8) }
    ∷ record { name = h; span = between 11 27; body = Seq End (between 11 27) }
    ∷ record { name = i; span = between 11 27; body = Seq End (between 11 27) }
    ∷ record { name = j; span = between 12 15; body = Seq End (between 12 15) }
    ∷ record { name = k; span = between 12 15; body = Seq End (between 12 15) }
    ∷ record { name = l; span = between 18 21; body = Seq End (between 18 21) }
    ∷ record { name = m; span = between 18 21; body = Seq End (between 18 21) }
    ∷ record { name = o; span = between 0 1; body = Seq End (between 0 1) }
    ∷ []

abbrev pub nested_marked : List Rule
nested_marked =
    nested_with (codes "!0") (codes "!1") (codes "!2") (codes "!3") (codes "!4") (codes "!5") (codes "!6") (codes "!7")
    (codes "!8")

-- on cd: S matches both bytes, by the sequence and in it by 'c'
abbrev pub nested_result : Recognition
nested_result = Matched 2 (Tree 0 0 2 (Tree 3 0 0 NoTrees (Tree 7 0 0 NoTrees (Tree 8 1 1 NoTrees
    (Tree 4 2 2 NoTrees (Tree 9 2 2 NoTrees NoTrees))))) NoTrees)

-- 'a' is tried, then the sequence, and in it 'b' and 'c'
abbrev pub nested_attempts : List Attempt
nested_attempts =
    TriedRule 0 ∷ TriedAlternative 0 ∷ TriedAlternative 1 ∷ TriedAlternative 2 ∷ TriedAlternative 3
    ∷ MatchedAlternative 3 ∷ MatchedAlternative 1 ∷ MatchedRule 0 ∷ []

-- S <- !A .
-- A <- 'a' / 'b'
abbrev pub guarded : List Rule
guarded =
    record {
      name = codes "S";
      span = between 0 1;
      body = Seq (Then (Not (Name (codes "A") (between 6 7)) (between 5 7)) (Then (Any (between 8 9)) End))
          (between 5 9);
    } ∷ record {
      name = codes "A";
      span = between 10 11;
      body = Choice (Literal (codes "a") (between 15 18)) (Then (Literal (codes "b") (between 21 24)) End)
          (between 15 24);
    } ∷ []

-- on b: S fails, since A matches in the predicate, by 'b'
abbrev pub guarded_attempts : List Attempt
guarded_attempts =
    TriedRule 0 ∷ TriedRule 1 ∷ TriedAlternative 0 ∷ TriedAlternative 1 ∷ MatchedAlternative 1 ∷ MatchedRule 1 ∷ []
