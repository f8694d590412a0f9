-- Grammars with empty loops and left cycles, worked by hand, to test the definitions.
use Rattle.std.specs.Prelude.{List, [], ◌∷◌, codes}
use Rattle.peg_bytes.specs.Extent.{between}
use Rattle.peg_semantics.specs.Form.{Form, Literal, Class, Name, Seq, Optional, Star, Counted, End, Then}
use Rattle.peg_semantics.specs.Rules.{Rule}

-- a grammar of one rule, A
abbrev pub only_rule : Form → List Rule
only_rule body = record { name = codes "A"; span = between 0 1; body = body } ∷ []

-- A <- (''*)*: ''* has no outcome, so only the inner star is an empty loop
abbrev pub star_of_stuck_star : List Rule
star_of_stuck_star = only_rule (Star (Star (Literal [] (between 6 8)) (between 6 9)) (between 5 11))

-- A <- B 'x'
-- B <- 'y'? A
abbrev pub after_optional : List Rule
after_optional =
    record {
      name = codes "A";
      span = between 0 1;
      body = Seq (Then (Name (codes "B") (between 5 6)) (Then (Literal (codes "x") (between 7 10)) End)) (between 5 10);
    } ∷ record {
      name = codes "B";
      span = between 11 12;
      body = Seq
          (Then
          (Optional (Literal (codes "y") (between 16 19)) (between 16 20))
          (Then (Name (codes "A") (between 21 22)) End))
          (between 16 22);
    } ∷ []

-- A <- [] A: the class never succeeds, so A is not a left call
abbrev pub after_empty_class : List Rule
after_empty_class =
    only_rule (Seq (Then (Class [] (between 5 7)) (Then (Name (codes "A") (between 8 9)) End)) (between 5 9))

-- A <- A{0,2}: the part of a count is left-called, whatever its bounds
abbrev pub counted_itself : List Rule
counted_itself = only_rule (Counted (Name (codes "A") (between 5 6)) 0 2 (between 5 11))

-- A <- ('x'{0,2})*: the count can match the empty string
abbrev pub star_of_count : List Rule
star_of_count = only_rule (Star (Counted (Literal (codes "x") (between 6 9)) 0 2 (between 6 14)) (between 5 16))
