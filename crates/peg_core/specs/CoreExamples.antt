-- Core forms of grammars worked by hand, to compare the definitions with.
use Rattle.std.specs.Prelude.{ℕ, List, [], ◌∷◌, map, codes}
use Rattle.peg_bytes.specs.ByteSet.{only, all_bytes}
use Rattle.peg_bytes.specs.Extent.{between}
use Rattle.peg_semantics.specs.AbstractOutcomes.{Can}
use Rattle.peg_semantics.specs.Form.{Form, Literal, Counted, End, Then}
use Rattle.peg_semantics.specs.Form as written
use Rattle.peg_semantics.specs.Rules as grammar
use Rattle.peg_core.specs.CoreForm.{CoreForm, Empty, Test, Rule, Seq, Choice, Star, Not}
use Rattle.peg_core.specs.CoreOutcomes.{core_can_in}

-- S <- 'a' S / 'b'
abbrev pub nested_core : List CoreForm
nested_core = Choice (Seq (Test (only 97) 0) (Rule 0)) (Test (only 98) 1) ∷ []

-- 'x'?   .+   ''*   &[]   !''   'x'* .   !'x' / [] 'x', one rule each
abbrev pub operators_core : List CoreForm
operators_core =
    Choice (Test (only 120) 0) Empty
    ∷ Seq (Test all_bytes 1) (Star (Test all_bytes 1) (between 0 2))
    ∷ Star Empty (between 0 3)
    ∷ Not (Not (Test [] 3))
    ∷ Not Empty
    ∷ Seq (Star (Test (only 120) 5) (between 0 4)) (Test all_bytes 6)
    ∷ Choice (Not (Test (only 120) 7)) (Seq (Test [] 8) (Test (only 120) 9))
    ∷ []

-- A <- 'a'{2,4}: two iterations that must match, and in them two that need not
abbrev an_a : CoreForm
an_a = Test (only 97) 0

abbrev up_to_one : CoreForm
up_to_one = Choice (Seq an_a Empty) Empty

abbrev up_to_two : CoreForm
up_to_two = Choice (Seq an_a up_to_one) Empty

abbrev pub two_to_four_core : List CoreForm
two_to_four_core = Seq an_a (Seq an_a up_to_two) ∷ []

-- its core forms: the 'a' once, and one or two for each iteration
abbrev pub two_to_four_parts : List CoreForm
two_to_four_parts =
    an_a
    ∷ Empty
    ∷ Seq an_a Empty
    ∷ up_to_one
    ∷ Seq an_a up_to_one
    ∷ up_to_two
    ∷ Seq an_a up_to_two
    ∷ Seq an_a (Seq an_a up_to_two)
    ∷ []

-- A <- ''{254,255}
abbrev pub empties : List grammar.Rule
empties =
    record {
      name = codes "A";
      span = between 0 1;
      body = Counted (Literal [] (between 5 7)) 254 255 (between 5 16);
    } ∷ []

-- one iteration that must match, and in it one that need not; the other 253 are left out
abbrev an_empty_or_none : CoreForm
an_empty_or_none = Choice (Seq Empty Empty) Empty

abbrev pub empties_core : List CoreForm
empties_core = Seq Empty an_empty_or_none ∷ []

-- its core forms: the '' once, the empty expression, and one or two for each iteration
abbrev pub empties_parts : List CoreForm
empties_parts =
    Empty
    ∷ Empty
    ∷ Seq Empty Empty
    ∷ an_empty_or_none
    ∷ Seq Empty an_empty_or_none
    ∷ []

-- A <- (('' ''){255}){255} / (''{2} 'a'){2}
abbrev pub nested_empties : List grammar.Rule
nested_empties =
    record {
      name = codes "A";
      span = between 0 1;
      body =
          written.Choice (Counted (Counted two_empties 255 255 (between 5 18)) 255 255 (between 5 24))
          (Then (Counted an_a_after_empties 2 2 (between 27 40)) End) (between 5 40);
    } ∷ []
  where
    two_empties : Form
    two_empties = written.Seq (Then (Literal [] (between 7 9)) (Then (Literal [] (between 10 12)) End)) (between 7 12)

    an_a_after_empties : Form
    an_a_after_empties =
        written.Seq (Then (Counted (Literal [] (between 28 30)) 2 2 (between 28 33))
        (Then (Literal (codes "a") (between 34 37)) End)) (between 28 37)

-- one iteration of each count of empty expressions, and both of the count with 'a', which is the fourth terminal
abbrev pub nested_empties_core : List CoreForm
nested_empties_core =
    Choice (Seq (Seq (Seq Empty Empty) Empty) Empty)
    (Seq an_a_after_empties (Seq an_a_after_empties Empty)) ∷ []
  where
    an_a_after_empties : CoreForm
    an_a_after_empties = Seq (Seq Empty Empty) (Test (only 97) 3)

-- the outcomes of each rule's body in n rounds
abbrev pub all_core_can_in : List CoreForm → ℕ → List Can
all_core_can_in bodies n = map (core_can_in bodies n) bodies
