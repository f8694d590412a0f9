-- Core forms of a grammar worked by hand, to compare step counts with.
use Rattle.std.specs.Prelude.{List, [], ◌∷◌}
use Rattle.peg_bytes.specs.ByteSet.{only}
use Rattle.peg_core.specs.CoreForm.{CoreForm, Test, Rule, Seq, Choice}

-- A <- '(' A ')' 'x' / '(' A ')' 'y' / 'a'
abbrev pub repeated_prefix_core : List CoreForm
repeated_prefix_core =
    Choice
    (Seq (Test (only 40) 0) (Seq (Rule 0) (Seq (Test (only 41) 1) (Test (only 120) 2))))
    (Choice
    (Seq (Test (only 40) 3) (Seq (Rule 0) (Seq (Test (only 41) 4) (Test (only 121) 5))))
    (Test (only 97) 6))
    ∷ []
