-- The number of instructions of written expressions, computed without unfolding their counts.
use Rattle.std.specs.Prelude.{ℕ, zero, suc, ◌+◌, ◌-◌, ◌*◌, length}
use Rattle.peg_semantics.specs.Form.{Form, Forms, Literal, Class, Any, Name, Seq, Choice, Optional, Star, Plus, Counted}
use Rattle.peg_semantics.specs.Form.{And, Not, End, Then}

-- A count of a part with this many instructions: each iteration has the part, and an optional one has two more. With
-- max 0 the part is an alternative that is never tried.
abbrev pub counted_size : (size min max : ℕ) → ℕ
counted_size size min zero = size + 2
counted_size size min (suc max) = suc max * size + 2 * (suc max - min)

-- The number of instructions of an expression's code.
abbrev mutual
  pub written_size : Form → ℕ
  written_size (Literal bytes span) = length bytes
  written_size (Class set span) = 1
  written_size (Any span) = 1
  written_size (Name name span) = 1
  written_size (Seq items span) = written_sizes 0 items
  written_size (Choice first rest span) = written_size first + written_sizes 2 rest
  written_size (Optional part span) = written_size part + 2
  written_size (Star part span) = written_size part + 2
  written_size (Plus part span) = written_size part + (written_size part + 2)
  written_size (Counted part min max span) = counted_size (written_size part) min max
  written_size (And part span) = written_size part + 4
  written_size (Not part span) = written_size part + 2

  -- that of all expressions of a list, and `each` more for each of them
  pub written_sizes : (each : ℕ) → Forms → ℕ
  written_sizes each End = 0
  written_sizes each (Then e rest) = written_size e + each + written_sizes each rest
