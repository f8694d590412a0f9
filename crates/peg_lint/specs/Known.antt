-- Describes code: what is known of the edges of expressions, and the rules' table of it.
use Rattle.std.specs.Prelude.{◌≡◌, ℕ, Bool, true, false, List, map}
use Rattle.peg_bytes.specs.ByteSet.{bytes_of, has}
use Rattle.peg_semantics.specs.Form.{Form}
use Rattle.peg_semantics.specs.Rules.{Rule}
use Rattle.peg_lint.specs.Edges.{Edges, edges_in}
use Rattle.peg_lint.specs.Never.{FailsAfter, MatchesNoByteAfter}
use Rattle.peg_lint.specs.Warnings.{IsRepeat, IsRepeatOf}
use Rattle.peg_lint.specs.declared.edges.Edges as code
use Rattle.peg_lint.specs.declared.warning.WarningKind.{WarningKind}
use Rattle.peg_lint.specs.declared.warning.WarningKind.TheVariants as kind

-- what the code's value says
abbrev pub known_of : code.Edges → Edges
known_of edges = record {
  nothing = edges.nothing;
  something = edges.something;
  fails = edges.fails;
  any = edges.any;
  begins = has (bytes_of edges.begins);
  takes = has (bytes_of edges.takes);
  stops = has (bytes_of edges.stops);
}

-- what is known of the rules' expressions, where names are followed through fewer than n rules
abbrev pub known_in : List Rule → (n : ℕ) → List Edges
known_in rules n = map (λ (rule : Rule). edges_in rules n rule.body) rules

-- a table has this
abbrev pub AreKnown : List Rule → (n : ℕ) → List code.Edges → Type 0
AreKnown rules n table = map known_of table ≡ known_in rules n

-- each match of a byte or more begins with a byte of a set
pub record BeginsWithin (edges : Edges) (set : ℕ → Bool) : Type 0 where
  pub some : edges.any ≡ false
  pub all : (byte : ℕ) → edges.begins byte ≡ true → set byte ≡ true

-- an expression only matches before a byte that another one doesn't fail before
pub record IsTaken (earlier later : Edges) : Type 0 where
  pub consumes : later.nothing ≡ false
  pub within : BeginsWithin later earlier.takes

-- what a kind of warning says of an item and the item before it
pub data SaysAfter (rules : List Rule) (earlier next : Form) : WarningKind → Type 0 where
  stops : (part : Form) → IsRepeatOf earlier part → FailsAfter rules earlier next → SaysAfter rules earlier next kind.NeverStops
  follows : ¬ IsRepeat earlier → FailsAfter rules earlier next → SaysAfter rules earlier next kind.NeverFollows
  takes_none : MatchesNoByteAfter rules earlier next → SaysAfter rules earlier next kind.TakesNothing
