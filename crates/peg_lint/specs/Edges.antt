-- Describes code: an estimate of the bytes with which the matches of an expression begin and end, where names are
-- followed through a number of rules. What an expression may do by it, it need not do on any text.
use Rattle.std.specs.Prelude.{ℕ, zero, suc, Bool, true, false, ◌&&◌, ◌||◌, not, ◌==◌, nat_lt, List, [], ◌∷◌, length, Option, None}
use Rattle.std.specs.Prelude.{Some}
use Rattle.peg_bytes.specs.ByteSet.{has}
use Rattle.peg_semantics.specs.Form.{Form, Forms, Literal, Class, Any, Name, Seq, Choice, Optional, Star, Plus, Counted}
use Rattle.peg_semantics.specs.Form.{And, Not, End, Then}
use Rattle.peg_semantics.specs.Rules.{Rule, Meaning, meaning_of}

-- What is known of an expression, on any text and at any position. What it may do: match the empty string, match a byte
-- or more, fail. The bytes that a match of a byte or more may begin with, or that it may begin with any. The bytes
-- before which it doesn't fail. The bytes that aren't next where a match ends.
pub record Edges : Type 0 where
  pub nothing : Bool
  pub something : Bool
  pub fails : Bool
  pub any : Bool
  pub begins : ℕ → Bool
  pub takes : ℕ → Bool
  pub stops : ℕ → Bool

-- no number, and the numbers that are bytes
abbrev pub no_byte : ℕ → Bool
no_byte byte = false

abbrev pub each_byte : ℕ → Bool
each_byte byte = nat_lt byte 256

-- nothing is known
abbrev pub unknown_edges : Edges
unknown_edges = record {
  nothing = true;
  something = true;
  fails = true;
  any = true;
  begins = no_byte;
  takes = no_byte;
  stops = no_byte;
}

-- an expression that matches the empty string everywhere
abbrev pub empty_edges : Edges
empty_edges = record {
  nothing = true;
  something = false;
  fails = false;
  any = false;
  begins = no_byte;
  takes = each_byte;
  stops = no_byte;
}

-- an expression that fails everywhere
abbrev pub fail_edges : Edges
fail_edges = record {
  nothing = false;
  something = false;
  fails = true;
  any = false;
  begins = no_byte;
  takes = no_byte;
  stops = no_byte;
}

-- an expression that takes one byte of a set
abbrev pub byte_edges : (ℕ → Bool) → Edges
byte_edges set = record {
  nothing = false;
  something = true;
  fails = true;
  any = false;
  begins = set;
  takes = set;
  stops = no_byte;
}

-- a literal that begins with a byte; if it has others, it may fail before this byte
abbrev pub first_edges : (first : ℕ) → (is_alone : Bool) → Edges
first_edges first is_alone = record {
  nothing = false;
  something = true;
  fails = true;
  any = false;
  begins = λ byte. byte == first;
  takes = λ byte. is_alone && byte == first;
  stops = no_byte;
}

-- a literal
abbrev pub literal_edges : List ℕ → Edges
literal_edges [] = empty_edges
literal_edges (b ∷ bs) = first_edges b (length (b ∷ bs) == 1)

-- a dot
abbrev pub any_edges : Edges
any_edges = record {
  nothing = false;
  something = true;
  fails = true;
  any = true;
  begins = no_byte;
  takes = each_byte;
  stops = no_byte;
}

-- A sequence of two expressions. If the first may match the empty string, a match may begin with the bytes of the
-- second. If the second can't match a byte, a match ends where the first one ended.
abbrev pub seq_edges : Edges → Edges → Edges
seq_edges first rest = record {
  nothing = first.nothing && rest.nothing;
  something = first.something || rest.something;
  fails = first.fails || rest.fails;
  any = first.any || (first.nothing && rest.any);
  begins = λ byte. first.begins byte || (first.nothing && rest.begins byte);
  takes = λ byte. not rest.fails && first.takes byte;
  stops = λ byte. rest.stops byte || (not rest.something && first.stops byte);
}

-- a choice of two expressions
abbrev pub choice_edges : Edges → Edges → Edges
choice_edges first rest = record {
  nothing = first.nothing || rest.nothing;
  something = first.something || rest.something;
  fails = first.fails && rest.fails;
  any = first.any || rest.any;
  begins = λ byte. first.begins byte || rest.begins byte;
  takes = λ byte. first.takes byte || rest.takes byte;
  stops = no_byte;
}

-- an optional part
abbrev pub optional_edges : Edges → Edges
optional_edges part = record {
  nothing = true;
  something = part.something;
  fails = false;
  any = part.any;
  begins = part.begins;
  takes = each_byte;
  stops = no_byte;
}

-- a star, which ends where its part fails
abbrev pub star_edges : Edges → Edges
star_edges part = record {
  nothing = true;
  something = part.something;
  fails = false;
  any = part.any;
  begins = part.begins;
  takes = each_byte;
  stops = part.takes;
}

-- a plus, which ends where its part fails
abbrev pub plus_edges : Edges → Edges
plus_edges part = record {
  nothing = part.nothing;
  something = part.something;
  fails = part.fails;
  any = part.any;
  begins = part.begins;
  takes = part.takes;
  stops = part.takes;
}

-- a count
abbrev pub count_edges : Edges → (min max : ℕ) → Edges
count_edges part min max = record {
  nothing = part.nothing || (min == 0 || max == 0);
  something = part.something;
  fails = part.fails;
  any = part.any;
  begins = part.begins;
  takes = no_byte;
  stops = no_byte;
}

-- the predicates `&e` and `!e`; a match of `!e` ends where `e` fails
abbrev pub and_edges : Edges → Edges
and_edges part = record {
  nothing = true;
  something = false;
  fails = part.fails;
  any = false;
  begins = no_byte;
  takes = part.takes;
  stops = no_byte;
}

abbrev pub not_edges : Edges → Edges
not_edges part = record {
  nothing = part.fails;
  something = false;
  fails = true;
  any = false;
  begins = no_byte;
  takes = no_byte;
  stops = part.takes;
}

-- what is known of the rule that a name refers to
abbrev pub meaning_edges : (Form → Edges) → Option Meaning → Edges
meaning_edges judge None = unknown_edges
meaning_edges judge (Some m) = judge m.body

-- what is known of an expression, of the items of a sequence and of alternatives, if this is known of rules' expressions
abbrev mutual
  pub edges_by : List Rule → (Form → Edges) → Form → Edges
  edges_by rules judge (Literal bytes span) = literal_edges bytes
  edges_by rules judge (Class set span) = byte_edges (has set)
  edges_by rules judge (Any span) = any_edges
  edges_by rules judge (Name name span) = meaning_edges judge (meaning_of rules name)
  edges_by rules judge (Seq items span) = items_edges rules judge items
  edges_by rules judge (Choice first rest span) =
      choice_edges (edges_by rules judge first) (alternatives_edges rules judge rest)
  edges_by rules judge (Optional part span) = optional_edges (edges_by rules judge part)
  edges_by rules judge (Star part span) = star_edges (edges_by rules judge part)
  edges_by rules judge (Plus part span) = plus_edges (edges_by rules judge part)
  edges_by rules judge (Counted part min max span) = count_edges (edges_by rules judge part) min max
  edges_by rules judge (And part span) = and_edges (edges_by rules judge part)
  edges_by rules judge (Not part span) = not_edges (edges_by rules judge part)

  pub items_edges : List Rule → (Form → Edges) → Forms → Edges
  items_edges rules judge End = empty_edges
  items_edges rules judge (Then e rest) = seq_edges (edges_by rules judge e) (items_edges rules judge rest)

  pub alternatives_edges : List Rule → (Form → Edges) → Forms → Edges
  alternatives_edges rules judge End = fail_edges
  alternatives_edges rules judge (Then e rest) =
      choice_edges (edges_by rules judge e) (alternatives_edges rules judge rest)

-- What is known of an expression, if names in it are followed through fewer than n rules.
unfoldable pub edges_in : List Rule → (n : ℕ) → Form → Edges
edges_in rules zero e = unknown_edges
edges_in rules (suc n) e = edges_by rules (edges_in rules n) e
