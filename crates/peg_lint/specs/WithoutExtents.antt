-- Expressions without their places in the grammar file.
use Rattle.peg_bytes.specs.Extent.{Extent, between}
use Rattle.peg_semantics.specs.Form.{Form, Forms, Literal, Class, Any, Name, Seq, Choice, Optional, Star, Plus, Counted}
use Rattle.peg_semantics.specs.Form.{And, Not, End, Then}

-- the extent in place of each one
abbrev pub no_extent : Extent
no_extent = between 0 0

-- the expression with each extent replaced by that one
abbrev mutual
  pub without_extents : Form → Form
  without_extents (Literal bytes span) = Literal bytes no_extent
  without_extents (Class set span) = Class set no_extent
  without_extents (Any span) = Any no_extent
  without_extents (Name name span) = Name name no_extent
  without_extents (Seq items span) = Seq (all_without_extents items) no_extent
  without_extents (Choice first rest span) =
      Choice (without_extents first) (all_without_extents rest) no_extent
  without_extents (Optional part span) = Optional (without_extents part) no_extent
  without_extents (Star part span) = Star (without_extents part) no_extent
  without_extents (Plus part span) = Plus (without_extents part) no_extent
  without_extents (Counted part min max span) = Counted (without_extents part) min max no_extent
  without_extents (And part span) = And (without_extents part) no_extent
  without_extents (Not part span) = Not (without_extents part) no_extent

  pub all_without_extents : Forms → Forms
  all_without_extents End = End
  all_without_extents (Then e rest) = Then (without_extents e) (all_without_extents rest)
