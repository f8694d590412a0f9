-- The spans of what was read, and the offsets of faults, lie in the file.
use Rattle.std.specs.Prelude.{ℕ, ◌≤◌, All, Result, Ok, Err}
use Rattle.std.specs.declared.alloc.Global.{Global}
use Rattle.std.specs.declared.vec.Vec.{Vec}
use Rattle.peg_bytes.specs.Extent.{Extent}
use Rattle.peg_semantics.specs.Form.{Form, Forms, Literal, Class, Any, Name, Seq, Choice, Optional, Star, Plus, Counted}
use Rattle.peg_semantics.specs.Form.{And, Not, End, Then}
use Rattle.peg_semantics.specs.Rules.{Rule}
use Rattle.peg_grammar.specs.Written.{rules_of}
use Rattle.peg_grammar.specs.declared.expr.Definition.{Definition}
use Rattle.peg_notation.specs.declared.fault.NotationFault.{NotationFault}
use Rattle.peg_notation.specs.declared.fault.NotationFault.TheVariants.{FileTooLong, Syntax, TooNested, BadCount, Memory}

-- a span in a file of length `size`
abbrev pub LiesIn : (size : ℕ) → Extent → Type 0
LiesIn size span = (span.start ≤ span.end) × (span.end ≤ size)

-- the spans of an expression and of all its parts lie in a file of length `size`
abbrev mutual
  pub FormLiesIn : (size : ℕ) → Form → Type 0
  FormLiesIn size (Literal bytes span) = LiesIn size span
  FormLiesIn size (Class set span) = LiesIn size span
  FormLiesIn size (Any span) = LiesIn size span
  FormLiesIn size (Name name span) = LiesIn size span
  FormLiesIn size (Seq items span) = LiesIn size span × FormsLieIn size items
  FormLiesIn size (Choice first rest span) = LiesIn size span × FormLiesIn size first × FormsLieIn size rest
  FormLiesIn size (Optional part span) = LiesIn size span × FormLiesIn size part
  FormLiesIn size (Star part span) = LiesIn size span × FormLiesIn size part
  FormLiesIn size (Plus part span) = LiesIn size span × FormLiesIn size part
  FormLiesIn size (Counted part min max span) = LiesIn size span × FormLiesIn size part
  FormLiesIn size (And part span) = LiesIn size span × FormLiesIn size part
  FormLiesIn size (Not part span) = LiesIn size span × FormLiesIn size part

  pub FormsLieIn : (size : ℕ) → Forms → Type 0
  FormsLieIn size End = Unit {0}
  FormsLieIn size (Then first rest) = FormLiesIn size first × FormsLieIn size rest

-- the spans of a rule's name and of its expression lie in a file of length `size`
abbrev pub RuleLiesIn : (size : ℕ) → Rule → Type 0
RuleLiesIn size rule = LiesIn size rule.span × FormLiesIn size rule.body

-- the spans of the definitions, or the offset of a fault, lie in a file of length `size`
abbrev pub AnswerLiesIn : (size : ℕ) → Result (Vec Definition Global) NotationFault → Type 0
AnswerLiesIn size (Ok definitions) = All (RuleLiesIn size) (rules_of definitions.items)
AnswerLiesIn size (Err FileTooLong) = Unit {0}
AnswerLiesIn size (Err (Syntax at)) = at ≤ size
AnswerLiesIn size (Err (TooNested at)) = at ≤ size
AnswerLiesIn size (Err (BadCount at)) = at ≤ size
AnswerLiesIn size (Err Memory) = Unit {0}
