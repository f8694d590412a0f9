-- Describes code: the operators on one expression, as the functions that copy expressions build them.
use Rattle.peg_semantics.specs.Form.{Form, Literal, Class, Any, Name, Seq, Choice, Optional, Star, Plus, Counted, And, Not}

-- an operator on another part; what is no operator is the part itself
abbrev pub with_part : Form → (part : Form) → Form
with_part (Literal bytes span) part = part
with_part (Class set span) part = part
with_part (Any span) part = part
with_part (Name name span) part = part
with_part (Seq items span) part = part
with_part (Choice first rest span) part = part
with_part (Optional e span) part = Optional part span
with_part (Star e span) part = Star part span
with_part (Plus e span) part = Plus part span
with_part (Counted e min max span) part = Counted part min max span
with_part (And e span) part = And part span
with_part (Not e span) part = Not part span
