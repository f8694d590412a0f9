-- Describes code: the bound of the offset of a backslash.
use Rattle.std.specs.Prelude.{ℕ, ◌<◌, ⊤}
use Rattle.peg_messages.specs.declared.causes.SyntaxCause.{SyntaxCause}
use Rattle.peg_messages.specs.declared.causes.SyntaxCause.TheVariants.{EndsEarly, ByteOrderMark, OpenComment}
use Rattle.peg_messages.specs.declared.causes.SyntaxCause.TheVariants.{OpenLiteral, OpenClass, BadEscape, OtherComment}
use Rattle.peg_messages.specs.declared.causes.SyntaxCause.TheVariants.{Label, BareEscape, Braces, NoBreakSpace, NoArrow}
use Rattle.peg_messages.specs.declared.causes.SyntaxCause.TheVariants.{Bar, Capture, NamedClass, OpenCount, Semicolon}
use Rattle.peg_messages.specs.declared.causes.SyntaxCause.TheVariants.{Unexpected}

-- the offset of a cause, if it has one, is below this
abbrev pub IsBelow : ℕ → SyntaxCause → Type 0
IsBelow end EndsEarly = ⊤
IsBelow end ByteOrderMark = ⊤
IsBelow end OpenComment = ⊤
IsBelow end OpenLiteral = ⊤
IsBelow end OpenClass = ⊤
IsBelow end (BadEscape at) = at < end
IsBelow end OtherComment = ⊤
IsBelow end Label = ⊤
IsBelow end BareEscape = ⊤
IsBelow end OpenCount = ⊤
IsBelow end Braces = ⊤
IsBelow end NamedClass = ⊤
IsBelow end Capture = ⊤
IsBelow end NoBreakSpace = ⊤
IsBelow end NoArrow = ⊤
IsBelow end Bar = ⊤
IsBelow end Semicolon = ⊤
IsBelow end Unexpected = ⊤
