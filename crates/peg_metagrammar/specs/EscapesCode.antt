-- Describes code: the simple escape that a value of the code is.
use Rattle.peg_metagrammar.specs.SimpleEscapes as spec
use Rattle.peg_metagrammar.specs.declared.escapes.SimpleEscape.{SimpleEscape}

abbrev pub escape_of : SimpleEscape → spec.SimpleEscape
escape_of escape = record { escaped = escape.escaped; byte = escape.byte }
