use Rattle.std.proofs.Common.{◌≡◌, drop, map}
use Rattle.peg_metagrammar.specs.EscapesCode.{escape_of}
use Rattle.peg_metagrammar.specs.SimpleEscapes.{byte_escaped}
use Rattle.peg_metagrammar.proofs.escapes.find_escape.Given as goal

-- the escapes visited so far are of other bytes
abbrev pub invariant-loop-escape : goal.invariant-loop-escape
invariant-loop-escape l =
    byte_escaped (map escape_of l.escapes) l.escaped
    ≡ byte_escaped (map escape_of (drop l.escape-index l.escapes)) l.escaped
