use Rattle.std.proofs.Common.{◌≡◌, ◌++◌, drop}
use Rattle.std.specs.List.{flat_map}
use Rattle.peg_messages.specs.Shown.{escape_text}
use Rattle.peg_messages.proofs.found.write_escapes.Given as goal

-- what is written so far, and the escapes of the other bytes
abbrev pub invariant-bytes : goal.invariant-bytes
invariant-bytes l = l.out.items ++ flat_map escape_text (drop l.byte-index l.bytes)
    ≡ l.initial.out.items ++ flat_map escape_text l.bytes
