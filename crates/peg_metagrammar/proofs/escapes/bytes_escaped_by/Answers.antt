use Rattle.std.proofs.Common.{◌≡◌, List, map, take, ◌∙◌, ap, arith}
use Rattle.std.proofs.lemmas.List.{take_all}
use Rattle.peg_metagrammar.specs.EscapesCode.{escape_of}
use Rattle.peg_metagrammar.specs.Ranges.{in_ranges}
use Rattle.peg_metagrammar.specs.SimpleEscapes.{escaped_ranges}
use Rattle.peg_metagrammar.specs.declared.escapes.SimpleEscape.{SimpleEscape}
use Rattle.peg_metagrammar.proofs.ClassSets.{set-class}
use Rattle.peg_metagrammar.proofs.escapes.bytes_escaped_by.Goals as goal

pub returns : goal.returns
returns c =
    let whole : take c.loop-escape.escape-index c.args.escapes.now ≡ c.args.escapes.now =
    take_all c.loop-escape.escape-index c.args.escapes.now (omega arith) in
    set-class c.loop-escape.set (escaped_ranges (map escape_of c.args.escapes.now))
    (λ byte. c.loop-escape.invariant byte
    ∙ ap (λ (escapes : List SimpleEscape). in_ranges (escaped_ranges (map escape_of escapes)) byte) whole)
