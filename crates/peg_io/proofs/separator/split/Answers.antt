use Rattle.std.proofs.Common.{◌+◌, refl}
use Rattle.std.proofs.lemmas.List.{take_rest}
use Rattle.peg_io.specs.Split.{at_separator}
use Rattle.peg_io.proofs.separator.split.Goals as goal

pub returns-in-Some : goal.returns-in-Some
returns-in-Some c =
    at_separator c.in-Some.position c.in-Some.ensures refl (take_rest c.args.input.now (c.in-Some.position + 3))
