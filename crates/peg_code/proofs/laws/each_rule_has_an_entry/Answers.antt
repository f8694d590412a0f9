use Rattle.std.proofs.Common.{◌<◌, length, arith}
use Rattle.std.proofs.lemmas.Option.{get_or_from_slice_get, slice_get_within}
use Rattle.peg_code.specs.Code.{entries_of}
use Rattle.peg_code.proofs.LayoutLemmas.{entry-within, length-entries_from, length-program_code}
use Rattle.peg_code.proofs.laws.each_rule_has_an_entry.Goals as goal

pub returns-clause-count : goal.returns-clause-count
returns-clause-count c = λ bodies. length-entries_from bodies 1

pub returns-clause-within : goal.returns-clause-within
returns-clause-within c =
    λ bodies rule entry there.
    let within : rule < length (entries_of bodies) = slice_get_within (entries_of bodies) rule entry there in
    let of_rule : rule < length bodies = omega (arith, within, length-entries_from bodies 1) in
    omega (arith, entry-within bodies 1 rule entry of_rule, get_or_from_slice_get (entries_of bodies) rule entry entry there, length-program_code bodies)
