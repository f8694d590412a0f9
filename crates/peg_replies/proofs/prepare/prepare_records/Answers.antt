use Rattle.std.proofs.Common.{ℕ, ◌+◌, ◌<◌, ◌≤◌, List, length, subst, arith}
use Rattle.std.specs.Io.KnownBytes.{IsAtEnd}
use Rattle.peg_metagrammar.specs.Notation.{max_file_bytes}
use Rattle.peg_replies.specs.RecordParsers.{IsPreparedFor}
use Rattle.peg_replies.proofs.PreparedLemmas.{prepared-held}
use Rattle.peg_replies.proofs.prepare.prepare_records.Goals as goal

pub returns-clause-prepared : goal.returns-clause-prepared
returns-clause-prepared g c =
    let options = c.args.options in
    let printing = c.args.printing in
    let held = c.in_ok-file.file in
    let known = c.in_ok-prepare_by_file.field-0 in
    let for_held = subst (λ (bytes : List ℕ). IsPreparedFor bytes options printing known) c.deref.ensures.value
    c.in_ok-prepare_by_file.ensures in
    let within : length held.items ≤ max_file_bytes + 1 = omega (arith, held.ok.0, c.in_ok-file.ensures.limit) in
    let at_end : length held.items < max_file_bytes + 1 → IsAtEnd (g.G.Source.left c.read_up_to.new.input) =
    λ less. c.in_ok-file.ensures.end (omega (arith, held.ok.0)) in
    prepared-held options printing known (g.G.Source.left c.args.grammar.now) (g.G.Source.left c.read_up_to.new.input)
    held.items c.in_ok-file.ensures.bytes within at_end for_held
