use Rattle.std.proofs.Common.{◌+◌, ◌<◌, ◌≤◌, List, arith, length, ℕ}
use Rattle.std.specs.Io.KnownBytes.{IsAtEnd}
use Rattle.peg_metagrammar.specs.Notation.{max_file_bytes}
use Rattle.peg_tool.proofs.RecordCoverageLemmas.{prepared-held}
use Rattle.peg_tool.proofs.prepare_coverage.prepare_coverage.Goals as goal

pub returns-clause-prepared : goal.returns-clause-prepared
returns-clause-prepared g c =
    let held = c.in_ok-file.file in
    let within : length held.items ≤ max_file_bytes + 1 = omega (arith, held.ok.0, c.in_ok-file.ensures.limit) in
    let at_end : length held.items < max_file_bytes + 1 → IsAtEnd (g.G.Source.left c.read_up_to.new.input) =
    λ less. c.in_ok-file.ensures.end (omega (arith, held.ok.0)) in
    prepared-held c.in_ok-prepare_by_file.field-0 (g.G.Source.left c.args.grammar.now)
    (g.G.Source.left c.read_up_to.new.input) held.items c.in_ok-file.ensures.bytes within at_end
    c.in_ok-prepare_by_file.ensures.prepared
