use Rattle.std.proofs.Common.{ℕ, ◌<◌, ◌≤◌, List, length, subst, arith}
use Rattle.std.specs.Io.KnownBytes.{IsAtEnd}
use Rattle.peg_json.specs.Statuses.{status_code}
use Rattle.peg_replies.specs.Replies.{IsPrintedJoined, max_joined_bytes}
use Rattle.peg_replies.proofs.RunLemmas.{right-held, IsPrintedJoined-front}
use Rattle.peg_replies.proofs.joined.joined_line.Goals as goal
use Rattle.peg_json.specs.Lines.{line_bytes}

pub returns-clause-answer : goal.returns-clause-answer
returns-clause-answer g c =
    let held = c.in_ok-bytes.bytes in
    let left = g.G.Source.left c.args.input.now in
    let line = line_bytes c.in_ok-line_for.field-0 in
    let status = status_code c.in_ok-line_for.field-0.status in
    let for_held = subst (λ (l : List ℕ). IsPrintedJoined l line status) c.deref.ensures.value c.in_ok-line_for.ensures in
    let within : length held.items ≤ max_joined_bytes = omega (arith, held.ok.0, c.in_ok-bytes.ensures.limit) in
    let at_end : length held.items < max_joined_bytes → IsAtEnd (g.G.Source.left c.read_up_to.new.input) =
    λ less. c.in_ok-bytes.ensures.end (omega (arith, held.ok.0)) in
    right-held IsPrintedJoined max_joined_bytes IsPrintedJoined-front left (g.G.Source.left c.read_up_to.new.input)
    held.items line status c.in_ok-bytes.ensures.bytes within at_end for_held
