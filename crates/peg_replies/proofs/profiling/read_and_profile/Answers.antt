use Rattle.std.proofs.Common.{ℕ, ◌+◌, ◌<◌, ◌≤◌, List, length, subst, arith}
use Rattle.std.specs.Io.KnownBytes.{IsAtEnd}
use Rattle.peg_grammar.specs.Limits.{max_text_bytes}
use Rattle.peg_parser.specs.Parser.{start_named}
use Rattle.peg_json.specs.Lines.{line_bytes}
use Rattle.peg_json.specs.Statuses.{status_code}
use Rattle.peg_replies.specs.Replies.{IsPrinted, profiled}
use Rattle.peg_replies.specs.Task.{ProfileTask}
use Rattle.peg_replies.proofs.RunLemmas.{right-held, IsPrinted-text_front}
use Rattle.peg_replies.proofs.profiling.read_and_profile.Goals as goal

pub returns-clause-answer : goal.returns-clause-answer
returns-clause-answer g c file accepts =
    let held = c.in_ok-bytes.bytes in
    let task = ProfileTask (start_named c.args.options.now) c.args.options.now.memo c.args.options.now.steps in
    let line = line_bytes c.in_ok-line_of_text.field-0 in
    let status = status_code c.in_ok-line_of_text.field-0.status in
    let IsRight = λ (text l : List ℕ) (s : ℕ). IsPrinted task file text l s in
    let is = c.in_ok-line_of_text.ensures file in
    let for_held = subst (λ (text : List ℕ). IsRight text line status) c.deref.ensures.value
    (is.0, profiled accepts is.1, is.2, is.3) in
    let within : length held.items ≤ max_text_bytes + 1 = omega (arith, held.ok.0, c.in_ok-bytes.ensures.limit) in
    let at_end : length held.items < max_text_bytes + 1 → IsAtEnd (g.T.Source.left c.read_up_to.new.input) =
    λ less. c.in_ok-bytes.ensures.end (omega (arith, held.ok.0)) in
    right-held IsRight (max_text_bytes + 1) (IsPrinted-text_front task file) (g.T.Source.left c.args.text.now)
    (g.T.Source.left c.read_up_to.new.input) held.items line status c.in_ok-bytes.ensures.bytes within at_end for_held
