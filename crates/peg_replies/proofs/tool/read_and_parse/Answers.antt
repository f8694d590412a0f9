use Rattle.std.proofs.Common.{ℕ, ◌+◌, ◌<◌, ◌≤◌, List, length, subst, arith}
use Rattle.std.specs.Io.KnownBytes.{IsAtEnd}
use Rattle.peg_grammar.specs.Limits.{max_text_bytes}
use Rattle.peg_parser.specs.Parser.{parser_rules, start_named}
use Rattle.peg_json.specs.Lines.{line_bytes}
use Rattle.peg_json.specs.Statuses.{status_code}
use Rattle.peg_replies.specs.Commands.{nodes_asked, parse_task}
use Rattle.peg_replies.specs.Replies.{IsPrinted}
use Rattle.peg_replies.proofs.RunLemmas.{IsPrinted-text_front, parsed-printed, right-held}
use Rattle.peg_replies.proofs.tool.read_and_parse.Goals as goal

pub returns-clause-answer : goal.returns-clause-answer
returns-clause-answer g c file accepts =
    let printing = c.args.printing in
    let options = c.args.options.now in
    let nodes = nodes_asked printing.nodes in
    let rules = parser_rules c.args.parser in
    let held = c.in_ok-bytes.bytes in
    let line = line_bytes c.in_ok-parse_line.field-0 in
    let status = status_code c.in_ok-parse_line.field-0.status in
    let task = parse_task options printing in
    let IsRight = λ (text l : List ℕ) (s : ℕ). IsPrinted task file text l s in
    let for_held = subst (λ (text : List ℕ). IsRight text line status) c.deref.ensures.value
    (parsed-printed file c.deref.result.now rules (start_named options) options.memo options.steps printing.all printing.form
    nodes printing.with_bytes line status accepts c.requires.known (c.in_ok-parse_line.ensures file)) in
    let within : length held.items ≤ max_text_bytes + 1 = omega (arith, held.ok.0, c.in_ok-bytes.ensures.limit) in
    let at_end : length held.items < max_text_bytes + 1 → IsAtEnd (g.T.Source.left c.read_up_to.new.input) =
    λ less. c.in_ok-bytes.ensures.end (omega (arith, held.ok.0)) in
    right-held IsRight (max_text_bytes + 1) (IsPrinted-text_front task file) (g.T.Source.left c.args.text.now)
    (g.T.Source.left c.read_up_to.new.input) held.items line status c.in_ok-bytes.ensures.bytes within at_end for_held
