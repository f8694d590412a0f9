use Rattle.std.proofs.Common.{None, false, refl, subst, arith}
use Rattle.std.proofs.lemmas.Result.{IfOk-weaker}
use Rattle.peg_parser.specs.Parser.{parser_rules}
use Rattle.peg_json.specs.Statuses.{status_code}
use Rattle.peg_json.specs.declared.line.Line.{Line}
use Rattle.peg_json.specs.declared.tree_form.TreeForm.TheVariants.{Nested}
use Rattle.peg_replies.specs.Loaded.{IsLoadedFrom}
use Rattle.peg_replies.specs.PrintedNodes.{AllNodes}
use Rattle.peg_replies.specs.Replies.{IsPrintedJoined}
use Rattle.peg_replies.specs.Task.{default_memo}
use Rattle.peg_replies.proofs.RunLemmas.{split-shorter, parsed-printed}
use Rattle.peg_replies.proofs.joined.line_for.Goals as goal
use Rattle.peg_json.specs.Lines.{line_bytes}

pub load-requires : goal.load-requires
load-requires c =
    let shorter = split-shorter c.args.input.now c.split.result.0.now c.split.result.1.now c.split.ensures in
    omega (arith, shorter, c.requires)

pub returns-in-Accepted : goal.returns-in-Accepted
returns-in-Accepted c =
    let file = c.split.result.0.now in
    let text = c.split.result.1.now in
    let rules = parser_rules c.in-Accepted.parser in
    let judged = subst (IsLoadedFrom file) c.in-Accepted.is c.in_ok-parser.ensures in
    IfOk-weaker c.parse_line.result _
    (λ (line : Line). IsPrintedJoined c.args.input.now (line_bytes line) (status_code line.status))
    (λ line is. (
      file,
      text,
      c.split.ensures,
      parsed-printed file text rules None default_memo None false Nested AllNodes false (line_bytes line)
          (status_code line.status) judged refl is,
    ))
    (c.parse_line.ensures file)
