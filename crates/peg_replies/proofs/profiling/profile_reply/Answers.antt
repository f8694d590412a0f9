use Rattle.std.proofs.Common.{subst, sym}
use Rattle.peg_parser.specs.Accepts.{Accepts}
use Rattle.peg_parser.specs.Parser.{parser_rules, start_named}
use Rattle.peg_replies.specs.Loaded.{IsLoadedFrom}
use Rattle.peg_replies.specs.Task.{ProfileTask}
use Rattle.peg_replies.proofs.RunLemmas.{task-reported}
use Rattle.peg_replies.proofs.profiling.profile_reply.Goals as goal

pub returns-in_ok-shown-in-Accepted-clause-answer : goal.returns-in_ok-shown-in-Accepted-clause-answer
returns-in_ok-shown-in-Accepted-clause-answer g c bytes is =
    let judged = subst (IsLoadedFrom c.args.file.now) c.in-Accepted.is c.in_ok-parser.ensures in
    task-reported c.read_and_profile.result
    (ProfileTask (start_named c.args.options.now) c.args.options.now.memo c.args.options.now.steps) c.args.file.now
    (g.T.Source.left c.args.text.now) bytes (is (parser_rules c.in-Accepted.parser) judged)
    (c.read_and_profile.ensures.answer c.args.file.now
    (subst (Accepts c.args.file.now) (sym c.in_ok-shown-in-Accepted.ensures.rules) judged))

pub returns-in_ok-shown-in-Accepted-clause-refused : goal.returns-in_ok-shown-in-Accepted-clause-refused
returns-in_ok-shown-in-Accepted-clause-refused g c none =
    absurd (none (parser_rules c.in-Accepted.parser) (subst (IsLoadedFrom c.args.file.now) c.in-Accepted.is c.in_ok-parser.ensures))
