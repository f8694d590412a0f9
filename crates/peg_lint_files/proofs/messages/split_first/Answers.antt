use Rattle.std.proofs.Common.{sym}
use Rattle.std.proofs.lemmas.List.{drop_all, take_all}
use Rattle.peg_lint_files.specs.WarningMessages.{max_messages}
use Rattle.peg_lint_files.proofs.messages.split_first.Goals as goal

pub returns-then-warnings-le-MAX_MESSAGES-clause-shown :
    goal.returns-then-warnings-le-MAX_MESSAGES-clause-shown
returns-then-warnings-le-MAX_MESSAGES-clause-shown c =
    sym (take_all max_messages c.args.warnings.now c.if-warnings-le-MAX_MESSAGES.true)

pub returns-then-warnings-le-MAX_MESSAGES-clause-left_out :
    goal.returns-then-warnings-le-MAX_MESSAGES-clause-left_out
returns-then-warnings-le-MAX_MESSAGES-clause-left_out c =
    sym (drop_all max_messages c.args.warnings.now c.if-warnings-le-MAX_MESSAGES.true)
