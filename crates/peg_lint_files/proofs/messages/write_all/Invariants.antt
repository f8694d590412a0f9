use Rattle.std.proofs.Common.{◌≡◌, ◌++◌, length}
use Rattle.std.specs.List.{flat_map}
use Rattle.peg_lint_files.specs.WarningMessages.{warning_message}
use Rattle.peg_lint_files.proofs.messages.write_all.Given as goal

abbrev pub invariant-warnings : goal.invariant-warnings
invariant-warnings l =
    l.out.items ++ flat_map (warning_message l.name l.file) l.rest
    ≡ l.initial.out.items ++ flat_map (warning_message l.name l.file) l.warnings

abbrev pub decreases-warnings : goal.decreases-warnings
decreases-warnings l = length l.rest
