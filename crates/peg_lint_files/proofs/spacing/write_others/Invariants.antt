use Rattle.std.proofs.Common.{◌≡◌, ◌++◌, length, map}
use Rattle.std.specs.List.{flat_map}
use Rattle.peg_lint_files.specs.WarningMessages.{listed_name}
use Rattle.peg_lint_files.proofs.spacing.write_others.Given as goal

abbrev pub invariant-rules : goal.invariant-rules
invariant-rules l =
    l.out.items ++ flat_map listed_name (map (λ rule. rule.now) l.rest)
    ≡ l.initial.out.items ++ flat_map listed_name (map (λ rule. rule.now) l.rules)

abbrev pub decreases-rules : goal.decreases-rules
decreases-rules l = length l.rest
