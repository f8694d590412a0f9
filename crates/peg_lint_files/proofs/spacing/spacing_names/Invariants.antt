use Rattle.std.proofs.Common.{◌≡◌, filter, map}
use Rattle.std.specs.List.{range_with_len}
use Rattle.peg_grammar.specs.GrammarRules.{rules_in}
use Rattle.peg_semantics.specs.Rules.{name_of}
use Rattle.peg_spacing.specs.Spacing.{has_flag}
use Rattle.peg_lint_files.proofs.spacing.spacing_names.Given as goal

-- the names of the first rules that have a flag
abbrev pub invariant-rules : goal.invariant-rules
invariant-rules l =
    map (λ name. name.now) l.list.items
    ≡ map (name_of (rules_in l.grammar)) (filter (has_flag l.flags.items) (range_with_len 0 l.rule))
