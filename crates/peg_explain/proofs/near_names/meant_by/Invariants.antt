use Rattle.std.proofs.Common.{◌≡◌, drop}
use Rattle.peg_grammar.specs.Written.{rules_of}
use Rattle.peg_semantics.specs.Rules.{names}
use Rattle.peg_explain.specs.NearNames.{meant_by}
use Rattle.peg_explain.proofs.near_names.meant_by.Given as goal

-- none of the definitions so far may be meant
abbrev pub invariant-definitions : goal.invariant-definitions
invariant-definitions l =
    meant_by (names (rules_of l.definitions)) l.name
    ≡ meant_by (names (rules_of (drop l.definition-index l.definitions))) l.name
