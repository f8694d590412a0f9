use Rattle.std.proofs.Common.{◌≡◌, drop, find, map}
use Rattle.peg_semantics.specs.Form.{forms, names_used_by_all}
use Rattle.peg_semantics.specs.Grammar.{is_unknown}
use Rattle.peg_grammar.specs.Names.{names_in}
use Rattle.peg_grammar.specs.Written.{form_of}
use Rattle.peg_grammar.proofs.names.+unknown.Given as goal

-- the result for the remaining items is the result for all items
abbrev pub invariant-unknown_among-loop-item : goal.invariant-unknown_among-loop-item
invariant-unknown_among-loop-item l =
    find (is_unknown (names_in l.names)) (names_used_by_all (forms (map form_of (drop l.item-index l.items))))
    ≡ find (is_unknown (names_in l.names)) (names_used_by_all (forms (map form_of l.items)))
