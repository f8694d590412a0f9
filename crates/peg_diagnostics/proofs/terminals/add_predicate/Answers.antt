use Rattle.std.proofs.Common.{arith}
use Rattle.peg_grammar.specs.Written.{form_of}
use Rattle.peg_diagnostics.proofs.NumberLoops.{terminals-quiet, next-number}
use Rattle.peg_diagnostics.proofs.terminals.add_predicate.Goals as goal

pub count_terminals-requires : goal.count_terminals-requires
count_terminals-requires c = let same = terminals-quiet (form_of c.args.part.now) in omega arith

pub overflow_add-first : goal.overflow_add-first
overflow_add-first c = let same = terminals-quiet (form_of c.args.part.now) in omega arith

pub add_number-requires : goal.add_number-requires
add_number-requires c = let same = terminals-quiet (form_of c.args.part.now) in omega arith

pub returns-clause-next : goal.returns-clause-next
returns-clause-next c =
    next-number c.add_number.result c.args.first c.count_terminals.result (form_of c.args.part.now)
    c.count_terminals.ensures c.add_number.ensures.next
