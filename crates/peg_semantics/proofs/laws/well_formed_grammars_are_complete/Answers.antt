use Rattle.peg_semantics.proofs.EachHasAResult.{subexpression_has_record, name_has_record, start_has_record}
use Rattle.peg_semantics.proofs.laws.well_formed_grammars_are_complete.Goals as goal

pub returns-clause-subexpressions : goal.returns-clause-subexpressions
returns-clause-subexpressions c = subexpression_has_record

pub returns-clause-names : goal.returns-clause-names
returns-clause-names c = name_has_record

pub returns-clause-starts : goal.returns-clause-starts
returns-clause-starts c = start_has_record
