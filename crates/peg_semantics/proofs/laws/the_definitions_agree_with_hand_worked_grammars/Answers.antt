use Rattle.std.proofs.Common.{refl}
use Rattle.peg_semantics.specs.Examples.{nested_record, abc_record, ordered_record, repeated_prefix_record}
use Rattle.peg_semantics.specs.Examples.{three_record, too_few_record, four_record}
use Rattle.peg_semantics.specs.Record.{record_in}
use Rattle.peg_semantics.proofs.FurthestLemmas.{furthest_of-is}
use Rattle.peg_semantics.proofs.laws.the_definitions_agree_with_hand_worked_grammars.Goals as goal

pub returns : goal.returns
unfolding record_in
returns c = record {
  nested = record { recognized = (16, refl); furthest = furthest_of-is nested_record.tests };
  abc_grammar = record { recognized = (16, refl); furthest = furthest_of-is abc_record.tests };
  ordered = record { recognized = (4, refl); furthest = furthest_of-is ordered_record.tests };
  repeated_prefix = record { recognized = (16, refl); furthest = furthest_of-is repeated_prefix_record.tests };
  three = record { recognized = (4, refl); furthest = furthest_of-is three_record.tests };
  too_few = record { recognized = (4, refl); furthest = furthest_of-is too_few_record.tests };
  four = record { recognized = (4, refl); furthest = furthest_of-is four_record.tests };
}
