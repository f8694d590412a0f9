use Rattle.std.proofs.Common.{refl}
use Rattle.peg_parser.specs.Cause.{NoRule, TooManyParts}
use Rattle.peg_parser.specs.Faults.{of_cause}
use Rattle.peg_library_tests.proofs.messages.reasons_of_grammars_without_a_file_are_one_line.Goals as goal

pub assert_message-requires-clause-true_refusal : goal.assert_message-requires-clause-true_refusal
assert_message-requires-clause-true_refusal g c = of_cause NoRule refl tt tt tt

pub assert_message-requires-2-clause-true_refusal : goal.assert_message-requires-2-clause-true_refusal
assert_message-requires-2-clause-true_refusal g c = of_cause TooManyParts refl tt tt tt
