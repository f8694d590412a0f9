use Rattle.peg_machine.proofs.PackratLemmas.{begins_held, ends_held, ways_held}
use Rattle.peg_machine.proofs.packrat_laws.traced_pairs_are_in_memo_or_active.Goals as goal

pub returns : goal.returns
returns c = record { begins = begins_held; ends = ends_held; choice_points = ways_held }
