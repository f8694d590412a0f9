use Rattle.peg_memo.proofs.HeldLemmas.{get_inserted, get_other, found_after}
use Rattle.peg_memo.proofs.laws.a_stored_result_is_found.Goals as goal

pub returns : goal.returns
returns c = record { there = get_inserted; elsewhere = get_other; nothing_else = found_after }
