use Rattle.peg_c.proofs.HandleSends.{handle_send}
use Rattle.peg_c.proofs.laws.any_thread_may_take_over_a_handle.Goals as goal

pub returns : goal.returns
returns c = handle_send c.contents_cross_threads.ensures.send c.contents_cross_threads.ensures.sync
