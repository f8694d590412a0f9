use Rattle.peg_handle.proofs.reading.read.Goals as goal

pub rejection-requires-clause-cause : goal.rejection-requires-clause-cause
rejection-requires-clause-cause c = c.in-Err.ensures.refused

pub rejection-requires-clause-meaning : goal.rejection-requires-clause-meaning
rejection-requires-clause-meaning c = c.in-Err.ensures.wrong

pub rejection-requires-clause-definitions : goal.rejection-requires-clause-definitions
rejection-requires-clause-definitions c = c.in-Err.ensures.definitions
