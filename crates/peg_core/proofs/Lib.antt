mod AddLemmas
pub mod CoreComplete
pub mod CoreRefutations
pub mod CoreRounds
pub mod CoreShown
pub mod CoreWithin
mod CountLemmas
pub mod EmptyParts
mod FlatLemmas
mod FormsAmong
mod LaidLemmas
pub mod Meanings
pub mod PartsLemmas
mod ReachedInSome
mod RuleLemmas
mod Sets
mod SlotLemmas
pub mod SubformLemmas
pub mod SugarLoops
pub mod SugarMeets
pub mod SugarOutcomes
pub mod SugarRecords
mod SugarWellFormed
