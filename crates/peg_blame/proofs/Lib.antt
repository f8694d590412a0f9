mod BlameCalls
pub mod BlameFaults
mod BlameOutcomes
mod BlameParses
mod BlameStarts
pub mod InTextLemmas
