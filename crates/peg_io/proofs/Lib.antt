pub mod NamedFileLemmas
pub mod SplitLaws
mod TransferLemmas
