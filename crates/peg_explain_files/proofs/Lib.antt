pub mod ContentLemmas
pub mod ExplainedLemmas
mod FaultLemmas
mod ListFileLemmas
mod ListLemmas
mod PartLemmas
mod ProgressLemmas
mod ReportLemmas
mod SourceLemmas
mod SplitLemmas
pub mod StartLemmas
