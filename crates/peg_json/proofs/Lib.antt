mod AnswerLemmas
mod CoverageLemmas
pub mod ParseLemmas
pub mod PrintLemmas
mod ProfileLemmas
mod RefusalLemmas
mod RefusedLines
mod RowLines
mod Sent
