mod CodeLemmas
mod LintLemmas
mod PositionLemmas
mod RunLemmas
pub mod SentText
mod TableLemmas
