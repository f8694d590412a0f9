mod EndLemmas
pub mod JudgeLemmas
mod LintLemmas
mod ListedNames
pub mod ParsedLines
mod PreparedLemmas
mod ProfiledLines
mod RecordLemmas
pub mod RunLemmas
mod SelectedAnswers
mod WriteLemmas
