pub mod Ascending
pub mod CutGrammar
pub mod CutLoops
pub mod CutOutcomes
pub mod CutWellFormed
pub mod Derivations
mod EachHasAResult
pub mod EnoughDepth
mod FineForms
pub mod FurthestLemmas
pub mod GrammarLemmas
mod LoopFree
mod MeaningLemmas
mod RankedRules
pub mod RankedTables
pub mod RecordLemmas
pub mod ResultSteps
pub mod RoundsLemmas
pub mod RulesLemmas
mod SameParts
mod ShownOutcomes
mod StableRounds
mod States
pub mod TerminalLemmas
pub mod TestsAmongLemmas
pub mod TreeRules
