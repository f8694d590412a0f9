mod AnyExpression
pub mod AttemptLemmas
mod BlamedItems
pub mod BlameLemmas
mod BlameResults
pub mod DiagnosisLemmas
mod DiagnosticGrammar
mod DiagnosticOutcomes
pub mod DiagnosticWellFormed
mod Drops
mod EmptySet
mod ItemForms
pub mod ItemNumbers
mod KnownNames
pub mod Lookups
mod LoudRecords
pub mod MarkBounds
pub mod MarkedWellFormed
mod MarkLoops
pub mod MarkedGrammar
pub mod MarkedKept
mod MarkedLookups
mod MarkedOutcomes
mod MarkedRecords
mod NumberLoops
mod OperatorCopies
pub mod OwnStarts
mod Placement
mod RefusalLemmas
mod Renaming
mod RuleCopies
mod RuleLoops
mod Simulation
mod WrittenCopies
