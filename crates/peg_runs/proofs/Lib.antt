pub mod AccountEvents
pub mod AccountLemmas
pub mod CodeLemmas
mod Expectations
mod FailureSteps
mod FirstRecords
mod FurthestBySet
pub mod InstructionEvents
mod LocalRounds
pub mod NotedLemmas
pub mod PartialRunLemmas
mod RecordRuns
pub mod RowClosing
mod RunRules
pub mod ShownLemmas
mod Stacks
pub mod StartLemmas
mod StepRounds
mod StepsOfRecords
mod TasksTogether
mod WorkLemmas
