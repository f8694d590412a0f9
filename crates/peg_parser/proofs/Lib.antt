mod AcceptLemmas
mod CheckLemmas
mod CoreStarts
mod CutLemmas
pub mod DefinitionLemmas
mod FigureCode
mod FigureGrammar
mod FigureReading
mod GrammarRefusalLemmas
mod NameLemmas
mod ParseLemmas
pub mod OutcomeFits
pub mod Readings
pub mod RuleNames
mod StartLemmas
mod StepLemmas
mod TraceLemmas
