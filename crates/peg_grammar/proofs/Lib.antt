mod BadCounts
mod CutLoops
pub mod LoopLemmas
mod NameLists
mod OutcomeLemmas
mod SeenLemmas
mod StepLemmas
mod TimesLemmas
pub mod WrittenForms
