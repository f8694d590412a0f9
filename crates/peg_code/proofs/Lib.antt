pub mod CodeLemmas
pub mod LayoutLemmas
mod PlanLemmas
mod SlotLemmas
mod TaskLemmas
mod TestLemmas
mod WrittenSizeLemmas
