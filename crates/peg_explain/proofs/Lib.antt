mod ExpectedLemmas
mod ExplanationLemmas
mod FileOrderLemmas
mod MappedLemmas
mod NamingLemmas
mod NearNameLemmas
mod PartLemmas
pub mod RefusalCauses
pub mod RefusalLemmas
mod SelectedLemmas
