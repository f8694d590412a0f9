pub mod CoveringLemmas
mod RunLemmas
mod StreamLemmas
