mod CalledLemmas
mod CoverageLemmas
mod CoveredLemmas
mod StartLemmas
mod TracedLemmas
mod UnusedLemmas
