mod EndLemmas
mod MessageLemmas
