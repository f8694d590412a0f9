mod GapLemmas
mod FlagLemmas
