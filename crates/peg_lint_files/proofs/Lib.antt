mod LintLemmas
mod SpacingLemmas
