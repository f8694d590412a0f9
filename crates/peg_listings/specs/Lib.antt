pub mod ByteRuns
pub mod CodeText
pub mod Extents
pub mod LintText
pub mod Positions
pub mod TableText
