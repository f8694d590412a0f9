pub mod Counts
pub mod Positions
pub mod Profiles
