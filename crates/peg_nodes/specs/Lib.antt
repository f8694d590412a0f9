pub mod Expansion
pub mod Linked
pub mod OpenNodes
pub mod Invariant
pub mod Places
pub mod Ranges
