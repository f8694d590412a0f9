pub mod HandleOwns
pub mod Handles
pub mod StatusNames
