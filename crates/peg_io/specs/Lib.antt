pub mod Device
pub mod FileSystem
pub mod Listing
pub mod NamedFile
pub mod OpenFaults
pub mod Reasons
pub mod Split
pub mod Transfer
