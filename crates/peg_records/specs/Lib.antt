pub mod Ahead
pub mod Readers
pub mod Records
