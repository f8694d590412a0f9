pub mod Faults
pub mod Places
pub mod RecordReplies
pub mod Runs
pub mod Streams
