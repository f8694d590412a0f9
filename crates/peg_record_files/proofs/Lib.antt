pub mod FileLemmas
pub mod ReplyLemmas
mod RunLemmas
pub mod WeakerReplies
pub mod StreamLemmas
