pub mod ImageLemmas
pub mod CountLemmas
pub mod OpenLemmas
pub mod SoundLemmas
pub mod ChangeLemmas
pub mod RangeLemmas
pub mod FlatLemmas
