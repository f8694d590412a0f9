pub mod ByteSetLemmas
mod PlaceLemmas
