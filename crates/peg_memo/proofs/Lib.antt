mod AfterKeep
pub mod HeldLemmas
pub mod HeldPairs
pub mod Mapped
pub mod KeyOrder
