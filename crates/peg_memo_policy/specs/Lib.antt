pub use Rattle.peg_memo.specs.MemoMap
pub use Rattle.peg_memo.specs.StoreState
pub use Rattle.peg_memo.specs.StoredResult
pub mod LinkedResults
pub mod RerunCost
pub mod RerunCosts
pub mod SelectiveStore
