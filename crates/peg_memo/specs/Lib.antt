pub mod MemoMap
pub mod StoredResult
pub mod Memo
pub mod Stored
pub mod MemoKey
pub mod StoreState
