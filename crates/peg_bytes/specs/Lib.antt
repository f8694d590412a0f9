pub mod AllFlags
pub mod ByteSet
pub mod EndsLine
pub mod Extent
pub mod Place
pub mod SetPool
