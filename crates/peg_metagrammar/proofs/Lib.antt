mod ClassSets
pub mod CountsInRange
pub mod FigureNames
pub mod FigureWellFormed
mod LineStarts
