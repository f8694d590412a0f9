pub mod FieldPairs
pub mod HandleSends
pub mod HandleSteps
pub mod Options
pub mod RawBoxSteps
