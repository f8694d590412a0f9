mod Classes
mod CountTexts
pub mod Escapes
pub mod KindRules
pub mod Lexemes
pub mod OneLexing
pub mod PieceLemmas
pub mod PieceSizes
pub mod SpacingRules
pub mod Takes
pub mod TextRules
pub mod Texts
pub mod TokenRules
pub mod TokenSizes
pub mod TokenValues
