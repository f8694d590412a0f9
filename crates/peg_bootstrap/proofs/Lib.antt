pub mod Inversions
mod CountNodes
mod Facts
mod ListFacts
mod Loops
mod NodeSpells
mod PrimaryFacts
mod RuleFacts
mod Shapes
pub mod TokenNodes
mod Values
mod Walks
