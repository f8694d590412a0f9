pub use Rattle.peg_bytes.specs.ByteSet
pub use Rattle.peg_semantics.specs.Form
pub use Rattle.peg_semantics.specs.Rules
pub use Rattle.peg_grammar.specs.GrammarRules
pub mod Gaps
pub mod Spacing
