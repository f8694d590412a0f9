-- What an explanation says about a grammar file and a text.
use Rattle.std.specs.Prelude.{◌≡◌, ℕ, false, if◌then◌else◌, List, IfSome, Option, None, Some, length, map}
use Rattle.peg_bytes.specs.Extent.{extent}
use Rattle.peg_explain.specs.Explainers.{IsBlameOf}
use Rattle.peg_explain.specs.Explanations.{IsMismatchIn, IsMismatchMessage}
use Rattle.peg_explain.specs.declared.mismatch.Mismatch.{Mismatch}
use Rattle.peg_explain.specs.Styles.{style_of}
use Rattle.peg_explain.specs.declared.style.ItemStyle.{ItemStyle}
use Rattle.peg_parser.specs.Parser.{parser_rules}
use Rattle.peg_semantics.specs.Rules.{Rule}
use Rattle.peg_semantics.specs.Starts.{start_name}
use Rattle.peg_handle.specs.FileSpans.{file_span}
use Rattle.peg_handle.specs.declared.content.Explanation.{Explanation}
use Rattle.peg_handle.specs.declared.content.GrammarFile.{GrammarFile}
use Rattle.peg_handle.specs.declared.content.TextExplainer.{TextExplainer}
use Rattle.peg_handle.specs.declared.explanation_calls.MismatchInfo.{MismatchInfo}

-- rules are named in place of their parts, and the rules of other items aren't shown
abbrev pub named_style : ItemStyle
named_style = style_of false false

-- an explanation shows a mismatch: its position, the items that are expected there, and the message for it
pub record ShowsMismatch (file : List ℕ) (rules : List Rule) (name text : List ℕ) (mismatch : Mismatch)
    (explanation : Explanation) : Type 0 where
  pub message : IsMismatchMessage file rules named_style name text mismatch explanation.message.items
  pub at : explanation.at ≡ mismatch.at
  pub expected : explanation.expected.items ≡ map (λ item. file_span (extent item.span)) mismatch.expected.items
  pub end : explanation.is_end_expected ≡ mismatch.is_end_expected

-- there is an explanation exactly for a mismatch, and it shows the mismatch
abbrev pub Explains : (file : List ℕ) → List Rule → (name text : List ℕ) → Option Mismatch → Option Explanation → Type 0
Explains file rules name text None None = Unit {0}
Explains file rules name text (Some mismatch) (Some explanation) = ShowsMismatch file rules name text mismatch explanation
Explains file rules name text mismatch explanation = ⊥

-- the explanation of a text from a start; none if the text matches as a whole
abbrev pub IsExplanationOf : GrammarFile → (name text : List ℕ) → (start : Option (List ℕ)) → Option Explanation → Type 0
IsExplanationOf grammar name text start explanation =
    IfSome (start_name (parser_rules grammar.parser) start) (λ from.
    (mismatch : Option Mismatch)
    × IsMismatchIn (parser_rules grammar.parser) named_style text from mismatch
    × Explains grammar.bytes.items (parser_rules grammar.parser) name text mismatch explanation)

-- the parser of blame is that of the grammar, or the grammar has none
abbrev pub IsCompiled : TextExplainer → Type 0
IsCompiled explainer = IsBlameOf (parser_rules explainer.grammar.parser) explainer.blames

-- an explanation without its message
abbrev pub mismatch_info : Explanation → MismatchInfo
mismatch_info explanation = record {
  position = explanation.at;
  end_expected = if explanation.is_end_expected then 1 else 0;
  expected = length explanation.expected.items;
}
