-- Describes code: the models of the arguments and results of `AstBuilder`'s functions.
use Rattle.std.specs.Prelude.{◌≡◌, ℕ, List, [], ◌∷◌, string_bytes}
use Rattle.peg_bytes.specs.Extent.{extent}
use Rattle.peg_metagrammar.specs.Denotation as spelling
use Rattle.peg_metagrammar.specs.Denotation.{spelled, text_end}
use Rattle.peg_semantics.specs.Form.{Form}
use Rattle.peg_grammar.specs.Written.{form_of, rule_of}
use Rattle.peg_grammar.specs.declared.expr.Definition.{Definition}
use Rattle.peg_bootstrap.specs.declared.expressions.BuiltExpr.{BuiltExpr}
use Rattle.peg_bootstrap.specs.declared.expressions.RuleName.{RuleName}
use Rattle.peg_bootstrap.specs.declared.ast_builder.AstBuilder.{AstBuilder}
use Rattle.peg_tree.specs.Trees.{Trees}

abbrev pub file_in : AstBuilder → List ℕ
file_in builder = builder.file.now

-- the tree denotes this expression, after a token whose text ends at `before`, and the text of the tree ends at `last`
pub record Builds (file : List ℕ) (before : ℕ) (tree : Trees) (form : Form) (last : ℕ) : Type 0 where
  pub pieces : spelled file before tree ≡ spelling.Expression form ∷ []
  pub ends : text_end before tree ≡ last

-- the same for an expression in code; and after any token
abbrev pub BuildsAt : List ℕ → (before : ℕ) → Trees → BuiltExpr → Type 0
BuildsAt file before tree part = Builds file before tree (form_of part.expression) part.last

abbrev pub BuildsAnywhere : List ℕ → Trees → BuiltExpr → Type 0
BuildsAnywhere file tree part = (before : ℕ) → BuildsAt file before tree part

-- the tree denotes this name
pub record BuildsName (file : List ℕ) (tree : Trees) (rule_name : RuleName) : Type 0 where
  pub pieces : (before : ℕ) → spelled file before tree
      ≡ spelling.Word (string_bytes rule_name.name) (extent rule_name.span) ∷ []
  pub ends : (before : ℕ) → text_end before tree ≡ rule_name.span.end

-- the tree denotes this definition
abbrev pub BuildsRule : List ℕ → Trees → Definition → Type 0
BuildsRule file tree definition =
    (before : ℕ) → spelled file before tree ≡ spelling.Definition (rule_of definition) ∷ []
