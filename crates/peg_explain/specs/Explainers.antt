-- Describes code: what an `Explainer` is made of.
use Rattle.std.specs.Prelude.{◌≡◌, ℕ, List, Option, None, Some}
use Rattle.peg_blame.specs.BlameParser.{IsBlameParserOf}
use Rattle.peg_blame.specs.declared.blame_parser.BlameParser.{BlameParser}
use Rattle.peg_parser.specs.Parser.{parser_rules}
use Rattle.peg_semantics.specs.Rules.{Rule}
use Rattle.peg_explain.specs.Explanations.{HasNoBlameParser}
use Rattle.peg_explain.specs.declared.blames.Blames.{Blames}
use Rattle.peg_explain.specs.declared.blames.Blames.TheVariants.{Owned, Kept}
use Rattle.peg_explain.specs.declared.explainer.Explainer.{Explainer}

-- the parser of blame of these rules, or none if they have none
abbrev pub IsBlameOf : List Rule → Option BlameParser → Type 0
IsBlameOf rules (Some blames) = IsBlameParserOf rules blames
IsBlameOf rules None = HasNoBlameParser rules

-- the parser of blame that an explainer owns, or that is kept for several
abbrev pub blames_in : Blames → Option BlameParser
blames_in (Owned blames) = blames
blames_in (Kept blames) = blames.now

-- the explainer was made for a grammar file and a parser with these rules
pub record IsExplainerOf (file : List ℕ) (rules : List Rule) (explainer : Explainer) : Type 0 where
  pub has_file : explainer.file.now ≡ file
  pub has_parser : parser_rules explainer.parser.now ≡ rules
  pub blames : IsBlameOf rules (blames_in explainer.blames)
