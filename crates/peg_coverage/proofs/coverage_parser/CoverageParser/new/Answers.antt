use Rattle.std.proofs.Common.{List, subst, sym}
use Rattle.peg_semantics.specs.Rules.{Rule}
use Rattle.peg_semantics.specs.WellFormed.{IsWellFormedGrammar}
use Rattle.peg_coverage.proofs.coverage_parser.CoverageParser.new.Goals as goal

pub of_grammar-requires : goal.of_grammar-requires
of_grammar-requires c =
    subst (λ (rules : List Rule). ∥ IsWellFormedGrammar rules ∥₁) (sym c.grammar.ensures) c.args.parser.now.engine.well_formed
