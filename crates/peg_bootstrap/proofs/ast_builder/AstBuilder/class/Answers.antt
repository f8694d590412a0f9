use Rattle.std.proofs.Common.{◌∙◌, arith}
use Rattle.peg_lexer.specs.declared.token.TokenKind.TheVariants as kind
use Rattle.peg_bootstrap.specs.AstBuilderCode.{file_in}
use Rattle.peg_bootstrap.proofs.TokenNodes.{token}
use Rattle.peg_bootstrap.proofs.Values.{says-same, class-here, class-says}
use Rattle.peg_bootstrap.proofs.ast_builder.AstBuilder.class.Goals as goal

pub new-span-requires : goal.new-span-requires
new-span-requires c =
    let t = token (file_in c.args.self.now) kind.Class _ _ _ _ c.requires in omega (arith, t.last, c.token_end.ensures)

pub slice_bounds-class_of_token-count : goal.slice_bounds-class_of_token-count
slice_bounds-class_of_token-count c =
    let t = token (file_in c.args.self.now) kind.Class _ _ _ _ c.requires in omega (arith, t.inside, c.new-span.ensures.start)

pub slice_bounds-class_of_token-start : goal.slice_bounds-class_of_token-start
slice_bounds-class_of_token-start c =
    let t = token (file_in c.args.self.now) kind.Class _ _ _ _ c.requires in omega (arith, t.inside, c.new-span.ensures.start)

pub class_of_token-requires : goal.class_of_token-requires
class_of_token-requires c =
    class-here (file_in c.args.self.now) _ _ _ _ _ _ c.new-span.ensures.start (c.new-span.ensures.end ∙ c.token_end.ensures)
    (token (file_in c.args.self.now) kind.Class _ _ _ _ c.requires)

pub returns-clause-spells : goal.returns-clause-spells
returns-clause-spells c before =
    says-same c.class_of.ensures.form c.class_of.ensures.last
    (class-says (file_in c.args.self.now) _ _ _ _ _ _ c.new-span.ensures.start (c.new-span.ensures.end ∙ c.token_end.ensures)
    (token (file_in c.args.self.now) kind.Class _ _ _ _ c.requires) _ c.in_ok-set.ensures before)
