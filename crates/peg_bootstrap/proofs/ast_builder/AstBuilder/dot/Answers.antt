use Rattle.std.proofs.Common.{◌∙◌, arith}
use Rattle.peg_lexer.specs.declared.token.TokenKind.TheVariants as kind
use Rattle.peg_bootstrap.specs.AstBuilderCode.{file_in}
use Rattle.peg_bootstrap.proofs.TokenNodes.{token}
use Rattle.peg_bootstrap.proofs.Values.{says-same, dot-says}
use Rattle.peg_bootstrap.proofs.ast_builder.AstBuilder.dot.Goals as goal

pub new-span-requires : goal.new-span-requires
new-span-requires c =
    let t = token (file_in c.args.self.now) kind.Dot _ _ _ _ c.requires in omega (arith, t.last, c.token_end.ensures)

pub returns-clause-spells : goal.returns-clause-spells
returns-clause-spells c before =
    says-same c.any_of.ensures.form c.any_of.ensures.last
    (dot-says (file_in c.args.self.now) _ _ _ _ _ _ c.new-span.ensures.start (c.new-span.ensures.end ∙ c.token_end.ensures)
    (token (file_in c.args.self.now) kind.Dot _ _ _ _ c.requires) before)
