use Rattle.std.proofs.Common.{◌∙◌, arith}
use Rattle.peg_lexer.specs.declared.token.TokenKind.TheVariants as kind
use Rattle.peg_bootstrap.specs.AstBuilderCode.{file_in}
use Rattle.peg_bootstrap.proofs.TokenNodes.{token}
use Rattle.peg_bootstrap.proofs.Values.{says-same, literal-here, literal-says}
use Rattle.peg_bootstrap.proofs.ast_builder.AstBuilder.literal.Goals as goal

pub new-span-requires : goal.new-span-requires
new-span-requires c =
    let t = token (file_in c.args.self.now) kind.Literal _ _ _ _ c.requires in omega (arith, t.last, c.token_end.ensures)

pub slice_bounds-literal_bytes-count : goal.slice_bounds-literal_bytes-count
slice_bounds-literal_bytes-count c =
    let t = token (file_in c.args.self.now) kind.Literal _ _ _ _ c.requires in omega (arith, t.inside, c.new-span.ensures.start)

pub slice_bounds-literal_bytes-start : goal.slice_bounds-literal_bytes-start
slice_bounds-literal_bytes-start c =
    let t = token (file_in c.args.self.now) kind.Literal _ _ _ _ c.requires in omega (arith, t.inside, c.new-span.ensures.start)

pub literal_bytes-requires : goal.literal_bytes-requires
literal_bytes-requires c =
    literal-here (file_in c.args.self.now) _ _ _ _ _ _ c.new-span.ensures.start (c.new-span.ensures.end ∙ c.token_end.ensures)
    (token (file_in c.args.self.now) kind.Literal _ _ _ _ c.requires)

pub returns-clause-spells : goal.returns-clause-spells
returns-clause-spells c before =
    says-same c.literal_of.ensures.form c.literal_of.ensures.last
    (literal-says (file_in c.args.self.now) _ _ _ _ _ _ c.new-span.ensures.start (c.new-span.ensures.end ∙ c.token_end.ensures)
    (token (file_in c.args.self.now) kind.Literal _ _ _ _ c.requires) _ c.in_ok-bytes.ensures before)
