use Rattle.std.proofs.Common.{◌∙◌, arith}
use Rattle.peg_lexer.specs.declared.token.TokenKind.TheVariants as kind
use Rattle.peg_bootstrap.specs.AstBuilderCode.{file_in}
use Rattle.peg_bootstrap.proofs.TokenNodes.{token}
use Rattle.peg_bootstrap.proofs.Values.{name-here, name-fits, name-rule_name, name-ends}
use Rattle.peg_bootstrap.proofs.ast_builder.AstBuilder.rule_name.Goals as goal

pub new-span-requires : goal.new-span-requires
new-span-requires c =
    let t = token (file_in c.args.self.now) kind.Ident _ _ _ _ c.requires in omega (arith, t.last, c.token_end.ensures)

pub slice_bounds-name_text-end : goal.slice_bounds-name_text-end
slice_bounds-name_text-end c =
    let fits = name-fits (file_in c.args.self.now) _ _ _ _ _ _ c.new-span.ensures.start (c.new-span.ensures.end ∙ c.token_end.ensures)
    (token (file_in c.args.self.now) kind.Ident _ _ _ _ c.requires) in
    omega (arith, fits)

pub name_text-requires : goal.name_text-requires
name_text-requires c =
    name-here (file_in c.args.self.now) _ _ _ _ _ _ c.new-span.ensures.start (c.new-span.ensures.end ∙ c.token_end.ensures)
    (token (file_in c.args.self.now) kind.Ident _ _ _ _ c.requires)

pub returns-clause-spells : goal.returns-clause-spells
returns-clause-spells c =
    let t = token (file_in c.args.self.now) kind.Ident _ _ _ _ c.requires in
    record {
      pieces = name-rule_name (file_in c.args.self.now) _ _ _ _ _ _ c.new-span.ensures.start (c.new-span.ensures.end ∙ c.token_end.ensures)
          t _ c.in_ok-name.ensures;
      ends = name-ends (file_in c.args.self.now) _ _ _ _ _ _ c.new-span.ensures.start (c.new-span.ensures.end ∙ c.token_end.ensures) t;
    }
