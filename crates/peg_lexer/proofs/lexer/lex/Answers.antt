use Rattle.std.proofs.Common.{◌≡◌, ◌+◌, List, [], ◌∷◌, ◌++◌, map, sym, ap, ◌∙◌, subst, arith}
use Rattle.std.proofs.lemmas.List.{map-append}
use Rattle.peg_bytes.specs.Extent.{Extent, extent, between}
use Rattle.peg_lexer.specs.Tokens.{Lexeme, lexeme_of, IsTokenized}
use Rattle.peg_lexer.specs.declared.token.Token.{Token}
use Rattle.peg_lexer.specs.LexicalCode.{view_of_scanned}
use Rattle.peg_lexer.proofs.PieceLemmas.{length-from}
use Rattle.peg_lexer.proofs.Lexemes.{lexeme_at, lex-start, lex-more, lex-fault}
use Rattle.peg_lexer.proofs.lexer.lex.Goals as goal

pub tokens-init : goal.tokens-init
tokens-init c = record {
  within = omega (arith, c.spacing-at.ensures.fits);
  short = omega arith;
  begins =
      subst (λ (tokens : List Token). IsTokenized c.args.file.now (map lexeme_of tokens) c.spacing-at.result)
      (sym c.new-tokens.ensures.items)
      (subst (λ end. IsTokenized c.args.file.now [] end) (sym c.spacing-at.ensures.value) (lex-start c.args.file.now));
}

pub returns-in_default : goal.returns-in_default
returns-in_default c = (
  c.tokens.invariant.short,
  lex-fault c.args.file.now
      (map lexeme_of c.tokens.tokens.items) c.tokens.at c.tokens.invariant.begins c.tokens-test.true
      (sym c.token.ensures.value ∙ ap view_of_scanned c.in_default.is),
)

pub tokens-preserved : goal.tokens-preserved
tokens-preserved c =
    let kind = c.in-Some.front.kind in
    let size = c.in-Some.front.length in
    let more = lex-more c.args.file.now
    (map lexeme_of c.tokens.tokens.items) c.tokens.at kind size c.tokens.invariant.begins
    (sym c.in-Some.ensures.value) in
    let text : extent c.new.result ≡ between c.tokens.at (c.tokens.at + size) =
    ap (λ start. between start c.new.result.end) c.new.ensures.start ∙ ap (between c.tokens.at) c.new.ensures.end in
    let pushed : map lexeme_of c.push.new.self.items ≡ map lexeme_of c.tokens.tokens.items
    ++ lexeme_at kind c.tokens.at size ∷ [] =
    ap (map lexeme_of) c.in_ok-push.ensures.items ∙ (map-append lexeme_of c.tokens.tokens.items _
    ∙ ap (λ (extent : Extent). map lexeme_of c.tokens.tokens.items ++ record { kind = kind; text = extent } ∷
    []) text) in
    record {
      within = omega (
        arith,
        length-from
            (c.tokens.at + size) c.args.file.now,
        length-from c.tokens.at c.args.file.now,
        c.spacing.ensures.fits,
        c.in-Some.ensures.fits,
        c.tokens.invariant.within,
      );
      short = c.tokens.invariant.short;
      begins =
          subst (λ (lexemes : List Lexeme). IsTokenized c.args.file.now lexemes (c.tokens.at + size + c.spacing.result))
          (sym pushed)
          (subst (λ gap. IsTokenized c.args.file.now (map lexeme_of c.tokens.tokens.items
          ++ lexeme_at kind c.tokens.at size ∷
          []) (c.tokens.at + size + gap)) (sym c.spacing.ensures.value) more);
    }
