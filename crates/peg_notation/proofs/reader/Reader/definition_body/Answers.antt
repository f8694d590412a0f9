use Rattle.std.proofs.Common.{rules, ◌+◌, ◌-◌, ℕ, List, length, take, drop, Ok, sym, ap, ◌∙◌, string_bytes}
use Rattle.peg_bytes.specs.Extent.{extent}
use Rattle.peg_grammar.specs.Written.{form_of}
use Rattle.peg_grammar.specs.declared.expr.Expr.{Expr}
use Rattle.peg_notation.specs.Reader.{starts_with_arrow, definition_after}
use Rattle.peg_notation.specs.ReaderCode.{lexemes, form_seen, AgreesOnError}
use Rattle.peg_notation.specs.ReaderFile.{file_of}
use Rattle.peg_metagrammar.specs.Nesting.{max_open}
use Rattle.peg_lexer.specs.Tokens.{lexeme_of}
use Rattle.peg_notation.proofs.ReaderSteps.{front_token, following_fault, following_read}
use Rattle.peg_notation.proofs.TokenTexts.{name-here}
use Rattle.peg_notation.proofs.reader.Reader.definition_body.Goals as goal

pub returns-in_err-body-in-len1-up-clause-read : goal.returns-in_err-body-in-len1-up-clause-read
returns-in_err-body-in-len1-up-clause-read c =
    let file = file_of c.args.self.now in
    let tokens = c.args.rest.now in
    let fault = c.in_err-body-in-len1-up.field-0.0 in
    let stated : AgreesOnError (definition_after file max_open (lexeme_of c.args.name) (lexemes tokens) (starts_with_arrow (lexemes tokens))) fault =
    following_fault file max_open (lexeme_of c.args.name) (lexemes tokens) (lexeme_of c.arrow-item.result)
    (lexemes (take (length tokens - 1) (drop 1 tokens))) fault
    (front_token tokens c.arrow-item.result c.in-len1-up.len_at_least c.arrow-item.is)
    (sym c.starts_with_arrow.ensures ∙ c.if-starts_with_arrow.true) c.in_err-body-in-len1-up.ensures.read in
    search (rules, stated)

pub name_text-requires : goal.name_text-requires
name_text-requires c = name-here (file_of c.args.self.now) (lexeme_of c.args.name) c.requires.text c.requires.ident

pub returns-in_ok-name_text-in-len1-up-clause-read : goal.returns-in_ok-name_text-in-len1-up-clause-read
returns-in_ok-name_text-in-len1-up-clause-read c =
    let file = file_of c.args.self.now in
    let tokens = c.args.rest.now in
    let body = c.in_ok-body-in-len1-up.body in
    following_read file max_open (lexeme_of c.args.name) (lexemes tokens) (lexeme_of c.arrow-item.result)
    (lexemes (take (length tokens - 1) (drop 1 tokens))) (form_seen body)
    (front_token tokens c.arrow-item.result c.in-len1-up.len_at_least c.arrow-item.is)
    (sym c.starts_with_arrow.ensures ∙ c.if-starts_with_arrow.true) c.in_ok-body-in-len1-up.ensures.read
    ∙ ap (λ (name : List ℕ). Ok (record {
      rule = record {
        name = name;
        span = extent c.args.name.span;
        body = form_of body.expression.value;
      };
      token_count = 2 + body.token_count;
      depth = body.depth;
    })) (sym c.in_ok-name_text-in-len1-up.ensures)
    ∙ ap (λ (e : Expr). Ok (record {
      rule = record {
        name = string_bytes c.in_ok-name_text-in-len1-up.field-0;
        span = extent c.args.name.span;
        body = form_of e;
      };
      token_count = 2 + body.token_count;
      depth = body.depth;
    })) (sym c.into_inner.ensures)
