-- Describes code: functions that read from tokens and mirror the metagrammar rules from Grammar to Primary. The
-- contracts of the reader's private functions use them. It is proved that they agree with the metagrammar.
use Rattle.std.specs.Prelude.{ℕ, zero, suc, max, ◌+◌, ◌-◌, Bool, true, false, not, ◌&&◌, List, [], ◌∷◌, length, drop, Option}
use Rattle.std.specs.Prelude.{None, Some}
use Rattle.std.specs.Prelude.{Result, Ok, Err, option_map, unwrap_or, if◌then◌else◌}
use Rattle.peg_bytes.specs.Extent.{Extent, between}
use Rattle.peg_semantics.specs.Form as form
use Rattle.peg_semantics.specs.Form.{Form}
use Rattle.peg_semantics.specs.Rules.{Rule}
use Rattle.peg_lexer.specs.Lexical.{matcher_of}
use Rattle.peg_lexer.specs.Matchers.{PrefixMatch}
use Rattle.peg_metagrammar.specs.Ranges.{class_of}
use Rattle.peg_metagrammar.specs.Denotation.{Denotation, Bounds, bytes_in, ranges_in, numerals_in, part, sequence_spelled}
use Rattle.peg_metagrammar.specs.Denotation.{choice_spelled, bounds_spelled, bounds_in_range, counted_form}
use Rattle.peg_lexer.specs.Tokens.{Lexeme}
use Rattle.peg_lexer.specs.declared.token.TokenKind.{TokenKind}
use Rattle.peg_lexer.specs.declared.token.TokenKind.TheVariants.{Ident, Literal, Class, Arrow, Slash, And, Not}
use Rattle.peg_lexer.specs.declared.token.TokenKind.TheVariants.{Question, Star, Plus, Count, Open, Close, Dot}

-- why reading stops: an unexpected token, a parenthesis too many, or a count out of range
pub data ReadError : Type 0 where
  Unexpected : (at : ℕ) → ReadError
  TooDeepAt : (at : ℕ) → ReadError
  BadCountAt : (at : ℕ) → ReadError

-- An expression that was read, the number of its tokens, the offset where the text of the last token ends, and the
-- nesting depth of its parentheses.
pub record FormRead : Type 0 where
  pub form : Form
  pub token_count : ℕ
  pub last : ℕ
  pub depth : ℕ

-- several expressions that were read, in order
pub record FormsRead : Type 0 where
  pub forms : List Form
  pub token_count : ℕ
  pub last : ℕ
  pub depth : ℕ

-- a function that reads an expression, from the offset where the text of the token before it ends
abbrev pub Reading : Type 0
Reading = (before : ℕ) → List Lexeme → Result FormRead ReadError

-- ---- tokens

-- the offset where the first of these tokens starts, or the length of the file if there is none
abbrev pub place_of : (size : ℕ) → List Lexeme → ℕ
place_of size [] = size
place_of size (lexeme ∷ lexemes) = lexeme.text.start

-- whether a token is an arrow; and whether the next one is
abbrev pub is_arrow : TokenKind → Bool
is_arrow Arrow = true
is_arrow _ = false

abbrev pub starts_with_arrow : List Lexeme → Bool
starts_with_arrow [] = false
starts_with_arrow (lexeme ∷ lexemes) = is_arrow lexeme.kind

-- whether a token begins a prefix, where a name must not be followed by an arrow
abbrev pub kind_begins : TokenKind → (arrow_next : Bool) → Bool
kind_begins Ident true = false
kind_begins Ident false = true
kind_begins Literal arrow_next = true
kind_begins Class arrow_next = true
kind_begins And arrow_next = true
kind_begins Not arrow_next = true
kind_begins Open arrow_next = true
kind_begins Dot arrow_next = true
kind_begins _ arrow_next = false

abbrev pub begins_prefix : List Lexeme → Bool
begins_prefix [] = false
begins_prefix (lexeme ∷ lexemes) = kind_begins lexeme.kind (starts_with_arrow lexemes)

-- the pieces that a token's text denotes
abbrev pub pieces_of : List ℕ → Lexeme → List Denotation
pieces_of file lexeme =
    unwrap_or (option_map (λ (piece : PrefixMatch). piece.spells) (matcher_of lexeme.kind
    (drop lexeme.text.start file))) []

-- the bounds that a count's text denotes
abbrev pub bounds_of_lexeme : List ℕ → Lexeme → Bounds
bounds_of_lexeme file lexeme = bounds_spelled (numerals_in (pieces_of file lexeme))

-- whether a token is a count; and whether it is a count that is out of range
abbrev pub is_count : TokenKind → Bool
is_count Count = true
is_count _ = false

abbrev pub is_bad_count : List ℕ → Lexeme → Bool
is_bad_count file lexeme = is_count lexeme.kind && not (bounds_in_range (bounds_of_lexeme file lexeme))

-- ---- sequencing

-- continue with what was read, or stop
abbrev pub and_read : {X Y : Type 0} → Result X ReadError → (X → Result Y ReadError) → Result Y ReadError
and_read (Ok x) next = next x
and_read (Err halt) next = Err halt

-- an expression of one token
abbrev pub one_token : Form → Lexeme → Result FormRead ReadError
one_token value lexeme = Ok (record { form = value; token_count = 1; last = lexeme.text.end; depth = 0 })

-- an expression after `token_count` other tokens
abbrev pub after_tokens : (token_count : ℕ) → FormRead → FormRead
after_tokens token_count part = record part { token_count = token_count + part.token_count }

-- ---- Primary

-- A closing parenthesis. If there is a name instead, the token after it is the unexpected one.
abbrev pub close_of : (size : ℕ) → FormRead → Lexeme → List Lexeme → TokenKind → Result FormRead ReadError
close_of size inside lexeme more Close =
    Ok (record { form = inside.form; token_count = inside.token_count + 2; last = lexeme.text.end; depth = inside.depth + 1 })
close_of size inside lexeme more Ident = Err (Unexpected (place_of size more))
close_of size inside lexeme more _ = Err (Unexpected lexeme.text.start)

abbrev pub closed_form : (size : ℕ) → FormRead → List Lexeme → Result FormRead ReadError
closed_form size inside [] = Err (Unexpected size)
closed_form size inside (lexeme ∷ more) = close_of size inside lexeme more lexeme.kind

-- an expression in parentheses, if one more may be open
abbrev pub parenthesized : Option Reading → (size : ℕ) → Lexeme → List Lexeme → Result FormRead ReadError
parenthesized None size opening rest = Err (TooDeepAt opening.text.start)
parenthesized (Some inner) size opening rest =
    and_read (inner opening.text.end rest) (λ (inside : FormRead). closed_form size inside
    (drop inside.token_count rest))

-- a name that isn't followed by an arrow
abbrev pub named : List ℕ → Lexeme → List Lexeme → Result FormRead ReadError
named file lexeme rest =
    if starts_with_arrow rest then Err (Unexpected (place_of (length file) rest)) else one_token
    (form.Name (part file lexeme.text.start lexeme.text.end) lexeme.text) lexeme

abbrev pub primary_of : List ℕ → Option Reading → Lexeme → List Lexeme → TokenKind → Result FormRead ReadError
primary_of file inner lexeme rest Ident = named file lexeme rest
primary_of file inner lexeme rest Literal = one_token (form.Literal
    (bytes_in (pieces_of file lexeme)) lexeme.text) lexeme
primary_of file inner lexeme rest Class = one_token (form.Class (class_of
    (ranges_in (pieces_of file lexeme))) lexeme.text) lexeme
primary_of file inner lexeme rest Dot = one_token (form.Any lexeme.text) lexeme
primary_of file inner lexeme rest Open = parenthesized inner (length file) lexeme rest
primary_of file inner lexeme rest _ = Err (Unexpected lexeme.text.start)

unfoldable pub primary : List ℕ → Option Reading → List Lexeme → Result FormRead ReadError
primary file inner [] = Err (Unexpected (length file))
primary file inner (lexeme ∷ rest) = primary_of file inner lexeme rest lexeme.kind

-- ---- Suffix and Prefix

abbrev pub suffix_sign : List ℕ → Lexeme → TokenKind → Option (Form → Extent → Form)
suffix_sign file lexeme Question = Some form.Optional
suffix_sign file lexeme Star = Some form.Star
suffix_sign file lexeme Plus = Some form.Plus
suffix_sign file lexeme Count = Some (counted_form (bounds_of_lexeme file lexeme))
suffix_sign file lexeme _ = None

abbrev pub with_suffix : (start : ℕ) → FormRead → Lexeme → Option (Form → Extent → Form) → FormRead
with_suffix start part lexeme None = part
with_suffix start part lexeme (Some sign) =
    record {
      form = sign part.form
          (between start lexeme.text.end);
      token_count = part.token_count + 1;
      last = lexeme.text.end;
      depth = part.depth;
    }

-- an expression with the operator or count after it, unless that is a count out of range
abbrev pub with_token : List ℕ → (start : ℕ) → FormRead → Lexeme → Result FormRead ReadError
with_token file start part lexeme =
    if is_bad_count file lexeme then Err (BadCountAt lexeme.text.start) else Ok
    (with_suffix start part lexeme (suffix_sign file lexeme lexeme.kind))

abbrev pub then_suffix : List ℕ → (start : ℕ) → FormRead → List Lexeme → Result FormRead ReadError
then_suffix file start part [] = Ok part
then_suffix file start part (lexeme ∷ more) = with_token file start part lexeme

unfoldable pub suffix : List ℕ → Option Reading → List Lexeme → Result FormRead ReadError
suffix file inner lexemes =
    and_read (primary file inner lexemes) (λ (part : FormRead). then_suffix file (place_of (length file) lexemes) part
    (drop part.token_count lexemes))

abbrev pub prefix_sign : TokenKind → Option (Form → Extent → Form)
prefix_sign And = Some form.And
prefix_sign Not = Some form.Not
prefix_sign _ = None

abbrev pub with_prefix : (start : ℕ) → (Form → Extent → Form) → FormRead → FormRead
with_prefix start sign part =
    record {
      form = sign part.form
          (between start part.last);
      token_count = 1 + part.token_count;
      last = part.last;
      depth = part.depth;
    }

abbrev pub prefix_of : List ℕ → Option Reading → Lexeme → List Lexeme → Option (Form → Extent → Form)
    → Result FormRead ReadError
prefix_of file inner lexeme rest None = suffix file inner (lexeme ∷ rest)
prefix_of file inner lexeme rest (Some sign) =
    and_read (suffix file inner rest) (λ (part : FormRead). Ok (with_prefix lexeme.text.start sign part))

unfoldable pub prefix : List ℕ → Option Reading → List Lexeme → Result FormRead ReadError
prefix file inner [] = suffix file inner []
prefix file inner (lexeme ∷ rest) = prefix_of file inner lexeme rest (prefix_sign lexeme.kind)

-- ---- Sequence and Expression

-- an empty list of expressions
abbrev pub no_more : (last : ℕ) → FormsRead
no_more last = record { forms = []; token_count = 0; last = last; depth = 0 }

abbrev pub and_form : FormRead → FormsRead → FormsRead
and_form part parts =
    record {
      forms = part.form ∷
          parts.forms;
      token_count = part.token_count + parts.token_count;
      last = parts.last;
      depth = max part.depth parts.depth;
    }

-- expressions one after the other while the next one can begin, after `skipped` more tokens of the expression before
unfoldable pub many_forms_after : (List Lexeme → Bool) → Reading → (before : ℕ) → List Lexeme → (skipped : ℕ)
    → Result FormsRead ReadError
many_forms_after begins read before [] skipped = Ok (no_more before)
many_forms_after begins read before (lexeme ∷ rest) zero =
    if begins (lexeme ∷ rest) then and_read (read before (lexeme ∷ rest))
    (λ (part : FormRead). and_read (many_forms_after begins read part.last rest (part.token_count - 1))
    (λ (parts : FormsRead). Ok (and_form part parts))) else Ok (no_more before)
many_forms_after begins read before (lexeme ∷ rest) (suc skipped) = many_forms_after begins read before rest skipped

abbrev pub many_forms : (List Lexeme → Bool) → Reading → (before : ℕ) → List Lexeme → Result FormsRead ReadError
many_forms begins read before lexemes = many_forms_after begins read before lexemes 0

abbrev pub whole_sequence : (before start : ℕ) → FormsRead → FormRead
whole_sequence before start parts =
    record {
      form = sequence_spelled before
          (between start parts.last) parts.forms;
      token_count = parts.token_count;
      last = parts.last;
      depth = parts.depth;
    }

unfoldable pub sequence : List ℕ → Option Reading → Reading
sequence file inner before lexemes =
    and_read (many_forms begins_prefix (λ before. prefix file inner) before lexemes)
    (λ (parts : FormsRead). Ok (whole_sequence before (place_of (length file) lexemes) parts))

abbrev pub is_slash : TokenKind → Bool
is_slash Slash = true
is_slash _ = false

abbrev pub starts_with_slash : List Lexeme → Bool
starts_with_slash [] = false
starts_with_slash (lexeme ∷ lexemes) = is_slash lexeme.kind

-- a slash and the sequence after it
unfoldable pub alternative : List ℕ → Option Reading → Reading
alternative file inner before [] = Err (Unexpected (length file))
alternative file inner before (slash ∷ rest) =
    and_read (sequence file inner slash.text.end rest) (λ (part : FormRead). Ok (after_tokens 1 part))

abbrev pub whole_choice : (start : ℕ) → FormRead → FormsRead → FormRead
whole_choice start first more =
    record {
      form = choice_spelled (between start more.last)
          (first.form ∷
          more.forms);
      token_count = first.token_count + more.token_count;
      last = more.last;
      depth = max first.depth more.depth;
    }

abbrev pub expression : List ℕ → Option Reading → Reading
expression file inner before lexemes =
    and_read (sequence file inner before lexemes) (λ (first : FormRead). and_read
    (many_forms starts_with_slash (alternative file inner) first.last (drop first.token_count lexemes))
    (λ (more : FormsRead). Ok (whole_choice (place_of (length file) lexemes) first more)))

-- an expression in which at most this number of parentheses may be open at once
unfoldable pub expression_in : List ℕ → ℕ → Reading
expression_in file zero = expression file None
expression_in file (suc n) = expression file (Some (expression_in file n))

-- ---- Definition and Grammar

-- a rule that was read, the number of its tokens, and the nesting depth of its parentheses
pub record RuleRead : Type 0 where
  pub rule : Rule
  pub token_count : ℕ
  pub depth : ℕ

-- the rules that were read
pub record RulesRead : Type 0 where
  pub rules : List Rule
  pub depth : ℕ

abbrev pub and_rules : RuleRead → RulesRead → RulesRead
and_rules first more = record { rules = first.rule ∷ more.rules; depth = max first.depth more.depth }

abbrev pub rule_read : List ℕ → Lexeme → FormRead → RuleRead
rule_read file name part_read =
    record {
      rule = record {
        name = part file name.text.start name.text.end;
        span = name.text;
        body = part_read.form;
      };
      token_count = 2 + part_read.token_count;
      depth = part_read.depth;
    }

-- an arrow and an expression after a name
abbrev pub definition_after : List ℕ → (bound : ℕ) → Lexeme → List Lexeme → Bool → Result RuleRead ReadError
definition_after file bound name [] arrow_next = Err (Unexpected (length file))
definition_after file bound name (arrow ∷ rest) false = Err (Unexpected arrow.text.start)
definition_after file bound name (arrow ∷ rest) true =
    and_read (expression_in file bound arrow.text.end rest) (λ (body : FormRead). Ok (rule_read file name body))

abbrev pub definition_of : List ℕ → (bound : ℕ) → Lexeme → List Lexeme → TokenKind → Result RuleRead ReadError
definition_of file bound lexeme rest Ident = definition_after file bound lexeme rest (starts_with_arrow rest)
definition_of file bound lexeme rest _ = Err (Unexpected lexeme.text.start)

unfoldable pub definition : List ℕ → (bound : ℕ) → List Lexeme → Result RuleRead ReadError
definition file bound [] = Err (Unexpected (length file))
definition file bound (lexeme ∷ rest) = definition_of file bound lexeme rest lexeme.kind

-- definitions one after the other up to the end, after `skipped` more tokens of the definition before
unfoldable pub definitions_after : List ℕ → (bound : ℕ) → List Lexeme → (skipped : ℕ) → Result RulesRead ReadError
definitions_after file bound [] skipped = Ok (record { rules = []; depth = 0 })
definitions_after file bound (lexeme ∷ rest) zero =
    and_read (definition file bound (lexeme ∷ rest)) (λ (first : RuleRead). and_read
    (definitions_after file bound rest (first.token_count - 1)) (λ (more : RulesRead). Ok (and_rules first more)))
definitions_after file bound (lexeme ∷ rest) (suc skipped) = definitions_after file bound rest skipped

-- at least one definition
unfoldable pub grammar : List ℕ → (bound : ℕ) → List Lexeme → Result RulesRead ReadError
grammar file bound [] = Err (Unexpected (length file))
grammar file bound (lexeme ∷ rest) = definitions_after file bound (lexeme ∷ rest) 0
