-- Where the reader stops: at the start of a token, or at the end of the file.
use Rattle.std.proofs.Common.{◌≡◌, ℕ, zero, suc, ◌-◌, Bool, true, false, List, [], ◌∷◌, length, drop, refl}
use Rattle.std.proofs.Common.{Option, None, Some, Result, Ok, Err, if◌then◌else◌}
use Rattle.peg_bytes.specs.Extent.{Extent}
use Rattle.peg_semantics.specs.Form as form
use Rattle.peg_semantics.specs.Form.{Form}
use Rattle.peg_notation.specs.Reader.{ReadError, Unexpected, TooDeepAt, BadCountAt, FormRead, FormsRead, Reading, place_of, starts_with_arrow, begins_prefix, and_read, one_token, no_more, and_form, close_of, closed_form, parenthesized, named, primary_of, primary, is_bad_count, suffix_sign, with_suffix, then_suffix, suffix, with_prefix, prefix_sign, prefix_of, prefix, many_forms_after, many_forms, whole_sequence, sequence, starts_with_slash, after_tokens, alternative, whole_choice, expression, expression_in, RuleRead, RulesRead, and_rules, rule_read, definition_after, definition_of, definition, definitions_after, grammar}
use Rattle.peg_metagrammar.specs.Denotation.{part}
use Rattle.peg_lexer.specs.Tokens.{Lexeme}
use Rattle.peg_lexer.specs.declared.token.TokenKind.{TokenKind}
use Rattle.peg_lexer.specs.declared.token.TokenKind.TheVariants as kind

-- the end of a file of this length, or the start of one of its tokens
pub data IsPlace (size : ℕ) : List Lexeme → ℕ → Type 0 where
  the_end : {lexemes : List Lexeme} {at : ℕ} → at ≡ size → IsPlace size lexemes at
  first : {lexeme : Lexeme} {more : List Lexeme} {at : ℕ} → at ≡ lexeme.text.start → IsPlace size (lexeme ∷ more) at
  later : {lexeme : Lexeme} {more : List Lexeme} {at : ℕ} → IsPlace size more at → IsPlace size (lexeme ∷ more) at

place_of-is : (size : ℕ) (lexemes : List Lexeme) → IsPlace size lexemes (place_of size lexemes)
place_of-is size [] = IsPlace.the_end refl
place_of-is size (lexeme ∷ more) = IsPlace.first refl

from_drop : (size n : ℕ) (lexemes : List Lexeme) (at : ℕ) → IsPlace size (drop n lexemes) at → IsPlace size lexemes at
from_drop size zero lexemes at is = is
from_drop size (suc n) [] at is = is
from_drop size (suc n) (lexeme ∷ more) at is = IsPlace.later (from_drop size n more at is)

-- the offset of an unexpected token is one of these
abbrev pub StopsAt : {X : Type 0} → ℕ → List Lexeme → Result X ReadError → Type 0
StopsAt size lexemes (Ok x) = Unit {0}
StopsAt size lexemes (Err (Unexpected at)) = IsPlace size lexemes at
StopsAt size lexemes (Err (TooDeepAt at)) = Unit {0}
StopsAt size lexemes (Err (BadCountAt at)) = Unit {0}

stops_later : {X : Type 0} (size : ℕ) (lexeme : Lexeme) (more : List Lexeme) (x : Result X ReadError) → StopsAt size more x
    → StopsAt size (lexeme ∷ more) x
stops_later size lexeme more (Ok x) is = tt
stops_later size lexeme more (Err (Unexpected at)) is = IsPlace.later is
stops_later size lexeme more (Err (TooDeepAt at)) is = tt
stops_later size lexeme more (Err (BadCountAt at)) is = tt

stops_drop : {X : Type 0} (size n : ℕ) (lexemes : List Lexeme) (x : Result X ReadError) → StopsAt size (drop n lexemes) x
    → StopsAt size lexemes x
stops_drop size n lexemes (Ok x) is = tt
stops_drop size n lexemes (Err (Unexpected at)) is = from_drop size n lexemes at is
stops_drop size n lexemes (Err (TooDeepAt at)) is = tt
stops_drop size n lexemes (Err (BadCountAt at)) is = tt

stops_next : {X Y : Type 0} (size : ℕ) (lexemes : List Lexeme) (x : Result X ReadError) (next : X → Result Y ReadError)
    → StopsAt size lexemes x → ((a : X) → StopsAt size lexemes (next a)) → StopsAt size lexemes (and_read x next)
stops_next size lexemes (Ok a) next is more = more a
stops_next size lexemes (Err (Unexpected at)) next is more = is
stops_next size lexemes (Err (TooDeepAt at)) next is more = tt
stops_next size lexemes (Err (BadCountAt at)) next is more = tt

-- ---- Primary

close_of-stops : (size : ℕ) (inside : FormRead) (lexeme : Lexeme) (more : List Lexeme) (k : TokenKind)
    → StopsAt size (lexeme ∷ more) (close_of size inside lexeme more k)
close_of-stops size inside lexeme more kind.Close = tt
close_of-stops size inside lexeme more kind.Ident = IsPlace.later (place_of-is size more)
close_of-stops size inside lexeme more kind.Literal = IsPlace.first refl
close_of-stops size inside lexeme more kind.Class = IsPlace.first refl
close_of-stops size inside lexeme more kind.Arrow = IsPlace.first refl
close_of-stops size inside lexeme more kind.Slash = IsPlace.first refl
close_of-stops size inside lexeme more kind.And = IsPlace.first refl
close_of-stops size inside lexeme more kind.Not = IsPlace.first refl
close_of-stops size inside lexeme more kind.Question = IsPlace.first refl
close_of-stops size inside lexeme more kind.Star = IsPlace.first refl
close_of-stops size inside lexeme more kind.Plus = IsPlace.first refl
close_of-stops size inside lexeme more kind.Count = IsPlace.first refl
close_of-stops size inside lexeme more kind.Open = IsPlace.first refl
close_of-stops size inside lexeme more kind.Dot = IsPlace.first refl

closed_form-stops : (size : ℕ) (inside : FormRead) (lexemes : List Lexeme) → StopsAt size lexemes (closed_form size inside lexemes)
closed_form-stops size inside [] = IsPlace.the_end refl
closed_form-stops size inside (lexeme ∷ more) = close_of-stops size inside lexeme more lexeme.kind

-- a function that reads inside parentheses and stops at such offsets
abbrev pub InnerStops : (size : ℕ) → Option Reading → Type 0
InnerStops size None = Unit {0}
InnerStops size (Some read) = (before : ℕ) (lexemes : List Lexeme) → StopsAt size lexemes (read before lexemes)

parenthesized-stops : (size : ℕ) (inner : Option Reading) → InnerStops size inner
    → (opening : Lexeme) (rest : List Lexeme) → StopsAt size rest (parenthesized inner size opening rest)
parenthesized-stops size None is opening rest = tt
parenthesized-stops size (Some read) is opening rest =
    stops_next size rest (read opening.text.end rest) (λ (inside : FormRead). closed_form size inside (drop inside.token_count rest))
    (is opening.text.end rest) (λ inside. stops_drop size inside.token_count rest
    (closed_form size inside (drop inside.token_count rest)) (closed_form-stops size inside (drop inside.token_count rest)))

named-stops : (file : List ℕ) (lexeme : Lexeme) (rest : List Lexeme)
    → StopsAt (length file) (lexeme ∷ rest) (named file lexeme rest)
named-stops file lexeme rest = by (starts_with_arrow rest)
  where
    by : (t : Bool) → StopsAt (length file) (lexeme ∷ rest)
        (if t then Err (Unexpected (place_of (length file) rest)) else one_token
        (form.Name (part file lexeme.text.start lexeme.text.end) lexeme.text) lexeme)
    by true = IsPlace.later (place_of-is (length file) rest)
    by false = tt

primary_of-stops : (file : List ℕ) (inner : Option Reading) → InnerStops (length file) inner
    → (lexeme : Lexeme) (rest : List Lexeme) (k : TokenKind)
    → StopsAt (length file) (lexeme ∷ rest) (primary_of file inner lexeme rest k)
primary_of-stops file inner is lexeme rest kind.Ident = named-stops file lexeme rest
primary_of-stops file inner is lexeme rest kind.Literal = tt
primary_of-stops file inner is lexeme rest kind.Class = tt
primary_of-stops file inner is lexeme rest kind.Dot = tt
primary_of-stops file inner is lexeme rest kind.Open =
    stops_later (length file) lexeme rest (parenthesized inner (length file) lexeme rest)
    (parenthesized-stops (length file) inner is lexeme rest)
primary_of-stops file inner is lexeme rest kind.Arrow = IsPlace.first refl
primary_of-stops file inner is lexeme rest kind.Slash = IsPlace.first refl
primary_of-stops file inner is lexeme rest kind.And = IsPlace.first refl
primary_of-stops file inner is lexeme rest kind.Not = IsPlace.first refl
primary_of-stops file inner is lexeme rest kind.Question = IsPlace.first refl
primary_of-stops file inner is lexeme rest kind.Star = IsPlace.first refl
primary_of-stops file inner is lexeme rest kind.Plus = IsPlace.first refl
primary_of-stops file inner is lexeme rest kind.Count = IsPlace.first refl
primary_of-stops file inner is lexeme rest kind.Close = IsPlace.first refl

primary-stops : (file : List ℕ) (inner : Option Reading) → InnerStops (length file) inner → (lexemes : List Lexeme)
    → StopsAt (length file) lexemes (primary file inner lexemes)
unfolding primary
primary-stops file inner is [] = IsPlace.the_end refl
primary-stops file inner is (lexeme ∷ rest) = primary_of-stops file inner is lexeme rest lexeme.kind

-- ---- Suffix and Prefix

then_suffix-stops : (file : List ℕ) (size start : ℕ) (p : FormRead) (lexemes left : List Lexeme)
    → StopsAt size lexemes (then_suffix file start p left)
then_suffix-stops file size start p lexemes [] = tt
then_suffix-stops file size start p lexemes (lexeme ∷ more) = by (is_bad_count file lexeme)
  where
    by : (t : Bool) → StopsAt size lexemes (if t then Err (BadCountAt lexeme.text.start) else Ok
        (with_suffix start p lexeme (suffix_sign file lexeme lexeme.kind)))
    by true = tt
    by false = tt

suffix-stops : (file : List ℕ) (inner : Option Reading) → InnerStops (length file) inner → (lexemes : List Lexeme)
    → StopsAt (length file) lexemes (suffix file inner lexemes)
unfolding suffix
suffix-stops file inner is lexemes =
    stops_next (length file) lexemes (primary file inner lexemes)
    (λ (p : FormRead). then_suffix file (place_of (length file) lexemes) p (drop p.token_count lexemes))
    (primary-stops file inner is lexemes)
    (λ p. then_suffix-stops file (length file) (place_of (length file) lexemes) p lexemes (drop p.token_count lexemes))

prefix_of-stops : (file : List ℕ) (inner : Option Reading) → InnerStops (length file) inner
    → (lexeme : Lexeme) (rest : List Lexeme) (sign : Option (Form → Extent → Form))
    → StopsAt (length file) (lexeme ∷ rest) (prefix_of file inner lexeme rest sign)
prefix_of-stops file inner is lexeme rest None = suffix-stops file inner is (lexeme ∷ rest)
prefix_of-stops file inner is lexeme rest (Some sign) =
    stops_later (length file) lexeme rest (and_read (suffix file inner rest)
    (λ (p : FormRead). Ok (with_prefix lexeme.text.start sign p)))
    (stops_next (length file) rest (suffix file inner rest)
    (λ (p : FormRead). Ok (with_prefix lexeme.text.start sign p)) (suffix-stops file inner is rest) (λ p. tt))

prefix-stops : (file : List ℕ) (inner : Option Reading) → InnerStops (length file) inner → (lexemes : List Lexeme)
    → StopsAt (length file) lexemes (prefix file inner lexemes)
unfolding prefix
prefix-stops file inner is [] = suffix-stops file inner is []
prefix-stops file inner is (lexeme ∷ rest) = prefix_of-stops file inner is lexeme rest (prefix_sign lexeme.kind)

-- ---- Sequence and Expression

many_forms-stops : (size : ℕ) (begins : List Lexeme → Bool) (read : Reading)
    → ((before : ℕ) (lexemes : List Lexeme) → StopsAt size lexemes (read before lexemes))
    → (before : ℕ) (lexemes : List Lexeme) (skipped : ℕ)
    → StopsAt size lexemes (many_forms_after begins read before lexemes skipped)
unfolding many_forms_after
many_forms-stops size begins read is before [] skipped = tt
many_forms-stops size begins read is before (lexeme ∷ rest) zero =
    by (begins (lexeme ∷ rest)) (stops_next size (lexeme ∷ rest) (read before (lexeme ∷
    rest)) (λ (p : FormRead). and_read (many_forms_after begins read p.last rest (p.token_count - 1))
    (λ (q : FormsRead). Ok (and_form p q))) (is before (lexeme ∷ rest))
    (λ p. stops_next size (lexeme ∷ rest) (many_forms_after begins read p.last rest (p.token_count - 1))
    (λ (q : FormsRead). Ok (and_form p q)) (stops_later size lexeme rest
    (many_forms_after begins read p.last rest (p.token_count - 1)) (many_forms-stops size begins read is p.last rest (p.token_count - 1)))
    (λ q. tt)))
  where
    by : (t : Bool) → StopsAt size (lexeme ∷ rest) (and_read (read before (lexeme ∷
        rest)) (λ (p : FormRead). and_read (many_forms_after begins read p.last rest (p.token_count - 1))
        (λ (q : FormsRead). Ok (and_form p q)))) → StopsAt size (lexeme ∷
        rest) (if t then and_read (read before (lexeme ∷ rest))
        (λ (p : FormRead). and_read (many_forms_after begins read p.last rest (p.token_count - 1))
        (λ (q : FormsRead). Ok (and_form p q))) else Ok (no_more before))
    by true it = it
    by false it = tt
many_forms-stops size begins read is before (lexeme ∷ rest) (suc skipped) =
    stops_later size lexeme rest (many_forms_after begins read before rest skipped)
    (many_forms-stops size begins read is before rest skipped)

sequence-stops : (file : List ℕ) (inner : Option Reading) → InnerStops (length file) inner
    → (before : ℕ) (lexemes : List Lexeme) → StopsAt (length file) lexemes (sequence file inner before lexemes)
unfolding sequence
sequence-stops file inner is before lexemes =
    stops_next (length file) lexemes (many_forms begins_prefix (λ b. prefix file inner) before lexemes)
    (λ (p : FormsRead). Ok (whole_sequence before (place_of (length file) lexemes) p))
    (many_forms-stops (length file) begins_prefix (λ b. prefix file inner)
    (λ b ls. prefix-stops file inner is ls) before lexemes 0) (λ p. tt)

alternative-stops : (file : List ℕ) (inner : Option Reading) → InnerStops (length file) inner
    → (before : ℕ) (lexemes : List Lexeme) → StopsAt (length file) lexemes (alternative file inner before lexemes)
unfolding alternative
alternative-stops file inner is before [] = IsPlace.the_end refl
alternative-stops file inner is before (slash ∷ rest) =
    stops_later (length file) slash rest (and_read (sequence file inner slash.text.end rest)
    (λ (p : FormRead). Ok (after_tokens 1 p))) (stops_next (length file) rest (sequence file inner slash.text.end rest)
    (λ (p : FormRead). Ok (after_tokens 1 p)) (sequence-stops file inner is slash.text.end rest) (λ p. tt))

expression-stops : (file : List ℕ) (inner : Option Reading) → InnerStops (length file) inner
    → (before : ℕ) (lexemes : List Lexeme) → StopsAt (length file) lexemes (expression file inner before lexemes)
expression-stops file inner is before lexemes =
    stops_next (length file) lexemes (sequence file inner before lexemes)
    (λ (a : FormRead). and_read (many_forms starts_with_slash (alternative file inner) a.last (drop a.token_count lexemes))
    (λ (more : FormsRead). Ok (whole_choice (place_of (length file) lexemes) a more)))
    (sequence-stops file inner is before lexemes)
    (λ a. stops_next (length file) lexemes (many_forms starts_with_slash (alternative file inner) a.last
    (drop a.token_count lexemes)) (λ (more : FormsRead). Ok (whole_choice (place_of (length file) lexemes) a more))
    (stops_drop (length file) a.token_count lexemes (many_forms starts_with_slash (alternative file inner) a.last
    (drop a.token_count lexemes)) (many_forms-stops (length file) starts_with_slash (alternative file inner)
    (alternative-stops file inner is) a.last (drop a.token_count lexemes) 0)) (λ more. tt))

pub expression_in-stops : (file : List ℕ) (bound before : ℕ) (lexemes : List Lexeme)
    → StopsAt (length file) lexemes (expression_in file bound before lexemes)
unfolding expression_in
expression_in-stops file zero before lexemes = expression-stops file None tt before lexemes
expression_in-stops file (suc n) before lexemes =
    expression-stops file (Some (expression_in file n)) (λ b ls. expression_in-stops file n b ls) before lexemes

-- ---- Definition and Grammar

after_tokens-stops : (file : List ℕ) (bound : ℕ) (name : Lexeme) (rest : List Lexeme) (t : Bool)
    → StopsAt (length file) rest (definition_after file bound name rest t)
after_tokens-stops file bound name [] t = IsPlace.the_end refl
after_tokens-stops file bound name (arrow ∷ rest) false = IsPlace.first refl
after_tokens-stops file bound name (arrow ∷ rest) true =
    stops_later (length file) arrow rest (and_read (expression_in file bound arrow.text.end rest)
    (λ (body : FormRead). Ok (rule_read file name body)))
    (stops_next (length file) rest (expression_in file bound arrow.text.end rest)
    (λ (body : FormRead). Ok (rule_read file name body)) (expression_in-stops file bound arrow.text.end rest) (λ body. tt))

definition_of-stops : (file : List ℕ) (bound : ℕ) (lexeme : Lexeme) (rest : List Lexeme) (k : TokenKind)
    → StopsAt (length file) (lexeme ∷ rest) (definition_of file bound lexeme rest k)
definition_of-stops file bound lexeme rest kind.Ident =
    stops_later (length file) lexeme rest (definition_after file bound lexeme rest (starts_with_arrow rest))
    (after_tokens-stops file bound lexeme rest (starts_with_arrow rest))
definition_of-stops file bound lexeme rest kind.Literal = IsPlace.first refl
definition_of-stops file bound lexeme rest kind.Class = IsPlace.first refl
definition_of-stops file bound lexeme rest kind.Arrow = IsPlace.first refl
definition_of-stops file bound lexeme rest kind.Slash = IsPlace.first refl
definition_of-stops file bound lexeme rest kind.And = IsPlace.first refl
definition_of-stops file bound lexeme rest kind.Not = IsPlace.first refl
definition_of-stops file bound lexeme rest kind.Question = IsPlace.first refl
definition_of-stops file bound lexeme rest kind.Star = IsPlace.first refl
definition_of-stops file bound lexeme rest kind.Plus = IsPlace.first refl
definition_of-stops file bound lexeme rest kind.Count = IsPlace.first refl
definition_of-stops file bound lexeme rest kind.Open = IsPlace.first refl
definition_of-stops file bound lexeme rest kind.Close = IsPlace.first refl
definition_of-stops file bound lexeme rest kind.Dot = IsPlace.first refl

definition-stops : (file : List ℕ) (bound : ℕ) (lexemes : List Lexeme)
    → StopsAt (length file) lexemes (definition file bound lexemes)
unfolding definition
definition-stops file bound [] = IsPlace.the_end refl
definition-stops file bound (lexeme ∷ rest) = definition_of-stops file bound lexeme rest lexeme.kind

definitions-stops : (file : List ℕ) (bound : ℕ) (lexemes : List Lexeme) (skipped : ℕ)
    → StopsAt (length file) lexemes (definitions_after file bound lexemes skipped)
unfolding definitions_after
definitions-stops file bound [] skipped = tt
definitions-stops file bound (lexeme ∷ rest) zero =
    stops_next (length file) (lexeme ∷ rest) (definition file bound (lexeme ∷ rest))
    (λ (a : RuleRead). and_read (definitions_after file bound rest (a.token_count - 1))
    (λ (more : RulesRead). Ok (and_rules a more))) (definition-stops file bound (lexeme ∷ rest))
    (λ a. stops_next (length file) (lexeme ∷ rest) (definitions_after file bound rest (a.token_count - 1))
    (λ (more : RulesRead). Ok (and_rules a more)) (stops_later (length file) lexeme rest
    (definitions_after file bound rest (a.token_count - 1)) (definitions-stops file bound rest (a.token_count - 1)))
    (λ more. tt))
definitions-stops file bound (lexeme ∷ rest) (suc skipped) =
    stops_later (length file) lexeme rest (definitions_after file bound rest skipped)
    (definitions-stops file bound rest skipped)

-- the reader stops at the start of a token or at the end
pub grammar-stops : (file : List ℕ) (bound : ℕ) (lexemes : List Lexeme)
    → StopsAt (length file) lexemes (grammar file bound lexemes)
unfolding grammar
grammar-stops file bound [] = IsPlace.the_end refl
grammar-stops file bound (lexeme ∷ rest) = definitions-stops file bound (lexeme ∷ rest) 0
