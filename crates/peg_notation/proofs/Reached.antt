-- What a reading of tokens reaches: the spans of what is read, the tokens that are left, and the number of parentheses
-- that are open on the way.
use Rattle.std.proofs.Common.{◌≡◌, ℕ, suc, ◌+◌, ◌-◌, ◌<◌, ◌≤◌, Bool, true, false, not, ◌&&◌, List, [], ◌∷◌, ◌++◌, length, drop}
use Rattle.std.proofs.Common.{Option, None, Some, option_map, Result, Ok, Err, if◌then◌else◌, refl, sym, ap, ◌∙◌, subst, arith}
use Rattle.std.proofs.lemmas.List.{drop-drop}
use Rattle.peg_bytes.specs.Extent.{Extent, between}
use Rattle.peg_semantics.specs.Form as form
use Rattle.peg_semantics.specs.Form.{Form, Forms, forms}
use Rattle.peg_lexer.specs.Lexical.{matcher_of}
use Rattle.peg_lexer.specs.Matchers.{PrefixMatch}
use Rattle.peg_metagrammar.specs.Ranges.{class_of}
use Rattle.peg_notation.specs.Reader.{ReadError, Unexpected, TooDeepAt, BadCountAt, FormRead, Reading, place_of, starts_with_arrow, and_read, one_token, pieces_of, bounds_of_lexeme, is_count, is_bad_count, close_of, closed_form, parenthesized, named, primary_of, primary, suffix_sign, with_suffix, then_suffix, suffix, with_prefix, prefix_sign, prefix_of, prefix}
use Rattle.peg_notation.specs.ReaderCode.{AreTexts}
use Rattle.peg_notation.specs.Reads.{one_if_open, one_if_close}
use Rattle.peg_notation.specs.Spans.{LiesIn, FormLiesIn}
use Rattle.peg_metagrammar.specs.Denotation.{part, bytes_in, ranges_in, bounds_in_range, counted_form}
use Rattle.peg_lexer.specs.Tokens.{Lexeme}
use Rattle.peg_lexer.specs.declared.token.TokenKind.{TokenKind}
use Rattle.peg_lexer.specs.declared.token.TokenKind.TheVariants as kind

-- ---- texts

-- a piece of a text ends no earlier than it starts
end_following : (start end : ℕ) (x : Option PrefixMatch) → option_map (λ (piece : PrefixMatch). start + piece.length) x ≡ Some end → start ≤ end
end_following start end None is = cc
end_following start end (Some piece) is = let same : start + piece.length ≡ end = cc in omega (arith, same)

pub token-order : (file : List ℕ) (from : ℕ) (lexeme : Lexeme) (more : List Lexeme) → AreTexts file from (lexeme ∷ more)
    → lexeme.text.start ≤ lexeme.text.end
token-order file from lexeme more texts =
    end_following lexeme.text.start lexeme.text.end (matcher_of lexeme.kind (drop lexeme.text.start file)) texts.1

pub texts-within : (file : List ℕ) (from : ℕ) (lexemes : List Lexeme) → AreTexts file from lexemes → from ≤ length file
texts-within file from [] texts = texts
texts-within file from (lexeme ∷ more) texts =
    omega (arith, texts.0, token-order file from lexeme more texts, texts-within file lexeme.text.end more texts.2)

pub texts-from : (file : List ℕ) (from before : ℕ) (lexemes : List Lexeme) → before ≤ from → AreTexts file from lexemes
    → AreTexts file before lexemes
texts-from file from before [] less texts = omega arith
texts-from file from before (lexeme ∷ more) less texts = (omega (arith, texts.0), texts.1, texts.2)

pub texts-position : (file : List ℕ) (from : ℕ) (lexemes : List Lexeme) → AreTexts file from lexemes
    → from ≤ place_of (length file) lexemes
texts-position file from [] texts = texts
texts-position file from (lexeme ∷ more) texts = texts.0

pub token-lies : (file : List ℕ) (from : ℕ) (lexeme : Lexeme) (more : List Lexeme) → AreTexts file from (lexeme ∷ more)
    → LiesIn (length file) lexeme.text
token-lies file from lexeme more texts =
    (token-order file from lexeme more texts, texts-within file lexeme.text.end more texts.2)

-- ---- open parentheses

-- a token that is no parenthesis, and no count out of range
pub record IsPlain (file : List ℕ) (lexeme : Lexeme) : Type 0 where
  pub no_open : one_if_open lexeme.kind ≡ 0
  pub no_close : one_if_close lexeme.kind ≡ 0
  pub fine : is_bad_count file lexeme ≡ false

pub plain-kind : (file : List ℕ) (lexeme : Lexeme) (k : TokenKind) → lexeme.kind ≡ k → one_if_open k ≡ 0 → one_if_close k ≡ 0
    → is_count k ≡ false → IsPlain file lexeme
plain-kind file lexeme k is no_open no_close no_count = record {
  no_open = ap one_if_open is ∙ no_open;
  no_close = ap one_if_close is ∙ no_close;
  fine = ap (λ (t : Bool). t && not (bounds_in_range (bounds_of_lexeme file lexeme))) (ap is_count is ∙ no_count);
}

-- A run from some tokens to the tokens that are left, with the number of parentheses open at both ends. At most `bound`
-- are open on the way, and no count is out of range.
pub data Runs (file : List ℕ) (bound : ℕ) : ℕ → List Lexeme → ℕ → List Lexeme → Type 0 where
  stays : {a : ℕ} {lexemes : List Lexeme} → Runs file bound a lexemes a lexemes
  opened : {a b : ℕ} {lexeme : Lexeme} {more rest : List Lexeme} → lexeme.kind ≡ kind.Open → a < bound
      → Runs file bound (suc a) more b rest → Runs file bound a (lexeme ∷ more) b rest
  shut : {a b : ℕ} {lexeme : Lexeme} {more rest : List Lexeme} → lexeme.kind ≡ kind.Close → Runs file bound a more b rest
      → Runs file bound (suc a) (lexeme ∷ more) b rest
  other : {a b : ℕ} {lexeme : Lexeme} {more rest : List Lexeme} → IsPlain file lexeme → Runs file bound a more b rest
      → Runs file bound a (lexeme ∷ more) b rest

pub runs-then : {file : List ℕ} {bound a b c : ℕ} {lexemes mid rest : List Lexeme} → Runs file bound a lexemes b mid → Runs file bound b mid c rest
    → Runs file bound a lexemes c rest
runs-then Runs.stays next = next
runs-then (Runs.opened is less more) next = Runs.opened is less (runs-then more next)
runs-then (Runs.shut is more) next = Runs.shut is (runs-then more next)
runs-then (Runs.other plain more) next = Runs.other plain (runs-then more next)

-- the parenthesis that opens at an offset is one too many
pub record IsDeepAt (file : List ℕ) (bound a : ℕ) (lexemes : List Lexeme) (at : ℕ) : Type 0 where
  pub opening : Lexeme
  pub more : List Lexeme
  pub opens : opening.kind ≡ kind.Open
  pub position : at ≡ opening.text.start
  pub runs : Runs file bound a lexemes bound (opening ∷ more)

pub deep-following : {file : List ℕ} {bound a b : ℕ} {lexemes rest : List Lexeme} {at : ℕ} → Runs file bound a lexemes b rest → IsDeepAt file bound b rest at
    → IsDeepAt file bound a lexemes at
deep-following runs deep = record {
  opening = deep.opening;
  more = deep.more;
  opens = deep.opens;
  position = deep.position;
  runs = runs-then runs deep.runs;
}

-- ---- counts out of range

-- the count at an offset is out of range
pub record IsBadAt (file : List ℕ) (lexemes : List Lexeme) (at : ℕ) : Type 0 where
  pub before : List Lexeme
  pub count : Lexeme
  pub more : List Lexeme
  pub same : lexemes ≡ before ++ count ∷ more
  pub bad : is_bad_count file count ≡ true
  pub position : at ≡ count.text.start

pub bad-later : {file : List ℕ} {lexeme : Lexeme} {more : List Lexeme} {at : ℕ} → IsBadAt file more at
    → IsBadAt file (lexeme ∷ more) at
bad-later {lexeme = lexeme} bad = record {
  before = lexeme ∷ bad.before;
  count = bad.count;
  more = bad.more;
  same = ap (λ l. lexeme ∷ l) bad.same;
  bad = bad.bad;
  position = bad.position;
}

pub bad-following : {file : List ℕ} {bound a b : ℕ} {lexemes rest : List Lexeme} {at : ℕ} → Runs file bound a lexemes b rest
    → IsBadAt file rest at → IsBadAt file lexemes at
bad-following Runs.stays bad = bad
bad-following (Runs.opened is less more) bad = bad-later (bad-following more bad)
bad-following (Runs.shut is more) bad = bad-later (bad-following more bad)
bad-following (Runs.other plain more) bad = bad-later (bad-following more bad)

-- ---- what is reached

-- by an expression of some tokens
pub record Taken (file : List ℕ) (bound a : ℕ) (lexemes : List Lexeme) (p : FormRead) : Type 0 where
  pub form : FormLiesIn (length file) p.form
  pub some : 0 < p.token_count
  pub order : place_of (length file) lexemes ≤ p.last
  pub rest_texts : AreTexts file p.last (drop p.token_count lexemes)
  pub runs : Runs file bound a lexemes a (drop p.token_count lexemes)
  pub shallow : p.depth ≤ bound - a

-- by an expression after a token whose text ends at an offset
pub record Reached (file : List ℕ) (bound a before : ℕ) (lexemes : List Lexeme) (p : FormRead) : Type 0 where
  pub form : FormLiesIn (length file) p.form
  pub after : before ≤ p.last
  pub order : 0 < p.token_count → place_of (length file) lexemes ≤ p.last
  pub rest_texts : AreTexts file p.last (drop p.token_count lexemes)
  pub runs : Runs file bound a lexemes a (drop p.token_count lexemes)
  pub shallow : p.depth ≤ bound - a

abbrev pub Takes : (file : List ℕ) (bound a : ℕ) (lexemes : List Lexeme) → Result FormRead ReadError → Type 0
Takes file bound a lexemes (Ok p) = Taken file bound a lexemes p
Takes file bound a lexemes (Err (Unexpected at)) = Unit {0}
Takes file bound a lexemes (Err (TooDeepAt at)) = IsDeepAt file bound a lexemes at
Takes file bound a lexemes (Err (BadCountAt at)) = IsBadAt file lexemes at

abbrev pub Reaches : (file : List ℕ) (bound a before : ℕ) (lexemes : List Lexeme) → Result FormRead ReadError → Type 0
Reaches file bound a before lexemes (Ok p) = Reached file bound a before lexemes p
Reaches file bound a before lexemes (Err (Unexpected at)) = Unit {0}
Reaches file bound a before lexemes (Err (TooDeepAt at)) = IsDeepAt file bound a lexemes at
Reaches file bound a before lexemes (Err (BadCountAt at)) = IsBadAt file lexemes at

-- a function that reads inside parentheses, with this number open: none may be opened, or one more
abbrev pub InnerReaches : (file : List ℕ) (bound a : ℕ) → Option Reading → Type 0
InnerReaches file bound a None = a ≡ bound
InnerReaches file bound a (Some read) =
    (a < bound) × ((before : ℕ) (lexemes : List Lexeme) → AreTexts file before lexemes
    → Reaches file bound (suc a) before lexemes (read before lexemes))

-- ---- Primary

one_token-takes : (file : List ℕ) (bound a from : ℕ) (lexeme : Lexeme) (rest : List Lexeme) (f : Form)
    → AreTexts file from (lexeme ∷ rest) → FormLiesIn (length file) f → IsPlain file lexeme
    → Takes file bound a (lexeme ∷ rest) (one_token f lexeme)
one_token-takes file bound a from lexeme rest f texts lies plain = record {
  form = lies;
  some = omega arith;
  order = token-order file from lexeme rest texts;
  rest_texts = texts.2;
  runs = Runs.other plain Runs.stays;
  shallow = omega arith;
}

-- a closing parenthesis after what is inside
shut-takes : (file : List ℕ) (bound a from : ℕ) (opening : Lexeme) (rest : List Lexeme) (inside : FormRead) (lexeme : Lexeme)
    (more : List Lexeme) → AreTexts file from (opening ∷ rest) → opening.kind ≡ kind.Open → a < bound
    → Reached file bound (suc a) opening.text.end rest inside → drop inside.token_count rest ≡ lexeme ∷ more → lexeme.kind ≡ kind.Close
    → Taken file bound a (opening ∷ rest) (record { form = inside.form; token_count = inside.token_count + 2; last = lexeme.text.end; depth = inside.depth + 1 })
shut-takes file bound a from opening rest inside lexeme more texts opens less e left closes =
    let following : AreTexts file inside.last (lexeme ∷ more) = subst (AreTexts file inside.last) left e.rest_texts in
    let count : inside.token_count + 2 ≡ suc (inside.token_count + 1) = omega arith in
    let gone : more ≡ drop (inside.token_count + 2) (opening ∷ rest) =
    ap (drop 1) (sym left) ∙ (drop-drop 1 inside.token_count rest ∙ ap (λ n. drop n (opening ∷ rest)) (sym count)) in
    let over : Runs file bound (suc a) rest (suc a) (lexeme ∷ more) = subst (Runs file bound (suc a) rest (suc a)) left e.runs in
    record {
      form = e.form;
      some = omega arith;
      order = omega (arith, token-order file from opening rest texts, e.after, following.0, token-order file inside.last lexeme more following);
      rest_texts = subst (AreTexts file lexeme.text.end) gone following.2;
      runs = Runs.opened opens less (runs-then over (subst (Runs file bound (suc a) (lexeme ∷ more) a) gone (Runs.shut closes Runs.stays)));
      shallow = omega (arith, less, e.shallow);
    }

close_of-takes : (file : List ℕ) (bound a from : ℕ) (opening : Lexeme) (rest : List Lexeme) (inside : FormRead) (lexeme : Lexeme)
    (more : List Lexeme) → AreTexts file from (opening ∷ rest) → opening.kind ≡ kind.Open → a < bound
    → Reached file bound (suc a) opening.text.end rest inside → drop inside.token_count rest ≡ lexeme ∷ more
    → (k : TokenKind) → lexeme.kind ≡ k → Takes file bound a (opening ∷ rest) (close_of (length file) inside lexeme more k)
close_of-takes file bound a from opening rest inside lexeme more texts opens less e left kind.Close is =
    shut-takes file bound a from opening rest inside lexeme more texts opens less e left is
close_of-takes file bound a from opening rest inside lexeme more texts opens less e left kind.Ident is = tt
close_of-takes file bound a from opening rest inside lexeme more texts opens less e left kind.Literal is = tt
close_of-takes file bound a from opening rest inside lexeme more texts opens less e left kind.Class is = tt
close_of-takes file bound a from opening rest inside lexeme more texts opens less e left kind.Arrow is = tt
close_of-takes file bound a from opening rest inside lexeme more texts opens less e left kind.Slash is = tt
close_of-takes file bound a from opening rest inside lexeme more texts opens less e left kind.And is = tt
close_of-takes file bound a from opening rest inside lexeme more texts opens less e left kind.Not is = tt
close_of-takes file bound a from opening rest inside lexeme more texts opens less e left kind.Question is = tt
close_of-takes file bound a from opening rest inside lexeme more texts opens less e left kind.Star is = tt
close_of-takes file bound a from opening rest inside lexeme more texts opens less e left kind.Plus is = tt
close_of-takes file bound a from opening rest inside lexeme more texts opens less e left kind.Count is = tt
close_of-takes file bound a from opening rest inside lexeme more texts opens less e left kind.Open is = tt
close_of-takes file bound a from opening rest inside lexeme more texts opens less e left kind.Dot is = tt

closed_form-takes : (file : List ℕ) (bound a from : ℕ) (opening : Lexeme) (rest : List Lexeme) (inside : FormRead)
    → AreTexts file from (opening ∷ rest) → opening.kind ≡ kind.Open → a < bound
    → Reached file bound (suc a) opening.text.end rest inside → (left : List Lexeme) → drop inside.token_count rest ≡ left
    → Takes file bound a (opening ∷ rest) (closed_form (length file) inside left)
closed_form-takes file bound a from opening rest inside texts opens less e [] left = tt
closed_form-takes file bound a from opening rest inside texts opens less e (lexeme ∷ more) left =
    close_of-takes file bound a from opening rest inside lexeme more texts opens less e left lexeme.kind refl

parenthesized-takes : (file : List ℕ) (bound a from : ℕ) (inner : Option Reading) → InnerReaches file bound a inner
    → (opening : Lexeme) (rest : List Lexeme) → AreTexts file from (opening ∷ rest) → opening.kind ≡ kind.Open
    → Takes file bound a (opening ∷ rest) (parenthesized inner (length file) opening rest)
parenthesized-takes file bound a from None is opening rest texts opens = record {
  opening = opening;
  more = rest;
  opens = opens;
  position = refl;
  runs = subst (λ b. Runs file bound b (opening ∷ rest) bound (opening ∷ rest)) (sym is) Runs.stays;
}
parenthesized-takes file bound a from (Some read) is opening rest texts opens =
    by (read opening.text.end rest) (is.1 opening.text.end rest texts.2)
  where
    by : (x : Result FormRead ReadError) → Reaches file bound (suc a) opening.text.end rest x → Takes file bound a (opening ∷ rest)
        (and_read x (λ (inside : FormRead). closed_form (length file) inside (drop inside.token_count rest)))
    by (Ok inside) e = closed_form-takes file bound a from opening rest inside texts opens is.0 e (drop inside.token_count rest) refl
    by (Err (Unexpected at)) e = tt
    by (Err (TooDeepAt at)) e = deep-following (Runs.opened opens is.0 Runs.stays) e
    by (Err (BadCountAt at)) e = bad-later e

named-takes : (file : List ℕ) (bound a from : ℕ) (lexeme : Lexeme) (rest : List Lexeme) → AreTexts file from (lexeme ∷ rest)
    → lexeme.kind ≡ kind.Ident → Takes file bound a (lexeme ∷ rest) (named file lexeme rest)
named-takes file bound a from lexeme rest texts is = by (starts_with_arrow rest)
  where
    by : (t : Bool) → Takes file bound a (lexeme ∷ rest) (if t then Err (Unexpected (place_of (length file) rest)) else one_token
        (form.Name (part file lexeme.text.start lexeme.text.end) lexeme.text) lexeme)
    by true = tt
    by false =
        one_token-takes file bound a from lexeme rest (form.Name (part file lexeme.text.start lexeme.text.end) lexeme.text) texts
        (token-lies file from lexeme rest texts) (plain-kind file lexeme kind.Ident is refl refl refl)

primary_of-takes : (file : List ℕ) (bound a from : ℕ) (inner : Option Reading) → InnerReaches file bound a inner
    → (lexeme : Lexeme) (rest : List Lexeme) → AreTexts file from (lexeme ∷ rest) → (k : TokenKind) → lexeme.kind ≡ k
    → Takes file bound a (lexeme ∷ rest) (primary_of file inner lexeme rest k)
primary_of-takes file bound a from inner e lexeme rest texts kind.Ident is = named-takes file bound a from lexeme rest texts is
primary_of-takes file bound a from inner e lexeme rest texts kind.Literal is =
    one_token-takes file bound a from lexeme rest (form.Literal (bytes_in (pieces_of file lexeme)) lexeme.text) texts
    (token-lies file from lexeme rest texts) (plain-kind file lexeme kind.Literal is refl refl refl)
primary_of-takes file bound a from inner e lexeme rest texts kind.Class is =
    one_token-takes file bound a from lexeme rest (form.Class (class_of (ranges_in (pieces_of file lexeme))) lexeme.text) texts
    (token-lies file from lexeme rest texts) (plain-kind file lexeme kind.Class is refl refl refl)
primary_of-takes file bound a from inner e lexeme rest texts kind.Dot is =
    one_token-takes file bound a from lexeme rest (form.Any lexeme.text) texts
    (token-lies file from lexeme rest texts) (plain-kind file lexeme kind.Dot is refl refl refl)
primary_of-takes file bound a from inner e lexeme rest texts kind.Open is = parenthesized-takes file bound a from inner e lexeme rest texts is
primary_of-takes file bound a from inner e lexeme rest texts kind.Arrow is = tt
primary_of-takes file bound a from inner e lexeme rest texts kind.Slash is = tt
primary_of-takes file bound a from inner e lexeme rest texts kind.And is = tt
primary_of-takes file bound a from inner e lexeme rest texts kind.Not is = tt
primary_of-takes file bound a from inner e lexeme rest texts kind.Question is = tt
primary_of-takes file bound a from inner e lexeme rest texts kind.Star is = tt
primary_of-takes file bound a from inner e lexeme rest texts kind.Plus is = tt
primary_of-takes file bound a from inner e lexeme rest texts kind.Count is = tt
primary_of-takes file bound a from inner e lexeme rest texts kind.Close is = tt

pub primary-takes : (file : List ℕ) (bound a from : ℕ) (inner : Option Reading) → InnerReaches file bound a inner
    → (lexemes : List Lexeme) → AreTexts file from lexemes → Takes file bound a lexemes (primary file inner lexemes)
unfolding primary
primary-takes file bound a from inner e [] texts = tt
primary-takes file bound a from inner e (lexeme ∷ rest) texts =
    primary_of-takes file bound a from inner e lexeme rest texts lexeme.kind refl

-- ---- Suffix and Prefix

-- an operator after an expression
signed-takes : (file : List ℕ) (bound a : ℕ) (lexemes : List Lexeme) (p : FormRead) → Taken file bound a lexemes p
    → (lexeme : Lexeme) (more : List Lexeme) → drop p.token_count lexemes ≡ lexeme ∷ more → IsPlain file lexeme
    → (sign : Form → Extent → Form)
    → ((f : Form) (span : Extent) → FormLiesIn (length file) f → LiesIn (length file) span → FormLiesIn (length file) (sign f span))
    → Taken file bound a lexemes (with_suffix (place_of (length file) lexemes) p lexeme (Some sign))
signed-takes file bound a lexemes p e lexeme more left plain sign lies =
    let texts : AreTexts file p.last (lexeme ∷ more) = subst (AreTexts file p.last) left e.rest_texts in
    let gone : more ≡ drop (p.token_count + 1) lexemes = ap (drop 1) (sym left) ∙ drop-drop 1 p.token_count lexemes in
    let order : place_of (length file) lexemes ≤ lexeme.text.end =
    omega (arith, e.order, texts.0, token-order file p.last lexeme more texts) in
    let over : Runs file bound a lexemes a (lexeme ∷ more) = subst (Runs file bound a lexemes a) left e.runs in
    record {
      form = lies p.form (between (place_of (length file) lexemes) lexeme.text.end) e.form
          (order, texts-within file lexeme.text.end more texts.2);
      some = omega arith;
      order = order;
      rest_texts = subst (AreTexts file lexeme.text.end) gone texts.2;
      runs = runs-then over (subst (Runs file bound a (lexeme ∷ more) a) gone (Runs.other plain Runs.stays));
      shallow = e.shallow;
    }

-- a count in range is plain, and so is a token that is no count and no parenthesis
sign_of-takes : (file : List ℕ) (bound a : ℕ) (lexemes : List Lexeme) (p : FormRead) → Taken file bound a lexemes p
    → (lexeme : Lexeme) (more : List Lexeme) → drop p.token_count lexemes ≡ lexeme ∷ more → is_bad_count file lexeme ≡ false
    → (k : TokenKind) → lexeme.kind ≡ k
    → Taken file bound a lexemes (with_suffix (place_of (length file) lexemes) p lexeme (suffix_sign file lexeme k))
sign_of-takes file bound a lexemes p e lexeme more left fine kind.Question is =
    signed-takes file bound a lexemes p e lexeme more left (plain-kind file lexeme kind.Question is refl refl refl) form.Optional
    (λ f span l s. (s, l))
sign_of-takes file bound a lexemes p e lexeme more left fine kind.Star is =
    signed-takes file bound a lexemes p e lexeme more left (plain-kind file lexeme kind.Star is refl refl refl) form.Star
    (λ f span l s. (s, l))
sign_of-takes file bound a lexemes p e lexeme more left fine kind.Plus is =
    signed-takes file bound a lexemes p e lexeme more left (plain-kind file lexeme kind.Plus is refl refl refl) form.Plus
    (λ f span l s. (s, l))
sign_of-takes file bound a lexemes p e lexeme more left fine kind.Count is =
    signed-takes file bound a lexemes p e lexeme more left
    (record { no_open = ap one_if_open is; no_close = ap one_if_close is; fine = fine }) (counted_form (bounds_of_lexeme file lexeme))
    (λ f span l s. (s, l))
sign_of-takes file bound a lexemes p e lexeme more left fine kind.Ident is = e
sign_of-takes file bound a lexemes p e lexeme more left fine kind.Literal is = e
sign_of-takes file bound a lexemes p e lexeme more left fine kind.Class is = e
sign_of-takes file bound a lexemes p e lexeme more left fine kind.Arrow is = e
sign_of-takes file bound a lexemes p e lexeme more left fine kind.Slash is = e
sign_of-takes file bound a lexemes p e lexeme more left fine kind.And is = e
sign_of-takes file bound a lexemes p e lexeme more left fine kind.Not is = e
sign_of-takes file bound a lexemes p e lexeme more left fine kind.Open is = e
sign_of-takes file bound a lexemes p e lexeme more left fine kind.Close is = e
sign_of-takes file bound a lexemes p e lexeme more left fine kind.Dot is = e

then_suffix-takes : (file : List ℕ) (bound a : ℕ) (lexemes : List Lexeme) (p : FormRead) → Taken file bound a lexemes p
    → (left : List Lexeme) → drop p.token_count lexemes ≡ left
    → Takes file bound a lexemes (then_suffix file (place_of (length file) lexemes) p left)
then_suffix-takes file bound a lexemes p e [] left = e
then_suffix-takes file bound a lexemes p e (lexeme ∷ more) left = by (is_bad_count file lexeme) refl
  where
    by : (t : Bool) → is_bad_count file lexeme ≡ t → Takes file bound a lexemes
        (if t then Err (BadCountAt lexeme.text.start) else Ok
        (with_suffix (place_of (length file) lexemes) p lexeme (suffix_sign file lexeme lexeme.kind)))
    by true bad =
        bad-following (subst (Runs file bound a lexemes a) left e.runs)
        (record { before = []; count = lexeme; more = more; same = refl; bad = bad; position = refl })
    by false fine = sign_of-takes file bound a lexemes p e lexeme more left fine lexeme.kind refl

pub suffix-takes : (file : List ℕ) (bound a from : ℕ) (inner : Option Reading) → InnerReaches file bound a inner
    → (lexemes : List Lexeme) → AreTexts file from lexemes → Takes file bound a lexemes (suffix file inner lexemes)
unfolding suffix
suffix-takes file bound a from inner is lexemes texts =
    by (primary file inner lexemes) (primary-takes file bound a from inner is lexemes texts)
  where
    by : (x : Result FormRead ReadError) → Takes file bound a lexemes x → Takes file bound a lexemes
        (and_read x (λ (p : FormRead). then_suffix file (place_of (length file) lexemes) p (drop p.token_count lexemes)))
    by (Ok p) e = then_suffix-takes file bound a lexemes p e (drop p.token_count lexemes) refl
    by (Err (Unexpected at)) e = tt
    by (Err (TooDeepAt at)) e = e
    by (Err (BadCountAt at)) e = e

-- an operator before an expression
prefixed-takes : (file : List ℕ) (bound a from : ℕ) (inner : Option Reading) → InnerReaches file bound a inner
    → (lexeme : Lexeme) (rest : List Lexeme) → AreTexts file from (lexeme ∷ rest) → IsPlain file lexeme → (sign : Form → Extent → Form)
    → ((f : Form) (span : Extent) → FormLiesIn (length file) f → LiesIn (length file) span → FormLiesIn (length file) (sign f span))
    → Takes file bound a (lexeme ∷ rest) (prefix_of file inner lexeme rest (Some sign))
prefixed-takes file bound a from inner is lexeme rest texts plain sign lies =
    by (suffix file inner rest) (suffix-takes file bound a lexeme.text.end inner is rest texts.2)
  where
    by : (x : Result FormRead ReadError) → Takes file bound a rest x → Takes file bound a (lexeme ∷ rest)
        (and_read x (λ (p : FormRead). Ok (with_prefix lexeme.text.start sign p)))
    by (Ok p) e =
        let order : lexeme.text.start ≤ p.last =
        omega (arith, token-order file from lexeme rest texts, texts-position file lexeme.text.end rest texts.2, e.order) in
        let count : 1 + p.token_count ≡ suc p.token_count = omega arith in
        let gone : drop p.token_count rest ≡ drop (1 + p.token_count) (lexeme ∷ rest) = ap (λ n. drop n (lexeme ∷ rest)) (sym count) in
        record {
          form = lies p.form (between lexeme.text.start p.last) e.form (order, texts-within file p.last (drop p.token_count rest) e.rest_texts);
          some = omega arith;
          order = order;
          rest_texts = subst (AreTexts file p.last) gone e.rest_texts;
          runs = subst (Runs file bound a (lexeme ∷ rest) a) gone (Runs.other plain e.runs);
          shallow = e.shallow;
        }
    by (Err (Unexpected at)) e = tt
    by (Err (TooDeepAt at)) e = deep-following (Runs.other plain Runs.stays) e
    by (Err (BadCountAt at)) e = bad-later e

prefix_of-takes : (file : List ℕ) (bound a from : ℕ) (inner : Option Reading) → InnerReaches file bound a inner
    → (lexeme : Lexeme) (rest : List Lexeme) → AreTexts file from (lexeme ∷ rest) → (k : TokenKind) → lexeme.kind ≡ k
    → Takes file bound a (lexeme ∷ rest) (prefix_of file inner lexeme rest (prefix_sign k))
prefix_of-takes file bound a from inner is lexeme rest texts kind.And e =
    prefixed-takes file bound a from inner is lexeme rest texts (plain-kind file lexeme kind.And e refl refl refl) form.And (λ f span l s. (s, l))
prefix_of-takes file bound a from inner is lexeme rest texts kind.Not e =
    prefixed-takes file bound a from inner is lexeme rest texts (plain-kind file lexeme kind.Not e refl refl refl) form.Not (λ f span l s. (s, l))
prefix_of-takes file bound a from inner is lexeme rest texts kind.Ident e = suffix-takes file bound a from inner is (lexeme ∷ rest) texts
prefix_of-takes file bound a from inner is lexeme rest texts kind.Literal e = suffix-takes file bound a from inner is (lexeme ∷ rest) texts
prefix_of-takes file bound a from inner is lexeme rest texts kind.Class e = suffix-takes file bound a from inner is (lexeme ∷ rest) texts
prefix_of-takes file bound a from inner is lexeme rest texts kind.Arrow e = suffix-takes file bound a from inner is (lexeme ∷ rest) texts
prefix_of-takes file bound a from inner is lexeme rest texts kind.Slash e = suffix-takes file bound a from inner is (lexeme ∷ rest) texts
prefix_of-takes file bound a from inner is lexeme rest texts kind.Question e = suffix-takes file bound a from inner is (lexeme ∷ rest) texts
prefix_of-takes file bound a from inner is lexeme rest texts kind.Star e = suffix-takes file bound a from inner is (lexeme ∷ rest) texts
prefix_of-takes file bound a from inner is lexeme rest texts kind.Plus e = suffix-takes file bound a from inner is (lexeme ∷ rest) texts
prefix_of-takes file bound a from inner is lexeme rest texts kind.Count e = suffix-takes file bound a from inner is (lexeme ∷ rest) texts
prefix_of-takes file bound a from inner is lexeme rest texts kind.Open e = suffix-takes file bound a from inner is (lexeme ∷ rest) texts
prefix_of-takes file bound a from inner is lexeme rest texts kind.Close e = suffix-takes file bound a from inner is (lexeme ∷ rest) texts
prefix_of-takes file bound a from inner is lexeme rest texts kind.Dot e = suffix-takes file bound a from inner is (lexeme ∷ rest) texts

pub prefix-takes : (file : List ℕ) (bound a from : ℕ) (inner : Option Reading) → InnerReaches file bound a inner
    → (lexemes : List Lexeme) → AreTexts file from lexemes → Takes file bound a lexemes (prefix file inner lexemes)
unfolding prefix
prefix-takes file bound a from inner is [] texts = suffix-takes file bound a from inner is [] texts
prefix-takes file bound a from inner is (lexeme ∷ rest) texts =
    prefix_of-takes file bound a from inner is lexeme rest texts lexeme.kind refl
