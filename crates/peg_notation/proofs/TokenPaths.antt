-- The reader's functions from Primary to Suffix as paths over the states between tokens. A path stops at a token that
-- its state doesn't accept, at a parenthesis too many, or at a count out of range.
use Rattle.std.proofs.Common.{◌≡◌, ℕ, suc, ◌+◌, ◌<◌, ◌≤◌, Bool, true, false, not, ◌&&◌, List, [], ◌∷◌, length, drop}
use Rattle.std.proofs.Common.{Option, None, Some, Result, Ok, Err, if◌then◌else◌, refl, sym, ap, ◌∙◌, subst, arith}
use Rattle.std.proofs.lemmas.List.{drop-drop}
use Rattle.peg_bytes.specs.Extent.{Extent}
use Rattle.peg_semantics.specs.Form as form
use Rattle.peg_semantics.specs.Form.{Form}
use Rattle.peg_metagrammar.specs.Denotation.{part, bytes_in, ranges_in, bounds_in_range, counted_form}
use Rattle.peg_metagrammar.specs.Ranges.{class_of}
use Rattle.peg_lexer.specs.Tokens.{Lexeme}
use Rattle.peg_lexer.specs.declared.token.TokenKind.{TokenKind}
use Rattle.peg_lexer.specs.declared.token.TokenKind.TheVariants as kind
use Rattle.peg_notation.specs.Reader.{ReadError, Unexpected, TooDeepAt, BadCountAt, FormRead, Reading, place_of, is_arrow, starts_with_arrow, kind_begins, begins_prefix, and_read, one_token, pieces_of, bounds_of_lexeme, is_count, is_bad_count, close_of, closed_form, parenthesized, named, primary_of, primary, suffix_sign, with_suffix, then_suffix, suffix, with_prefix, prefix_sign, prefix_of, prefix, starts_with_slash}
use Rattle.peg_notation.proofs.TokenStates.{TokenState, item_step, signed_step, done_step, named_step, step, may_end, open_in}

-- ---- paths

-- A path from some tokens to those that are left, with the states at both ends. After each token at most `bound`
-- parentheses are open, and no count is out of range.
pub data Path (file : List ℕ) (bound : ℕ) : TokenState → List Lexeme → TokenState → List Lexeme → Type 0 where
  stays : {s : TokenState} {lexemes : List Lexeme} → Path file bound s lexemes s lexemes
  goes : {s t u : TokenState} {lexeme : Lexeme} {more rest : List Lexeme} → step s lexeme.kind ≡ Some t → open_in t ≤ bound
      → is_bad_count file lexeme ≡ false → Path file bound t more u rest → Path file bound s (lexeme ∷ more) u rest

pub path-then : {file : List ℕ} {bound : ℕ} {s t u : TokenState} {lexemes mid rest : List Lexeme}
    → Path file bound s lexemes t mid → Path file bound t mid u rest → Path file bound s lexemes u rest
path-then Path.stays next = next
path-then (Path.goes is less fine more) next = Path.goes is less fine (path-then more next)

-- why a path stops before the next token
pub data HaltsBefore (file : List ℕ) (bound : ℕ) : TokenState → List Lexeme → ReadError → Type 0 where
  refused : {u : TokenState} {lexeme : Lexeme} {more : List Lexeme} {at : ℕ} → step u lexeme.kind ≡ None
      → at ≡ lexeme.text.start → HaltsBefore file bound u (lexeme ∷ more) (Unexpected at)
  early : {u : TokenState} {at : ℕ} → may_end u ≡ false → at ≡ length file → HaltsBefore file bound u [] (Unexpected at)
  too_many : {u t : TokenState} {lexeme : Lexeme} {more : List Lexeme} {at : ℕ} → lexeme.kind ≡ kind.Open
      → step u lexeme.kind ≡ Some t → open_in u ≡ bound → at ≡ lexeme.text.start
      → HaltsBefore file bound u (lexeme ∷ more) (TooDeepAt at)
  out_of_range : {u t : TokenState} {lexeme : Lexeme} {more : List Lexeme} {at : ℕ} → step u lexeme.kind ≡ Some t
      → is_bad_count file lexeme ≡ true → at ≡ lexeme.text.start → HaltsBefore file bound u (lexeme ∷ more) (BadCountAt at)

-- a path that stops
pub record Halts (file : List ℕ) (bound : ℕ) (s : TokenState) (lexemes : List Lexeme) (halt : ReadError) : Type 0 where
  pub last : TokenState
  pub rest : List Lexeme
  pub path : Path file bound s lexemes last rest
  pub stop : HaltsBefore file bound last rest halt

pub halts-later : {file : List ℕ} {bound : ℕ} {s t : TokenState} {lexemes rest : List Lexeme} {halt : ReadError}
    → Path file bound s lexemes t rest → Halts file bound t rest halt → Halts file bound s lexemes halt
halts-later path halts = record {
  last = halts.last;
  rest = halts.rest;
  path = path-then path halts.path;
  stop = halts.stop;
}

pub halts-here : {file : List ℕ} {bound : ℕ} {s : TokenState} {lexemes : List Lexeme} {halt : ReadError}
    → HaltsBefore file bound s lexemes halt → Halts file bound s lexemes halt
halts-here {s = s} {lexemes} stop = record { last = s; rest = lexemes; path = Path.stays; stop = stop }

-- ---- states that act alike before the tokens that are left

abbrev pub SameStep : (w v : TokenState) → List Lexeme → Type 0
SameStep w v [] = Unit {0}
SameStep w v (lexeme ∷ more) = step v lexeme.kind ≡ step w lexeme.kind

pub record IsLike (w v : TokenState) (rest : List Lexeme) : Type 0 where
  pub next : SameStep w v rest
  pub ends : may_end v ≡ may_end w
  pub opens : open_in v ≡ open_in w

pub like-itself : (w : TokenState) (rest : List Lexeme) → IsLike w w rest
like-itself w [] = record { next = tt; ends = refl; opens = refl }
like-itself w (lexeme ∷ more) = record { next = refl; ends = refl; opens = refl }

-- A path over the first tokens. Before the tokens that are left, its last state acts like the given one.
pub record Walked (file : List ℕ) (bound : ℕ) (s w : TokenState) (lexemes : List Lexeme) (token_count : ℕ) : Type 0 where
  pub last : TokenState
  pub path : Path file bound s lexemes last (drop token_count lexemes)
  pub like : IsLike w last (drop token_count lexemes)

-- a path over what is read, or one that stops
abbrev pub Walks : (file : List ℕ) (bound : ℕ) (s w : TokenState) (lexemes : List Lexeme) → Result FormRead ReadError → Type 0
Walks file bound s w lexemes (Ok p) = (0 < p.token_count) × Walked file bound s w lexemes p.token_count
Walks file bound s w lexemes (Err halt) = Halts file bound s lexemes halt

-- the same for an expression, which ends where no Prefix and no slash follows
abbrev pub WalksExpression : (file : List ℕ) (bound : ℕ) (s w : TokenState) (lexemes : List Lexeme) → Result FormRead ReadError
    → Type 0
WalksExpression file bound s w lexemes (Ok p) =
    Walked file bound s w lexemes p.token_count × (begins_prefix (drop p.token_count lexemes) ≡ false)
    × (starts_with_slash (drop p.token_count lexemes) ≡ false)
WalksExpression file bound s w lexemes (Err halt) = Halts file bound s lexemes halt

-- a function that reads inside parentheses, with this number open: none may be opened, or one more
abbrev pub InnerWalks : (file : List ℕ) (bound depth : ℕ) → Option Reading → Type 0
InnerWalks file bound depth None = depth ≡ bound
InnerWalks file bound depth (Some read) =
    (depth < bound) × ((before : ℕ) (lexemes : List Lexeme)
    → WalksExpression file bound (TokenState.ready (suc depth)) (TokenState.ready (suc depth)) lexemes (read before lexemes))

pub inner-within : (file : List ℕ) (bound depth : ℕ) (inner : Option Reading) → InnerWalks file bound depth inner → depth ≤ bound
inner-within file bound depth None is = omega (arith, is)
inner-within file bound depth (Some read) is = omega (arith, is.0)

-- a token that is no count is none out of range
pub no_count : (file : List ℕ) (lexeme : Lexeme) (k : TokenKind) → lexeme.kind ≡ k → is_count k ≡ false
    → is_bad_count file lexeme ≡ false
no_count file lexeme k is other =
    ap (λ (t : Bool). t && not (bounds_in_range (bounds_of_lexeme file lexeme))) (ap is_count is ∙ other)

-- ---- Primary

-- a part of one token
one-walks : {file : List ℕ} {bound : ℕ} {s w next : TokenState} {lexeme : Lexeme} {rest : List Lexeme} (f : Form)
    → step s lexeme.kind ≡ Some next → open_in next ≤ bound → is_bad_count file lexeme ≡ false → IsLike w next rest
    → Walks file bound s w (lexeme ∷ rest) (one_token f lexeme)
one-walks {next = next} f is less fine like = (
  omega arith,
  record { last = next; path = Path.goes is less fine Path.stays; like = like },
)

-- the next token is refused
pub refused-here : {file : List ℕ} {bound : ℕ} {s : TokenState} {lexeme : Lexeme} {rest : List Lexeme} → step s lexeme.kind ≡ None
    → Halts file bound s (lexeme ∷ rest) (Unexpected lexeme.text.start)
refused-here is = halts-here (HaltsBefore.refused is refl)

-- what is inside parentheses, and the closing one
close_of-walks : (file : List ℕ) (bound depth : ℕ) (opening : Lexeme) (rest : List Lexeme) (s : TokenState) (inside : FormRead)
    → depth < bound → Path file bound s (opening ∷ rest) (TokenState.ready (suc depth)) rest
    → (e : Walked file bound (TokenState.ready (suc depth)) (TokenState.ready (suc depth)) rest inside.token_count)
    → (lexeme : Lexeme) (more : List Lexeme) → drop inside.token_count rest ≡ lexeme ∷ more
    → step e.last lexeme.kind ≡ item_step (suc depth) lexeme.kind
    → kind_begins lexeme.kind (starts_with_arrow more) ≡ false → starts_with_slash (lexeme ∷ more) ≡ false
    → (k : TokenKind) → lexeme.kind ≡ k
    → Walks file bound s (TokenState.done depth) (opening ∷ rest) (close_of (length file) inside lexeme more k)
close_of-walks file bound depth opening rest s inside less front e lexeme more left next ended unslashed = by
  where
    over : Path file bound s (opening ∷ rest) e.last (lexeme ∷ more)
    over = path-then front (subst (Path file bound (TokenState.ready (suc depth)) rest e.last) left e.path)

    stuck : (k : TokenKind) → lexeme.kind ≡ k → item_step (suc depth) k ≡ None
        → Halts file bound s (opening ∷ rest) (Unexpected lexeme.text.start)
    stuck k is none = halts-later over (refused-here (next ∙ (ap (item_step (suc depth)) is ∙ none)))

    wrong : (k : TokenKind) → lexeme.kind ≡ k → kind_begins k (starts_with_arrow more) ≡ true → ⊥
    wrong k is begins =
        let bad : true ≡ false = sym begins ∙ (ap (λ j. kind_begins j (starts_with_arrow more)) (sym is) ∙ ended) in cc

    -- a name here is followed by an arrow, which is refused inside parentheses
    name_then : (lexemes : List Lexeme) → more ≡ lexemes → lexeme.kind ≡ kind.Ident
        → Halts file bound s (opening ∷ rest) (Unexpected (place_of (length file) lexemes))
    name_then [] none is =
        absurd (wrong kind.Ident is (ap (λ ls. kind_begins kind.Ident (starts_with_arrow ls)) none))
    name_then (arrow ∷ after) some is = arrow_then (is_arrow arrow.kind) refl
      where
        at_name : Path file bound s (opening ∷ rest) (TokenState.named (suc depth)) (arrow ∷ after)
        at_name =
            path-then over (subst (Path file bound e.last (lexeme ∷ more) (TokenState.named (suc depth))) some
            (Path.goes (next ∙ ap (item_step (suc depth)) is) less (no_count file lexeme kind.Ident is refl) Path.stays))

        arrow_refused : (k : TokenKind) → is_arrow k ≡ true → named_step (suc depth) k ≡ None
        arrow_refused kind.Arrow arrow_is = refl
        arrow_refused kind.Ident arrow_is = cc
        arrow_refused kind.Literal arrow_is = cc
        arrow_refused kind.Class arrow_is = cc
        arrow_refused kind.Slash arrow_is = cc
        arrow_refused kind.And arrow_is = cc
        arrow_refused kind.Not arrow_is = cc
        arrow_refused kind.Question arrow_is = cc
        arrow_refused kind.Star arrow_is = cc
        arrow_refused kind.Plus arrow_is = cc
        arrow_refused kind.Count arrow_is = cc
        arrow_refused kind.Open arrow_is = cc
        arrow_refused kind.Close arrow_is = cc
        arrow_refused kind.Dot arrow_is = cc

        arrow_then : (t : Bool) → is_arrow arrow.kind ≡ t
            → Halts file bound s (opening ∷ rest) (Unexpected arrow.text.start)
        arrow_then true arrow_is = halts-later at_name (refused-here (arrow_refused arrow.kind arrow_is))
        arrow_then false other =
            absurd (wrong kind.Ident is (ap (λ ls. kind_begins kind.Ident (starts_with_arrow ls)) some
            ∙ ap (kind_begins kind.Ident) other))

    by : (k : TokenKind) → lexeme.kind ≡ k
        → Walks file bound s (TokenState.done depth) (opening ∷ rest) (close_of (length file) inside lexeme more k)
    by kind.Close is =
        let count : inside.token_count + 2 ≡ suc (inside.token_count + 1) = omega arith in
        let gone : more ≡ drop (inside.token_count + 2) (opening ∷ rest) =
        ap (drop 1) (sym left) ∙ (drop-drop 1 inside.token_count rest ∙ ap (λ n. drop n (opening ∷ rest)) (sym count)) in
        let closes : Path file bound e.last (lexeme ∷ more) (TokenState.done depth) more =
        Path.goes (next ∙ ap (item_step (suc depth)) is) (omega (arith, less)) (no_count file lexeme kind.Close is refl) Path.stays in (
          omega arith,
          record {
            last = TokenState.done depth;
            path = subst (Path file bound s (opening ∷ rest) (TokenState.done depth)) gone (path-then over closes);
            like = like-itself (TokenState.done depth) (drop (inside.token_count + 2) (opening ∷ rest));
          },
        )
    by kind.Ident is = name_then more refl is
    by kind.Literal is = absurd (wrong kind.Literal is refl)
    by kind.Class is = absurd (wrong kind.Class is refl)
    by kind.Arrow is = stuck kind.Arrow is refl
    by kind.Slash is =
        absurd (let bad : true ≡ false = sym (ap (λ k. Rattle.peg_notation.specs.Reader.is_slash k) is) ∙ unslashed in cc)
    by kind.And is = absurd (wrong kind.And is refl)
    by kind.Not is = absurd (wrong kind.Not is refl)
    by kind.Question is = stuck kind.Question is refl
    by kind.Star is = stuck kind.Star is refl
    by kind.Plus is = stuck kind.Plus is refl
    by kind.Count is = stuck kind.Count is refl
    by kind.Open is = absurd (wrong kind.Open is refl)
    by kind.Dot is = absurd (wrong kind.Dot is refl)

parenthesized-walks : (file : List ℕ) (bound depth : ℕ) (inner : Option Reading) → InnerWalks file bound depth inner
    → (s : TokenState) (opening : Lexeme) (rest : List Lexeme) → opening.kind ≡ kind.Open
    → step s opening.kind ≡ Some (TokenState.ready (suc depth)) → (s_open : open_in s ≡ depth)
    → Walks file bound s (TokenState.done depth) (opening ∷ rest) (parenthesized inner (length file) opening rest)
parenthesized-walks file bound depth None is s opening rest opens next s_open =
    halts-here (HaltsBefore.too_many opens next (s_open ∙ is) refl)
parenthesized-walks file bound depth (Some read) is s opening rest opens next s_open =
    by (read opening.text.end rest) (is.1 opening.text.end rest)
  where
    front : Path file bound s (opening ∷ rest) (TokenState.ready (suc depth)) rest
    front = Path.goes next is.0 (no_count file opening kind.Open opens refl) Path.stays

    closed : (inside : FormRead) → (e : Walked file bound (TokenState.ready (suc depth)) (TokenState.ready (suc depth)) rest inside.token_count)
        → begins_prefix (drop inside.token_count rest) ≡ false → starts_with_slash (drop inside.token_count rest) ≡ false
        → (left : List Lexeme) → drop inside.token_count rest ≡ left
        → Walks file bound s (TokenState.done depth) (opening ∷ rest) (closed_form (length file) inside left)
    closed inside e ended unslashed [] left = record {
      last = e.last;
      rest = [];
      path = path-then front (subst (Path file bound (TokenState.ready (suc depth)) rest e.last) left e.path);
      stop = HaltsBefore.early e.like.ends refl;
    }
    closed inside e ended unslashed (lexeme ∷ more) left =
        close_of-walks file bound depth opening rest s inside is.0 front e lexeme more left
        (subst (SameStep (TokenState.ready (suc depth)) e.last) left e.like.next)
        (ap begins_prefix (sym left) ∙ ended) (ap starts_with_slash (sym left) ∙ unslashed) lexeme.kind refl

    by : (x : Result FormRead ReadError)
        → WalksExpression file bound (TokenState.ready (suc depth)) (TokenState.ready (suc depth)) rest x
        → Walks file bound s (TokenState.done depth) (opening ∷ rest)
        (and_read x (λ (inside : FormRead). closed_form (length file) inside (drop inside.token_count rest)))
    by (Ok inside) e = closed inside e.0 e.1 e.2 (drop inside.token_count rest) refl
    by (Err halt) e = halts-later front e

-- ---- where a Primary starts

-- and or not
abbrev pub is_sign : TokenKind → Bool
is_sign kind.And = true
is_sign kind.Not = true
is_sign _ = false

-- after the operator of a predicate, or where a Prefix begins that is none
pub data Starts (depth : ℕ) (s : TokenState) : List Lexeme → Type 0 where
  following_sign : {lexemes : List Lexeme} → IsLike (TokenState.signed depth) s lexemes → Starts depth s lexemes
  begins : {lexeme : Lexeme} {rest : List Lexeme} → step s lexeme.kind ≡ item_step depth lexeme.kind
      → kind_begins lexeme.kind (starts_with_arrow rest) ≡ true → is_sign lexeme.kind ≡ false
      → Starts depth s (lexeme ∷ rest)

-- an arrow can't follow a Primary
arrow_following : (depth : ℕ) (k : TokenKind) → is_arrow k ≡ true → done_step depth k ≡ None
arrow_following depth kind.Arrow arrow_is = refl
arrow_following depth kind.Ident arrow_is = cc
arrow_following depth kind.Literal arrow_is = cc
arrow_following depth kind.Class arrow_is = cc
arrow_following depth kind.Slash arrow_is = cc
arrow_following depth kind.And arrow_is = cc
arrow_following depth kind.Not arrow_is = cc
arrow_following depth kind.Question arrow_is = cc
arrow_following depth kind.Star arrow_is = cc
arrow_following depth kind.Plus arrow_is = cc
arrow_following depth kind.Count arrow_is = cc
arrow_following depth kind.Open arrow_is = cc
arrow_following depth kind.Close arrow_is = cc
arrow_following depth kind.Dot arrow_is = cc

-- a name that no arrow follows is like any Primary
unnamed : (depth : ℕ) (k : TokenKind) → is_arrow k ≡ false → named_step depth k ≡ done_step depth k
unnamed depth kind.Arrow other = cc
unnamed depth kind.Ident other = refl
unnamed depth kind.Literal other = refl
unnamed depth kind.Class other = refl
unnamed depth kind.Slash other = refl
unnamed depth kind.And other = refl
unnamed depth kind.Not other = refl
unnamed depth kind.Question other = refl
unnamed depth kind.Star other = refl
unnamed depth kind.Plus other = refl
unnamed depth kind.Count other = refl
unnamed depth kind.Open other = refl
unnamed depth kind.Close other = refl
unnamed depth kind.Dot other = refl

named-like : (depth : ℕ) (rest : List Lexeme) → starts_with_arrow rest ≡ false
    → IsLike (TokenState.done depth) (TokenState.named depth) rest
named-like depth [] other = record { next = tt; ends = refl; opens = refl }
named-like depth (lexeme ∷ more) other = record { next = unnamed depth lexeme.kind other; ends = refl; opens = refl }

-- a name
abbrev name_read : List ℕ → Lexeme → List Lexeme → Bool → Result FormRead ReadError
name_read file lexeme rest t =
    if t then Err (Unexpected (place_of (length file) rest)) else one_token
    (form.Name (part file lexeme.text.start lexeme.text.end) lexeme.text) lexeme

signed_name-walks : (file : List ℕ) (bound depth : ℕ) → depth ≤ bound → (s : TokenState) (lexeme : Lexeme) (rest : List Lexeme)
    → step s lexeme.kind ≡ Some (TokenState.done depth) → lexeme.kind ≡ kind.Ident → (t : Bool) → starts_with_arrow rest ≡ t
    → Walks file bound s (TokenState.done depth) (lexeme ∷ rest) (name_read file lexeme rest t)
signed_name-walks file bound depth less s lexeme rest next is false other =
    one-walks (form.Name (part file lexeme.text.start lexeme.text.end) lexeme.text) next less
    (no_count file lexeme kind.Ident is refl) (like-itself (TokenState.done depth) rest)
signed_name-walks file bound depth less s lexeme [] next is true arrow_is = cc
signed_name-walks file bound depth less s lexeme (arrow ∷ more) next is true arrow_is =
    halts-later (Path.goes next less (no_count file lexeme kind.Ident is refl) Path.stays)
    (refused-here (arrow_following depth arrow.kind arrow_is))

begun_name-walks : (file : List ℕ) (bound depth : ℕ) → depth ≤ bound → (s : TokenState) (lexeme : Lexeme) (rest : List Lexeme)
    → step s lexeme.kind ≡ Some (TokenState.named depth) → lexeme.kind ≡ kind.Ident
    → kind_begins lexeme.kind (starts_with_arrow rest) ≡ true → (t : Bool) → starts_with_arrow rest ≡ t
    → Walks file bound s (TokenState.done depth) (lexeme ∷ rest) (name_read file lexeme rest t)
begun_name-walks file bound depth less s lexeme rest next is begun false other =
    one-walks (form.Name (part file lexeme.text.start lexeme.text.end) lexeme.text) next less
    (no_count file lexeme kind.Ident is refl) (named-like depth rest other)
begun_name-walks file bound depth less s lexeme rest next is begun true arrow_is =
    absurd (let no : kind_begins lexeme.kind (starts_with_arrow rest) ≡ false =
    ap (λ k. kind_begins k (starts_with_arrow rest)) is ∙ ap (kind_begins kind.Ident) arrow_is in
    let bad : true ≡ false = sym begun ∙ no in cc)

-- a Primary after the operator of a predicate
signed_primary-walks : (file : List ℕ) (bound depth : ℕ) (inner : Option Reading) → InnerWalks file bound depth inner
    → (s : TokenState) → open_in s ≡ depth → (lexeme : Lexeme) (rest : List Lexeme)
    → step s lexeme.kind ≡ signed_step depth lexeme.kind → (k : TokenKind) → lexeme.kind ≡ k
    → Walks file bound s (TokenState.done depth) (lexeme ∷ rest) (primary_of file inner lexeme rest k)
signed_primary-walks file bound depth inner good s s_open lexeme rest next = by
  where
    less : depth ≤ bound
    less = inner-within file bound depth inner good

    to : (k : TokenKind) → lexeme.kind ≡ k → step s lexeme.kind ≡ signed_step depth k
    to k is = next ∙ ap (signed_step depth) is

    one : (f : Form) (k : TokenKind) → lexeme.kind ≡ k → is_count k ≡ false → signed_step depth k ≡ Some (TokenState.done depth)
        → Walks file bound s (TokenState.done depth) (lexeme ∷ rest) (one_token f lexeme)
    one f k is other done =
        one-walks f (to k is ∙ done) less (no_count file lexeme k is other) (like-itself (TokenState.done depth) rest)

    by : (k : TokenKind) → lexeme.kind ≡ k
        → Walks file bound s (TokenState.done depth) (lexeme ∷ rest) (primary_of file inner lexeme rest k)
    by kind.Ident is =
        signed_name-walks file bound depth less s lexeme rest (to kind.Ident is) is (starts_with_arrow rest) refl
    by kind.Literal is = one (form.Literal (bytes_in (pieces_of file lexeme)) lexeme.text) kind.Literal is refl refl
    by kind.Class is = one (form.Class (class_of (ranges_in (pieces_of file lexeme))) lexeme.text) kind.Class is refl refl
    by kind.Dot is = one (form.Any lexeme.text) kind.Dot is refl refl
    by kind.Open is = parenthesized-walks file bound depth inner good s lexeme rest is (to kind.Open is) s_open
    by kind.Arrow is = refused-here (to kind.Arrow is)
    by kind.Slash is = refused-here (to kind.Slash is)
    by kind.And is = refused-here (to kind.And is)
    by kind.Not is = refused-here (to kind.Not is)
    by kind.Question is = refused-here (to kind.Question is)
    by kind.Star is = refused-here (to kind.Star is)
    by kind.Plus is = refused-here (to kind.Plus is)
    by kind.Count is = refused-here (to kind.Count is)
    by kind.Close is = refused-here (to kind.Close is)

-- a Primary where a Prefix begins
begun_primary-walks : (file : List ℕ) (bound depth : ℕ) (inner : Option Reading) → InnerWalks file bound depth inner
    → (s : TokenState) → open_in s ≡ depth → (lexeme : Lexeme) (rest : List Lexeme)
    → step s lexeme.kind ≡ item_step depth lexeme.kind → kind_begins lexeme.kind (starts_with_arrow rest) ≡ true
    → is_sign lexeme.kind ≡ false → (k : TokenKind) → lexeme.kind ≡ k
    → Walks file bound s (TokenState.done depth) (lexeme ∷ rest) (primary_of file inner lexeme rest k)
begun_primary-walks file bound depth inner good s s_open lexeme rest next begun unsigned = by
  where
    less : depth ≤ bound
    less = inner-within file bound depth inner good

    to : (k : TokenKind) → lexeme.kind ≡ k → step s lexeme.kind ≡ item_step depth k
    to k is = next ∙ ap (item_step depth) is

    one : (f : Form) (k : TokenKind) → lexeme.kind ≡ k → is_count k ≡ false → item_step depth k ≡ Some (TokenState.done depth)
        → Walks file bound s (TokenState.done depth) (lexeme ∷ rest) (one_token f lexeme)
    one f k is other done =
        one-walks f (to k is ∙ done) less (no_count file lexeme k is other) (like-itself (TokenState.done depth) rest)

    wrong : (k : TokenKind) → lexeme.kind ≡ k → kind_begins k (starts_with_arrow rest) ≡ false → ⊥
    wrong k is none =
        let bad : true ≡ false = sym begun ∙ (ap (λ j. kind_begins j (starts_with_arrow rest)) is ∙ none) in cc

    no_sign : (k : TokenKind) → lexeme.kind ≡ k → is_sign k ≡ true → ⊥
    no_sign k is sign = let bad : true ≡ false = sym sign ∙ (ap is_sign (sym is) ∙ unsigned) in cc

    by : (k : TokenKind) → lexeme.kind ≡ k
        → Walks file bound s (TokenState.done depth) (lexeme ∷ rest) (primary_of file inner lexeme rest k)
    by kind.Ident is =
        begun_name-walks file bound depth less s lexeme rest (to kind.Ident is) is begun (starts_with_arrow rest) refl
    by kind.Literal is = one (form.Literal (bytes_in (pieces_of file lexeme)) lexeme.text) kind.Literal is refl refl
    by kind.Class is = one (form.Class (class_of (ranges_in (pieces_of file lexeme))) lexeme.text) kind.Class is refl refl
    by kind.Dot is = one (form.Any lexeme.text) kind.Dot is refl refl
    by kind.Open is = parenthesized-walks file bound depth inner good s lexeme rest is (to kind.Open is) s_open
    by kind.And is = absurd (no_sign kind.And is refl)
    by kind.Not is = absurd (no_sign kind.Not is refl)
    by kind.Arrow is = absurd (wrong kind.Arrow is refl)
    by kind.Slash is = absurd (wrong kind.Slash is refl)
    by kind.Question is = absurd (wrong kind.Question is refl)
    by kind.Star is = absurd (wrong kind.Star is refl)
    by kind.Plus is = absurd (wrong kind.Plus is refl)
    by kind.Count is = absurd (wrong kind.Count is refl)
    by kind.Close is = absurd (wrong kind.Close is refl)

primary-walks : (file : List ℕ) (bound depth : ℕ) (inner : Option Reading) → InnerWalks file bound depth inner
    → (s : TokenState) → open_in s ≡ depth → (lexemes : List Lexeme) → Starts depth s lexemes
    → Walks file bound s (TokenState.done depth) lexemes (primary file inner lexemes)
unfolding primary
primary-walks file bound depth inner good s s_open [] (Starts.following_sign like) = halts-here (HaltsBefore.early like.ends refl)
primary-walks file bound depth inner good s s_open (lexeme ∷ rest) (Starts.following_sign like) =
    signed_primary-walks file bound depth inner good s s_open lexeme rest like.next lexeme.kind refl
primary-walks file bound depth inner good s s_open (lexeme ∷ rest) (Starts.begins next begun unsigned) =
    begun_primary-walks file bound depth inner good s s_open lexeme rest next begun unsigned lexeme.kind refl

-- ---- Suffix

bad_kind : (file : List ℕ) (lexeme : Lexeme) (k : TokenKind) → lexeme.kind ≡ k → is_bad_count file lexeme ≡ true
    → is_count k ≡ true
bad_kind file lexeme k is bad = by (is_count k) refl
  where
    by : (t : Bool) → is_count k ≡ t → is_count k ≡ true
    by true counts = counts
    by false other = absurd (let no : true ≡ false = sym bad ∙ no_count file lexeme k is other in cc)

count_next : (depth : ℕ) (k : TokenKind) → is_count k ≡ true → done_step depth k ≡ Some (TokenState.ready depth)
count_next depth kind.Count counts = refl
count_next depth kind.Ident counts = cc
count_next depth kind.Literal counts = cc
count_next depth kind.Class counts = cc
count_next depth kind.Arrow counts = cc
count_next depth kind.Slash counts = cc
count_next depth kind.And counts = cc
count_next depth kind.Not counts = cc
count_next depth kind.Question counts = cc
count_next depth kind.Star counts = cc
count_next depth kind.Plus counts = cc
count_next depth kind.Open counts = cc
count_next depth kind.Close counts = cc
count_next depth kind.Dot counts = cc

-- a Primary and the operator or count after it
signed-walks : (file : List ℕ) (bound depth : ℕ) → depth ≤ bound → (s : TokenState) (start : ℕ) (lexemes : List Lexeme) (p : FormRead)
    → (e : Walked file bound s (TokenState.done depth) lexemes p.token_count)
    → (lexeme : Lexeme) (more : List Lexeme) → drop p.token_count lexemes ≡ lexeme ∷ more
    → step e.last lexeme.kind ≡ Some (TokenState.ready depth) → is_bad_count file lexeme ≡ false → (sign : Form → Extent → Form)
    → Walks file bound s (TokenState.ready depth) lexemes (Ok (with_suffix start p lexeme (Some sign)))
signed-walks file bound depth less s start lexemes p e lexeme more left next fine sign =
    let gone : more ≡ drop (p.token_count + 1) lexemes = ap (drop 1) (sym left) ∙ drop-drop 1 p.token_count lexemes in
    let over : Path file bound s lexemes e.last (lexeme ∷ more) = subst (Path file bound s lexemes e.last) left e.path in (
      omega arith,
      record {
        last = TokenState.ready depth;
        path = subst (Path file bound s lexemes (TokenState.ready depth)) gone (path-then over (Path.goes next less fine Path.stays));
        like = like-itself (TokenState.ready depth) (drop (p.token_count + 1) lexemes);
      },
    )

-- no operator follows
bare-walks : (file : List ℕ) (bound depth : ℕ) (s : TokenState) (lexemes : List Lexeme) (p : FormRead) → 0 < p.token_count
    → (e : Walked file bound s (TokenState.done depth) lexemes p.token_count)
    → SameStep (TokenState.ready depth) e.last (drop p.token_count lexemes)
    → Walks file bound s (TokenState.ready depth) lexemes (Ok p)
bare-walks file bound depth s lexemes p some e next =
    (some, record { last = e.last; path = e.path; like = record { next = next; ends = e.like.ends; opens = e.like.opens } })

then_suffix-walks : (file : List ℕ) (bound depth : ℕ) → depth ≤ bound → (s : TokenState) (start : ℕ) (lexemes : List Lexeme) (p : FormRead)
    → 0 < p.token_count → (e : Walked file bound s (TokenState.done depth) lexemes p.token_count)
    → (left : List Lexeme) → drop p.token_count lexemes ≡ left
    → Walks file bound s (TokenState.ready depth) lexemes (then_suffix file start p left)
then_suffix-walks file bound depth less s start lexemes p some e [] left =
    bare-walks file bound depth s lexemes p some e (subst (SameStep (TokenState.ready depth) e.last) (sym left) tt)
then_suffix-walks file bound depth less s start lexemes p some e (lexeme ∷ more) left = by (is_bad_count file lexeme) refl
  where
    next : step e.last lexeme.kind ≡ done_step depth lexeme.kind
    next = subst (SameStep (TokenState.done depth) e.last) left e.like.next

    signed : (k : TokenKind) → lexeme.kind ≡ k → done_step depth k ≡ Some (TokenState.ready depth) → is_bad_count file lexeme ≡ false
        → (sign : Form → Extent → Form)
        → Walks file bound s (TokenState.ready depth) lexemes (Ok (with_suffix start p lexeme (Some sign)))
    signed k is to fine sign =
        signed-walks file bound depth less s start lexemes p e lexeme more left (next ∙ (ap (done_step depth) is ∙ to)) fine sign

    bare : (k : TokenKind) → lexeme.kind ≡ k → done_step depth k ≡ item_step depth k
        → Walks file bound s (TokenState.ready depth) lexemes (Ok p)
    bare k is same =
        bare-walks file bound depth s lexemes p some e
        (subst (SameStep (TokenState.ready depth) e.last) (sym left)
        (next ∙ (ap (done_step depth) is ∙ (same ∙ ap (item_step depth) (sym is)))))

    fits : is_bad_count file lexeme ≡ false → (k : TokenKind) → lexeme.kind ≡ k
        → Walks file bound s (TokenState.ready depth) lexemes (Ok (with_suffix start p lexeme (suffix_sign file lexeme k)))
    fits fine kind.Question is = signed kind.Question is refl fine form.Optional
    fits fine kind.Star is = signed kind.Star is refl fine form.Star
    fits fine kind.Plus is = signed kind.Plus is refl fine form.Plus
    fits fine kind.Count is = signed kind.Count is refl fine (counted_form (bounds_of_lexeme file lexeme))
    fits fine kind.Ident is = bare kind.Ident is refl
    fits fine kind.Literal is = bare kind.Literal is refl
    fits fine kind.Class is = bare kind.Class is refl
    fits fine kind.Arrow is = bare kind.Arrow is refl
    fits fine kind.Slash is = bare kind.Slash is refl
    fits fine kind.And is = bare kind.And is refl
    fits fine kind.Not is = bare kind.Not is refl
    fits fine kind.Open is = bare kind.Open is refl
    fits fine kind.Close is = bare kind.Close is refl
    fits fine kind.Dot is = bare kind.Dot is refl

    by : (t : Bool) → is_bad_count file lexeme ≡ t → Walks file bound s (TokenState.ready depth) lexemes
        (if t then Err (BadCountAt lexeme.text.start) else Ok (with_suffix start p lexeme (suffix_sign file lexeme lexeme.kind)))
    by true bad = record {
      last = e.last;
      rest = lexeme ∷ more;
      path = subst (Path file bound s lexemes e.last) left e.path;
      stop = HaltsBefore.out_of_range (next ∙ count_next depth lexeme.kind (bad_kind file lexeme lexeme.kind refl bad)) bad refl;
    }
    by false fine = fits fine lexeme.kind refl

suffix-walks : (file : List ℕ) (bound depth : ℕ) (inner : Option Reading) → InnerWalks file bound depth inner
    → (s : TokenState) → open_in s ≡ depth → (lexemes : List Lexeme) → Starts depth s lexemes
    → Walks file bound s (TokenState.ready depth) lexemes (suffix file inner lexemes)
unfolding suffix
suffix-walks file bound depth inner good s s_open lexemes starts =
    by (primary file inner lexemes) (primary-walks file bound depth inner good s s_open lexemes starts)
  where
    by : (x : Result FormRead ReadError) → Walks file bound s (TokenState.done depth) lexemes x
        → Walks file bound s (TokenState.ready depth) lexemes
        (and_read x (λ (p : FormRead). then_suffix file (place_of (length file) lexemes) p (drop p.token_count lexemes)))
    by (Ok p) e =
        then_suffix-walks file bound depth (inner-within file bound depth inner good) s (place_of (length file) lexemes) lexemes p
        e.0 e.1 (drop p.token_count lexemes) refl
    by (Err halt) e = e

-- ---- Prefix

prefixed-walks : (file : List ℕ) (bound depth : ℕ) (inner : Option Reading) → InnerWalks file bound depth inner
    → (s : TokenState) (lexeme : Lexeme) (rest : List Lexeme) → step s lexeme.kind ≡ Some (TokenState.signed depth)
    → is_bad_count file lexeme ≡ false → (sign : Form → Extent → Form)
    → Walks file bound s (TokenState.ready depth) (lexeme ∷ rest) (prefix_of file inner lexeme rest (Some sign))
prefixed-walks file bound depth inner good s lexeme rest next fine sign =
    by (suffix file inner rest) (suffix-walks file bound depth inner good (TokenState.signed depth) refl rest
    (Starts.following_sign (like-itself (TokenState.signed depth) rest)))
  where
    front : Path file bound s (lexeme ∷ rest) (TokenState.signed depth) rest
    front = Path.goes next (inner-within file bound depth inner good) fine Path.stays

    by : (x : Result FormRead ReadError) → Walks file bound (TokenState.signed depth) (TokenState.ready depth) rest x
        → Walks file bound s (TokenState.ready depth) (lexeme ∷ rest)
        (and_read x (λ (p : FormRead). Ok (with_prefix lexeme.text.start sign p)))
    by (Ok p) e =
        let count : 1 + p.token_count ≡ suc p.token_count = omega arith in
        let gone : drop p.token_count rest ≡ drop (1 + p.token_count) (lexeme ∷ rest) = ap (λ n. drop n (lexeme ∷ rest)) (sym count) in (
          omega arith,
          record {
            last = e.1.last;
            path = subst (Path file bound s (lexeme ∷ rest) e.1.last) gone (path-then front e.1.path);
            like = subst (IsLike (TokenState.ready depth) e.1.last) gone e.1.like;
          },
        )
    by (Err halt) e = halts-later front e

prefix_of-walks : (file : List ℕ) (bound depth : ℕ) (inner : Option Reading) → InnerWalks file bound depth inner
    → (s : TokenState) → open_in s ≡ depth → (lexeme : Lexeme) (rest : List Lexeme)
    → step s lexeme.kind ≡ item_step depth lexeme.kind → kind_begins lexeme.kind (starts_with_arrow rest) ≡ true
    → (k : TokenKind) → lexeme.kind ≡ k
    → Walks file bound s (TokenState.ready depth) (lexeme ∷ rest) (prefix_of file inner lexeme rest (prefix_sign k))
prefix_of-walks file bound depth inner good s s_open lexeme rest next begun = by
  where
    signed : (k : TokenKind) → lexeme.kind ≡ k → item_step depth k ≡ Some (TokenState.signed depth) → is_count k ≡ false
        → (sign : Form → Extent → Form)
        → Walks file bound s (TokenState.ready depth) (lexeme ∷ rest) (prefix_of file inner lexeme rest (Some sign))
    signed k is to other sign =
        prefixed-walks file bound depth inner good s lexeme rest (next ∙ (ap (item_step depth) is ∙ to))
        (no_count file lexeme k is other) sign

    bare : (k : TokenKind) → lexeme.kind ≡ k → is_sign k ≡ false
        → Walks file bound s (TokenState.ready depth) (lexeme ∷ rest) (suffix file inner (lexeme ∷ rest))
    bare k is unsigned =
        suffix-walks file bound depth inner good s s_open (lexeme ∷ rest) (Starts.begins next begun (ap is_sign is ∙ unsigned))

    by : (k : TokenKind) → lexeme.kind ≡ k
        → Walks file bound s (TokenState.ready depth) (lexeme ∷ rest) (prefix_of file inner lexeme rest (prefix_sign k))
    by kind.And is = signed kind.And is refl refl form.And
    by kind.Not is = signed kind.Not is refl refl form.Not
    by kind.Ident is = bare kind.Ident is refl
    by kind.Literal is = bare kind.Literal is refl
    by kind.Class is = bare kind.Class is refl
    by kind.Arrow is = bare kind.Arrow is refl
    by kind.Slash is = bare kind.Slash is refl
    by kind.Question is = bare kind.Question is refl
    by kind.Star is = bare kind.Star is refl
    by kind.Plus is = bare kind.Plus is refl
    by kind.Count is = bare kind.Count is refl
    by kind.Open is = bare kind.Open is refl
    by kind.Close is = bare kind.Close is refl
    by kind.Dot is = bare kind.Dot is refl

pub prefix-walks : (file : List ℕ) (bound depth : ℕ) (inner : Option Reading) → InnerWalks file bound depth inner
    → (s : TokenState) → open_in s ≡ depth → (lexemes : List Lexeme) → IsLike (TokenState.ready depth) s lexemes
    → begins_prefix lexemes ≡ true → Walks file bound s (TokenState.ready depth) lexemes (prefix file inner lexemes)
unfolding prefix
prefix-walks file bound depth inner good s s_open [] like begun = cc
prefix-walks file bound depth inner good s s_open (lexeme ∷ rest) like begun =
    prefix_of-walks file bound depth inner good s s_open lexeme rest like.next begun lexeme.kind refl
