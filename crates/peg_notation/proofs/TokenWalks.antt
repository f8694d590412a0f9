-- The reader's functions from Sequence to Grammar as paths over the states between tokens.
use Rattle.std.proofs.Common.{◌≡◌, ℕ, zero, suc, ◌+◌, ◌-◌, ◌<◌, ◌≤◌, Bool, true, false, List, [], ◌∷◌, length, drop, length-drop}
use Rattle.std.proofs.Common.{Option, None, Some, Result, Ok, Err, if◌then◌else◌, refl, sym, ap, ◌∙◌, subst, arith}
use Rattle.std.proofs.lemmas.List.{drop-drop}
use Rattle.peg_lexer.specs.Tokens.{Lexeme}
use Rattle.peg_lexer.specs.declared.token.TokenKind.{TokenKind}
use Rattle.peg_lexer.specs.declared.token.TokenKind.TheVariants as kind
use Rattle.peg_notation.specs.Reader.{ReadError, Unexpected, TooDeepAt, BadCountAt, FormRead, FormsRead, Reading, place_of, is_arrow, starts_with_arrow, kind_begins, begins_prefix, and_read, no_more, and_form, prefix, many_forms_after, many_forms, whole_sequence, sequence, starts_with_slash, is_slash, after_tokens, alternative, whole_choice, expression, expression_in, RuleRead, RulesRead, and_rules, rule_read, definition_after, definition_of, definition, definitions_after, grammar}
use Rattle.peg_notation.proofs.GrammarRules.{definitions_after-drop}
use Rattle.peg_notation.proofs.Repeats.{many_following-drop}
use Rattle.peg_notation.proofs.TokenStates.{TokenState, item_step, begun_step, titled_step, step, may_end}
use Rattle.peg_notation.proofs.TokenPaths.{Path, path-then, HaltsBefore, Halts, halts-later, halts-here, IsLike, like-itself, Walked, Walks, WalksExpression, InnerWalks, inner-within, no_count, refused-here, prefix-walks}

-- ---- several in a row

-- a path over one of several expressions, and what holds of the tokens that are left
abbrev WalksOne : (file : List ℕ) (bound depth : ℕ) (left : List Lexeme → Type 0) (s : TokenState) (lexemes : List Lexeme)
    → Result FormRead ReadError → Type 0
WalksOne file bound depth left s lexemes (Ok p) =
    (0 < p.token_count) × Walked file bound s (TokenState.ready depth) lexemes p.token_count × left (drop p.token_count lexemes)
WalksOne file bound depth left s lexemes (Err halt) = Halts file bound s lexemes halt

-- a path over all of them: none begins after them
abbrev WalksAll : (file : List ℕ) (bound depth : ℕ) (begins : List Lexeme → Bool) (left : List Lexeme → Type 0) (s : TokenState)
    (lexemes : List Lexeme) → Result FormsRead ReadError → Type 0
WalksAll file bound depth begins left s lexemes (Ok parts) =
    Walked file bound s (TokenState.ready depth) lexemes parts.token_count × left (drop parts.token_count lexemes)
    × (begins (drop parts.token_count lexemes) ≡ false)
WalksAll file bound depth begins left s lexemes (Err halt) = Halts file bound s lexemes halt

-- a function that reads one, where one begins
abbrev WalksEach : (file : List ℕ) (bound depth : ℕ) (begins : List Lexeme → Bool) (left : List Lexeme → Type 0) → Reading → Type 0
WalksEach file bound depth begins left read =
    (before : ℕ) (s : TokenState) (lexemes : List Lexeme) → IsLike (TokenState.ready depth) s lexemes
    → begins lexemes ≡ true → WalksOne file bound depth left s lexemes (read before lexemes)

none-walks : (file : List ℕ) (bound depth before : ℕ) (begins : List Lexeme → Bool) (left : List Lexeme → Type 0) (s : TokenState)
    (lexemes : List Lexeme) → IsLike (TokenState.ready depth) s lexemes → left lexemes → begins lexemes ≡ false
    → WalksAll file bound depth begins left s lexemes (Ok (no_more before))
none-walks file bound depth before begins left s lexemes like holds ended =
    (record { last = s; path = Path.stays; like = like }, holds, ended)

more-walks : (file : List ℕ) (bound depth : ℕ) (begins : List Lexeme → Bool) (left : List Lexeme → Type 0) (s : TokenState)
    (lexemes : List Lexeme) (p : FormRead) → (e : Walked file bound s (TokenState.ready depth) lexemes p.token_count)
    → (x : Result FormsRead ReadError) → WalksAll file bound depth begins left e.last (drop p.token_count lexemes) x
    → WalksAll file bound depth begins left s lexemes (and_read x (λ (parts : FormsRead). Ok (and_form p parts)))
more-walks file bound depth begins left s lexemes p e (Ok parts) m =
    let at : drop parts.token_count (drop p.token_count lexemes) ≡ drop (p.token_count + parts.token_count) lexemes =
    drop-drop parts.token_count p.token_count lexemes in (
      record {
        last = m.0.last;
        path = subst (Path file bound s lexemes m.0.last) at (path-then e.path m.0.path);
        like = subst (IsLike (TokenState.ready depth) m.0.last) at m.0.like;
      },
      subst left at m.1,
      ap begins (sym at) ∙ m.2,
    )
more-walks file bound depth begins left s lexemes p e (Err halt) m = halts-later e.path m

many_forms-walk : (file : List ℕ) (bound depth : ℕ) (begins : List Lexeme → Bool) (left : List Lexeme → Type 0) (read : Reading)
    → begins [] ≡ false → WalksEach file bound depth begins left read
    → (n before : ℕ) (s : TokenState) (lexemes : List Lexeme) → length lexemes ≤ n → IsLike (TokenState.ready depth) s lexemes
    → left lexemes → WalksAll file bound depth begins left s lexemes (many_forms begins read before lexemes)
unfolding many_forms_after
many_forms-walk file bound depth begins left read none each n before s [] few like holds =
    none-walks file bound depth before begins left s [] like holds none
many_forms-walk file bound depth begins left read none each zero before s (l ∷ rest) few like holds = absurd (omega arith)
many_forms-walk file bound depth begins left read none each (suc n) before s (l ∷ rest) few like holds =
    by (begins (l ∷ rest)) refl
    (λ p some e holds_on.
    let one : p.token_count ≡ suc (p.token_count - 1) = omega (arith, some) in
    let same : drop p.token_count (l ∷ rest) ≡ drop (p.token_count - 1) rest = ap (λ k. drop k (l ∷ rest)) one in
    let fewer : length (drop p.token_count (l ∷ rest)) ≤ n = omega (arith, length-drop p.token_count (l ∷ rest), some) in
    subst (λ (x : Result FormsRead ReadError). WalksAll file bound depth begins left e.last (drop p.token_count (l ∷ rest)) x)
    (ap (many_forms begins read p.last) same ∙ sym (many_following-drop begins read p.last rest (p.token_count - 1)))
    (many_forms-walk file bound depth begins left read none each n p.last e.last (drop p.token_count (l ∷ rest)) fewer e.like holds_on))
  where
    round : (x : Result FormRead ReadError) → WalksOne file bound depth left s (l ∷ rest) x
        → ((p : FormRead) → 0 < p.token_count → (e : Walked file bound s (TokenState.ready depth) (l ∷ rest) p.token_count)
        → left (drop p.token_count (l ∷ rest))
        → WalksAll file bound depth begins left e.last (drop p.token_count (l ∷ rest)) (many_forms_after begins read p.last rest (p.token_count - 1)))
        → WalksAll file bound depth begins left s (l ∷ rest) (and_read x (λ (p : FormRead). and_read
        (many_forms_after begins read p.last rest (p.token_count - 1)) (λ (parts : FormsRead). Ok (and_form p parts))))
    round (Ok p) e later =
        more-walks file bound depth begins left s (l ∷ rest) p e.1 (many_forms_after begins read p.last rest (p.token_count - 1))
        (later p e.0 e.1 e.2)
    round (Err halt) e later = e

    by : (t : Bool) → begins (l ∷ rest) ≡ t
        → ((p : FormRead) → 0 < p.token_count → (e : Walked file bound s (TokenState.ready depth) (l ∷ rest) p.token_count)
        → left (drop p.token_count (l ∷ rest))
        → WalksAll file bound depth begins left e.last (drop p.token_count (l ∷ rest)) (many_forms_after begins read p.last rest (p.token_count - 1)))
        → WalksAll file bound depth begins left s (l ∷ rest) (if t then and_read (read before (l ∷ rest)) (λ (p : FormRead). and_read
        (many_forms_after begins read p.last rest (p.token_count - 1)) (λ (parts : FormsRead). Ok (and_form p parts))) else Ok (no_more before))
    by true begun later = round (read before (l ∷ rest)) (each before s (l ∷ rest) like begun) later
    by false ended later = none-walks file bound depth before begins left s (l ∷ rest) like holds ended

-- ---- Sequence and Expression

abbrev NoPrefix : List Lexeme → Type 0
NoPrefix lexemes = begins_prefix lexemes ≡ false

-- a path over a Sequence: no Prefix begins after it
abbrev WalksSequence : (file : List ℕ) (bound depth : ℕ) (s : TokenState) (lexemes : List Lexeme) → Result FormRead ReadError → Type 0
WalksSequence file bound depth s lexemes (Ok p) =
    Walked file bound s (TokenState.ready depth) lexemes p.token_count × NoPrefix (drop p.token_count lexemes)
WalksSequence file bound depth s lexemes (Err halt) = Halts file bound s lexemes halt

prefix-each : (file : List ℕ) (bound depth : ℕ) (inner : Option Reading) → InnerWalks file bound depth inner
    → WalksEach file bound depth begins_prefix (λ lexemes. Unit {0}) (λ before. prefix file inner)
prefix-each file bound depth inner good before s lexemes like begun =
    by (prefix file inner lexemes) (prefix-walks file bound depth inner good s like.opens lexemes like begun)
  where
    by : (x : Result FormRead ReadError) → Walks file bound s (TokenState.ready depth) lexemes x
        → WalksOne file bound depth (λ lexemes. Unit {0}) s lexemes x
    by (Ok p) e = (e.0, e.1, tt)
    by (Err halt) e = e

sequence-walks : (file : List ℕ) (bound depth : ℕ) (inner : Option Reading) → InnerWalks file bound depth inner
    → (before : ℕ) (lexemes : List Lexeme)
    → WalksSequence file bound depth (TokenState.ready depth) lexemes (sequence file inner before lexemes)
unfolding sequence
sequence-walks file bound depth inner good before lexemes =
    by (many_forms begins_prefix (λ b. prefix file inner) before lexemes)
    (many_forms-walk file bound depth begins_prefix (λ ls. Unit {0}) (λ b. prefix file inner) refl
    (prefix-each file bound depth inner good) (length lexemes) before (TokenState.ready depth) lexemes (omega arith)
    (like-itself (TokenState.ready depth) lexemes) tt)
  where
    by : (x : Result FormsRead ReadError)
        → WalksAll file bound depth begins_prefix (λ ls. Unit {0}) (TokenState.ready depth) lexemes x
        → WalksSequence file bound depth (TokenState.ready depth) lexemes
        (and_read x (λ (parts : FormsRead). Ok (whole_sequence before (place_of (length file) lexemes) parts)))
    by (Ok parts) e = (e.0, e.2)
    by (Err halt) e = e

slash_next : (depth : ℕ) (k : TokenKind) → is_slash k ≡ true → item_step depth k ≡ Some (TokenState.ready depth)
slash_next depth kind.Slash slash = refl
slash_next depth kind.Ident slash = cc
slash_next depth kind.Literal slash = cc
slash_next depth kind.Class slash = cc
slash_next depth kind.Arrow slash = cc
slash_next depth kind.And slash = cc
slash_next depth kind.Not slash = cc
slash_next depth kind.Question slash = cc
slash_next depth kind.Star slash = cc
slash_next depth kind.Plus slash = cc
slash_next depth kind.Count slash = cc
slash_next depth kind.Open slash = cc
slash_next depth kind.Close slash = cc
slash_next depth kind.Dot slash = cc

slash_fine : (file : List ℕ) (lexeme : Lexeme) (k : TokenKind) → lexeme.kind ≡ k → is_slash k ≡ true
    → Rattle.peg_notation.specs.Reader.is_bad_count file lexeme ≡ false
slash_fine file lexeme kind.Slash is slash = no_count file lexeme kind.Slash is refl
slash_fine file lexeme kind.Ident is slash = cc
slash_fine file lexeme kind.Literal is slash = cc
slash_fine file lexeme kind.Class is slash = cc
slash_fine file lexeme kind.Arrow is slash = cc
slash_fine file lexeme kind.And is slash = cc
slash_fine file lexeme kind.Not is slash = cc
slash_fine file lexeme kind.Question is slash = cc
slash_fine file lexeme kind.Star is slash = cc
slash_fine file lexeme kind.Plus is slash = cc
slash_fine file lexeme kind.Count is slash = cc
slash_fine file lexeme kind.Open is slash = cc
slash_fine file lexeme kind.Close is slash = cc
slash_fine file lexeme kind.Dot is slash = cc

alternative-each : (file : List ℕ) (bound depth : ℕ) (inner : Option Reading) → InnerWalks file bound depth inner
    → WalksEach file bound depth starts_with_slash NoPrefix (alternative file inner)
unfolding alternative
alternative-each file bound depth inner good before s [] like begun = cc
alternative-each file bound depth inner good before s (slash ∷ rest) like begun =
    by (sequence file inner slash.text.end rest) (sequence-walks file bound depth inner good slash.text.end rest)
  where
    front : Path file bound s (slash ∷ rest) (TokenState.ready depth) rest
    front =
        Path.goes (like.next ∙ slash_next depth slash.kind begun) (inner-within file bound depth inner good)
        (slash_fine file slash slash.kind refl begun) Path.stays

    by : (x : Result FormRead ReadError) → WalksSequence file bound depth (TokenState.ready depth) rest x
        → WalksOne file bound depth NoPrefix s (slash ∷ rest) (and_read x (λ (p : FormRead). Ok (after_tokens 1 p)))
    by (Ok p) e =
        let count : 1 + p.token_count ≡ suc p.token_count = omega arith in
        let gone : drop p.token_count rest ≡ drop (1 + p.token_count) (slash ∷ rest) = ap (λ n. drop n (slash ∷ rest)) (sym count) in (
          omega arith,
          record {
            last = e.0.last;
            path = subst (Path file bound s (slash ∷ rest) e.0.last) gone (path-then front e.0.path);
            like = subst (IsLike (TokenState.ready depth) e.0.last) gone e.0.like;
          },
          ap begins_prefix (sym gone) ∙ e.1,
        )
    by (Err halt) e = halts-later front e

expression-walks : (file : List ℕ) (bound depth : ℕ) (inner : Option Reading) → InnerWalks file bound depth inner
    → (before : ℕ) (lexemes : List Lexeme)
    → WalksExpression file bound (TokenState.ready depth) (TokenState.ready depth) lexemes (expression file inner before lexemes)
expression-walks file bound depth inner good before lexemes =
    by (sequence file inner before lexemes) (sequence-walks file bound depth inner good before lexemes)
  where
    alternatives : (p : FormRead) → (e : Walked file bound (TokenState.ready depth) (TokenState.ready depth) lexemes p.token_count)
        → (x : Result FormsRead ReadError) → WalksAll file bound depth starts_with_slash NoPrefix e.last (drop p.token_count lexemes) x
        → WalksExpression file bound (TokenState.ready depth) (TokenState.ready depth) lexemes
        (and_read x (λ (more : FormsRead). Ok (whole_choice (place_of (length file) lexemes) p more)))
    alternatives p e (Ok more) m =
        let at : drop more.token_count (drop p.token_count lexemes) ≡ drop (p.token_count + more.token_count) lexemes =
        drop-drop more.token_count p.token_count lexemes in (
          record {
            last = m.0.last;
            path = subst (Path file bound (TokenState.ready depth) lexemes m.0.last) at (path-then e.path m.0.path);
            like = subst (IsLike (TokenState.ready depth) m.0.last) at m.0.like;
          },
          ap begins_prefix (sym at) ∙ m.1,
          ap starts_with_slash (sym at) ∙ m.2,
        )
    alternatives p e (Err halt) m = halts-later e.path m

    by : (x : Result FormRead ReadError) → WalksSequence file bound depth (TokenState.ready depth) lexemes x
        → WalksExpression file bound (TokenState.ready depth) (TokenState.ready depth) lexemes
        (and_read x (λ (p : FormRead). and_read (many_forms starts_with_slash (alternative file inner) p.last (drop p.token_count lexemes))
        (λ (more : FormsRead). Ok (whole_choice (place_of (length file) lexemes) p more))))
    by (Ok p) e =
        alternatives p e.0 (many_forms starts_with_slash (alternative file inner) p.last (drop p.token_count lexemes))
        (many_forms-walk file bound depth starts_with_slash NoPrefix (alternative file inner) refl
        (alternative-each file bound depth inner good) (length (drop p.token_count lexemes)) p.last e.0.last
        (drop p.token_count lexemes) (omega arith) e.0.like e.1)
    by (Err halt) e = e

expression_in-walks : (file : List ℕ) (bound n depth : ℕ) → depth + n ≡ bound → (before : ℕ) (lexemes : List Lexeme)
    → WalksExpression file bound (TokenState.ready depth) (TokenState.ready depth) lexemes (expression_in file n before lexemes)
unfolding expression_in
expression_in-walks file bound zero depth left before lexemes =
    expression-walks file bound depth None (omega (arith, left)) before lexemes
expression_in-walks file bound (suc n) depth left before lexemes =
    expression-walks file bound depth (Some (expression_in file n))
    (omega (arith, left), expression_in-walks file bound n (suc depth) (omega (arith, left))) before lexemes

-- ---- Definition and Grammar

-- the last state and the tokens that are left after a definition
record RuleWalked (file : List ℕ) (bound : ℕ) (s : TokenState) (lexemes : List Lexeme) (token_count : ℕ) : Type 0 where
  pub some : 0 < token_count
  pub walked : Walked file bound s (TokenState.ready zero) lexemes token_count
  pub ended : begins_prefix (drop token_count lexemes) ≡ false
  pub unslashed : starts_with_slash (drop token_count lexemes) ≡ false

abbrev WalksRule : (file : List ℕ) (bound : ℕ) (s : TokenState) (lexemes : List Lexeme) → Result RuleRead ReadError → Type 0
WalksRule file bound s lexemes (Ok r) = RuleWalked file bound s lexemes r.token_count
WalksRule file bound s lexemes (Err halt) = Halts file bound s lexemes halt

-- the state where a definition is read: the first one, or one after another
data StartsRule (s : TokenState) : List Lexeme → Type 0 where
  at_first : {lexemes : List Lexeme} → s ≡ TokenState.begun → StartsRule s lexemes
  at_next : {lexemes : List Lexeme} → IsLike (TokenState.ready zero) s lexemes → begins_prefix lexemes ≡ false
      → starts_with_slash lexemes ≡ false → StartsRule s lexemes

-- after the name
data Titled (t : TokenState) : List Lexeme → Type 0 where
  first_title : {rest : List Lexeme} → t ≡ TokenState.titled → Titled t rest
  next_title : {rest : List Lexeme} → t ≡ TokenState.named zero → starts_with_arrow rest ≡ true → Titled t rest

titled_refuses : (k : TokenKind) → is_arrow k ≡ false → titled_step k ≡ None
titled_refuses kind.Arrow other = cc
titled_refuses kind.Ident other = refl
titled_refuses kind.Literal other = refl
titled_refuses kind.Class other = refl
titled_refuses kind.Slash other = refl
titled_refuses kind.And other = refl
titled_refuses kind.Not other = refl
titled_refuses kind.Question other = refl
titled_refuses kind.Star other = refl
titled_refuses kind.Plus other = refl
titled_refuses kind.Count other = refl
titled_refuses kind.Open other = refl
titled_refuses kind.Close other = refl
titled_refuses kind.Dot other = refl

arrow_kind : (k : TokenKind) → is_arrow k ≡ true → k ≡ kind.Arrow
arrow_kind kind.Arrow is = refl
arrow_kind kind.Ident is = cc
arrow_kind kind.Literal is = cc
arrow_kind kind.Class is = cc
arrow_kind kind.Slash is = cc
arrow_kind kind.And is = cc
arrow_kind kind.Not is = cc
arrow_kind kind.Question is = cc
arrow_kind kind.Star is = cc
arrow_kind kind.Plus is = cc
arrow_kind kind.Count is = cc
arrow_kind kind.Open is = cc
arrow_kind kind.Close is = cc
arrow_kind kind.Dot is = cc

-- an arrow after the name
arrow_next : {t : TokenState} {rest : List Lexeme} (k : TokenKind) → Titled t rest → k ≡ kind.Arrow
    → step t k ≡ Some (TokenState.ready zero)
arrow_next {t} k (Titled.first_title is) arrow = λ i. step (is i) (arrow i)
arrow_next {t} k (Titled.next_title is next) arrow = λ i. step (is i) (arrow i)

definition_after-walks : (file : List ℕ) (bound : ℕ) (s t : TokenState) (name : Lexeme) (rest : List Lexeme)
    → Path file bound s (name ∷ rest) t rest → Titled t rest → (arrow_follows : Bool) → starts_with_arrow rest ≡ arrow_follows
    → WalksRule file bound s (name ∷ rest) (definition_after file bound name rest arrow_follows)
definition_after-walks file bound s t name [] front (Titled.first_title is) follows next =
    halts-later front (halts-here (HaltsBefore.early (ap may_end is) refl))
definition_after-walks file bound s t name [] front (Titled.next_title is arrow) follows next = cc
definition_after-walks file bound s t name (arrow ∷ rest) front (Titled.first_title is) false next =
    halts-later front (refused-here (ap (λ (u : TokenState). step u arrow.kind) is ∙ titled_refuses arrow.kind next))
definition_after-walks file bound s t name (arrow ∷ rest) front (Titled.next_title is also) false next =
    absurd (let bad : true ≡ false = sym also ∙ next in cc)
definition_after-walks file bound s t name (arrow ∷ rest) front titled true next =
    by (expression_in file bound arrow.text.end rest) (expression_in-walks file bound bound zero (omega arith) arrow.text.end rest)
  where
    is_arrow_kind : arrow.kind ≡ kind.Arrow
    is_arrow_kind = arrow_kind arrow.kind next

    over : Path file bound s (name ∷ arrow ∷ rest) (TokenState.ready zero) rest
    over =
        path-then front (Path.goes (arrow_next arrow.kind titled is_arrow_kind) (omega arith)
        (no_count file arrow kind.Arrow is_arrow_kind refl) Path.stays)

    by : (x : Result FormRead ReadError) → WalksExpression file bound (TokenState.ready zero) (TokenState.ready zero) rest x
        → WalksRule file bound s (name ∷ arrow ∷ rest) (and_read x (λ (body : FormRead). Ok (rule_read file name body)))
    by (Ok body) e =
        let count : 2 + body.token_count ≡ suc (suc body.token_count) = omega arith in
        let gone : drop body.token_count rest ≡ drop (2 + body.token_count) (name ∷ arrow ∷ rest) =
        ap (λ n. drop n (name ∷ arrow ∷ rest)) (sym count) in
        record {
          some = omega arith;
          walked = record {
            last = e.0.last;
            path = subst (Path file bound s (name ∷ arrow ∷ rest) e.0.last) gone (path-then over e.0.path);
            like = subst (IsLike (TokenState.ready zero) e.0.last) gone e.0.like;
          };
          ended = ap begins_prefix (sym gone) ∙ e.1;
          unslashed = ap starts_with_slash (sym gone) ∙ e.2;
        }
    by (Err halt) e = halts-later over e

-- a name of a definition
name-walks : (file : List ℕ) (bound : ℕ) (s : TokenState) (name : Lexeme) (rest : List Lexeme) → StartsRule s (name ∷ rest)
    → name.kind ≡ kind.Ident → WalksRule file bound s (name ∷ rest) (definition_after file bound name rest (starts_with_arrow rest))
name-walks file bound s name rest (StartsRule.at_first is) ident =
    definition_after-walks file bound s TokenState.titled name rest
    (Path.goes (λ i. step (is i) (ident i)) (omega arith) (no_count file name kind.Ident ident refl) Path.stays)
    (Titled.first_title refl) (starts_with_arrow rest) refl
name-walks file bound s name rest (StartsRule.at_next like ended unslashed) ident =
    definition_after-walks file bound s (TokenState.named zero) name rest
    (Path.goes (like.next ∙ ap (item_step zero) ident) (omega arith) (no_count file name kind.Ident ident refl) Path.stays)
    (Titled.next_title refl (arrow_must (starts_with_arrow rest) refl)) (starts_with_arrow rest) refl
  where
    arrow_must : (t : Bool) → starts_with_arrow rest ≡ t → starts_with_arrow rest ≡ true
    arrow_must true is = is
    arrow_must false other =
        absurd (let begun : kind_begins name.kind (starts_with_arrow rest) ≡ true =
        ap (λ k. kind_begins k (starts_with_arrow rest)) ident ∙ ap (kind_begins kind.Ident) other in
        let bad : true ≡ false = sym begun ∙ ended in cc)

-- any other token is refused
other-walks : (file : List ℕ) (bound : ℕ) (s : TokenState) (lexeme : Lexeme) (rest : List Lexeme) → StartsRule s (lexeme ∷ rest)
    → (k : TokenKind) → lexeme.kind ≡ k → begun_step k ≡ None
    → (kind_begins k (starts_with_arrow rest) ≡ false → is_slash k ≡ false → item_step zero k ≡ None)
    → Halts file bound s (lexeme ∷ rest) (Unexpected lexeme.text.start)
other-walks file bound s lexeme rest (StartsRule.at_first is) k same first next =
    refused-here (ap (λ (u : TokenState). step u lexeme.kind) is ∙ (ap begun_step same ∙ first))
other-walks file bound s lexeme rest (StartsRule.at_next like ended unslashed) k same first next =
    refused-here (like.next ∙ (ap (item_step zero) same ∙ next
    (ap (λ j. kind_begins j (starts_with_arrow rest)) (sym same) ∙ ended) (ap is_slash (sym same) ∙ unslashed)))

definition_of-walks : (file : List ℕ) (bound : ℕ) (s : TokenState) (lexeme : Lexeme) (rest : List Lexeme)
    → StartsRule s (lexeme ∷ rest) → (k : TokenKind) → lexeme.kind ≡ k
    → WalksRule file bound s (lexeme ∷ rest) (definition_of file bound lexeme rest k)
definition_of-walks file bound s lexeme rest starts = by
  where
    by : (k : TokenKind) → lexeme.kind ≡ k → WalksRule file bound s (lexeme ∷ rest) (definition_of file bound lexeme rest k)
    by kind.Ident is = name-walks file bound s lexeme rest starts is
    by kind.Literal is = other-walks file bound s lexeme rest starts kind.Literal is refl (λ no slash. cc)
    by kind.Class is = other-walks file bound s lexeme rest starts kind.Class is refl (λ no slash. cc)
    by kind.Arrow is = other-walks file bound s lexeme rest starts kind.Arrow is refl (λ no slash. refl)
    by kind.Slash is = other-walks file bound s lexeme rest starts kind.Slash is refl (λ no slash. cc)
    by kind.And is = other-walks file bound s lexeme rest starts kind.And is refl (λ no slash. cc)
    by kind.Not is = other-walks file bound s lexeme rest starts kind.Not is refl (λ no slash. cc)
    by kind.Question is = other-walks file bound s lexeme rest starts kind.Question is refl (λ no slash. refl)
    by kind.Star is = other-walks file bound s lexeme rest starts kind.Star is refl (λ no slash. refl)
    by kind.Plus is = other-walks file bound s lexeme rest starts kind.Plus is refl (λ no slash. refl)
    by kind.Count is = other-walks file bound s lexeme rest starts kind.Count is refl (λ no slash. refl)
    by kind.Open is = other-walks file bound s lexeme rest starts kind.Open is refl (λ no slash. cc)
    by kind.Close is = other-walks file bound s lexeme rest starts kind.Close is refl (λ no slash. refl)
    by kind.Dot is = other-walks file bound s lexeme rest starts kind.Dot is refl (λ no slash. cc)

definition-walks : (file : List ℕ) (bound : ℕ) (s : TokenState) (lexeme : Lexeme) (rest : List Lexeme)
    → StartsRule s (lexeme ∷ rest) → WalksRule file bound s (lexeme ∷ rest) (definition file bound (lexeme ∷ rest))
unfolding definition
definition-walks file bound s lexeme rest starts = definition_of-walks file bound s lexeme rest starts lexeme.kind refl

-- a path over the tokens to their end, where they may end
pub record WalkedAll (file : List ℕ) (bound : ℕ) (s : TokenState) (lexemes : List Lexeme) : Type 0 where
  pub last : TokenState
  pub path : Path file bound s lexemes last []
  pub ends : may_end last ≡ true

abbrev pub WalksGrammar : (file : List ℕ) (bound : ℕ) (s : TokenState) (lexemes : List Lexeme) → Result RulesRead ReadError → Type 0
WalksGrammar file bound s lexemes (Ok read) = WalkedAll file bound s lexemes
WalksGrammar file bound s lexemes (Err halt) = Halts file bound s lexemes halt

definitions-walk : (file : List ℕ) (bound n : ℕ) (s : TokenState) (lexeme : Lexeme) (rest : List Lexeme)
    → length (lexeme ∷ rest) ≤ n → StartsRule s (lexeme ∷ rest)
    → WalksGrammar file bound s (lexeme ∷ rest) (definitions_after file bound (lexeme ∷ rest) zero)
unfolding definitions_after
definitions-walk file bound zero s l rest few starts = absurd (omega arith)
definitions-walk file bound (suc n) s l rest few starts =
    by (definition file bound (l ∷ rest)) (definition-walks file bound s l rest starts)
    (λ r e lexeme more left. definitions-walk file bound n e.walked.last lexeme more
    (omega (arith, length-drop r.token_count (l ∷ rest), e.some, ap (λ (ls : List Lexeme). length ls) left))
    (subst (λ (ls : List Lexeme). StartsRule e.walked.last ls) left (StartsRule.at_next e.walked.like e.ended e.unslashed)))
  where
    more_rules : (r : RuleRead) → (e : RuleWalked file bound s (l ∷ rest) r.token_count)
        → ((lexeme : Lexeme) (more : List Lexeme) → drop r.token_count (l ∷ rest) ≡ lexeme ∷ more
        → WalksGrammar file bound e.walked.last (lexeme ∷ more) (definitions_after file bound (lexeme ∷ more) zero))
        → (ls : List Lexeme) → drop r.token_count (l ∷ rest) ≡ ls
        → WalksGrammar file bound e.walked.last ls (definitions_after file bound ls zero)
    more_rules r e later [] left = record { last = e.walked.last; path = Path.stays; ends = e.walked.like.ends }
    more_rules r e later (lexeme ∷ more) left = later lexeme more left

    both : (r : RuleRead) → (e : RuleWalked file bound s (l ∷ rest) r.token_count) → (x : Result RulesRead ReadError)
        → WalksGrammar file bound e.walked.last (drop r.token_count (l ∷ rest)) x
        → WalksGrammar file bound s (l ∷ rest) (and_read x (λ (more : RulesRead). Ok (and_rules r more)))
    both r e (Ok more) m = record { last = m.last; path = path-then e.walked.path m.path; ends = m.ends }
    both r e (Err halt) m = halts-later e.walked.path m

    by : (x : Result RuleRead ReadError) → WalksRule file bound s (l ∷ rest) x
        → ((r : RuleRead) → (e : RuleWalked file bound s (l ∷ rest) r.token_count) → (lexeme : Lexeme) (more : List Lexeme)
        → drop r.token_count (l ∷ rest) ≡ lexeme ∷ more
        → WalksGrammar file bound e.walked.last (lexeme ∷ more) (definitions_after file bound (lexeme ∷ more) zero))
        → WalksGrammar file bound s (l ∷ rest) (and_read x (λ (first : RuleRead). and_read
        (definitions_after file bound rest (first.token_count - 1)) (λ (more : RulesRead). Ok (and_rules first more))))
    by (Ok r) e later =
        let one : r.token_count ≡ suc (r.token_count - 1) = omega (arith, e.some) in
        let same : drop r.token_count (l ∷ rest) ≡ drop (r.token_count - 1) rest = ap (λ k. drop k (l ∷ rest)) one in
        both r e (definitions_after file bound rest (r.token_count - 1))
        (subst (λ (x : Result RulesRead ReadError). WalksGrammar file bound e.walked.last (drop r.token_count (l ∷ rest)) x)
        (ap (λ ls. definitions_after file bound ls zero) same ∙ sym (definitions_after-drop file bound rest (r.token_count - 1)))
        (more_rules r e (later r e) (drop r.token_count (l ∷ rest)) refl))
    by (Err halt) e later = e

pub grammar-walks : (file : List ℕ) (bound : ℕ) (lexemes : List Lexeme)
    → WalksGrammar file bound TokenState.begun lexemes (grammar file bound lexemes)
unfolding grammar
grammar-walks file bound [] = halts-here (HaltsBefore.early refl refl)
grammar-walks file bound (lexeme ∷ rest) =
    definitions-walk file bound (length (lexeme ∷ rest)) TokenState.begun lexeme rest (omega arith) (StartsRule.at_first refl)
