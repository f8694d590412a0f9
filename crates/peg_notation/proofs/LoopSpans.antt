-- No two stars or pluses of a rule that is read have the same span. In written order each begins after the one before it:
-- a part that has any is in parentheses, and expressions in a row don't overlap.
use Rattle.std.proofs.Common.{◌≡◌, ℕ, zero, suc, ◌+◌, ◌-◌, ◌≤◌, inl, inr, Bool, true, false, List, [], ◌∷◌, ◌++◌, length, drop, length-drop, append-nil}
use Rattle.std.proofs.Common.{Option, None, Some, option_map, Result, Ok, Err, if◌then◌else◌, refl, sym, ap, ◌∙◌, subst, arith}
use Rattle.std.proofs.lemmas.List.Elements.{All-nil, All-cons}
use Rattle.peg_bytes.specs.Extent.{Extent, between}
use Rattle.peg_semantics.specs.Form as form
use Rattle.peg_semantics.specs.Form.{Form, forms}
use Rattle.peg_semantics.specs.Rules.{Rule}
use Rattle.peg_semantics.specs.WrittenLoops.{WrittenLoop, loops_written, loops_written_by_all, HasSpan, HaveOwnSpans, SpansNameLoops}
use Rattle.peg_lexer.specs.Lexical.{matcher_of}
use Rattle.peg_lexer.specs.Matchers.{PrefixMatch, Matcher}
use Rattle.peg_lexer.specs.Tokens.{Lexeme}
use Rattle.peg_lexer.specs.declared.token.TokenKind.{TokenKind}
use Rattle.peg_lexer.specs.declared.token.TokenKind.TheVariants as kind
use Rattle.peg_lexer.proofs.PieceSizes.{HasBytes}
use Rattle.peg_lexer.proofs.TokenSizes.{identifier-some, literal-some, class-some, dot-some, open-some}
use Rattle.peg_metagrammar.specs.Denotation.{part, sequence_spelled, choice_spelled}
use Rattle.peg_notation.specs.Reader.{ReadError, Unexpected, TooDeepAt, BadCountAt, FormRead, FormsRead, Reading, place_of, is_bad_count, starts_with_arrow, begins_prefix, and_read, one_token, no_more, and_form, close_of, closed_form, parenthesized, named, primary_of, primary, suffix_sign, with_suffix, then_suffix, suffix, with_prefix, prefix_sign, prefix_of, prefix, many_forms_after, many_forms, whole_sequence, sequence, starts_with_slash, after_tokens, alternative, whole_choice, expression, expression_in, RuleRead, RulesRead, and_rules, rule_read, definition_after, definition_of, definition, definitions_after, grammar}
use Rattle.peg_notation.specs.ReaderCode.{IsText, AreTexts}
use Rattle.peg_notation.proofs.GrammarRules.{definitions_after-drop}
use Rattle.peg_notation.proofs.Reached.{token-order, texts-position, Taken, Takes, Reaches, InnerReaches, primary-takes, prefix-takes}
use Rattle.peg_notation.proofs.ReachedRules.{Rounds, sequence-reaches, alternative-takes, expression_in-reaches, RuleReached, RuleReaches, definition-reaches}
use Rattle.peg_notation.proofs.Repeats.{many_following-drop}

-- ---- loops that begin one after the other

-- these loops begin at `from` or later and before `to`, each after the one before it
abbrev Ascend : (from to : ℕ) → List WrittenLoop → Type 0
Ascend from to [] = from ≤ to
Ascend from to (loop ∷ more) = (from ≤ loop.span.start) × Ascend (suc loop.span.start) to more

ascend-widen : (loops : List WrittenLoop) (from to lower upper : ℕ) → lower ≤ from → to ≤ upper → Ascend from to loops
    → Ascend lower upper loops
ascend-widen [] from to lower upper low high is = omega (arith, low, high, is)
ascend-widen (loop ∷ more) from to lower upper low high is = (
  omega (arith, low, is.0),
  ascend-widen more (suc loop.span.start) to (suc loop.span.start) upper (omega arith) high is.1,
)

ascend-append : (loops more : List WrittenLoop) (from mid to : ℕ) → Ascend from mid loops → Ascend mid to more
    → Ascend from to (loops ++ more)
ascend-append [] more from mid to is next = ascend-widen more mid to from to is (omega arith) next
ascend-append (loop ∷ loops) more from mid to is next =
    (is.0, ascend-append loops more (suc loop.span.start) mid to is.1 next)

starts_above : (loops : List WrittenLoop) (from to : ℕ) (span : Extent) → Ascend from to loops → HasSpan loops span
    → from ≤ span.start
starts_above [] from to span is has = absurd has
starts_above (loop ∷ more) from to span is (inl here) = subst (λ (one : Extent). from ≤ one.start) here is.0
starts_above (loop ∷ more) from to span is (inr there) =
    omega (arith, is.0, starts_above more (suc loop.span.start) to span is.1 there)

own_spans : (loops : List WrittenLoop) (from to : ℕ) → Ascend from to loops → HaveOwnSpans loops
own_spans [] from to is = tt
own_spans (loop ∷ more) from to is = (
  λ has. absurd (omega (arith, starts_above more (suc loop.span.start) to loop.span is.1 has)),
  own_spans more (suc loop.span.start) to is.1,
)

-- the loops of an expression that was read
abbrev Ascends : (from : ℕ) → Result FormRead ReadError → Type 0
Ascends from (Ok p) = Ascend from p.last (loops_written p.form)
Ascends from (Err why) = Unit {0}

abbrev InnerAscends : (file : List ℕ) → Option Reading → Type 0
InnerAscends file None = Unit {0}
InnerAscends file (Some read) =
    (before : ℕ) (lexemes : List Lexeme) → AreTexts file before lexemes → Ascends before (read before lexemes)

-- ---- Primary

piece_end : (start end : ℕ) (find : Matcher) (rest : List ℕ) → HasBytes find → (x : Option PrefixMatch) → find rest ≡ x
    → option_map (λ (piece : PrefixMatch). start + piece.length) x ≡ Some end → suc start ≤ end
piece_end start end find rest has None is found = cc
piece_end start end find rest has (Some piece) is found =
    let same : start + piece.length ≡ end = cc in omega (arith, same, has.some rest piece is)

-- the text of a token has a byte
token_long : (file : List ℕ) (lexeme : Lexeme) (k : TokenKind) → IsText file lexeme → lexeme.kind ≡ k
    → HasBytes (matcher_of k) → suc lexeme.text.start ≤ lexeme.text.end
token_long file lexeme k text is has =
    piece_end lexeme.text.start lexeme.text.end (matcher_of k) (drop lexeme.text.start file) has
    (matcher_of k (drop lexeme.text.start file)) refl
    (subst (λ (j : TokenKind). option_map (λ (piece : PrefixMatch). lexeme.text.start + piece.length)
    (matcher_of j (drop lexeme.text.start file)) ≡ Some lexeme.text.end) is text)

named-ascends : (file : List ℕ) (lexeme : Lexeme) (rest : List Lexeme) → suc lexeme.text.start ≤ lexeme.text.end
    → Ascends (suc lexeme.text.start) (named file lexeme rest)
named-ascends file lexeme rest long = by (starts_with_arrow rest)
  where
    by : (t : Bool) → Ascends (suc lexeme.text.start) (if t then Err (Unexpected (place_of (length file) rest))
        else one_token (form.Name (part file lexeme.text.start lexeme.text.end) lexeme.text) lexeme)
    by true = tt
    by false = long

-- a closing parenthesis ends after what is inside
close_of-ascends : (file : List ℕ) (from : ℕ) (inside : FormRead) (lexeme : Lexeme) (more : List Lexeme)
    → AreTexts file inside.last (lexeme ∷ more) → Ascend from inside.last (loops_written inside.form)
    → (k : TokenKind) → Ascends from (close_of (length file) inside lexeme more k)
close_of-ascends file from inside lexeme more texts is kind.Close =
    ascend-widen (loops_written inside.form) from inside.last from lexeme.text.end (omega arith)
    (omega (arith, texts.0, token-order file inside.last lexeme more texts)) is
close_of-ascends file from inside lexeme more texts is kind.Ident = tt
close_of-ascends file from inside lexeme more texts is kind.Literal = tt
close_of-ascends file from inside lexeme more texts is kind.Class = tt
close_of-ascends file from inside lexeme more texts is kind.Arrow = tt
close_of-ascends file from inside lexeme more texts is kind.Slash = tt
close_of-ascends file from inside lexeme more texts is kind.And = tt
close_of-ascends file from inside lexeme more texts is kind.Not = tt
close_of-ascends file from inside lexeme more texts is kind.Question = tt
close_of-ascends file from inside lexeme more texts is kind.Star = tt
close_of-ascends file from inside lexeme more texts is kind.Plus = tt
close_of-ascends file from inside lexeme more texts is kind.Count = tt
close_of-ascends file from inside lexeme more texts is kind.Open = tt
close_of-ascends file from inside lexeme more texts is kind.Dot = tt

closed_form-ascends : (file : List ℕ) (from : ℕ) (inside : FormRead) (left : List Lexeme)
    → AreTexts file inside.last left → Ascend from inside.last (loops_written inside.form)
    → Ascends from (closed_form (length file) inside left)
closed_form-ascends file from inside [] texts is = tt
closed_form-ascends file from inside (lexeme ∷ more) texts is =
    close_of-ascends file from inside lexeme more texts is lexeme.kind

parenthesized-ascends : (file : List ℕ) (bound a from : ℕ) (inner : Option Reading) → InnerReaches file bound a inner
    → InnerAscends file inner → (opening : Lexeme) (rest : List Lexeme) → AreTexts file from (opening ∷ rest)
    → suc opening.text.start ≤ opening.text.end
    → Ascends (suc opening.text.start) (parenthesized inner (length file) opening rest)
parenthesized-ascends file bound a from None e g opening rest texts long = tt
parenthesized-ascends file bound a from (Some read) e g opening rest texts long =
    by (read opening.text.end rest) (e.1 opening.text.end rest texts.2) (g opening.text.end rest texts.2)
  where
    by : (x : Result FormRead ReadError) → Reaches file bound (suc a) opening.text.end rest x → Ascends opening.text.end x
        → Ascends (suc opening.text.start)
        (and_read x (λ (inside : FormRead). closed_form (length file) inside (drop inside.token_count rest)))
    by (Ok inside) reached is =
        closed_form-ascends file (suc opening.text.start) inside (drop inside.token_count rest) reached.rest_texts
        (ascend-widen (loops_written inside.form) opening.text.end inside.last (suc opening.text.start) inside.last long
        (omega arith) is)
    by (Err (Unexpected at)) reached is = tt
    by (Err (TooDeepAt at)) reached is = tt
    by (Err (BadCountAt at)) reached is = tt

primary_of-ascends : (file : List ℕ) (bound a from : ℕ) (inner : Option Reading) → InnerReaches file bound a inner
    → InnerAscends file inner → (lexeme : Lexeme) (rest : List Lexeme) → AreTexts file from (lexeme ∷ rest)
    → (k : TokenKind) → lexeme.kind ≡ k → Ascends (suc lexeme.text.start) (primary_of file inner lexeme rest k)
primary_of-ascends file bound a from inner e g lexeme rest texts kind.Ident is =
    named-ascends file lexeme rest (token_long file lexeme kind.Ident texts.1 is identifier-some)
primary_of-ascends file bound a from inner e g lexeme rest texts kind.Literal is =
    token_long file lexeme kind.Literal texts.1 is literal-some
primary_of-ascends file bound a from inner e g lexeme rest texts kind.Class is =
    token_long file lexeme kind.Class texts.1 is class-some
primary_of-ascends file bound a from inner e g lexeme rest texts kind.Dot is =
    token_long file lexeme kind.Dot texts.1 is dot-some
primary_of-ascends file bound a from inner e g lexeme rest texts kind.Open is =
    parenthesized-ascends file bound a from inner e g lexeme rest texts
    (token_long file lexeme kind.Open texts.1 is open-some)
primary_of-ascends file bound a from inner e g lexeme rest texts kind.Arrow is = tt
primary_of-ascends file bound a from inner e g lexeme rest texts kind.Slash is = tt
primary_of-ascends file bound a from inner e g lexeme rest texts kind.And is = tt
primary_of-ascends file bound a from inner e g lexeme rest texts kind.Not is = tt
primary_of-ascends file bound a from inner e g lexeme rest texts kind.Question is = tt
primary_of-ascends file bound a from inner e g lexeme rest texts kind.Star is = tt
primary_of-ascends file bound a from inner e g lexeme rest texts kind.Plus is = tt
primary_of-ascends file bound a from inner e g lexeme rest texts kind.Count is = tt
primary_of-ascends file bound a from inner e g lexeme rest texts kind.Close is = tt

primary-ascends : (file : List ℕ) (bound a from : ℕ) (inner : Option Reading) → InnerReaches file bound a inner
    → InnerAscends file inner → (lexemes : List Lexeme) → AreTexts file from lexemes
    → Ascends (suc (place_of (length file) lexemes)) (primary file inner lexemes)
unfolding primary
primary-ascends file bound a from inner e g [] texts = tt
primary-ascends file bound a from inner e g (lexeme ∷ rest) texts =
    primary_of-ascends file bound a from inner e g lexeme rest texts lexeme.kind refl

-- ---- Suffix and Prefix

-- a star begins where its part does
with_suffix-ascends : (file : List ℕ) (start : ℕ) (p : FormRead) (lexeme : Lexeme) (more : List Lexeme)
    → AreTexts file p.last (lexeme ∷ more) → Ascend (suc start) p.last (loops_written p.form) → (k : TokenKind)
    → Ascends start (Ok (with_suffix start p lexeme (suffix_sign file lexeme k)))
with_suffix-ascends file start p lexeme more texts is k = by k
  where
    kept : Ascend start p.last (loops_written p.form)
    kept = ascend-widen (loops_written p.form) (suc start) p.last start p.last (omega arith) (omega arith) is

    longer : Ascend (suc start) lexeme.text.end (loops_written p.form)
    longer =
        ascend-widen (loops_written p.form) (suc start) p.last (suc start) lexeme.text.end (omega arith)
        (omega (arith, texts.0, token-order file p.last lexeme more texts)) is

    wider : Ascend start lexeme.text.end (loops_written p.form)
    wider =
        ascend-widen (loops_written p.form) (suc start) lexeme.text.end start lexeme.text.end (omega arith) (omega arith)
        longer

    by : (k : TokenKind) → Ascends start (Ok (with_suffix start p lexeme (suffix_sign file lexeme k)))
    by kind.Question = wider
    by kind.Star = (omega arith, longer)
    by kind.Plus = (omega arith, longer)
    by kind.Count = wider
    by kind.Ident = kept
    by kind.Literal = kept
    by kind.Class = kept
    by kind.Arrow = kept
    by kind.Slash = kept
    by kind.And = kept
    by kind.Not = kept
    by kind.Open = kept
    by kind.Close = kept
    by kind.Dot = kept

then_suffix-ascends : (file : List ℕ) (start : ℕ) (p : FormRead) (left : List Lexeme) → AreTexts file p.last left
    → Ascend (suc start) p.last (loops_written p.form) → Ascends start (then_suffix file start p left)
then_suffix-ascends file start p [] texts is =
    ascend-widen (loops_written p.form) (suc start) p.last start p.last (omega arith) (omega arith) is
then_suffix-ascends file start p (lexeme ∷ more) texts is = by (is_bad_count file lexeme)
  where
    by : (t : Bool) → Ascends start (if t then Err (BadCountAt lexeme.text.start) else Ok
        (with_suffix start p lexeme (suffix_sign file lexeme lexeme.kind)))
    by true = tt
    by false = with_suffix-ascends file start p lexeme more texts is lexeme.kind

suffix-ascends : (file : List ℕ) (bound a from : ℕ) (inner : Option Reading) → InnerReaches file bound a inner
    → InnerAscends file inner → (lexemes : List Lexeme) → AreTexts file from lexemes
    → Ascends (place_of (length file) lexemes) (suffix file inner lexemes)
unfolding suffix
suffix-ascends file bound a from inner e g lexemes texts =
    by (primary file inner lexemes) (primary-takes file bound a from inner e lexemes texts)
    (primary-ascends file bound a from inner e g lexemes texts)
  where
    by : (x : Result FormRead ReadError) → Takes file bound a lexemes x
        → Ascends (suc (place_of (length file) lexemes)) x → Ascends (place_of (length file) lexemes)
        (and_read x (λ (p : FormRead). then_suffix file (place_of (length file) lexemes) p (drop p.token_count lexemes)))
    by (Ok p) taken is =
        then_suffix-ascends file (place_of (length file) lexemes) p (drop p.token_count lexemes) taken.rest_texts is
    by (Err (Unexpected at)) taken is = tt
    by (Err (TooDeepAt at)) taken is = tt
    by (Err (BadCountAt at)) taken is = tt

-- a predicate has the loops of its part
prefixed-ascends : (file : List ℕ) (bound a from : ℕ) (inner : Option Reading) → InnerReaches file bound a inner
    → InnerAscends file inner → (lexeme : Lexeme) (rest : List Lexeme) → AreTexts file from (lexeme ∷ rest)
    → (sign : Form → Extent → Form)
    → ((f : Form) (span : Extent) → loops_written (sign f span) ≡ loops_written f)
    → Ascends lexeme.text.start (prefix_of file inner lexeme rest (Some sign))
prefixed-ascends file bound a from inner e g lexeme rest texts sign same =
    by (suffix file inner rest) (suffix-ascends file bound a lexeme.text.end inner e g rest texts.2)
  where
    earlier : lexeme.text.start ≤ place_of (length file) rest
    earlier = omega
        (arith, token-order file from lexeme rest texts, texts-position file lexeme.text.end rest texts.2)

    by : (x : Result FormRead ReadError) → Ascends (place_of (length file) rest) x → Ascends lexeme.text.start
        (and_read x (λ (p : FormRead). Ok (with_prefix lexeme.text.start sign p)))
    by (Ok p) is =
        subst (Ascend lexeme.text.start p.last) (sym (same p.form (between lexeme.text.start p.last)))
        (ascend-widen (loops_written p.form) (place_of (length file) rest) p.last lexeme.text.start p.last earlier
        (omega arith) is)
    by (Err why) is = tt

prefix_of-ascends : (file : List ℕ) (bound a from : ℕ) (inner : Option Reading) → InnerReaches file bound a inner
    → InnerAscends file inner → (lexeme : Lexeme) (rest : List Lexeme) → AreTexts file from (lexeme ∷ rest)
    → (k : TokenKind) → Ascends lexeme.text.start (prefix_of file inner lexeme rest (prefix_sign k))
prefix_of-ascends file bound a from inner e g lexeme rest texts k = by k
  where
    plain : Ascends lexeme.text.start (suffix file inner (lexeme ∷ rest))
    plain = suffix-ascends file bound a from inner e g (lexeme ∷ rest) texts

    by : (k : TokenKind) → Ascends lexeme.text.start (prefix_of file inner lexeme rest (prefix_sign k))
    by kind.And = prefixed-ascends file bound a from inner e g lexeme rest texts form.And (λ f span. refl)
    by kind.Not = prefixed-ascends file bound a from inner e g lexeme rest texts form.Not (λ f span. refl)
    by kind.Ident = plain
    by kind.Literal = plain
    by kind.Class = plain
    by kind.Arrow = plain
    by kind.Slash = plain
    by kind.Question = plain
    by kind.Star = plain
    by kind.Plus = plain
    by kind.Count = plain
    by kind.Open = plain
    by kind.Close = plain
    by kind.Dot = plain

prefix-ascends : (file : List ℕ) (bound a before : ℕ) (inner : Option Reading) → InnerReaches file bound a inner
    → InnerAscends file inner → (lexemes : List Lexeme) → AreTexts file before lexemes
    → Ascends (place_of (length file) lexemes) (prefix file inner lexemes)
unfolding prefix
prefix-ascends file bound a before inner e g [] texts = suffix-ascends file bound a before inner e g [] texts
prefix-ascends file bound a before inner e g (lexeme ∷ rest) texts =
    prefix_of-ascends file bound a before inner e g lexeme rest texts lexeme.kind

-- what is read begins no earlier than the token before it ends
from_before : (file : List ℕ) (before : ℕ) (lexemes : List Lexeme) → AreTexts file before lexemes
    → (x : Result FormRead ReadError) → Ascends (place_of (length file) lexemes) x → Ascends before x
from_before file before lexemes texts (Ok p) is =
    ascend-widen (loops_written p.form) (place_of (length file) lexemes) p.last before p.last
    (texts-position file before lexemes texts) (omega arith) is
from_before file before lexemes texts (Err why) is = tt

-- ---- Sequence and Expression

abbrev AllAscend : (from : ℕ) → Result FormsRead ReadError → Type 0
AllAscend from (Ok p) = Ascend from p.last (loops_written_by_all (forms p.forms))
AllAscend from (Err why) = Unit {0}

abbrev RoundsAscend : (file : List ℕ) (begins : List Lexeme → Bool) → Reading → Type 0
RoundsAscend file begins read =
    (before : ℕ) (lexemes : List Lexeme) → AreTexts file before lexemes → begins lexemes ≡ true
    → Ascends before (read before lexemes)

and_form-ascend : (before : ℕ) (p : FormRead) → Ascend before p.last (loops_written p.form)
    → (x : Result FormsRead ReadError) → AllAscend p.last x
    → AllAscend before (and_read x (λ (parts : FormsRead). Ok (and_form p parts)))
and_form-ascend before p is (Ok parts) more =
    ascend-append (loops_written p.form) (loops_written_by_all (forms parts.forms)) before p.last parts.last is more
and_form-ascend before p is (Err why) more = tt

many_forms-ascend : (file : List ℕ) (bound a : ℕ) (begins : List Lexeme → Bool) (read : Reading)
    → Rounds file bound a begins read → RoundsAscend file begins read → (n before : ℕ) (lexemes : List Lexeme)
    → length lexemes ≤ n → AreTexts file before lexemes → AllAscend before (many_forms begins read before lexemes)
unfolding many_forms_after
many_forms-ascend file bound a begins read e g n before [] few texts = omega arith
many_forms-ascend file bound a begins read e g zero before (l ∷ rest) few texts = absurd (omega arith)
many_forms-ascend file bound a begins read e g (suc n) before (l ∷ rest) few texts =
    by (begins (l ∷ rest)) refl
    (λ p taken.
    let one : p.token_count ≡ suc (p.token_count - 1) = omega (arith, taken.some) in
    let same : drop p.token_count (l ∷ rest) ≡ drop (p.token_count - 1) rest = ap (λ k. drop k (l ∷ rest)) one in
    let fewer : length (drop p.token_count (l ∷ rest)) ≤ n =
    omega (arith, length-drop p.token_count (l ∷ rest), taken.some) in
    subst (λ (x : Result FormsRead ReadError). AllAscend p.last x)
    (ap (many_forms begins read p.last) same ∙ sym (many_following-drop begins read p.last rest (p.token_count - 1)))
    (many_forms-ascend file bound a begins read e g n p.last (drop p.token_count (l ∷ rest)) fewer taken.rest_texts))
  where
    step : (x : Result FormRead ReadError) → Takes file bound a (l ∷ rest) x → Ascends before x
        → ((p : FormRead) → Taken file bound a (l ∷ rest) p
        → AllAscend p.last (many_forms_after begins read p.last rest (p.token_count - 1)))
        → AllAscend before (and_read x (λ (p : FormRead). and_read
        (many_forms_after begins read p.last rest (p.token_count - 1)) (λ (parts : FormsRead). Ok (and_form p parts))))
    step (Ok p) taken is later =
        and_form-ascend before p is (many_forms_after begins read p.last rest (p.token_count - 1)) (later p taken)
    step (Err why) taken is later = tt

    by : (t : Bool) → begins (l ∷ rest) ≡ t → ((p : FormRead) → Taken file bound a (l ∷ rest) p
        → AllAscend p.last (many_forms_after begins read p.last rest (p.token_count - 1)))
        → AllAscend before (if t then and_read (read before (l ∷ rest)) (λ (p : FormRead). and_read
        (many_forms_after begins read p.last rest (p.token_count - 1)) (λ (parts : FormsRead). Ok (and_form p parts)))
        else Ok (no_more before))
    by true begun later =
        step (read before (l ∷ rest)) (e before (l ∷ rest) texts begun) (g before (l ∷ rest) texts begun) later
    by false begun later = omega arith

-- the loops of a sequence are those of its items
sequence_form-ascends : (before start last : ℕ) (list : List Form)
    → Ascend before last (loops_written_by_all (forms list))
    → Ascend before last (loops_written (sequence_spelled before (between start last) list))
sequence_form-ascends before start last [] is = is
sequence_form-ascends before start last (f ∷ []) is =
    subst (Ascend before last) (append-nil (loops_written f)) is
sequence_form-ascends before start last (f ∷ g ∷ more) is = is

sequence-ascends : (file : List ℕ) (bound a : ℕ) (inner : Option Reading) → InnerReaches file bound a inner
    → InnerAscends file inner → (before : ℕ) (lexemes : List Lexeme) → AreTexts file before lexemes
    → Ascends before (sequence file inner before lexemes)
unfolding sequence
sequence-ascends file bound a inner e g before lexemes texts =
    by (many_forms begins_prefix (λ b. prefix file inner) before lexemes)
    (many_forms-ascend file bound a begins_prefix (λ b. prefix file inner)
    (λ b ls t begun. prefix-takes file bound a b inner e ls t)
    (λ b ls t begun. from_before file b ls t (prefix file inner ls) (prefix-ascends file bound a b inner e g ls t))
    (length lexemes) before lexemes (omega arith) texts)
  where
    by : (x : Result FormsRead ReadError) → AllAscend before x → Ascends before
        (and_read x (λ (parts : FormsRead). Ok (whole_sequence before (place_of (length file) lexemes) parts)))
    by (Ok parts) is = sequence_form-ascends before (place_of (length file) lexemes) parts.last parts.forms is
    by (Err why) is = tt

alternative-ascends : (file : List ℕ) (bound a : ℕ) (inner : Option Reading) → InnerReaches file bound a inner
    → InnerAscends file inner → (before : ℕ) (lexemes : List Lexeme) → AreTexts file before lexemes
    → Ascends before (alternative file inner before lexemes)
unfolding alternative
alternative-ascends file bound a inner e g before [] texts = tt
alternative-ascends file bound a inner e g before (slash ∷ rest) texts =
    by (sequence file inner slash.text.end rest) (sequence-ascends file bound a inner e g slash.text.end rest texts.2)
  where
    by : (x : Result FormRead ReadError) → Ascends slash.text.end x
        → Ascends before (and_read x (λ (p : FormRead). Ok (after_tokens 1 p)))
    by (Ok p) is =
        ascend-widen (loops_written p.form) slash.text.end p.last before p.last
        (omega (arith, texts.0, token-order file before slash rest texts)) (omega arith) is
    by (Err why) is = tt

-- the loops of a choice are those of its alternatives
choice_form-ascends : (before mid start last : ℕ) (first : Form) (list : List Form)
    → Ascend before mid (loops_written first) → Ascend mid last (loops_written_by_all (forms list))
    → Ascend before last (loops_written (choice_spelled (between start last) (first ∷ list)))
choice_form-ascends before mid start last first [] is more =
    ascend-widen (loops_written first) before mid before last (omega arith) more is
choice_form-ascends before mid start last first (f ∷ list) is more =
    ascend-append (loops_written first) (loops_written_by_all (forms (f ∷ list))) before mid last is more

expression-ascends : (file : List ℕ) (bound a : ℕ) (inner : Option Reading) → InnerReaches file bound a inner
    → InnerAscends file inner → (before : ℕ) (lexemes : List Lexeme) → AreTexts file before lexemes
    → Ascends before (expression file inner before lexemes)
expression-ascends file bound a inner e g before lexemes texts =
    by (sequence file inner before lexemes) (sequence-reaches file bound a inner e before lexemes texts)
    (sequence-ascends file bound a inner e g before lexemes texts)
  where
    both : (p : FormRead) → Ascend before p.last (loops_written p.form) → (x : Result FormsRead ReadError)
        → AllAscend p.last x → Ascends before
        (and_read x (λ (more : FormsRead). Ok (whole_choice (place_of (length file) lexemes) p more)))
    both p is (Ok more) later =
        choice_form-ascends before p.last (place_of (length file) lexemes) more.last p.form more.forms is later
    both p is (Err why) later = tt

    by : (x : Result FormRead ReadError) → Reaches file bound a before lexemes x → Ascends before x → Ascends before
        (and_read x (λ (p : FormRead). and_read
        (many_forms starts_with_slash (alternative file inner) p.last (drop p.token_count lexemes))
        (λ (more : FormsRead). Ok (whole_choice (place_of (length file) lexemes) p more))))
    by (Ok p) reached is =
        both p is (many_forms starts_with_slash (alternative file inner) p.last (drop p.token_count lexemes))
        (many_forms-ascend file bound a starts_with_slash (alternative file inner)
        (alternative-takes file bound a inner e)
        (λ b ls t begun. alternative-ascends file bound a inner e g b ls t)
        (length (drop p.token_count lexemes)) p.last (drop p.token_count lexemes) (omega arith) reached.rest_texts)
    by (Err why) reached is = tt

expression_in-ascends : (file : List ℕ) (bound n a : ℕ) → a + n ≡ bound → (before : ℕ) (lexemes : List Lexeme)
    → AreTexts file before lexemes → Ascends before (expression_in file n before lexemes)
unfolding expression_in
expression_in-ascends file bound zero a left before lexemes texts =
    expression-ascends file bound a None (omega (arith, left)) tt before lexemes texts
expression_in-ascends file bound (suc n) a left before lexemes texts =
    expression-ascends file bound a (Some (expression_in file n))
    (omega (arith, left), expression_in-reaches file bound n (suc a) (omega (arith, left)))
    (expression_in-ascends file bound n (suc a) (omega (arith, left))) before lexemes texts

-- ---- Definition and Grammar

abbrev NamesLoops : Rule → Type 0
NamesLoops rule = HaveOwnSpans (loops_written rule.body)

abbrev RuleNamesLoops : Result RuleRead ReadError → Type 0
RuleNamesLoops (Ok r) = NamesLoops r.rule
RuleNamesLoops (Err why) = Unit {0}

definition_after-names : (file : List ℕ) (bound : ℕ) (name : Lexeme) (rest : List Lexeme) (from : ℕ)
    → AreTexts file from (name ∷ rest) → (t : Bool) → RuleNamesLoops (definition_after file bound name rest t)
definition_after-names file bound name [] from texts t = tt
definition_after-names file bound name (arrow ∷ rest) from texts false = tt
definition_after-names file bound name (arrow ∷ rest) from texts true =
    by (expression_in file bound arrow.text.end rest)
    (expression_in-ascends file bound bound 0 (omega arith) arrow.text.end rest texts.2.2)
  where
    by : (x : Result FormRead ReadError) → Ascends arrow.text.end x
        → RuleNamesLoops (and_read x (λ (body : FormRead). Ok (rule_read file name body)))
    by (Ok body) is = own_spans (loops_written body.form) arrow.text.end body.last is
    by (Err why) is = tt

definition-names : (file : List ℕ) (bound from : ℕ) (lexemes : List Lexeme) → AreTexts file from lexemes
    → RuleNamesLoops (definition file bound lexemes)
unfolding definition
definition-names file bound from [] texts = tt
definition-names file bound from (lexeme ∷ rest) texts = by lexeme.kind
  where
    by : (k : TokenKind) → RuleNamesLoops (definition_of file bound lexeme rest k)
    by kind.Ident = definition_after-names file bound lexeme rest from texts (starts_with_arrow rest)
    by kind.Literal = tt
    by kind.Class = tt
    by kind.Arrow = tt
    by kind.Slash = tt
    by kind.And = tt
    by kind.Not = tt
    by kind.Question = tt
    by kind.Star = tt
    by kind.Plus = tt
    by kind.Count = tt
    by kind.Open = tt
    by kind.Close = tt
    by kind.Dot = tt

abbrev RulesNameLoops : Result RulesRead ReadError → Type 0
RulesNameLoops (Ok read) = SpansNameLoops read.rules
RulesNameLoops (Err why) = Unit {0}

definitions-name : (file : List ℕ) (bound n from : ℕ) (lexemes : List Lexeme) → length lexemes ≤ n
    → AreTexts file from lexemes → RulesNameLoops (definitions_after file bound lexemes 0)
unfolding definitions_after
definitions-name file bound n from [] few texts = All-nil NamesLoops
definitions-name file bound zero from (l ∷ rest) few texts = absurd (omega arith)
definitions-name file bound (suc n) from (l ∷ rest) few texts =
    by (definition file bound (l ∷ rest)) (definition-reaches file bound from (l ∷ rest) texts)
    (definition-names file bound from (l ∷ rest) texts)
    (λ r reached.
    let one : r.token_count ≡ suc (r.token_count - 1) = omega (arith, reached.some) in
    let same : drop r.token_count (l ∷ rest) ≡ drop (r.token_count - 1) rest = ap (λ k. drop k (l ∷ rest)) one in
    let fewer : length (drop r.token_count (l ∷ rest)) ≤ n =
    omega (arith, length-drop r.token_count (l ∷ rest), reached.some) in
    subst (λ (x : Result RulesRead ReadError). RulesNameLoops x)
    (ap (λ ls. definitions_after file bound ls 0) same
    ∙ sym (definitions_after-drop file bound rest (r.token_count - 1)))
    (definitions-name file bound n 0 (drop r.token_count (l ∷ rest)) fewer reached.rest_texts))
  where
    both : (r : RuleRead) → NamesLoops r.rule → (x : Result RulesRead ReadError) → RulesNameLoops x
        → RulesNameLoops (and_read x (λ (more : RulesRead). Ok (and_rules r more)))
    both r is (Ok more) later = All-cons NamesLoops r.rule more.rules is later
    both r is (Err why) later = tt

    by : (x : Result RuleRead ReadError) → RuleReaches file bound (l ∷ rest) x → RuleNamesLoops x
        → ((r : RuleRead) → RuleReached file bound (l ∷ rest) r
        → RulesNameLoops (definitions_after file bound rest (r.token_count - 1)))
        → RulesNameLoops (and_read x (λ (first : RuleRead). and_read
        (definitions_after file bound rest (first.token_count - 1)) (λ (more : RulesRead). Ok (and_rules first more))))
    by (Ok r) reached is later = both r is (definitions_after file bound rest (r.token_count - 1)) (later r reached)
    by (Err why) reached is later = tt

grammar-names : (file : List ℕ) (bound : ℕ) (lexemes : List Lexeme) → AreTexts file 0 lexemes
    → RulesNameLoops (grammar file bound lexemes)
unfolding grammar
grammar-names file bound [] texts = tt
grammar-names file bound (lexeme ∷ rest) texts =
    definitions-name file bound (length (lexeme ∷ rest)) 0 (lexeme ∷ rest) (omega arith) texts

-- no two stars or pluses of a rule that is read have the same span
pub read-names_loops : (file : List ℕ) (bound : ℕ) (lexemes : List Lexeme) (read : RulesRead)
    → AreTexts file 0 lexemes → grammar file bound lexemes ≡ Ok read → SpansNameLoops read.rules
read-names_loops file bound lexemes read texts found = subst RulesNameLoops found (grammar-names file bound lexemes texts)
