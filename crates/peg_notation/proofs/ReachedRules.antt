-- What a reading of sequences, expressions, rules and whole files reaches.
use Rattle.std.proofs.Common.{◌≡◌, ℕ, zero, suc, ◌+◌, ◌-◌, ◌<◌, ◌≤◌, Bool, true, false, not, ◌&&◌, List, [], ◌∷◌, ◌++◌, length, drop, length-drop, All}
use Rattle.std.proofs.Common.{Option, None, Some, Result, Ok, Err, if◌then◌else◌, refl, sym, ap, ◌∙◌, subst, arith}
use Rattle.std.proofs.lemmas.List.{drop-drop}
use Rattle.std.proofs.lemmas.List.Elements.{All-cons}
use Rattle.peg_bytes.specs.Extent.{between}
use Rattle.peg_semantics.specs.Form.{Form, forms}
use Rattle.peg_notation.specs.Reader.{ReadError, Unexpected, TooDeepAt, BadCountAt, FormRead, FormsRead, Reading, place_of, bounds_of_lexeme, is_count, is_bad_count, is_arrow, starts_with_arrow, begins_prefix, and_read, no_more, and_form, prefix, many_forms_after, many_forms, whole_sequence, sequence, starts_with_slash, is_slash, after_tokens, alternative, whole_choice, expression, expression_in, RuleRead, RulesRead, and_rules, rule_read, definition_after, definition_of, definition, definitions_after, grammar}
use Rattle.peg_notation.specs.ReaderCode.{AreTexts}
use Rattle.peg_notation.specs.Spans.{FormLiesIn, FormsLieIn, RuleLiesIn}
use Rattle.peg_metagrammar.specs.Denotation.{sequence_spelled, choice_spelled, bounds_in_range}
use Rattle.peg_lexer.specs.Tokens.{Lexeme}
use Rattle.peg_lexer.specs.declared.token.TokenKind.{TokenKind}
use Rattle.peg_lexer.specs.declared.token.TokenKind.TheVariants as kind
use Rattle.peg_notation.proofs.GrammarRules.{definitions_after-drop}
use Rattle.peg_notation.proofs.Reached.{token-order, token-lies, texts-within, texts-from, texts-position, Runs, runs-then, IsPlain, plain-kind, IsDeepAt, deep-following, IsBadAt, bad-later, bad-following, Taken, Reached, Takes, Reaches, InnerReaches, prefix-takes}
use Rattle.peg_notation.proofs.Repeats.{many_following-drop}

-- ---- several in a row

-- by expressions one after the other
pub record Passes (file : List ℕ) (bound a before : ℕ) (lexemes : List Lexeme) (p : FormsRead) : Type 0 where
  pub forms : FormsLieIn (length file) (forms p.forms)
  pub after : before ≤ p.last
  pub some : 0 < length p.forms → 0 < p.token_count
  pub order : 0 < p.token_count → place_of (length file) lexemes ≤ p.last
  pub rest_texts : AreTexts file p.last (drop p.token_count lexemes)
  pub runs : Runs file bound a lexemes a (drop p.token_count lexemes)
  pub shallow : p.depth ≤ bound - a

abbrev pub PassesAll : (file : List ℕ) (bound a before : ℕ) (lexemes : List Lexeme) → Result FormsRead ReadError → Type 0
PassesAll file bound a before lexemes (Ok p) = Passes file bound a before lexemes p
PassesAll file bound a before lexemes (Err (Unexpected at)) = Unit {0}
PassesAll file bound a before lexemes (Err (TooDeepAt at)) = IsDeepAt file bound a lexemes at
PassesAll file bound a before lexemes (Err (BadCountAt at)) = IsBadAt file lexemes at

none-passes : (file : List ℕ) (bound a before : ℕ) (lexemes : List Lexeme) → AreTexts file before lexemes
    → Passes file bound a before lexemes (no_more before)
none-passes file bound a before lexemes texts = record {
  forms = tt;
  after = omega arith;
  some = λ h. h;
  order = λ h. absurd (omega arith);
  rest_texts = texts;
  runs = Runs.stays;
  shallow = omega arith;
}

one-passes : (file : List ℕ) (bound a before : ℕ) (lexemes : List Lexeme) → AreTexts file before lexemes → (p : FormRead)
    → Taken file bound a lexemes p → (x : Result FormsRead ReadError) → PassesAll file bound a p.last (drop p.token_count lexemes) x
    → PassesAll file bound a before lexemes (and_read x (λ (parts : FormsRead). Ok (and_form p parts)))
one-passes file bound a before lexemes texts p e (Ok parts) m =
    let at : drop parts.token_count (drop p.token_count lexemes) ≡ drop (p.token_count + parts.token_count) lexemes = drop-drop parts.token_count p.token_count lexemes in
    record {
      forms = (e.form, m.forms);
      after = omega (arith, texts-position file before lexemes texts, e.order, m.after);
      some = λ h. omega (arith, e.some);
      order = λ h. omega (arith, e.order, m.after);
      rest_texts = subst (AreTexts file parts.last) at m.rest_texts;
      runs = subst (Runs file bound a lexemes a) at (runs-then e.runs m.runs);
      shallow = omega (arith, e.shallow, m.shallow);
    }
one-passes file bound a before lexemes texts p e (Err (Unexpected at)) m = tt
one-passes file bound a before lexemes texts p e (Err (TooDeepAt at)) m = deep-following e.runs m
one-passes file bound a before lexemes texts p e (Err (BadCountAt at)) m = bad-following e.runs m

-- a function that reads one, where one begins
abbrev pub Rounds : (file : List ℕ) (bound a : ℕ) (begins : List Lexeme → Bool) → Reading → Type 0
Rounds file bound a begins read =
    (before : ℕ) (lexemes : List Lexeme) → AreTexts file before lexemes → begins lexemes ≡ true
    → Takes file bound a lexemes (read before lexemes)

many_forms-passes : (file : List ℕ) (bound a : ℕ) (begins : List Lexeme → Bool) (read : Reading) → Rounds file bound a begins read
    → (n before : ℕ) (lexemes : List Lexeme) → length lexemes ≤ n → AreTexts file before lexemes
    → PassesAll file bound a before lexemes (many_forms begins read before lexemes)
unfolding many_forms_after
many_forms-passes file bound a begins read is n before [] few texts = none-passes file bound a before [] texts
many_forms-passes file bound a begins read is zero before (l ∷ rest) few texts = absurd (omega arith)
many_forms-passes file bound a begins read is (suc n) before (l ∷ rest) few texts =
    by (begins (l ∷ rest)) refl
    (λ p e.
    let one : p.token_count ≡ suc (p.token_count - 1) = omega (arith, e.some) in
    let same : drop p.token_count (l ∷ rest) ≡ drop (p.token_count - 1) rest = ap (λ k. drop k (l ∷ rest)) one in
    let fewer : length (drop p.token_count (l ∷ rest)) ≤ n = omega (arith, length-drop p.token_count (l ∷ rest), e.some) in
    subst (λ (x : Result FormsRead ReadError). PassesAll file bound a p.last (drop p.token_count (l ∷ rest)) x)
    (ap (many_forms begins read p.last) same ∙ sym (many_following-drop begins read p.last rest (p.token_count - 1)))
    (many_forms-passes file bound a begins read is n p.last (drop p.token_count (l ∷ rest)) fewer e.rest_texts))
  where
    step : (x : Result FormRead ReadError) → Takes file bound a (l ∷ rest) x → ((p : FormRead) → (e : Taken file bound a (l ∷ rest) p)
        → PassesAll file bound a p.last (drop p.token_count (l ∷ rest)) (many_forms_after begins read p.last rest (p.token_count - 1)))
        → PassesAll file bound a before (l ∷ rest) (and_read x (λ (p : FormRead). and_read
        (many_forms_after begins read p.last rest (p.token_count - 1)) (λ (parts : FormsRead). Ok (and_form p parts))))
    step (Ok p) e later =
        one-passes file bound a before (l ∷ rest) texts p e (many_forms_after begins read p.last rest (p.token_count - 1)) (later p e)
    step (Err (Unexpected at)) e later = tt
    step (Err (TooDeepAt at)) e later = e
    step (Err (BadCountAt at)) e later = e

    by : (t : Bool) → begins (l ∷ rest) ≡ t → ((p : FormRead) → (e : Taken file bound a (l ∷ rest) p)
        → PassesAll file bound a p.last (drop p.token_count (l ∷ rest)) (many_forms_after begins read p.last rest (p.token_count - 1)))
        → PassesAll file bound a before (l ∷ rest) (if t then and_read (read before (l ∷ rest)) (λ (p : FormRead). and_read
        (many_forms_after begins read p.last rest (p.token_count - 1)) (λ (parts : FormsRead). Ok (and_form p parts))) else Ok (no_more before))
    by true begun later = step (read before (l ∷ rest)) (is before (l ∷ rest) texts begun) later
    by false begun later = none-passes file bound a before (l ∷ rest) texts

-- ---- Sequence and Expression

sequence_form-lies : (size before start last : ℕ) (list : List Form) → FormsLieIn size (forms list) → before ≤ size
    → (0 < length list → start ≤ last) → last ≤ size → FormLiesIn size (sequence_spelled before (between start last) list)
sequence_form-lies size before start last [] lie within order fits = ((omega arith, within), tt)
sequence_form-lies size before start last (f ∷ []) lie within order fits = lie.0
sequence_form-lies size before start last (f ∷ g ∷ more) lie within order fits = ((order (omega arith), fits), lie)

pub items-pass : (file : List ℕ) (bound a : ℕ) (inner : Option Reading) → InnerReaches file bound a inner
    → (before : ℕ) (lexemes : List Lexeme) → AreTexts file before lexemes
    → PassesAll file bound a before lexemes (many_forms begins_prefix (λ b. prefix file inner) before lexemes)
items-pass file bound a inner is before lexemes texts =
    many_forms-passes file bound a begins_prefix (λ b. prefix file inner)
    (λ b ls t begun. prefix-takes file bound a b inner is ls t) (length lexemes) before lexemes (omega arith) texts

pub sequence-reaches : (file : List ℕ) (bound a : ℕ) (inner : Option Reading) → InnerReaches file bound a inner
    → (before : ℕ) (lexemes : List Lexeme) → AreTexts file before lexemes
    → Reaches file bound a before lexemes (sequence file inner before lexemes)
unfolding sequence
sequence-reaches file bound a inner is before lexemes texts =
    by (many_forms begins_prefix (λ b. prefix file inner) before lexemes) (items-pass file bound a inner is before lexemes texts)
  where
    by : (x : Result FormsRead ReadError) → PassesAll file bound a before lexemes x → Reaches file bound a before lexemes
        (and_read x (λ (parts : FormsRead). Ok (whole_sequence before (place_of (length file) lexemes) parts)))
    by (Ok parts) e = record {
      form =
          sequence_form-lies (length file) before (place_of (length file) lexemes) parts.last parts.forms e.forms
          (texts-within file before lexemes texts) (λ h. e.order (e.some h)) (texts-within file parts.last (drop parts.token_count lexemes) e.rest_texts);
      after = e.after;
      order = e.order;
      rest_texts = e.rest_texts;
      runs = e.runs;
      shallow = e.shallow;
    }
    by (Err (Unexpected at)) e = tt
    by (Err (TooDeepAt at)) e = e
    by (Err (BadCountAt at)) e = e

-- a slash is plain, and so is an arrow
slash-plain : (file : List ℕ) (lexeme : Lexeme) (k : TokenKind) → lexeme.kind ≡ k → is_slash k ≡ true → IsPlain file lexeme
slash-plain file lexeme kind.Slash is slash = plain-kind file lexeme kind.Slash is refl refl refl
slash-plain file lexeme kind.Ident is slash = cc
slash-plain file lexeme kind.Literal is slash = cc
slash-plain file lexeme kind.Class is slash = cc
slash-plain file lexeme kind.Arrow is slash = cc
slash-plain file lexeme kind.And is slash = cc
slash-plain file lexeme kind.Not is slash = cc
slash-plain file lexeme kind.Question is slash = cc
slash-plain file lexeme kind.Star is slash = cc
slash-plain file lexeme kind.Plus is slash = cc
slash-plain file lexeme kind.Count is slash = cc
slash-plain file lexeme kind.Open is slash = cc
slash-plain file lexeme kind.Close is slash = cc
slash-plain file lexeme kind.Dot is slash = cc

arrow-plain : (file : List ℕ) (lexeme : Lexeme) (k : TokenKind) → lexeme.kind ≡ k → is_arrow k ≡ true → IsPlain file lexeme
arrow-plain file lexeme kind.Arrow is arrow = plain-kind file lexeme kind.Arrow is refl refl refl
arrow-plain file lexeme kind.Ident is arrow = cc
arrow-plain file lexeme kind.Literal is arrow = cc
arrow-plain file lexeme kind.Class is arrow = cc
arrow-plain file lexeme kind.Slash is arrow = cc
arrow-plain file lexeme kind.And is arrow = cc
arrow-plain file lexeme kind.Not is arrow = cc
arrow-plain file lexeme kind.Question is arrow = cc
arrow-plain file lexeme kind.Star is arrow = cc
arrow-plain file lexeme kind.Plus is arrow = cc
arrow-plain file lexeme kind.Count is arrow = cc
arrow-plain file lexeme kind.Open is arrow = cc
arrow-plain file lexeme kind.Close is arrow = cc
arrow-plain file lexeme kind.Dot is arrow = cc

pub alternative-takes : (file : List ℕ) (bound a : ℕ) (inner : Option Reading) → InnerReaches file bound a inner
    → (before : ℕ) (lexemes : List Lexeme) → AreTexts file before lexemes → starts_with_slash lexemes ≡ true
    → Takes file bound a lexemes (alternative file inner before lexemes)
unfolding alternative
alternative-takes file bound a inner is before [] texts begun = tt
alternative-takes file bound a inner is before (slash ∷ rest) texts begun =
    by (sequence file inner slash.text.end rest) (sequence-reaches file bound a inner is slash.text.end rest texts.2)
  where
    by : (x : Result FormRead ReadError) → Reaches file bound a slash.text.end rest x
        → Takes file bound a (slash ∷ rest) (and_read x (λ (p : FormRead). Ok (after_tokens 1 p)))
    by (Ok p) e =
        let count : 1 + p.token_count ≡ suc p.token_count = omega arith in
        let gone : drop p.token_count rest ≡ drop (1 + p.token_count) (slash ∷ rest) = ap (λ n. drop n (slash ∷ rest)) (sym count) in
        let plain = slash-plain file slash slash.kind refl begun in
        record {
          form = e.form;
          some = omega arith;
          order = omega (arith, token-order file before slash rest texts, e.after);
          rest_texts = subst (AreTexts file p.last) gone e.rest_texts;
          runs = subst (Runs file bound a (slash ∷ rest) a) gone (Runs.other plain e.runs);
          shallow = e.shallow;
        }
    by (Err (Unexpected at)) e = tt
    by (Err (TooDeepAt at)) e = let plain = slash-plain file slash slash.kind refl begun in deep-following (Runs.other plain Runs.stays) e
    by (Err (BadCountAt at)) e = bad-later e

pub alternatives-pass : (file : List ℕ) (bound a : ℕ) (inner : Option Reading) → InnerReaches file bound a inner
    → (before : ℕ) (lexemes : List Lexeme) → AreTexts file before lexemes
    → PassesAll file bound a before lexemes (many_forms starts_with_slash (alternative file inner) before lexemes)
alternatives-pass file bound a inner is before lexemes texts =
    many_forms-passes file bound a starts_with_slash (alternative file inner) (alternative-takes file bound a inner is)
    (length lexemes) before lexemes (omega arith) texts

choice_form-lies : (size start last : ℕ) (first : Form) (list : List Form) → FormLiesIn size first → FormsLieIn size (forms list)
    → (0 < length list → start ≤ last) → last ≤ size → FormLiesIn size (choice_spelled (between start last) (first ∷ list))
choice_form-lies size start last first [] lies lie order fits = lies
choice_form-lies size start last first (f ∷ more) lies lie order fits = ((order (omega arith), fits), lies, lie)

-- a first expression and those after it begin no later than they end
pub both-order : (file : List ℕ) (lexemes : List Lexeme) (token_count more last end : ℕ)
    → (0 < token_count → place_of (length file) lexemes ≤ last) → last ≤ end
    → (0 < more → place_of (length file) (drop token_count lexemes) ≤ end) → 0 < token_count + more
    → place_of (length file) lexemes ≤ end
both-order file lexemes zero more last end first after next some = next (omega arith)
both-order file lexemes (suc token_count) more last end first after next some = omega (arith, first (omega arith))

pub expression-reaches : (file : List ℕ) (bound a : ℕ) (inner : Option Reading) → InnerReaches file bound a inner
    → (before : ℕ) (lexemes : List Lexeme) → AreTexts file before lexemes
    → Reaches file bound a before lexemes (expression file inner before lexemes)
expression-reaches file bound a inner is before lexemes texts =
    by (sequence file inner before lexemes) (sequence-reaches file bound a inner is before lexemes texts)
  where
    more_reach : (p : FormRead) → Reached file bound a before lexemes p → (x : Result FormsRead ReadError)
        → PassesAll file bound a p.last (drop p.token_count lexemes) x → Reaches file bound a before lexemes
        (and_read x (λ (more : FormsRead). Ok (whole_choice (place_of (length file) lexemes) p more)))
    more_reach p e (Ok more) m =
        let at : drop more.token_count (drop p.token_count lexemes) ≡ drop (p.token_count + more.token_count) lexemes = drop-drop more.token_count p.token_count lexemes in
        let order : 0 < p.token_count + more.token_count → place_of (length file) lexemes ≤ more.last =
        both-order file lexemes p.token_count more.token_count p.last more.last e.order m.after m.order in
        record {
          form =
              choice_form-lies (length file) (place_of (length file) lexemes) more.last p.form more.forms e.form m.forms
              (λ h. order (omega (arith, m.some h))) (texts-within file more.last (drop more.token_count (drop p.token_count lexemes)) m.rest_texts);
          after = omega (arith, e.after, m.after);
          order = order;
          rest_texts = subst (AreTexts file more.last) at m.rest_texts;
          runs = subst (Runs file bound a lexemes a) at (runs-then e.runs m.runs);
          shallow = omega (arith, e.shallow, m.shallow);
        }
    more_reach p e (Err (Unexpected at)) m = tt
    more_reach p e (Err (TooDeepAt at)) m = deep-following e.runs m
    more_reach p e (Err (BadCountAt at)) m = bad-following e.runs m

    by : (x : Result FormRead ReadError) → Reaches file bound a before lexemes x → Reaches file bound a before lexemes
        (and_read x (λ (p : FormRead). and_read (many_forms starts_with_slash (alternative file inner) p.last (drop p.token_count lexemes))
        (λ (more : FormsRead). Ok (whole_choice (place_of (length file) lexemes) p more))))
    by (Ok p) e =
        more_reach p e (many_forms starts_with_slash (alternative file inner) p.last (drop p.token_count lexemes))
        (alternatives-pass file bound a inner is p.last (drop p.token_count lexemes) e.rest_texts)
    by (Err (Unexpected at)) e = tt
    by (Err (TooDeepAt at)) e = e
    by (Err (BadCountAt at)) e = e

pub expression_in-reaches : (file : List ℕ) (bound n a : ℕ) → a + n ≡ bound → (before : ℕ) (lexemes : List Lexeme)
    → AreTexts file before lexemes → Reaches file bound a before lexemes (expression_in file n before lexemes)
unfolding expression_in
expression_in-reaches file bound zero a left before lexemes texts =
    expression-reaches file bound a None (omega (arith, left)) before lexemes texts
expression_in-reaches file bound (suc n) a left before lexemes texts =
    expression-reaches file bound a (Some (expression_in file n))
    (omega (arith, left), expression_in-reaches file bound n (suc a) (omega (arith, left))) before lexemes texts

-- ---- Definition and Grammar

-- by a rule
pub record RuleReached (file : List ℕ) (bound : ℕ) (lexemes : List Lexeme) (r : RuleRead) : Type 0 where
  pub lies : RuleLiesIn (length file) r.rule
  pub some : 0 < r.token_count
  pub rest_texts : AreTexts file 0 (drop r.token_count lexemes)
  pub runs : Runs file bound 0 lexemes 0 (drop r.token_count lexemes)
  pub shallow : r.depth ≤ bound

abbrev pub RuleReaches : (file : List ℕ) (bound : ℕ) (lexemes : List Lexeme) → Result RuleRead ReadError → Type 0
RuleReaches file bound lexemes (Ok r) = RuleReached file bound lexemes r
RuleReaches file bound lexemes (Err (Unexpected at)) = Unit {0}
RuleReaches file bound lexemes (Err (TooDeepAt at)) = IsDeepAt file bound 0 lexemes at
RuleReaches file bound lexemes (Err (BadCountAt at)) = IsBadAt file lexemes at

after_tokens-reaches : (file : List ℕ) (bound from : ℕ) (name : Lexeme) (rest : List Lexeme) → AreTexts file from (name ∷ rest)
    → name.kind ≡ kind.Ident → (t : Bool) → starts_with_arrow rest ≡ t
    → RuleReaches file bound (name ∷ rest) (definition_after file bound name rest t)
after_tokens-reaches file bound from name [] texts is t next = tt
after_tokens-reaches file bound from name (arrow ∷ rest) texts is false next = tt
after_tokens-reaches file bound from name (arrow ∷ rest) texts is true next =
    by (expression_in file bound arrow.text.end rest)
    (expression_in-reaches file bound bound 0 (omega arith) arrow.text.end rest texts.2.2)
  where
    runs : Runs file bound 0 (name ∷ arrow ∷ rest) 0 rest
    runs =
        Runs.other (plain-kind file name kind.Ident is refl refl refl)
        (Runs.other (arrow-plain file arrow arrow.kind refl next) Runs.stays)

    by : (x : Result FormRead ReadError) → Reaches file bound 0 arrow.text.end rest x → RuleReaches file bound (name ∷ arrow ∷ rest)
        (and_read x (λ (body : FormRead). Ok (rule_read file name body)))
    by (Ok body) e =
        let count : 2 + body.token_count ≡ suc (suc body.token_count) = omega arith in
        let gone : drop body.token_count rest ≡ drop (2 + body.token_count) (name ∷ arrow ∷ rest) =
        ap (λ n. drop n (name ∷ arrow ∷ rest)) (sym count) in
        record {
          lies = (token-lies file from name (arrow ∷ rest) texts, e.form);
          some = omega arith;
          rest_texts = subst (AreTexts file 0) gone (texts-from file body.last 0 (drop body.token_count rest) (omega arith) e.rest_texts);
          runs = subst (Runs file bound 0 (name ∷ arrow ∷ rest) 0) gone (runs-then runs e.runs);
          shallow = omega (arith, e.shallow);
        }
    by (Err (Unexpected at)) e = tt
    by (Err (TooDeepAt at)) e = deep-following runs e
    by (Err (BadCountAt at)) e = bad-following runs e

definition_of-reaches : (file : List ℕ) (bound from : ℕ) (lexeme : Lexeme) (rest : List Lexeme)
    → AreTexts file from (lexeme ∷ rest) → (k : TokenKind) → lexeme.kind ≡ k
    → RuleReaches file bound (lexeme ∷ rest) (definition_of file bound lexeme rest k)
definition_of-reaches file bound from lexeme rest texts kind.Ident is =
    after_tokens-reaches file bound from lexeme rest texts is (starts_with_arrow rest) refl
definition_of-reaches file bound from lexeme rest texts kind.Literal is = tt
definition_of-reaches file bound from lexeme rest texts kind.Class is = tt
definition_of-reaches file bound from lexeme rest texts kind.Arrow is = tt
definition_of-reaches file bound from lexeme rest texts kind.Slash is = tt
definition_of-reaches file bound from lexeme rest texts kind.And is = tt
definition_of-reaches file bound from lexeme rest texts kind.Not is = tt
definition_of-reaches file bound from lexeme rest texts kind.Question is = tt
definition_of-reaches file bound from lexeme rest texts kind.Star is = tt
definition_of-reaches file bound from lexeme rest texts kind.Plus is = tt
definition_of-reaches file bound from lexeme rest texts kind.Count is = tt
definition_of-reaches file bound from lexeme rest texts kind.Open is = tt
definition_of-reaches file bound from lexeme rest texts kind.Close is = tt
definition_of-reaches file bound from lexeme rest texts kind.Dot is = tt

pub definition-reaches : (file : List ℕ) (bound from : ℕ) (lexemes : List Lexeme) → AreTexts file from lexemes
    → RuleReaches file bound lexemes (definition file bound lexemes)
unfolding definition
definition-reaches file bound from [] texts = tt
definition-reaches file bound from (lexeme ∷ rest) texts =
    definition_of-reaches file bound from lexeme rest texts lexeme.kind refl

-- the offsets of the counts out of range among some tokens
abbrev pub bad_places : List ℕ → List Lexeme → List ℕ
bad_places file [] = []
bad_places file (lexeme ∷ more) =
    (if is_bad_count file lexeme then lexeme.text.start ∷ [] else []) ++ bad_places file more

-- no parenthesis is a count
paren-fine : (file : List ℕ) (lexeme : Lexeme) (k : TokenKind) → lexeme.kind ≡ k → is_count k ≡ false
    → is_bad_count file lexeme ≡ false
paren-fine file lexeme k is no_count =
    ap (λ (t : Bool). t && not (bounds_in_range (bounds_of_lexeme file lexeme))) (ap is_count is ∙ no_count)

bad_places-fine : (file : List ℕ) (lexeme : Lexeme) (more : List Lexeme) → is_bad_count file lexeme ≡ false
    → bad_places file (lexeme ∷ more) ≡ bad_places file more
bad_places-fine file lexeme more fine =
    ap (λ (t : Bool). (if t then lexeme.text.start ∷ [] else []) ++ bad_places file more) fine

-- the tokens of a run have no count out of range
pub runs-bad_places : {file : List ℕ} {bound a b : ℕ} {lexemes rest : List Lexeme} → Runs file bound a lexemes b rest
    → bad_places file lexemes ≡ bad_places file rest
runs-bad_places Runs.stays = refl
runs-bad_places {file} (Runs.opened {lexeme = lexeme} {more = more} is less run) =
    bad_places-fine file lexeme more (paren-fine file lexeme kind.Open is refl) ∙ runs-bad_places run
runs-bad_places {file} (Runs.shut {lexeme = lexeme} {more = more} is run) =
    bad_places-fine file lexeme more (paren-fine file lexeme kind.Close is refl) ∙ runs-bad_places run
runs-bad_places {file} (Runs.other {lexeme = lexeme} {more = more} plain run) =
    bad_places-fine file lexeme more plain.fine ∙ runs-bad_places run

-- by all rules
abbrev pub RulesReach : (file : List ℕ) (bound : ℕ) (lexemes : List Lexeme) → Result RulesRead ReadError → Type 0
RulesReach file bound lexemes (Ok read) =
    All (RuleLiesIn (length file)) read.rules × (read.depth ≤ bound) × (bad_places file lexemes ≡ [])
RulesReach file bound lexemes (Err (Unexpected at)) = Unit {0}
RulesReach file bound lexemes (Err (TooDeepAt at)) = IsDeepAt file bound 0 lexemes at
RulesReach file bound lexemes (Err (BadCountAt at)) = IsBadAt file lexemes at

definitions-reach : (file : List ℕ) (bound n from : ℕ) (lexemes : List Lexeme) → length lexemes ≤ n
    → AreTexts file from lexemes → RulesReach file bound lexemes (definitions_after file bound lexemes 0)
unfolding definitions_after
definitions-reach file bound n from [] few texts = (λ k d h. absurd (omega arith), omega arith, refl)
definitions-reach file bound zero from (l ∷ rest) few texts = absurd (omega arith)
definitions-reach file bound (suc n) from (l ∷ rest) few texts =
    by (definition file bound (l ∷ rest)) (definition-reaches file bound from (l ∷ rest) texts)
    (λ r e.
    let one : r.token_count ≡ suc (r.token_count - 1) = omega (arith, e.some) in
    let same : drop r.token_count (l ∷ rest) ≡ drop (r.token_count - 1) rest = ap (λ k. drop k (l ∷ rest)) one in
    let fewer : length (drop r.token_count (l ∷ rest)) ≤ n = omega (arith, length-drop r.token_count (l ∷ rest), e.some) in
    subst (λ (x : Result RulesRead ReadError). RulesReach file bound (drop r.token_count (l ∷ rest)) x)
    (ap (λ ls. definitions_after file bound ls 0) same ∙ sym (definitions_after-drop file bound rest (r.token_count - 1)))
    (definitions-reach file bound n 0 (drop r.token_count (l ∷ rest)) fewer e.rest_texts))
  where
    both : (r : RuleRead) → RuleReached file bound (l ∷ rest) r → (x : Result RulesRead ReadError)
        → RulesReach file bound (drop r.token_count (l ∷ rest)) x
        → RulesReach file bound (l ∷ rest) (and_read x (λ (more : RulesRead). Ok (and_rules r more)))
    both r e (Ok more) m = (
      All-cons (RuleLiesIn (length file)) r.rule more.rules e.lies m.0,
      omega (arith, e.shallow, m.1),
      runs-bad_places e.runs ∙ m.2,
    )
    both r e (Err (Unexpected at)) m = tt
    both r e (Err (TooDeepAt at)) m = deep-following e.runs m
    both r e (Err (BadCountAt at)) m = bad-following e.runs m

    by : (x : Result RuleRead ReadError) → RuleReaches file bound (l ∷ rest) x
        → ((r : RuleRead) → RuleReached file bound (l ∷ rest) r
        → RulesReach file bound (drop r.token_count (l ∷ rest)) (definitions_after file bound rest (r.token_count - 1)))
        → RulesReach file bound (l ∷ rest) (and_read x (λ (first : RuleRead). and_read
        (definitions_after file bound rest (first.token_count - 1)) (λ (more : RulesRead). Ok (and_rules first more))))
    by (Ok r) e later = both r e (definitions_after file bound rest (r.token_count - 1)) (later r e)
    by (Err (Unexpected at)) e later = tt
    by (Err (TooDeepAt at)) e later = e
    by (Err (BadCountAt at)) e later = e

pub grammar-reaches : (file : List ℕ) (bound from : ℕ) (lexemes : List Lexeme) → AreTexts file from lexemes
    → RulesReach file bound lexemes (grammar file bound lexemes)
unfolding grammar
grammar-reaches file bound from [] texts = tt
grammar-reaches file bound from (lexeme ∷ rest) texts =
    definitions-reach file bound (length (lexeme ∷ rest)) from (lexeme ∷ rest) (omega arith) texts
