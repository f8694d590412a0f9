-- From the paths over the tokens of a file to the first fault of the file.
use Rattle.std.proofs.Common.{◌≡◌, ◌⊎◌, inl, inr, ℕ, zero, suc, ◌+◌, ◌<◌, ◌≤◌, Bool, true, false, not, ◌&&◌, List, [], ◌∷◌, ◌++◌, append_assoc, append-nil, length, take, codes, All}
use Rattle.std.proofs.Common.{Option, None, Some, Result, Ok, Err, if◌then◌else◌, refl, sym, ap, ◌∙◌, subst, arith}
use Rattle.std.proofs.lemmas.List.{map-append}
use Rattle.std.proofs.lemmas.List.Elements.{All-cons}
use Rattle.peg_bytes.specs.Extent.{between}
use Rattle.peg_semantics.specs.Record.{Failed, Matched}
use Rattle.peg_semantics.proofs.Derivations.{one_result}
use Rattle.peg_metagrammar.specs.Notation.{Matches, IsInNotation}
use Rattle.peg_metagrammar.specs.Denotation.{text_end, bad_counts, bounds_in_range}
use Rattle.peg_metagrammar.specs.Nesting.{max_open}
use Rattle.peg_lexer.specs.Tokens.{Lexeme, IsTokens, Lexes}
use Rattle.peg_lexer.specs.declared.fault.LexFault.{LexFault}
use Rattle.peg_lexer.specs.declared.fault.LexFault.TheVariants as lexing
use Rattle.peg_lexer.specs.declared.token.TokenKind.{TokenKind}
use Rattle.peg_lexer.specs.declared.token.TokenKind.TheVariants as kind
use Rattle.peg_lexer.proofs.Texts.{following_text}
use Rattle.peg_notation.specs.Reader.{ReadError, Unexpected, TooDeepAt, BadCountAt, RulesRead, bounds_of_lexeme, is_count, is_bad_count, grammar}
use Rattle.peg_notation.specs.ReaderCode.{AgreesOnError}
use Rattle.peg_notation.specs.Reads.{fault_of, one_if_open, opens, one_if_close, closes}
use Rattle.peg_notation.specs.ViablePrefix.{kinds, CanContinue, CountInRange, CountOutOfRange, AreFaultless, StopsBefore, IsUnexpectedToken, EndsEarly, IsExcessParenthesis, IsOutOfRangeCount, NamesFirstFault}
use Rattle.peg_notation.specs.declared.fault.NotationFault.{NotationFault}
use Rattle.peg_notation.specs.declared.fault.NotationFault.TheVariants as answer
use Rattle.peg_notation.proofs.FileAnswers.{answers, counts, count_kind, stream-following, bad_tree, tokens-stream}
use Rattle.peg_notation.proofs.GrammarRules.{first_place}
use Rattle.peg_notation.proofs.MatchedTokens.{derives, lexeme_here, token-counts}
use Rattle.peg_notation.proofs.Streams.{Stream, not_here}
use Rattle.peg_notation.proofs.TokenStates.{TokenState, item_step, signed_step, done_step, named_step, begun_step, titled_step, step, may_end, open_in, TokenSteps, steps-rest, steps-then, steps-refused, steps-end, completes}
use Rattle.peg_notation.proofs.TokenPaths.{Path, HaltsBefore, Halts}
use Rattle.peg_notation.proofs.TokenWalks.{WalksGrammar, grammar-walks}
use Rattle.peg_notation.proofs.TokenSpellings.{AllFine, Spelled, spelled}

-- ---- open parentheses

-- a token that opens a parenthesis adds one to the open ones, and one that closes it takes one off
abbrev Balances : (depth : ℕ) → TokenKind → Option TokenState → Type 0
Balances depth k None = Unit {0}
Balances depth k (Some t) = depth + one_if_open k ≡ open_in t + one_if_close k

item-balances : (depth : ℕ) (k : TokenKind) → Balances depth k (item_step depth k)
item-balances depth kind.Ident = refl
item-balances depth kind.Literal = refl
item-balances depth kind.Class = refl
item-balances depth kind.Dot = refl
item-balances depth kind.And = refl
item-balances depth kind.Not = refl
item-balances depth kind.Open = omega arith
item-balances depth kind.Slash = refl
item-balances zero kind.Close = tt
item-balances (suc depth) kind.Close = omega arith
item-balances depth kind.Arrow = tt
item-balances depth kind.Question = tt
item-balances depth kind.Star = tt
item-balances depth kind.Plus = tt
item-balances depth kind.Count = tt

signed-balances : (depth : ℕ) (k : TokenKind) → Balances depth k (signed_step depth k)
signed-balances depth kind.Ident = refl
signed-balances depth kind.Literal = refl
signed-balances depth kind.Class = refl
signed-balances depth kind.Dot = refl
signed-balances depth kind.Open = omega arith
signed-balances depth kind.And = tt
signed-balances depth kind.Not = tt
signed-balances depth kind.Slash = tt
signed-balances depth kind.Close = tt
signed-balances depth kind.Arrow = tt
signed-balances depth kind.Question = tt
signed-balances depth kind.Star = tt
signed-balances depth kind.Plus = tt
signed-balances depth kind.Count = tt

done-balances : (depth : ℕ) (k : TokenKind) → Balances depth k (done_step depth k)
done-balances depth kind.Question = refl
done-balances depth kind.Star = refl
done-balances depth kind.Plus = refl
done-balances depth kind.Count = refl
done-balances depth kind.Ident = item-balances depth kind.Ident
done-balances depth kind.Literal = item-balances depth kind.Literal
done-balances depth kind.Class = item-balances depth kind.Class
done-balances depth kind.Dot = item-balances depth kind.Dot
done-balances depth kind.And = item-balances depth kind.And
done-balances depth kind.Not = item-balances depth kind.Not
done-balances depth kind.Open = item-balances depth kind.Open
done-balances depth kind.Slash = item-balances depth kind.Slash
done-balances depth kind.Close = item-balances depth kind.Close
done-balances depth kind.Arrow = item-balances depth kind.Arrow

named-balances : (depth : ℕ) (k : TokenKind) → Balances depth k (named_step depth k)
named-balances zero kind.Arrow = refl
named-balances (suc depth) kind.Arrow = tt
named-balances depth kind.Question = done-balances depth kind.Question
named-balances depth kind.Star = done-balances depth kind.Star
named-balances depth kind.Plus = done-balances depth kind.Plus
named-balances depth kind.Count = done-balances depth kind.Count
named-balances depth kind.Ident = done-balances depth kind.Ident
named-balances depth kind.Literal = done-balances depth kind.Literal
named-balances depth kind.Class = done-balances depth kind.Class
named-balances depth kind.Dot = done-balances depth kind.Dot
named-balances depth kind.And = done-balances depth kind.And
named-balances depth kind.Not = done-balances depth kind.Not
named-balances depth kind.Open = done-balances depth kind.Open
named-balances depth kind.Slash = done-balances depth kind.Slash
named-balances depth kind.Close = done-balances depth kind.Close

begun-balances : (k : TokenKind) → Balances zero k (begun_step k)
begun-balances kind.Ident = refl
begun-balances kind.Literal = tt
begun-balances kind.Class = tt
begun-balances kind.Dot = tt
begun-balances kind.And = tt
begun-balances kind.Not = tt
begun-balances kind.Open = tt
begun-balances kind.Slash = tt
begun-balances kind.Close = tt
begun-balances kind.Arrow = tt
begun-balances kind.Question = tt
begun-balances kind.Star = tt
begun-balances kind.Plus = tt
begun-balances kind.Count = tt

titled-balances : (k : TokenKind) → Balances zero k (titled_step k)
titled-balances kind.Arrow = refl
titled-balances kind.Ident = tt
titled-balances kind.Literal = tt
titled-balances kind.Class = tt
titled-balances kind.Dot = tt
titled-balances kind.And = tt
titled-balances kind.Not = tt
titled-balances kind.Open = tt
titled-balances kind.Slash = tt
titled-balances kind.Close = tt
titled-balances kind.Question = tt
titled-balances kind.Star = tt
titled-balances kind.Plus = tt
titled-balances kind.Count = tt

step-balances : (s : TokenState) (k : TokenKind) → Balances (open_in s) k (step s k)
step-balances TokenState.begun k = begun-balances k
step-balances TokenState.titled k = titled-balances k
step-balances (TokenState.ready depth) k = item-balances depth k
step-balances (TokenState.signed depth) k = signed-balances depth k
step-balances (TokenState.named depth) k = named-balances depth k
step-balances (TokenState.done depth) k = done-balances depth k

-- ---- the tokens of a path

-- the tokens that a path passes
record PathTokens (file : List ℕ) (bound : ℕ) (s u : TokenState) (lexemes rest : List Lexeme) : Type 0 where
  pub before : List Lexeme
  pub same : lexemes ≡ before ++ rest
  pub run : TokenSteps s (kinds before) u
  pub fine : AllFine file before
  pub balance : open_in s + opens before ≡ open_in u + closes before
  pub within : (n : ℕ) → open_in s + opens (take n before) ≤ bound + closes (take n before)

no_tokens : (file : List ℕ) (bound : ℕ) (s : TokenState) (lexemes : List Lexeme) → open_in s ≤ bound
    → PathTokens file bound s s lexemes lexemes
no_tokens file bound s lexemes less = record {
  before = [];
  same = refl;
  run = TokenSteps.ended;
  fine = tt;
  balance = refl;
  within = λ n. by n;
}
  where
    by : (n : ℕ) → open_in s + opens (take n []) ≤ bound + closes (take n [])
    by zero = omega arith
    by (suc n) = omega arith

one_token : (file : List ℕ) (bound : ℕ) (s t u : TokenState) (lexeme : Lexeme) (more rest : List Lexeme) → open_in s ≤ bound
    → step s lexeme.kind ≡ Some t → is_bad_count file lexeme ≡ false → PathTokens file bound t u more rest
    → PathTokens file bound s u (lexeme ∷ more) rest
one_token file bound s t u lexeme more rest less is fine p =
    let both = counts lexeme p.before in
    record {
      before = lexeme ∷ p.before;
      same = ap (λ l. lexeme ∷ l) p.same;
      run = TokenSteps.next is p.run;
      fine = (fine, p.fine);
      balance = omega (arith, both.0, both.1, one, p.balance);
      within = λ n. by n;
    }
  where
    one : open_in s + one_if_open lexeme.kind ≡ open_in t + one_if_close lexeme.kind
    one = subst (Balances (open_in s) lexeme.kind) is (step-balances s lexeme.kind)

    by : (n : ℕ) → open_in s + opens (take n (lexeme ∷ p.before)) ≤ bound + closes (take n (lexeme ∷ p.before))
    by zero = omega arith
    by (suc n) =
        let both = counts lexeme (take n p.before) in
        omega (arith, both.0, both.1, one, p.within n)

path-tokens : {file : List ℕ} {bound : ℕ} {s u : TokenState} {lexemes rest : List Lexeme} → open_in s ≤ bound
    → Path file bound s lexemes u rest → PathTokens file bound s u lexemes rest
path-tokens {file} {bound} {s} {lexemes = lexemes} less Path.stays = no_tokens file bound s lexemes less
path-tokens {file} {bound} {s} {u} less (Path.goes {t = t} {lexeme = lexeme} {more = more} {rest = rest} is next fine path) =
    one_token file bound s t u lexeme more rest less is fine (path-tokens next path)

-- ---- no more parentheses than tokens

one_at_most : (k : TokenKind) → one_if_open k ≤ 1
one_at_most kind.Open = omega arith
one_at_most kind.Ident = omega arith
one_at_most kind.Literal = omega arith
one_at_most kind.Class = omega arith
one_at_most kind.Arrow = omega arith
one_at_most kind.Slash = omega arith
one_at_most kind.And = omega arith
one_at_most kind.Not = omega arith
one_at_most kind.Question = omega arith
one_at_most kind.Star = omega arith
one_at_most kind.Plus = omega arith
one_at_most kind.Count = omega arith
one_at_most kind.Close = omega arith
one_at_most kind.Dot = omega arith

few_open : (before rest : List Lexeme) → opens before ≤ length (before ++ rest)
few_open [] rest = omega arith
few_open (lexeme ∷ more) rest =
    omega (arith, (counts lexeme more).0, one_at_most lexeme.kind, few_open more rest)

-- a path doesn't stop at a parenthesis too many if more may be open than there are tokens
shallow_path : {file : List ℕ} {bound : ℕ} {u : TokenState} {lexemes rest : List Lexeme}
    → PathTokens file bound TokenState.begun u lexemes rest → open_in u ≡ bound → length lexemes < bound → ⊥
shallow_path {lexemes = lexemes} {rest} p full many =
    omega (arith, p.balance, full, many, few_open p.before rest, ap (λ (l : List Lexeme). length l) p.same)

-- ---- the tokens of a file of the notation

-- a run over these kinds to a state where they may end
record IsGrammarRun (ks : List TokenKind) : Type 0 where
  pub last : TokenState
  pub run : TokenSteps TokenState.begun ks last
  pub ends : may_end last ≡ true

notation-runs : (file : List ℕ) (lexemes : List Lexeme) → IsTokens file lexemes → IsInNotation file → IsGrammarRun (kinds lexemes)
notation-runs file lexemes tokens is =
    by (grammar file (suc (length lexemes)) lexemes) refl (grammar-walks file (suc (length lexemes)) lexemes)
  where
    by : (x : Result RulesRead ReadError) → grammar file (suc (length lexemes)) lexemes ≡ x
        → WalksGrammar file (suc (length lexemes)) TokenState.begun lexemes x → IsGrammarRun (kinds lexemes)
    by (Ok read) found walked =
        let p = path-tokens (omega arith) walked.path in
        record {
          last = walked.last;
          run = subst (λ (l : List Lexeme). TokenSteps TokenState.begun (kinds l) walked.last)
              (sym (p.same ∙ append-nil p.before)) p.run;
          ends = walked.ends;
        }
    by (Err (Unexpected at)) found halts =
        absurd (((answers file (suc (length lexemes)) lexemes tokens).unread at found).0 (is.0, is.1, is.2))
    by (Err (TooDeepAt at)) found halts = absurd (too_many halts.stop (path-tokens (omega arith) halts.path))
      where
        too_many : {u : TokenState} {rest : List Lexeme} → HaltsBefore file (suc (length lexemes)) u rest (TooDeepAt at)
            → PathTokens file (suc (length lexemes)) TokenState.begun u lexemes rest → ⊥
        too_many (HaltsBefore.too_many opens next full place) p = shallow_path p full (omega arith)
    by (Err (BadCountAt at)) found halts =
        absurd (((answers file (suc (length lexemes)) lexemes tokens).bad at found).0 is.0 is.1 is.2 is.3)

-- ---- each run continues to a file of the notation

-- a count after other tokens is in range
fine_later : (file : List ℕ) (before : List Lexeme) (lexeme : Lexeme) (more : List Lexeme) → AllFine file (before ++ lexeme ∷ more)
    → is_bad_count file lexeme ≡ false
fine_later file [] lexeme more fine = fine.0
fine_later file (first ∷ before) lexeme more fine = fine_later file before lexeme more fine.1

-- a path over the tokens of a run doesn't stop
never_stops : (file : List ℕ) (lexemes : List Lexeme) → IsGrammarRun (kinds lexemes) → AllFine file lexemes → (halt : ReadError)
    → Halts file (suc (length lexemes)) TokenState.begun lexemes halt → ⊥
never_stops file lexemes all fine halt halts = by halts.stop (path-tokens (omega arith) halts.path)
  where
    over : (before rest : List Lexeme) → lexemes ≡ before ++ rest
        → TokenSteps TokenState.begun (kinds before ++ kinds rest) all.last
    over before rest same =
        subst (λ (ks : List TokenKind). TokenSteps TokenState.begun ks all.last)
        (ap kinds same ∙ map-append (λ (lexeme : Lexeme). lexeme.kind) before rest) all.run

    by : {u : TokenState} {rest : List Lexeme} {halt : ReadError} → HaltsBefore file (suc (length lexemes)) u rest halt
        → PathTokens file (suc (length lexemes)) TokenState.begun u lexemes rest → ⊥
    by (HaltsBefore.refused {lexeme = lexeme} {more = more} none place) p =
        steps-refused lexeme.kind (kinds more) p.run none (over p.before (lexeme ∷ more) p.same)
    by (HaltsBefore.early {u = u} unended place) p =
        let same : u ≡ all.last = steps-end (TokenSteps.ended {s = u}) (steps-rest [] p.run (over p.before [] p.same)) in
        let bad : false ≡ true = sym unended ∙ (ap may_end same ∙ all.ends) in cc
    by (HaltsBefore.too_many opens next full place) p = shallow_path p full (omega arith)
    by (HaltsBefore.out_of_range {lexeme = lexeme} {more = more} next bad_count place) p =
        let good : is_bad_count file lexeme ≡ false = fine_later file p.before lexeme more (subst (AllFine file) p.same fine) in
        let bad : true ≡ false = sym bad_count ∙ good in cc

grammar-continues : (before : List TokenKind) (more : List TokenKind) → IsGrammarRun (before ++ more) → CanContinue before
grammar-continues before more all =
    let it = spelled (before ++ more) in
    by it (grammar it.file (suc (length it.lexemes)) it.lexemes) refl
    (grammar-walks it.file (suc (length it.lexemes)) it.lexemes)
  where
    by : (it : Spelled (before ++ more)) → (x : Result RulesRead ReadError)
        → grammar it.file (suc (length it.lexemes)) it.lexemes ≡ x
        → WalksGrammar it.file (suc (length it.lexemes)) TokenState.begun it.lexemes x → CanContinue before
    by it (Ok read) found walked =
        let stated = ((answers it.file (suc (length it.lexemes)) it.lexemes it.tokens).read read found).0 in
        (it.file, it.lexemes, more, it.tokens, (stated.0, stated.1, stated.2, stated.3), it.same)
    by it (Err halt) found halts =
        absurd (never_stops it.file it.lexemes (subst IsGrammarRun (sym it.same) all) it.fine halt halts)

pub run-continues : {u : TokenState} (before : List TokenKind) → TokenSteps TokenState.begun before u → CanContinue before
run-continues {u} before run =
    let rest = completes u in
    grammar-continues before rest.more
    (record { last = rest.last; run = steps-then run rest.run; ends = rest.ends })

-- after a run, a token that its state doesn't accept has no continuation
pub refused-ends : {u : TokenState} (before : List TokenKind) (k : TokenKind) → TokenSteps TokenState.begun before u
    → step u k ≡ None → CanContinue (before ++ k ∷ []) → ⊥
refused-ends before k run none it =
    let all = notation-runs it.0 it.1 it.3 it.4 in
    let same : kinds it.1 ≡ before ++ k ∷ it.2 = it.5 ∙ append_assoc before (k ∷ []) it.2 in
    steps-refused k it.2 run none (subst (λ (ks : List TokenKind). TokenSteps TokenState.begun ks all.last) same all.run)

-- after a run, a token that its state accepts has a continuation
pub accepted-continues : {u t : TokenState} (before : List TokenKind) (k : TokenKind) → TokenSteps TokenState.begun before u
    → step u k ≡ Some t → CanContinue (before ++ k ∷ [])
accepted-continues before k run is = run-continues (before ++ k ∷ []) (steps-then run (TokenSteps.next is TokenSteps.ended))

-- ---- counts in range

-- a count that is in range has no other tree, and where another token is, there is no count
count_in_range : (file : List ℕ) (lexeme : Lexeme) (more : List Lexeme) (p : ℕ) → Stream file p (lexeme ∷ more)
    → is_bad_count file lexeme ≡ false → CountInRange file lexeme.text.start
count_in_range file lexeme more p (Stream.next k piece one found is rest) fine end trees m = by (is_count lexeme.kind) refl
  where
    starts : lexeme.text.start ≡ p
    starts = ap (λ (l : Lexeme). l.text.start) is

    by : (t : Bool) → is_count lexeme.kind ≡ t → bad_counts file trees ≡ []
    by true counts =
        let same_kind : lexeme.kind ≡ kind.Count = count_kind lexeme.kind true (ap (λ (t : Bool). t && true) counts) in
        let here : Lexeme = lexeme_here kind.Count lexeme.text.start trees in
        let same : is_bad_count file here ≡ is_bad_count file lexeme =
        λ i. is_bad_count file (record { kind = sym same_kind i; text = between lexeme.text.start (text_end lexeme.text.start trees) }) in
        token-counts kind.Count (derives m)
        ∙ ap (λ (t : Bool). (if t then lexeme.text.start ∷ [] else []) ++ []) (same ∙ fine)
    by false other =
        let apart : kind.Count ≡ k → ⊥ =
        λ same. (let bad : true ≡ false = ap is_count (same ∙ sym (ap (λ (l : Lexeme). l.kind) is)) ∙ other in cc) in
        let none = not_here k piece kind.Count (between 0 0) found apart in
        let there = subst (λ q. Matches file (codes "COUNT") q end trees) starts m in
        absurd (let bad : Matched end trees ≡ Failed = one_result (derives there) none in cc)

counts_in_range : (file : List ℕ) (before rest : List Lexeme) (p : ℕ) → Stream file p (before ++ rest) → AllFine file before
    → All (λ (lexeme : Lexeme). CountInRange file lexeme.text.start) before
counts_in_range file [] rest p stream fine = λ k d h. absurd (omega arith)
counts_in_range file (lexeme ∷ before) rest p (Stream.next k piece one found is more) fine =
    All-cons (λ (l : Lexeme). CountInRange file l.text.start) lexeme before
    (count_in_range file lexeme (before ++ rest) p (Stream.next k piece lexeme found is more) fine.0)
    (counts_in_range file before rest (following_text file p piece.length) more fine.1)

-- ---- the first fault

-- the tokens before a fault have none
faultless : {file : List ℕ} {bound : ℕ} {u : TokenState} {lexemes rest : List Lexeme} → IsTokens file lexemes
    → (p : PathTokens file bound TokenState.begun u lexemes rest) → AreFaultless bound file p.before
faultless {file} {bound} {u} {lexemes} {rest} tokens p = record {
  continue = run-continues (kinds p.before) p.run;
  shallow = λ n. omega (arith, p.within n);
  in_range =
      counts_in_range file p.before rest (first_place file)
      (subst (λ (l : List Lexeme). Stream file (first_place file) l) p.same (tokens-stream file lexemes tokens)) p.fine;
}

stops_before : {file : List ℕ} {bound at : ℕ} {u : TokenState} {lexemes more : List Lexeme} {token : Lexeme} → IsTokens file lexemes
    → (p : PathTokens file bound TokenState.begun u lexemes (token ∷ more)) → at ≡ token.text.start
    → StopsBefore bound file at p.before token
stops_before {file} {more = more} tokens p place = record {
  more = more;
  tokens = subst (IsTokens file) p.same tokens;
  place = place;
  faultless = faultless tokens p;
}

unexpected_first : {file : List ℕ} {bound at : ℕ} {u : TokenState} {lexemes rest : List Lexeme} → IsTokens file lexemes
    → HaltsBefore file bound u rest (Unexpected at) → PathTokens file bound TokenState.begun u lexemes rest
    → IsUnexpectedToken bound file at ⊎ EndsEarly bound file at
unexpected_first tokens (HaltsBefore.refused {lexeme = lexeme} none place) p =
    inl (p.before, lexeme, stops_before tokens p place, λ it. refused-ends (kinds p.before) lexeme.kind p.run none it)
unexpected_first {file} tokens (HaltsBefore.early unended place) p =
    inr (p.before, subst (IsTokens file) (p.same ∙ append-nil p.before) tokens, place, faultless tokens p)

nested_first : {file : List ℕ} {bound at : ℕ} {u : TokenState} {lexemes rest : List Lexeme} → IsTokens file lexemes
    → HaltsBefore file bound u rest (TooDeepAt at) → PathTokens file bound TokenState.begun u lexemes rest
    → IsExcessParenthesis bound file at
nested_first tokens (HaltsBefore.too_many {lexeme = opening} opens_one next full place) p = (
  p.before,
  opening,
  stops_before tokens p place,
  opens_one,
  omega (arith, p.balance, full),
  accepted-continues (kinds p.before) opening.kind p.run next,
)

count_first : {file : List ℕ} {bound at : ℕ} {u : TokenState} {lexemes rest : List Lexeme} → IsTokens file lexemes
    → HaltsBefore file bound u rest (BadCountAt at) → PathTokens file bound TokenState.begun u lexemes rest
    → IsOutOfRangeCount bound file at
count_first {file} {at = at} {lexemes = lexemes} tokens (HaltsBefore.out_of_range {lexeme = count} {more = more} next bad_count place) p =
    let there = stream-following file p.before (count ∷ more) (first_place file)
    (subst (λ (l : List Lexeme). Stream file (first_place file) l) p.same (tokens-stream file lexemes tokens)) in (
      p.before,
      count,
      stops_before tokens p place,
      count_kind count.kind (not (bounds_in_range (bounds_of_lexeme file count))) bad_count,
      subst (CountOutOfRange file) (sym place) (bad_tree file count more there.0 there.1 bad_count),
      accepted-continues (kinds p.before) count.kind p.run next,
    )

-- why reading the tokens of a file stops is the first fault
pub fault_first : (file : List ℕ) (lexemes : List Lexeme) (fault : NotationFault) → IsTokens file lexemes
    → AgreesOnError (grammar file max_open lexemes) fault → NamesFirstFault max_open file (Err fault)
fault_first file lexemes fault tokens = by fault
  where
    stopped : (halt : ReadError) → grammar file max_open lexemes ≡ Err halt → Halts file max_open TokenState.begun lexemes halt
    stopped halt is =
        subst (λ (x : Result RulesRead ReadError). WalksGrammar file max_open TokenState.begun lexemes x) is
        (grammar-walks file max_open lexemes)

    by : (fault : NotationFault) → AgreesOnError (grammar file max_open lexemes) fault → NamesFirstFault max_open file (Err fault)
    by answer.FileTooLong is = tt
    by (answer.Syntax at) is =
        let halts = stopped (Unexpected at) is in
        inr (unexpected_first tokens halts.stop (path-tokens (omega arith) halts.path))
    by (answer.TooNested at) is =
        let halts = stopped (TooDeepAt at) is in nested_first tokens halts.stop (path-tokens (omega arith) halts.path)
    by (answer.BadCount at) is =
        let halts = stopped (BadCountAt at) is in count_first tokens halts.stop (path-tokens (omega arith) halts.path)
    by answer.Memory is = tt

-- the fault of a file that can't be tokenized
pub lexing_first : (file : List ℕ) (fault : LexFault) → Lexes file (Err fault) → NamesFirstFault max_open file (Err (fault_of fault))
lexing_first file lexing.FileTooLong is = tt
lexing_first file (lexing.Syntax at) is = inl is.1
lexing_first file lexing.Memory is = tt
