-- From what is read of the tokens of a file to the result of reading the file.
use Rattle.std.proofs.Common.{◌≡◌, ◌≢◌, ◌⊎◌, inl, inr, ℕ, zero, suc, ◌+◌, ◌≤◌, Bool, true, false, not, ◌&&◌, if◌then◌else◌, List, [], ◌∷◌, ◌++◌, length, take, drop, map, codes, Contains, All}
use Rattle.std.proofs.Common.{Option, Some, option_map, Result, Ok, Err, refl, sym, ap, ◌∙◌, subst, arith}
use Rattle.std.proofs.lemmas.List.Sums.{sum_by-cons}
use Rattle.peg_bytes.specs.Extent.{between}
use Rattle.peg_tree.specs.Trees.{Trees}
use Rattle.peg_semantics.specs.Form.{Name}
use Rattle.peg_semantics.specs.Record.{Failed, Matched}
use Rattle.peg_semantics.proofs.Derivations.{Derives, one_result}
use Rattle.peg_metagrammar.specs.Figure.{figure}
use Rattle.peg_metagrammar.specs.Notation.{Matches, FigureMatches, max_file_bytes}
use Rattle.peg_lexer.specs.Lexical.{matcher_of}
use Rattle.peg_lexer.specs.Matchers.{PrefixMatch}
use Rattle.peg_metagrammar.specs.Denotation.{text_end, bounds_in_range, bad_counts}
use Rattle.peg_lexer.specs.declared.token.TokenKind.{TokenKind}
use Rattle.peg_lexer.specs.declared.token.TokenKind.TheVariants as token
use Rattle.peg_notation.specs.Reader.{ReadError, Unexpected, TooDeepAt, BadCountAt, RulesRead, bounds_of_lexeme, is_count, is_bad_count, grammar}
use Rattle.peg_notation.specs.ReaderCode.{IsText, AreTexts, AgreesOnError}
use Rattle.peg_metagrammar.specs.Nesting.{max_open}
use Rattle.peg_notation.specs.Reads.{fault_of, Reads, IsReadingWithin, NestsDeeper, CountsOutOfRange, IsTokenPlace, one_if_open, opens, one_if_close, closes, IsOneTooMany, IsBadCountToken}
use Rattle.peg_notation.specs.Spans.{RuleLiesIn, AnswerLiesIn}
use Rattle.peg_metagrammar.specs.Nesting.{nesting}
use Rattle.peg_lexer.specs.Tokens.{Lexeme, IsTokens, Lexes}
use Rattle.peg_lexer.specs.declared.fault.LexFault.{LexFault}
use Rattle.peg_lexer.specs.declared.fault.LexFault.TheVariants.{FileTooLong, Syntax, Memory}
use Rattle.peg_notation.specs.declared.fault.NotationFault.{NotationFault}
use Rattle.peg_notation.specs.declared.fault.NotationFault.TheVariants as answer
use Rattle.peg_notation.proofs.GrammarRules.{ExactFile, first_place, grammar-exact}
use Rattle.peg_lexer.proofs.Lexemes.{lexeme_at, matches}
use Rattle.peg_notation.proofs.MatchedTokens.{deepest, derives, fault_not_matched, lexeme_here, token-counts, counts-tokens, nests-tokens}
use Rattle.peg_notation.proofs.Places.{IsPlace, StopsAt, grammar-stops}
use Rattle.peg_notation.proofs.Reached.{Runs, IsDeepAt, IsBadAt, token-order, texts-within, texts-from}
use Rattle.peg_notation.proofs.ReachedRules.{bad_places, RulesReach, grammar-reaches}
use Rattle.peg_lexer.proofs.SpacingRules.{finds-spacing}
use Rattle.peg_notation.proofs.Streams.{Stream, stream, here}
use Rattle.peg_lexer.proofs.Texts.{following_text}

-- ---- tokens

-- the end of the first spacing
first_start : (file : List ℕ) {start : ℕ} {trees : Trees} → Matches file (codes "Spacing") 0 start trees
    → start ≡ first_place file
first_start file {start} {trees} m =
    let gap = finds-spacing file (between 0 0) 0 in
    let same : Matched start trees ≡ Matched (first_place file) gap.trees = one_result (derives m) gap.derives in
    cc

-- the tokens of a file follow each other
pub tokens-stream : (file : List ℕ) (lexemes : List Lexeme) → IsTokens file lexemes → Stream file (first_place file) lexemes
tokens-stream file lexemes tokens = subst (λ p. Stream file p lexemes) (first_start file tokens.2) (stream tokens.3 refl)

stream-texts : {file : List ℕ} {p : ℕ} {lexemes : List Lexeme} → Stream file p lexemes → AreTexts file p lexemes
stream-texts (Stream.ended last) = omega (arith, last)
stream-texts {file} {p} (Stream.next {more = more} k piece lexeme found is rest) =
    let here : IsText file (lexeme_at k p piece.length) =
    ap (λ (x : Option PrefixMatch). option_map (λ (q : PrefixMatch). p + q.length) x) found in
    let following : AreTexts file (p + piece.length) more =
    texts-from file (following_text file p piece.length) (p + piece.length) more (omega arith) (stream-texts rest) in
    subst (λ (l : Lexeme). AreTexts file p (l ∷ more)) (sym is) (omega arith, here, following)

pub tokens-texts : (file : List ℕ) (lexemes : List Lexeme) → IsTokens file lexemes → AreTexts file 0 lexemes
tokens-texts file lexemes tokens =
    texts-from file (first_place file) 0 lexemes (omega arith) (stream-texts (tokens-stream file lexemes tokens))

-- ---- offsets

contains-later : (x y : ℕ) (list : List ℕ) → Contains list x → Contains (y ∷ list) x
contains-later x y list is = (suc is.0, omega (arith, is.1), is.2)

token_place : (size : ℕ) (lexemes : List Lexeme) (at : ℕ) → IsPlace size lexemes at
    → Contains (map (λ (lexeme : Lexeme). lexeme.text.start) lexemes) at ⊎ (at ≡ size)
token_place size lexemes at (IsPlace.the_end is) = inr is
token_place size (lexeme ∷ more) at (IsPlace.first is) = inl (0, omega arith, sym is)
token_place size (lexeme ∷ more) at (IsPlace.later rest) =
    elim (token_place size more at rest) [
      | inl is ↦ inl (contains-later at lexeme.text.start (map (λ (l : Lexeme). l.text.start) more) is)
      | inr is ↦ inr is
    ]

-- ---- open parentheses

-- The tokens that a run passes: the numbers of those that open and close, with at most `bound` open on the way.
record Passed (bound a b : ℕ) (lexemes rest : List Lexeme) : Type 0 where
  pub before : List Lexeme
  pub same : lexemes ≡ before ++ rest
  pub count : a + opens before ≡ b + closes before
  pub within : (n : ℕ) → a + opens (take n before) ≤ bound + closes (take n before)

pub counts : (lexeme : Lexeme) (more : List Lexeme) → (opens (lexeme ∷ more) ≡ one_if_open lexeme.kind + opens more)
    × (closes (lexeme ∷ more) ≡ one_if_close lexeme.kind + closes more)
counts lexeme more = (
  sum_by-cons (λ (l : Lexeme). one_if_open l.kind) lexeme more,
  sum_by-cons (λ (l : Lexeme). one_if_close l.kind) lexeme more,
)

-- one token, and what is passed after it
one_passed : (bound a c b : ℕ) (lexeme : Lexeme) (more rest : List Lexeme) → a ≤ bound
    → a + one_if_open lexeme.kind ≡ c + one_if_close lexeme.kind → Passed bound c b more rest
    → Passed bound a b (lexeme ∷ more) rest
one_passed bound a c b lexeme more rest less step p =
    let both = counts lexeme p.before in
    record {
      before = lexeme ∷ p.before;
      same = ap (λ l. lexeme ∷ l) p.same;
      count = omega (arith, both.0, both.1, step, p.count);
      within = λ n. by n;
    }
  where
    by : (n : ℕ) → a + opens (take n (lexeme ∷ p.before)) ≤ bound + closes (take n (lexeme ∷ p.before))
    by zero = omega arith
    by (suc n) =
        let both = counts lexeme (take n p.before) in
        omega (arith, both.0, both.1, step, p.within n)

stays_passed : (bound a : ℕ) (lexemes : List Lexeme) → a ≤ bound → Passed bound a a lexemes lexemes
stays_passed bound a lexemes less = record { before = []; same = refl; count = refl; within = λ n. by n }
  where
    by : (n : ℕ) → a + opens (take n []) ≤ bound + closes (take n [])
    by zero = omega arith
    by (suc n) = omega arith

runs-passed : {file : List ℕ} {bound a b : ℕ} {lexemes rest : List Lexeme} → a ≤ bound → Runs file bound a lexemes b rest
    → Passed bound a b lexemes rest
runs-passed {bound = bound} {a} {b} {lexemes} less Runs.stays = stays_passed bound a lexemes less
runs-passed {bound = bound} {a} {b} less (Runs.opened {lexeme = lexeme} {more = more} {rest = rest} is smaller run) =
    one_passed bound a (suc a) b lexeme more rest less (omega (arith, ap one_if_open is, ap one_if_close is))
    (runs-passed (omega arith) run)
runs-passed {bound = bound} {a} {b} less (Runs.shut {a = c} {lexeme = lexeme} {more = more} {rest = rest} is run) =
    one_passed bound (suc c) c b lexeme more rest less (omega (arith, ap one_if_open is, ap one_if_close is))
    (runs-passed (omega arith) run)
runs-passed {bound = bound} {a} {b} less (Runs.other {lexeme = lexeme} {more = more} {rest = rest} plain run) =
    one_passed bound a a b lexeme more rest less (omega (arith, plain.no_open, plain.no_close)) (runs-passed less run)

too_many : (bound : ℕ) (file : List ℕ) (lexemes : List Lexeme) (at : ℕ) → IsTokens file lexemes → IsDeepAt file bound 0 lexemes at
    → IsOneTooMany bound file at
too_many bound file lexemes at tokens deep =
    let p = runs-passed (omega arith) deep.runs in (
      p.before,
      deep.opening,
      deep.more,
      subst (IsTokens file) p.same tokens,
      deep.opens,
      deep.position,
      omega (arith, p.count),
      λ n. omega (arith, p.within n),
    )

-- ---- the result

-- a reading is the metagrammar's, and within the nesting limit
read_within : (file : List ℕ) (bound : ℕ) (lexemes : List Lexeme) (read : RulesRead) → IsTokens file lexemes
    → ExactFile file (Ok read) → RulesReach file bound lexemes (Ok read) → IsReadingWithin bound file read.rules
read_within file bound lexemes read tokens exact reach =
    let matched : Matches file (codes "Grammar") 0 exact.end exact.trees = matches (exact.derives (between 0 0)) in
    let fine = counts-tokens file lexemes tokens exact.end exact.trees matched ∙ reach.2 in
    ((exact.end, exact.trees, matched, fine, exact.spells), λ end trees m. flat end trees m)
  where
    flat : (end : ℕ) (trees : Trees) → Matches file (codes "Grammar") 0 end trees → nesting trees ≤ bound
    flat end trees m =
        let same : Matched end trees ≡ Matched exact.end exact.trees = one_result (derives m) (exact.derives (between 0 0)) in
        let one : trees ≡ exact.trees = cc in
        omega (arith, ap nesting one, exact.nests, reach.1)

not_matched : (file : List ℕ) → ((span : Rattle.peg_bytes.specs.Extent.Extent) → Derives figure file (Name (codes "Grammar") span) 0 Failed)
    → (end : ℕ) (trees : Trees) → Matches file (codes "Grammar") 0 end trees → ⊥
not_matched file fails end trees m =
    let bad : Matched end trees ≡ Failed = one_result (derives m) (fails (between 0 0)) in cc

-- if `bound` parentheses are open after some tokens and another one opens, they nest deeper
runs-deepest : {file : List ℕ} {bound a b : ℕ} {lexemes rest : List Lexeme} → Runs file bound a lexemes b rest
    → b + deepest rest ≤ a + deepest lexemes
runs-deepest Runs.stays = omega arith
runs-deepest (Runs.opened is less run) = omega (arith, ap one_if_open is, ap one_if_close is, runs-deepest run)
runs-deepest (Runs.shut is run) = omega (arith, ap one_if_open is, ap one_if_close is, runs-deepest run)
runs-deepest (Runs.other plain run) = omega (arith, plain.no_open, plain.no_close, runs-deepest run)

nests_deeper : (file : List ℕ) (bound : ℕ) (lexemes : List Lexeme) (at : ℕ) → IsTokens file lexemes
    → IsDeepAt file bound 0 lexemes at → NestsDeeper bound file
nests_deeper file bound lexemes at tokens deep end trees m =
    omega (
      arith,
      nests-tokens file lexemes tokens end trees m,
      runs-deepest deep.runs,
      ap one_if_open deep.opens,
      ap one_if_close deep.opens,
    )

-- ---- a count out of range

bad_somewhere : (file : List ℕ) (before : List Lexeme) (count : Lexeme) (more : List Lexeme)
    → is_bad_count file count ≡ true → bad_places file (before ++ count ∷ more) ≢ []
bad_somewhere file [] count more bad none =
    let some : bad_places file (count ∷ more) ≡ count.text.start ∷ bad_places file more =
    ap (λ (t : Bool). (if t then count.text.start ∷ [] else []) ++ bad_places file more) bad in
    let no : [] ≡ count.text.start ∷ bad_places file more = sym none ∙ some in
    cc
bad_somewhere file (lexeme ∷ before) count more bad none =
    by (λ is. bad_somewhere file before count more bad is) (is_bad_count file lexeme) none
  where
    by : (bad_places file (before ++ count ∷ more) ≡ [] → ⊥) → (t : Bool) → (if t then lexeme.text.start ∷ [] else []) ++ bad_places file (before ++ count ∷ more) ≡ [] → ⊥
    by following true is = cc
    by following false is = following is

out_of_range : (file : List ℕ) (lexemes : List Lexeme) (at : ℕ) → IsTokens file lexemes → IsBadAt file lexemes at
    → CountsOutOfRange file
out_of_range file lexemes at tokens it end trees m none =
    bad_somewhere file it.before it.count it.more it.bad
    (ap (bad_places file) (sym it.same) ∙ (sym (counts-tokens file lexemes tokens end trees m) ∙ none))

-- tokens after others are a stream too
pub stream-following : (file : List ℕ) (before rest : List Lexeme) (p : ℕ) → Stream file p (before ++ rest)
    → (q : ℕ) × Stream file q rest
stream-following file [] rest p there = (p, there)
stream-following file (lexeme ∷ before) rest p (Stream.next k piece l found is more) =
    stream-following file before rest (following_text file p piece.length) more

pub count_kind : (k : TokenKind) (t : Bool) → (is_count k && t) ≡ true → k ≡ token.Count
count_kind token.Count t is = refl
count_kind token.Ident t is = cc
count_kind token.Literal t is = cc
count_kind token.Class t is = cc
count_kind token.Arrow t is = cc
count_kind token.Slash t is = cc
count_kind token.And t is = cc
count_kind token.Not t is = cc
count_kind token.Question t is = cc
count_kind token.Star t is = cc
count_kind token.Plus t is = cc
count_kind token.Open t is = cc
count_kind token.Close t is = cc
count_kind token.Dot t is = cc

-- the match of COUNT for such a token
pub bad_tree : (file : List ℕ) (count : Lexeme) (more : List Lexeme) (q : ℕ) → Stream file q (count ∷ more)
    → is_bad_count file count ≡ true
    → (end : ℕ) × (trees : Trees) × Matches file (codes "COUNT") count.text.start end trees
    × (bad_counts file trees ≡ count.text.start ∷ [])
bad_tree file count more q (Stream.next k piece lexeme found is rest) bad =
    let counts : count.kind ≡ token.Count = count_kind count.kind (not (bounds_in_range (bounds_of_lexeme file count))) bad in
    let kinds : k ≡ token.Count = sym (ap (λ (l : Lexeme). l.kind) is) ∙ counts in
    let starts : count.text.start ≡ q = ap (λ (l : Lexeme). l.text.start) is in
    let there : matcher_of token.Count (drop q file) ≡ Some piece = subst (λ k. matcher_of k (drop q file) ≡ Some piece) kinds found in
    let it = here token.Count piece (between 0 0) there in
    let one : Lexeme = lexeme_here token.Count q it.trees in
    let same : is_bad_count file one ≡ is_bad_count file count =
    λ i. is_bad_count file (record { kind = sym counts i; text = between (sym starts i) (text_end q it.trees) }) in
    let stated : bad_counts file it.trees ≡ q ∷ [] =
    token-counts token.Count it.derives
    ∙ ap (λ (t : Bool). (if t then q ∷ [] else []) ++ []) (same ∙ bad) in
    subst (λ n. (end : ℕ) × (trees : Trees) × Matches file (codes "COUNT") n end trees × (bad_counts file trees ≡ n ∷ []))
    (sym starts) (following_text file q piece.length, it.trees, matches it.derives, stated)

bad_token : (file : List ℕ) (lexemes : List Lexeme) (at : ℕ) → IsTokens file lexemes → IsBadAt file lexemes at
    → IsBadCountToken file at
bad_token file lexemes at tokens it =
    let all : IsTokens file (it.before ++ it.count ∷ it.more) = subst (IsTokens file) it.same tokens in
    let there = stream-following file it.before (it.count ∷ it.more) (first_place file) (tokens-stream file (it.before ++ it.count ∷ it.more) all) in (
      it.before,
      it.count,
      it.more,
      all,
      count_kind it.count.kind (not (bounds_in_range (bounds_of_lexeme file it.count))) it.bad,
      it.position,
      subst (λ n. (end : ℕ) × (trees : Trees) × Matches file (codes "COUNT") n end trees × (bad_counts file trees ≡ n ∷ []))
          (sym it.position) (bad_tree file it.count it.more there.0 there.1 it.bad),
    )

-- it starts in the file
bad_within : (file : List ℕ) (before : List Lexeme) (count : Lexeme) (more : List Lexeme) (at from : ℕ)
    → AreTexts file from (before ++ count ∷ more) → at ≡ count.text.start → at ≤ length file
bad_within file [] count more at from texts position =
    omega (arith, position, token-order file from count more texts, texts-within file count.text.end more texts.2)
bad_within file (lexeme ∷ before) count more at from texts position =
    bad_within file before count more at lexeme.text.end texts.2 position

-- what is read of the tokens of a file with at most this number of open parentheses
pub record OfTokens (file : List ℕ) (bound : ℕ) (lexemes : List Lexeme) : Type 0 where
  pub read : (r : RulesRead) → grammar file bound lexemes ≡ Ok r → IsReadingWithin bound file r.rules
  pub lies : (r : RulesRead) → grammar file bound lexemes ≡ Ok r → All (RuleLiesIn (length file)) r.rules
  pub unread : (at : ℕ) → grammar file bound lexemes ≡ Err (Unexpected at) → (¬ FigureMatches file) × IsTokenPlace file at
  pub deep : (at : ℕ) → grammar file bound lexemes ≡ Err (TooDeepAt at) → NestsDeeper bound file × IsOneTooMany bound file at
  pub bad : (at : ℕ) → grammar file bound lexemes ≡ Err (BadCountAt at) → CountsOutOfRange file × IsBadCountToken file at
      × (at ≤ length file)

pub answers : (file : List ℕ) (bound : ℕ) (lexemes : List Lexeme) → IsTokens file lexemes → OfTokens file bound lexemes
answers file bound lexemes tokens =
    let read = grammar file bound lexemes in
    let exact : ExactFile file read = grammar-exact file bound lexemes (tokens-stream file lexemes tokens) in
    let reach : RulesReach file bound lexemes read = grammar-reaches file bound 0 lexemes (tokens-texts file lexemes tokens) in
    let exact_as : (x : Result RulesRead ReadError) → read ≡ x → ExactFile file x =
    λ x found. subst (λ (y : Result RulesRead ReadError). ExactFile file y) found exact in
    let reach_as : (x : Result RulesRead ReadError) → read ≡ x → RulesReach file bound lexemes x =
    λ x found. subst (λ (y : Result RulesRead ReadError). RulesReach file bound lexemes y) found reach in
    record {
      read = λ r found. read_within file bound lexemes r tokens (exact_as (Ok r) found) (reach_as (Ok r) found);
      lies = λ r found. (reach_as (Ok r) found).0;
      unread = λ at found. (
        λ m. not_matched file (exact_as (Err (Unexpected at)) found) m.0 m.1 m.2,
        (
          lexemes,
          tokens,
          token_place (length file) lexemes at
              (subst (λ (x : Result RulesRead ReadError). StopsAt (length file) lexemes x) found (grammar-stops file bound lexemes)),
        ),
      );
      deep = λ at found. (
        nests_deeper file bound lexemes at tokens (reach_as (Err (TooDeepAt at)) found),
        too_many bound file lexemes at tokens (reach_as (Err (TooDeepAt at)) found),
      );
      bad = λ at found.
          let it = reach_as (Err (BadCountAt at)) found in (
            out_of_range file lexemes at tokens it,
            bad_token file lexemes at tokens it,
            bad_within file it.before it.count it.more at 0
                (subst (AreTexts file 0) it.same (tokens-texts file lexemes tokens)) it.position,
          );
    }

-- the result for a file that can't be tokenized
pub lexing_reads : (file : List ℕ) (fault : LexFault) → Lexes file (Err fault) → Reads file (Err (fault_of fault))
lexing_reads file FileTooLong is = is
lexing_reads file (Syntax at) is = (is.0, fault_not_matched file at is.1, inl is.1)
lexing_reads file Memory is = tt

pub lexing_lies : (file : List ℕ) (fault : LexFault) → Lexes file (Err fault) → AnswerLiesIn (length file) (Err (fault_of fault))
lexing_lies file FileTooLong is = tt
lexing_lies file (Syntax at) is = let before = is.1.2 in omega (arith, before)
lexing_lies file Memory is = tt

-- the result of the reader on the tokens of a file is the result of reading the file
pub fault_reads : (file : List ℕ) (lexemes : List Lexeme) (fault : NotationFault) → length file ≤ max_file_bytes
    → IsTokens file lexemes → AgreesOnError (grammar file max_open lexemes) fault → Reads file (Err fault)
fault_reads file lexemes answer.FileTooLong short tokens is = absurd is
fault_reads file lexemes (answer.Syntax at) short tokens is =
    let it = (answers file max_open lexemes tokens).unread at is in (short, it.0, inr it.1)
fault_reads file lexemes (answer.TooNested at) short tokens is =
    let it = (answers file max_open lexemes tokens).deep at is in (short, it.0, it.1)
fault_reads file lexemes (answer.BadCount at) short tokens is =
    let it = (answers file max_open lexemes tokens).bad at is in (short, it.0, it.1)
fault_reads file lexemes answer.Memory short tokens is = tt

-- the offset where a token starts is in the file
starts_within : (file : List ℕ) (from : ℕ) (lexemes : List Lexeme) (at : ℕ) → AreTexts file from lexemes
    → IsPlace (length file) lexemes at → at ≤ length file
starts_within file from lexemes at texts (IsPlace.the_end is) = omega (arith, is)
starts_within file from (lexeme ∷ more) at texts (IsPlace.first is) =
    omega (arith, is, token-order file from lexeme more texts, texts-within file lexeme.text.end more texts.2)
starts_within file from (lexeme ∷ more) at texts (IsPlace.later rest) = starts_within file lexeme.text.end more at texts.2 rest

runs_within : (file : List ℕ) {bound a b : ℕ} {lexemes rest : List Lexeme} → Runs file bound a lexemes b rest → (from : ℕ)
    → AreTexts file from lexemes → (to : ℕ) × AreTexts file to rest
runs_within file Runs.stays from texts = (from, texts)
runs_within file (Runs.opened {lexeme = lexeme} is less run) from texts = runs_within file run lexeme.text.end texts.2
runs_within file (Runs.shut {lexeme = lexeme} is run) from texts = runs_within file run lexeme.text.end texts.2
runs_within file (Runs.other {lexeme = lexeme} plain run) from texts = runs_within file run lexeme.text.end texts.2

pub fault_lies : (file : List ℕ) (lexemes : List Lexeme) (fault : NotationFault) → IsTokens file lexemes
    → AgreesOnError (grammar file max_open lexemes) fault → AnswerLiesIn (length file) (Err fault)
fault_lies file lexemes answer.FileTooLong tokens is = tt
fault_lies file lexemes (answer.Syntax at) tokens is =
    starts_within file 0 lexemes at (tokens-texts file lexemes tokens)
    (subst (λ (x : Result RulesRead ReadError). StopsAt (length file) lexemes x) is (grammar-stops file max_open lexemes))
fault_lies file lexemes (answer.TooNested at) tokens is =
    let texts = tokens-texts file lexemes tokens in
    let deep : IsDeepAt file max_open 0 lexemes at =
    subst (λ (x : Result RulesRead ReadError). RulesReach file max_open lexemes x) is (grammar-reaches file max_open 0 lexemes texts) in
    let left = runs_within file deep.runs 0 texts in
    omega (
      arith,
      deep.position,
      token-order file left.0 deep.opening deep.more left.1,
      texts-within file deep.opening.text.end deep.more left.1.2,
    )
fault_lies file lexemes (answer.BadCount at) tokens is = ((answers file max_open lexemes tokens).bad at is).2
fault_lies file lexemes answer.Memory tokens is = tt
