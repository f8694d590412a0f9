-- A file has one list of tokens or one lexing fault.
use Rattle.std.proofs.Common.{◌≡◌, ℕ, ◌<◌, List, [], ◌∷◌, length, drop, codes, Option, None, Some, inl, inr, refl, sym, ap, ◌∙◌, subst, arith}
use Rattle.std.proofs.Math.Seq.{drop-length}
use Rattle.peg_bytes.specs.Extent.{between}
use Rattle.peg_tree.specs.Trees.{Trees}
use Rattle.peg_semantics.specs.Form.{Name}
use Rattle.peg_semantics.specs.Record.{Record, Failed, Matched}
use Rattle.peg_semantics.proofs.RecordLemmas.{one_record}
use Rattle.peg_metagrammar.specs.Figure.{figure}
use Rattle.peg_lexer.specs.Lexical.{identifier, literal, quoted, class, matcher_of, kind_of, count}
use Rattle.peg_metagrammar.specs.Notation.{Matches, FailsAt}
use Rattle.peg_metagrammar.specs.Denotation.{text_end}
use Rattle.peg_lexer.specs.Tokens.{rule_of_kind, Lexeme, IsLexeme, Lexemes, IsTokenized, IsTokens, IsLexingFault}
use Rattle.peg_lexer.specs.declared.token.TokenKind.{TokenKind}
use Rattle.peg_lexer.specs.declared.token.TokenKind.TheVariants.{Ident, Literal, Class, Arrow, Slash, And, Not, Question, Star, Plus, Count, Open, Close, Dot}
use Rattle.peg_lexer.proofs.Lexemes.{kind_fails, kinds_apart}

-- ---- a metagrammar rule has one match at an offset

-- two matches of a rule at one offset have the same end and the same trees
one_end : (file name : List ℕ) (position : ℕ) {end other : ℕ} {trees more : Trees} → Matches file name position end trees
    → Matches file name position other more → (end ≡ other) × (trees ≡ more)
one_end file name position {end} {other} {trees} {more} a b =
    let same : a.0 ≡ b.0 = one_record figure file (Name name (between 0 0)) 0 position a.0 b.0 a.1 b.1 in
    let results : Matched end trees ≡ Matched other more = sym a.2 ∙ (ap (λ (r : Record). r.result) same ∙ b.2) in
    (cc, cc)

-- a rule that matches at an offset does not fail there
not_both : (file name : List ℕ) (position : ℕ) {end : ℕ} {trees : Trees} → Matches file name position end trees
    → FailsAt file name position → ⊥
not_both file name position {end} {trees} a b =
    let same : a.0 ≡ b.0 = one_record figure file (Name name (between 0 0)) 0 position a.0 b.0 a.1 b.1 in
    let results : Matched end trees ≡ Failed = sym a.2 ∙ (ap (λ (r : Record). r.result) same ∙ b.2) in
    cc

-- ---- one token at an offset

-- at the end of the file no kind of token matches
no_text : (kind : TokenKind) → matcher_of kind [] ≡ None
unfolding identifier literal quoted class count
no_text Ident = refl
no_text Literal = refl
no_text Class = refl
no_text Arrow = refl
no_text Slash = refl
no_text And = refl
no_text Not = refl
no_text Question = refl
no_text Star = refl
no_text Plus = refl
no_text Count = refl
no_text Open = refl
no_text Close = refl
no_text Dot = refl

-- a token has a text
has_text : (file : List ℕ) (position : ℕ) {end : ℕ} (lexeme : Lexeme) → IsLexeme file position end lexeme
    → matcher_of lexeme.kind (drop position file) ≡ None → ⊥
has_text file position lexeme it none =
    not_both file (rule_of_kind lexeme.kind) position it.1 (kind_fails file lexeme.kind position none)

-- the kind given by the first byte
kind_at_front : List ℕ → Option TokenKind
kind_at_front [] = None
kind_at_front (byte ∷ rest) = kind_of byte

-- the first byte of a token determines its kind
kind_stated : (file : List ℕ) (position : ℕ) {end : ℕ} (lexeme : Lexeme) → IsLexeme file position end lexeme
    → kind_at_front (drop position file) ≡ Some lexeme.kind
unfolding kind_at_front
kind_stated file position lexeme it = by (drop position file) refl
  where
    by : (rest : List ℕ) → drop position file ≡ rest → kind_at_front rest ≡ Some lexeme.kind
    by [] is = absurd (has_text file position lexeme it (ap (matcher_of lexeme.kind) is ∙ no_text lexeme.kind))
    by (byte ∷ rest) is =
        elim (kinds_apart lexeme.kind byte rest) [
          | inl stated ↦ stated
          | inr none ↦ absurd (has_text file position lexeme it (ap (matcher_of lexeme.kind) is ∙ none))
        ]

-- two tokens at one offset are equal, and so are the ends of their spacing
one_lexeme : (file : List ℕ) (position : ℕ) {end other : ℕ} (first second : Lexeme) → IsLexeme file position end first
    → IsLexeme file position other second → (end ≡ other) × (first ≡ second)
one_lexeme file position {end} {other} first second a b =
    let stated : Some first.kind ≡ Some second.kind = sym (kind_stated file position first a)
    ∙ kind_stated file position second b in
    let kinds : first.kind ≡ second.kind = cc in
    let moved : Matches file (rule_of_kind second.kind) position end a.0 = subst
    (λ kind. Matches file (rule_of_kind kind) position end a.0) kinds a.1 in
    let same = one_end file (rule_of_kind second.kind) position moved b.1 in
    let texts : first.text ≡ second.text = a.2 ∙ (ap (λ trees. between position (text_end position trees)) same.1 ∙ sym b.2) in
    let kind_moved : first ≡ (record { kind = second.kind; text = first.text }) = ap
    (λ kind. record { kind = kind; text = first.text }) kinds in
    let text_moved : (record { kind = second.kind; text = first.text }) ≡ second = ap
    (λ text. record { kind = second.kind; text = text }) texts in
    (same.0, kind_moved ∙ text_moved)

-- ---- one list of tokens up to where they stop

-- no token starts at offset `at`
abbrev pub IsStop : List ℕ → ℕ → Type 0
IsStop file at = (kind : TokenKind) → FailsAt file (rule_of_kind kind) at

-- if no token starts at an offset, there is none there
stopped : (file : List ℕ) (position : ℕ) {end : ℕ} (lexeme : Lexeme) → IsStop file position → IsLexeme file position end lexeme
    → ⊥
stopped file position lexeme stop it = not_both file (rule_of_kind lexeme.kind) position it.1 (stop lexeme.kind)

-- no token starts at the end of the file
end_stops : (file : List ℕ) → IsStop file (length file)
end_stops file kind = kind_fails file kind (length file) (ap (matcher_of kind) (drop-length file) ∙ no_text kind)

-- two lists of tokens from one offset, up to where no token starts, are equal
one_way : (file : List ℕ) {position end other : ℕ} {first second : List Lexeme} → Lexemes file position first end
    → Lexemes file position second other → IsStop file end → IsStop file other → (first ≡ second) × (end ≡ other)
one_way file Lexemes.none Lexemes.none stop halt = (refl, refl)
one_way file (Lexemes.none {position}) (Lexemes.one {lexeme = b} it more) stop halt =
    absurd (stopped file position b stop it)
one_way file {position} (Lexemes.one {lexeme = a} it more) Lexemes.none stop halt = absurd (stopped file position a halt it)
one_way file {position} {end} {other} (Lexemes.one {lexeme = a} {more = front} it more)
    (Lexemes.one {lexeme = b} {more = back} that rest) stop halt =
    let same = one_lexeme file position a b it that in
    let later = one_way file more (subst (λ at. Lexemes file at back other) (sym same.0) rest) stop halt in
    (ap (λ lexeme. lexeme ∷ front) same.1 ∙ ap (λ lexemes. b ∷ lexemes) later.0, later.1)

-- two lists of tokens from the start of the file, up to where no token starts, are equal
one_lexing : (file : List ℕ) {first second : List Lexeme} {end other : ℕ} → IsTokenized file first end
    → IsTokenized file second other → IsStop file end → IsStop file other → (first ≡ second) × (end ≡ other)
one_lexing file {first} {second} {end} {other} a b stop halt =
    let same = one_end file (codes "Spacing") 0 a.2 b.2 in
    one_way file (subst (λ at. Lexemes file at first end) same.0 a.3) b.3 stop halt

-- ---- the law

-- two lists of tokens of a file are equal
pub one_list : (file : List ℕ) (first second : List Lexeme) → IsTokens file first → IsTokens file second → first ≡ second
one_list file first second a b = (one_lexing file a b (end_stops file) (end_stops file)).0

-- two lexing faults of a file are equal
pub one_fault : (file : List ℕ) (at other : ℕ) → IsLexingFault file at → IsLexingFault file other → at ≡ other
one_fault file at other a b = (one_lexing file a.1 b.1 a.3 b.3).1

-- a file that has tokens has no lexing fault
pub tokens_or_fault : (file : List ℕ) (lexemes : List Lexeme) (at : ℕ) → IsTokens file lexemes → IsLexingFault file at
    → ⊥
tokens_or_fault file lexemes at a b =
    let same : length file ≡ at = (one_lexing file a b.1 (end_stops file) b.3).1 in
    let before : at < length file = b.2 in
    omega arith
