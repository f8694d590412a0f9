-- What the metagrammar matches has tokens. A match of a rule from Definition to Primary is one token after the other.
-- Its trees have the nesting depth of these tokens, and their counts out of range.
use Rattle.std.proofs.Common.{◌≡◌, ◌⊎◌, inl, inr, ℕ, suc, ◌+◌, ◌-◌, ◌≤◌, max, Bool, true, false, not, ◌||◌, List, [], ◌∷◌, ◌++◌, length, drop, codes}
use Rattle.std.proofs.Common.{append_assoc, append-nil, Option, None, Some, option_map, unwrap_or, if◌then◌else◌, ◌==◌, ◌&&◌, refl, sym, ap, ◌∙◌, subst, arith, length-drop}
use Rattle.std.proofs.lemmas.List.Sums.{sum_by-append, sum_by-cons}
use Rattle.peg_bytes.specs.Extent.{Extent, between}
use Rattle.peg_tree.specs.Trees.{Trees, NoTrees, Tree, followed_by}
use Rattle.peg_semantics.specs.Form.{Form, Forms, Literal, Class, Any, Name, Seq, Choice, Optional, Star, Plus, Counted, And, Not, End, Then}
use Rattle.peg_semantics.specs.Record.{Recognition, Failed, Matched, prepend_trees}
use Rattle.peg_semantics.specs.Rules.{Meaning, meaning_of}
use Rattle.peg_semantics.proofs.Derivations.{Derives, DerivesItems, DerivesFirst, recorded, derived, one_result}
use Rattle.peg_semantics.proofs.ResultSteps.{begins_with, passes_any}
use Rattle.peg_semantics.proofs.TerminalLemmas.{record_in-ends}
use Rattle.peg_metagrammar.specs.Figure.{figure, grammar_body, definition_body, expression_body, sequence_body, prefix_body, suffix_body, primary_body, end_of_file_body}
use Rattle.peg_metagrammar.specs.FigureRules.{grammar_rule, primary_rule, count_rule, open_sign_rule}
use Rattle.peg_metagrammar.specs.FigureRules.{end_of_file_rule}
use Rattle.peg_metagrammar.specs.Nesting.{nesting, has_open}
use Rattle.peg_metagrammar.specs.Notation.{Matches, FigureMatches}
use Rattle.peg_metagrammar.specs.Denotation.{text_end, spelled, numerals_in, bounds_spelled, bounds_in_range, bad_counts}
use Rattle.peg_lexer.specs.Tokens.{rule_of_kind, Lexeme, Lexemes, IsTokens, IsLexingFault}
use Rattle.peg_lexer.specs.declared.token.TokenKind.{TokenKind}
use Rattle.peg_lexer.specs.declared.token.TokenKind.TheVariants as kind
use Rattle.peg_metagrammar.proofs.FigureNames.{grammar-meaning_of, definition-meaning_of, expression-meaning_of, sequence-meaning_of, prefix-meaning_of, suffix-meaning_of, primary-meaning_of, open_sign-meaning_of, end_of_file-meaning_of}
use Rattle.peg_lexer.proofs.Lexemes.{matches}
use Rattle.peg_lexer.proofs.OneLexing.{tokens_or_fault, one_list}
use Rattle.peg_lexer.proofs.Takes.{nesting-seq_matcher, bad_counts-seq_matcher}
use Rattle.peg_notation.specs.Reads.{one_if_open, opens, one_if_close, closes}
use Rattle.peg_notation.specs.Reader.{is_count, is_bad_count}
use Rattle.peg_notation.proofs.Readings.{has_open-followed}
use Rattle.peg_notation.proofs.ReachedRules.{bad_places}
use Rattle.peg_lexer.specs.Lexical.{matcher_of}
use Rattle.peg_lexer.specs.Matchers.{PrefixMatch}
use Rattle.peg_lexer.proofs.SpacingRules.{finds-spacing}
use Rattle.peg_lexer.proofs.Texts.{FindsToken, following_text}
use Rattle.peg_lexer.proofs.KindRules.{number_of, takes-kind}

-- ---- expressions over tokens

-- the metagrammar's rules above the tokens and below Grammar
pub data IsSyntax (name : List ℕ) : Type 0 where
  is_definition : name ≡ codes "Definition" → IsSyntax name
  is_expression : name ≡ codes "Expression" → IsSyntax name
  is_sequence : name ≡ codes "Sequence" → IsSyntax name
  is_prefix : name ≡ codes "Prefix" → IsSyntax name
  is_suffix : name ≡ codes "Suffix" → IsSyntax name
  is_primary : name ≡ codes "Primary" → IsSyntax name

-- a token that isn't a parenthesis
pub record IsToken (name : List ℕ) : Type 0 where
  pub kind : TokenKind
  pub is : name ≡ rule_of_kind kind
  pub no_open : one_if_open kind ≡ 0
  pub no_close : one_if_close kind ≡ 0

token : (k : TokenKind) → one_if_open k ≡ 0 → one_if_close k ≡ 0 → IsToken (rule_of_kind k)
token k no_open no_close = record { kind = k; is = refl; no_open = no_open; no_close = no_close }

-- an expression that matches only tokens, with parentheses only inside a Primary
abbrev mutual
  pub OfTokens : Form → Type 0
  OfTokens (Literal bytes span) = ⊥
  OfTokens (Class set span) = ⊥
  OfTokens (Any span) = ⊥
  OfTokens (Name name span) = IsToken name ⊎ IsSyntax name
  OfTokens (Seq items span) = AllOfTokens items
  OfTokens (Choice first rest span) = OfTokens first × AllOfTokens rest
  OfTokens (Optional part span) = OfTokens part
  OfTokens (Star part span) = OfTokens part
  OfTokens (Plus part span) = OfTokens part
  OfTokens (Counted part min max span) = ⊥
  OfTokens (And part span) = Unit {0}
  OfTokens (Not part span) = Unit {0}

  pub AllOfTokens : Forms → Type 0
  AllOfTokens End = Unit {0}
  AllOfTokens (Then first rest) = OfTokens first × AllOfTokens rest

definition-takes : OfTokens definition_body
unfolding definition_body
definition-takes = (inl (token kind.Ident refl refl), (inl (token kind.Arrow refl refl), (inr (IsSyntax.is_expression refl), tt)))

expression-takes : OfTokens expression_body
unfolding expression_body
expression-takes =
    (inr (IsSyntax.is_sequence refl), ((inl (token kind.Slash refl refl), (inr (IsSyntax.is_sequence refl), tt)), tt))

sequence-takes : OfTokens sequence_body
unfolding sequence_body
sequence-takes = inr (IsSyntax.is_prefix refl)

prefix-takes : OfTokens prefix_body
unfolding prefix_body
prefix-takes = ((inl (token kind.And refl refl), (inl (token kind.Not refl refl), tt)), (inr (IsSyntax.is_suffix refl), tt))

suffix-takes : OfTokens suffix_body
unfolding suffix_body
suffix-takes = (
  inr (IsSyntax.is_primary refl),
  ((inl (token kind.Question refl refl), (inl (token kind.Star refl refl), (inl (token kind.Plus refl refl), (inl (token kind.Count refl refl), tt)))), tt),
)

-- an expression in parentheses
data IsParenthesized : Form → Type 0 where
  parenthesized : {inside : Form} {first last span : Extent} → OfTokens inside → IsParenthesized
      (Seq (Then (Name (codes "OPEN") first) (Then inside (Then (Name (codes "CLOSE") last) End))) span)

-- what an alternative of Primary matches
abbrev OfPrimary : Form → Type 0
OfPrimary e = OfTokens e ⊎ IsParenthesized e

abbrev AllOfPrimary : Forms → Type 0
AllOfPrimary End = Unit {0}
AllOfPrimary (Then first rest) = OfPrimary first × AllOfPrimary rest

abbrev IsPrimaryChoice : Form → Type 0
IsPrimaryChoice (Choice first rest span) = OfPrimary first × AllOfPrimary rest
IsPrimaryChoice _ = ⊥

primary-takes : IsPrimaryChoice primary_body
unfolding primary_body
primary-takes = (
  inl (inl (token kind.Ident refl refl), (tt, tt)),
  (
    inr (IsParenthesized.parenthesized (inr (IsSyntax.is_expression refl))),
    (
      inl (inl (token kind.Literal refl refl)),
      (inl (inl (token kind.Class refl refl)), (inl (inl (token kind.Dot refl refl)), tt)),
    ),
  ),
)

-- what a rule's body matches: only that of Primary matches parentheses
abbrev TakesBody : Meaning → Type 0
TakesBody m =
    (OfTokens m.body ⊎ (IsPrimaryChoice m.body × (m.rule ≡ primary_rule))) × ((m.rule == count_rule) ≡ false)

-- a name has one meaning
meant_body : (name used : List ℕ) (m known : Meaning) → used ≡ name → meaning_of figure name ≡ Some known
    → meaning_of figure used ≡ Some m → TakesBody known → TakesBody m
meant_body name used m known is there found body_is =
    let same : Some known ≡ Some m = sym there ∙ (ap (meaning_of figure) (sym is) ∙ found) in
    let one : known ≡ m = cc in
    subst (λ (x : Meaning). TakesBody x) one body_is

body-takes : (used : List ℕ) (m : Meaning) → IsSyntax used → meaning_of figure used ≡ Some m → TakesBody m
body-takes used m (IsSyntax.is_definition is) found =
    meant_body (codes "Definition") used m _ is definition-meaning_of.1 found (inl definition-takes, refl)
body-takes used m (IsSyntax.is_expression is) found =
    meant_body (codes "Expression") used m _ is expression-meaning_of.1 found (inl expression-takes, refl)
body-takes used m (IsSyntax.is_sequence is) found =
    meant_body (codes "Sequence") used m _ is sequence-meaning_of.1 found (inl sequence-takes, refl)
body-takes used m (IsSyntax.is_prefix is) found =
    meant_body (codes "Prefix") used m _ is prefix-meaning_of.1 found (inl prefix-takes, refl)
body-takes used m (IsSyntax.is_suffix is) found =
    meant_body (codes "Suffix") used m _ is suffix-meaning_of.1 found (inl suffix-takes, refl)
body-takes used m (IsSyntax.is_primary is) found =
    meant_body (codes "Primary") used m _ is primary-meaning_of.1 found (inr (primary-takes, refl), refl)

-- ---- the nesting depth of tokens

-- the greatest number of parentheses open at once in some tokens, beyond those open at their start
abbrev pub deepest : List Lexeme → ℕ
deepest [] = 0
deepest (lexeme ∷ more) = (one_if_open lexeme.kind + deepest more) - one_if_close lexeme.kind

opens-append : (a b : List Lexeme) → opens (a ++ b) ≡ opens a + opens b
opens-append a b = sum_by-append (λ (lexeme : Lexeme). one_if_open lexeme.kind) a b

closes-append : (a b : List Lexeme) → closes (a ++ b) ≡ closes a + closes b
closes-append a b = sum_by-append (λ (lexeme : Lexeme). one_if_close lexeme.kind) a b

pub opens-cons : (lexeme : Lexeme) (more : List Lexeme) → opens (lexeme ∷ more) ≡ one_if_open lexeme.kind + opens more
opens-cons lexeme more = sum_by-cons (λ (l : Lexeme). one_if_open l.kind) lexeme more

pub closes-cons : (lexeme : Lexeme) (more : List Lexeme)
    → closes (lexeme ∷ more) ≡ one_if_close lexeme.kind + closes more
closes-cons lexeme more = sum_by-cons (λ (l : Lexeme). one_if_close l.kind) lexeme more

-- the same for tokens and those after them
deepest-append : (a b : List Lexeme)
    → deepest (a ++ b) ≤ max (deepest a) ((deepest b + opens a) - closes a)
deepest-append [] b = omega arith
deepest-append (lexeme ∷ a) b =
    omega (arith, deepest-append a b, opens-cons lexeme a, closes-cons lexeme a)

-- ---- counts out of range

bad_places-append : (file : List ℕ) (a b : List Lexeme)
    → bad_places file (a ++ b) ≡ bad_places file a ++ bad_places file b
bad_places-append file [] b = refl
bad_places-append file (lexeme ∷ a) b =
    let own : List ℕ = if is_bad_count file lexeme then lexeme.text.start ∷ [] else [] in
    ap (λ (l : List ℕ). own ++ l) (bad_places-append file a b)
    ∙ sym (append_assoc own (bad_places file a) (bad_places file b))

-- ---- tokens between two offsets

-- There are tokens between two offsets, and each of their parentheses is closed. The trees have the same nesting depth
-- and the same counts out of range.
record TokensBetween (file : List ℕ) (position end : ℕ) (trees : Trees) : Type 0 where
  pub list : List Lexeme
  pub are_lexemes : Lexemes file position list end
  pub even : opens list ≡ closes list
  pub deep : deepest list ≤ nesting trees
  pub counts : bad_counts file trees ≡ bad_places file list

-- the same for the result of an expression, if it matches
abbrev ResultHasTokens : List ℕ → (position : ℕ) → Recognition → Type 0
ResultHasTokens file position Failed = Unit {0}
ResultHasTokens file position (Matched end trees) = TokensBetween file position end trees

nothing : (file : List ℕ) (position : ℕ) → TokensBetween file position position NoTrees
nothing file position = record {
  list = [];
  are_lexemes = Lexemes.none;
  even = refl;
  deep = omega arith;
  counts = refl;
}

lexemes-append : {file : List ℕ} {a b c : ℕ} {list more : List Lexeme} → Lexemes file a list b → Lexemes file b more c
    → Lexemes file a (list ++ more) c
lexemes-append Lexemes.none next = next
lexemes-append (Lexemes.one first rest) next = Lexemes.one first (lexemes-append rest next)

both-have_tokens : {file : List ℕ} {a b c : ℕ} {one more trees : Trees} → TokensBetween file a b one → TokensBetween file b c more
    → trees ≡ followed_by one more → TokensBetween file a c trees
both-have_tokens {file} {one = one} {more = more} x y is = record {
  list = x.list ++ y.list;
  are_lexemes = lexemes-append x.are_lexemes y.are_lexemes;
  even = omega (arith, opens-append x.list y.list, closes-append x.list y.list, x.even, y.even);
  deep =
      omega (arith, deepest-append x.list y.list, x.even, x.deep, y.deep, ap nesting is, nesting-seq_matcher one more);
  counts =
      ap (bad_counts file) is ∙ (bad_counts-seq_matcher file one more
      ∙ ((λ i. x.counts i ++ y.counts i) ∙ sym (bad_places-append file x.list y.list)));
}

following-has_tokens : {file : List ℕ} {position middle : ℕ} {one : Trees} → TokensBetween file position middle one → (x : Recognition)
    → ResultHasTokens file middle x → ResultHasTokens file position (prepend_trees one x)
following-has_tokens first Failed rest = tt
following-has_tokens first (Matched end more) rest = both-have_tokens first rest refl

-- a node of a rule other than COUNT has the counts of its children
node-counts : (file : List ℕ) (number position end : ℕ) (inside : Trees) → (number == count_rule) ≡ false
    → bad_counts file (Tree number position end inside NoTrees) ≡ bad_counts file inside
node-counts file number position end inside no_count =
    ap (λ (t : Bool). (if t && not (bounds_in_range (bounds_spelled (numerals_in (spelled file position inside)))) then position ∷ []
    else []) ++ (bad_counts file inside ++ [])) no_count
    ∙ append-nil (bad_counts file inside)

-- the trees of a rule's node nest at least as deep as those inside
node-has_tokens : {file : List ℕ} {position end : ℕ} {inside tree : Trees} (number : ℕ) → (number == count_rule) ≡ false
    → TokensBetween file position end inside → tree ≡ Tree number position end inside NoTrees → TokensBetween file position end tree
node-has_tokens {file} {position} {end} {inside = inside} number no_count x is = record {
  list = x.list;
  are_lexemes = x.are_lexemes;
  even = x.even;
  deep = omega (arith, x.deep, ap nesting is, by (number == primary_rule && has_open inside));
  counts = ap (bad_counts file) is ∙ (node-counts file number position end inside no_count ∙ x.counts);
}
  where
    by : (t : Bool) → nesting inside ≤ max ((if t then 1 else 0) + nesting inside) 0
    by true = omega arith
    by false = omega arith

-- ---- one token

-- a token of this kind
abbrev pub lexeme_here : TokenKind → (position : ℕ) → Trees → Lexeme
lexeme_here k position trees = record { kind = k; text = between position (text_end position trees) }

-- a match of a name is a match wherever the name is called
elsewhere : {file : List ℕ} {used : List ℕ} {span : Extent} (other : Extent) {position : ℕ} {x : Recognition}
    → Derives figure file (Name used span) position x → Derives figure file (Name used other) position x
elsewhere other (Derives.name_matched found d t) = Derives.name_matched found d t
elsewhere other (Derives.name_failed found d) = Derives.name_failed found d

-- there is one token where its rule matches
one_token : {file : List ℕ} {span : Extent} {position end : ℕ} {trees : Trees} (k : TokenKind)
    → Derives figure file (Name (rule_of_kind k) span) position (Matched end trees)
    → Lexemes file position (lexeme_here k position trees ∷ []) end
one_token {trees = trees} k d = Lexemes.one (trees, matches (elsewhere (between 0 0) d), refl) Lexemes.none

-- COUNT alone is the rule of counts
count-number : (k : TokenKind) → (number_of k == count_rule) ≡ is_count k
count-number kind.Ident = refl
count-number kind.Literal = refl
count-number kind.Class = refl
count-number kind.Arrow = refl
count-number kind.Slash = refl
count-number kind.And = refl
count-number kind.Not = refl
count-number kind.Question = refl
count-number kind.Star = refl
count-number kind.Plus = refl
count-number kind.Count = refl
count-number kind.Open = refl
count-number kind.Close = refl
count-number kind.Dot = refl

-- the trees of a token have the count that it is, if that is out of range
pub token-counts : {file : List ℕ} {span : Extent} {position end : ℕ} {trees : Trees} (k : TokenKind)
    → Derives figure file (Name (rule_of_kind k) span) position (Matched end trees)
    → bad_counts file trees ≡ bad_places file (lexeme_here k position trees ∷ [])
token-counts {file} {span} {position} {end} {trees} k d = by (matcher_of k (drop position file)) refl
  where
    by : (text : Option PrefixMatch) → matcher_of k (drop position file) ≡ text
        → bad_counts file trees ≡ bad_places file (lexeme_here k position trees ∷ [])
    by None none = let bad : Matched end trees ≡ Failed = one_result d ((takes-kind file k).none span position none) in cc
    by (Some piece) found =
        let it : FindsToken file (number_of k) (rule_of_kind k) span position piece =
        (takes-kind file k).some span position piece found in
        let same : Matched end trees ≡ Matched (following_text file position piece.length) it.trees = one_result d it.derives in
        let one : trees ≡ it.trees = cc in
        let pieces : unwrap_or (option_map (λ (piece : PrefixMatch). piece.spells) (matcher_of k (drop position file))) [] ≡ piece.spells =
        ap (λ text. unwrap_or (option_map (λ (x : PrefixMatch). x.spells) text) []) found in
        ap (bad_counts file) one ∙ (it.counts
        ∙ ((λ i. if count-number k i && not (bounds_in_range (bounds_spelled (numerals_in (sym pieces i)))) then position ∷ []
        else []) ∙ sym (append-nil (if is_bad_count file (lexeme_here k position trees) then position ∷ [] else []))))

token-has_tokens : {file : List ℕ} {used : List ℕ} {span : Extent} {position : ℕ} (x : Recognition) → IsToken used
    → Derives figure file (Name used span) position x → ResultHasTokens file position x
token-has_tokens Failed is d = tt
token-has_tokens {file} {used} {span} {position} (Matched end trees) is d =
    let here : Derives figure file (Name (rule_of_kind is.kind) span) position (Matched end trees) =
    subst (λ n. Derives figure file (Name n span) position (Matched end trees)) is.is d in
    let lexeme : Lexeme = lexeme_here is.kind position trees in
    record {
      list = lexeme ∷ [];
      are_lexemes = one_token is.kind here;
      even = omega (arith, opens-cons lexeme [], closes-cons lexeme [], is.no_open, is.no_close);
      deep = omega (arith, is.no_open);
      counts = token-counts is.kind here;
    }

-- ---- an expression in parentheses

-- an expression, and the closing parenthesis after it
record Closing (file : List ℕ) (position end : ℕ) (trees : Trees) : Type 0 where
  pub list : List Lexeme
  pub are_lexemes : Lexemes file position list end
  pub odd : suc (opens list) ≡ closes list
  pub deep : deepest list ≤ nesting trees
  pub counts : bad_counts file trees ≡ bad_places file list

abbrev Closed : List ℕ → (position : ℕ) → Recognition → Type 0
Closed file position Failed = Unit {0}
Closed file position (Matched end trees) = Closing file position end trees

close-has_tokens : {file : List ℕ} {last : Extent} {position : ℕ} {x : Recognition}
    → DerivesItems figure file (Then (Name (codes "CLOSE") last) End) position x → Closed file position x
close-has_tokens (DerivesItems.items_failed d) = tt
close-has_tokens {file} {last} {position} (DerivesItems.items_then {middle = middle} {trees = one} d DerivesItems.items_none is) =
    let lexeme : Lexeme = lexeme_here kind.Close position one in
    subst (Closed file position) (sym is) (record {
      list = lexeme ∷ [];
      are_lexemes = one_token kind.Close d;
      odd = omega (arith, opens-cons lexeme [], closes-cons lexeme []);
      deep = omega arith;
      counts =
          bad_counts-seq_matcher file one NoTrees
          ∙ (append-nil (bad_counts file one) ∙ token-counts kind.Close d);
    })

following-is_closed : {file : List ℕ} {position middle : ℕ} {one : Trees} → TokensBetween file position middle one → (x : Recognition)
    → Closed file middle x → Closed file position (prepend_trees one x)
following-is_closed first Failed rest = tt
following-is_closed {file} {one = one} first (Matched end more) rest = record {
  list = first.list ++ rest.list;
  are_lexemes = lexemes-append first.are_lexemes rest.are_lexemes;
  odd = omega (arith, opens-append first.list rest.list, closes-append first.list rest.list, first.even, rest.odd);
  deep =
      omega (
        arith,
        deepest-append first.list rest.list,
        first.even,
        first.deep,
        rest.deep,
        nesting-seq_matcher one more,
      );
  counts =
      bad_counts-seq_matcher file one more ∙ ((λ i. first.counts i ++ rest.counts i)
      ∙ sym (bad_places-append file first.list rest.list));
}

-- the trees of an expression in parentheses, inside their Primary
record Parentheses (file : List ℕ) (position end : ℕ) (trees : Trees) : Type 0 where
  pub list : List Lexeme
  pub are_lexemes : Lexemes file position list end
  pub even : opens list ≡ closes list
  pub deep : deepest list ≤ suc (nesting trees)
  pub opening : has_open trees ≡ true
  pub counts : bad_counts file trees ≡ bad_places file list

-- the inside of a Primary
abbrev InPrimary : List ℕ → (position : ℕ) → Recognition → Type 0
InPrimary file position Failed = Unit {0}
InPrimary file position (Matched end trees) = TokensBetween file position end trees ⊎ Parentheses file position end trees

-- the tree of OPEN
open-tree : {file : List ℕ} {first : Extent} {position end : ℕ} {trees : Trees}
    → Derives figure file (Name (codes "OPEN") first) position (Matched end trees) → has_open trees ≡ true
open-tree {position = position} {end = end} (Derives.name_matched {meaning = m} {trees = inside} found d t) =
    let same : Some m ≡ Some _ = sym found ∙ open_sign-meaning_of.1 in
    let number : m.rule ≡ open_sign_rule = cc in
    ap has_open t ∙ ap (λ n. has_open (Tree n position end inside NoTrees)) number

opened-has_tokens : {file : List ℕ} {first : Extent} {position middle : ℕ} {one : Trees}
    → Derives figure file (Name (codes "OPEN") first) position (Matched middle one) → (x : Recognition)
    → Closed file middle x → InPrimary file position (prepend_trees one x)
opened-has_tokens d Failed rest = tt
opened-has_tokens {file} {first} {position} {middle} {one} d (Matched end more) rest =
    let lexeme : Lexeme = lexeme_here kind.Open position one in
    inr (record {
      list = lexeme ∷ rest.list;
      are_lexemes = lexemes-append (one_token kind.Open d) rest.are_lexemes;
      even = omega (arith, opens-cons lexeme rest.list, closes-cons lexeme rest.list, rest.odd);
      deep = omega (arith, rest.deep, nesting-seq_matcher one more);
      opening = has_open-followed one more ∙ ap (λ (t : Bool). t || has_open more) (open-tree d);
      counts =
          bad_counts-seq_matcher file one more ∙ ((λ i. token-counts kind.Open d i ++ rest.counts i)
          ∙ sym (bad_places-append file (lexeme ∷ []) rest.list));
    })

in_primary : (file : List ℕ) (position : ℕ) (x : Recognition) → ResultHasTokens file position x → InPrimary file position x
in_primary file position Failed s = tt
in_primary file position (Matched end trees) s = inl s

-- a Primary's tree
primary-has_tokens : {file : List ℕ} {position end : ℕ} {inside tree : Trees} (number : ℕ) → (number == count_rule) ≡ false
    → number ≡ primary_rule → InPrimary file position (Matched end inside) → tree ≡ Tree number position end inside NoTrees
    → TokensBetween file position end tree
primary-has_tokens number no_count primary (inl s) is = node-has_tokens number no_count s is
primary-has_tokens {file} {position} {end} {inside} number no_count primary (inr s) is =
    let test : (number == primary_rule && has_open inside) ≡ true =
    λ i. primary i == primary_rule && s.opening i in
    let one : max ((if number == primary_rule && has_open inside then 1 else 0) + nesting inside) 0
    ≡ max (1 + nesting inside) 0 = ap (λ (t : Bool). max ((if t then 1 else 0) + nesting inside) 0) test in
    record {
      list = s.list;
      are_lexemes = s.are_lexemes;
      even = s.even;
      deep = omega (arith, s.deep, ap nesting is, one);
      counts = ap (bad_counts file) is ∙ (node-counts file number position end inside no_count ∙ s.counts);
    }

-- ---- what is matched has tokens

mutual
  form-has_tokens : {file : List ℕ} {e : Form} {position : ℕ} {x : Recognition} → OfTokens e → Derives figure file e position x
      → ResultHasTokens file position x
  form-has_tokens of_tokens (Derives.literal_matched a b) = absurd of_tokens
  form-has_tokens of_tokens (Derives.literal_failed a) = absurd of_tokens
  form-has_tokens of_tokens (Derives.class_matched a b) = absurd of_tokens
  form-has_tokens of_tokens (Derives.class_failed a) = absurd of_tokens
  form-has_tokens of_tokens (Derives.any_matched a b) = absurd of_tokens
  form-has_tokens of_tokens (Derives.any_failed a) = absurd of_tokens
  form-has_tokens (inl word) (Derives.name_matched {span = span} {end = last} {tree = tree} found d t) =
      token-has_tokens {span = span} (Matched last tree) word (Derives.name_matched found d t)
  form-has_tokens (inr syntax) (Derives.name_matched {used = used} {meaning = m} found d t) =
      let body = body-takes used m syntax found in
      elim body.0 [
        | inl of_tokens ↦ node-has_tokens m.rule body.1 (form-has_tokens of_tokens d) t
        | inr primary ↦ primary-has_tokens m.rule body.1 primary.1 (alternatives-have_tokens primary.0 d) t
      ]
  form-has_tokens of_tokens (Derives.name_failed found d) = tt
  form-has_tokens of_tokens (Derives.sequence items) = items-have_tokens of_tokens items
  form-has_tokens of_tokens (Derives.choice first) = first-has_tokens of_tokens.0 of_tokens.1 first
  form-has_tokens of_tokens (Derives.optional_some d) = form-has_tokens of_tokens d
  form-has_tokens {file} {position = position} of_tokens (Derives.optional_none d) = nothing file position
  form-has_tokens {file} {position = position} of_tokens (Derives.star_none d) = nothing file position
  form-has_tokens of_tokens (Derives.star_more d rest t) = both-have_tokens (form-has_tokens of_tokens d) (form-has_tokens of_tokens rest) t
  form-has_tokens of_tokens (Derives.plus_failed d) = tt
  form-has_tokens of_tokens (Derives.plus_matched d rest t) = both-have_tokens (form-has_tokens of_tokens d) (form-has_tokens of_tokens rest) t
  form-has_tokens of_tokens (Derives.counted times) = absurd of_tokens
  form-has_tokens {file} {position = position} of_tokens (Derives.and_matched d) = nothing file position
  form-has_tokens of_tokens (Derives.and_failed d) = tt
  form-has_tokens {file} {position = position} of_tokens (Derives.not_matched d) = nothing file position
  form-has_tokens of_tokens (Derives.not_failed d) = tt

  alternatives-have_tokens : {file : List ℕ} {e : Form} {position : ℕ} {x : Recognition} → IsPrimaryChoice e
      → Derives figure file e position x → InPrimary file position x
  alternatives-have_tokens is_choice (Derives.choice first) = either-has_tokens is_choice.0 is_choice.1 first
  alternatives-have_tokens is_choice (Derives.literal_matched a b) = absurd is_choice
  alternatives-have_tokens is_choice (Derives.literal_failed a) = absurd is_choice
  alternatives-have_tokens is_choice (Derives.class_matched a b) = absurd is_choice
  alternatives-have_tokens is_choice (Derives.class_failed a) = absurd is_choice
  alternatives-have_tokens is_choice (Derives.any_matched a b) = absurd is_choice
  alternatives-have_tokens is_choice (Derives.any_failed a) = absurd is_choice
  alternatives-have_tokens is_choice (Derives.name_matched found d t) = absurd is_choice
  alternatives-have_tokens is_choice (Derives.name_failed found d) = absurd is_choice
  alternatives-have_tokens is_choice (Derives.sequence items) = absurd is_choice
  alternatives-have_tokens is_choice (Derives.optional_some d) = absurd is_choice
  alternatives-have_tokens is_choice (Derives.optional_none d) = absurd is_choice
  alternatives-have_tokens is_choice (Derives.star_none d) = absurd is_choice
  alternatives-have_tokens is_choice (Derives.star_more d rest t) = absurd is_choice
  alternatives-have_tokens is_choice (Derives.plus_failed d) = absurd is_choice
  alternatives-have_tokens is_choice (Derives.plus_matched d rest t) = absurd is_choice
  alternatives-have_tokens is_choice (Derives.counted times) = absurd is_choice
  alternatives-have_tokens is_choice (Derives.and_matched d) = absurd is_choice
  alternatives-have_tokens is_choice (Derives.and_failed d) = absurd is_choice
  alternatives-have_tokens is_choice (Derives.not_matched d) = absurd is_choice
  alternatives-have_tokens is_choice (Derives.not_failed d) = absurd is_choice

  either-has_tokens : {file : List ℕ} {first : Form} {rest : Forms} {position : ℕ} {x : Recognition} → OfPrimary first
      → AllOfPrimary rest → DerivesFirst figure file first rest position x → InPrimary file position x
  either-has_tokens {file} {position = position} {x = x} (inl of_tokens) more (DerivesFirst.alternative_last d) =
      in_primary file position x (form-has_tokens of_tokens d)
  either-has_tokens (inr (IsParenthesized.parenthesized of_tokens)) more
      (DerivesFirst.alternative_last (Derives.sequence items)) = parentheses-have_tokens of_tokens items
  either-has_tokens {file} {position = position} (inl of_tokens) more
      (DerivesFirst.alternative_matched {end = end} {trees = trees} d) = in_primary file position (Matched end trees) (form-has_tokens of_tokens d)
  either-has_tokens (inr (IsParenthesized.parenthesized of_tokens)) more
      (DerivesFirst.alternative_matched (Derives.sequence items)) = parentheses-have_tokens of_tokens items
  either-has_tokens of_tokens more (DerivesFirst.alternative_failed d rest) = either-has_tokens more.0 more.1 rest

  parentheses-have_tokens : {file : List ℕ} {inside : Form} {first last : Extent} {position : ℕ} {x : Recognition}
      → OfTokens inside → DerivesItems figure file
      (Then (Name (codes "OPEN") first) (Then inside (Then (Name (codes "CLOSE") last) End))) position x
      → InPrimary file position x
  parentheses-have_tokens of_tokens (DerivesItems.items_failed d) = tt
  parentheses-have_tokens {file} {position = position} of_tokens (DerivesItems.items_then {more = more} d rest is) =
      subst (InPrimary file position) (sym is) (opened-has_tokens d more (closing-has_tokens of_tokens rest))

  closing-has_tokens : {file : List ℕ} {inside : Form} {last : Extent} {position : ℕ} {x : Recognition} → OfTokens inside
      → DerivesItems figure file (Then inside (Then (Name (codes "CLOSE") last) End)) position x → Closed file position x
  closing-has_tokens of_tokens (DerivesItems.items_failed d) = tt
  closing-has_tokens {file} {position = position} of_tokens (DerivesItems.items_then {more = more} d rest is) =
      subst (Closed file position) (sym is) (following-is_closed (form-has_tokens of_tokens d) more (close-has_tokens rest))

  items-have_tokens : {file : List ℕ} {items : Forms} {position : ℕ} {x : Recognition} → AllOfTokens items
      → DerivesItems figure file items position x → ResultHasTokens file position x
  items-have_tokens {file} {position = position} of_tokens DerivesItems.items_none = nothing file position
  items-have_tokens of_tokens (DerivesItems.items_failed d) = tt
  items-have_tokens {file} {position = position} of_tokens (DerivesItems.items_then {more = more} d rest is) =
      subst (ResultHasTokens file position) (sym is) (following-has_tokens (form-has_tokens of_tokens.0 d) more (items-have_tokens of_tokens.1 rest))

  first-has_tokens : {file : List ℕ} {first : Form} {rest : Forms} {position : ℕ} {x : Recognition} → OfTokens first
      → AllOfTokens rest → DerivesFirst figure file first rest position x → ResultHasTokens file position x
  first-has_tokens of_tokens more (DerivesFirst.alternative_last d) = form-has_tokens of_tokens d
  first-has_tokens of_tokens more (DerivesFirst.alternative_matched d) = form-has_tokens of_tokens d
  first-has_tokens of_tokens more (DerivesFirst.alternative_failed d rest) = first-has_tokens more.0 more.1 rest

-- ---- whole files

-- a match has one end
ends_at : {a b : ℕ} {t u : Trees} → Matched a t ≡ Matched b u → a ≡ b
ends_at e = cc

-- trees in front of a match are part of a match that ends at the same offset
following_matched : (one : Trees) (more : Recognition) (end : ℕ) (trees : Trees) → prepend_trees one more ≡ Matched end trees
    → (rest : Trees) × (more ≡ Matched end rest) × (trees ≡ followed_by one rest)
following_matched one Failed end trees is = cc
following_matched one (Matched last rest) end trees is = (rest, ap (λ n. Matched n rest) (ends_at is), cc)

-- a first item, and those after it
record FirstItem (file : List ℕ) (first : Form) (others : Forms) (position end : ℕ) (trees : Trees) : Type 0 where
  pub middle : ℕ
  pub one : Trees
  pub more : Trees
  pub item : Derives figure file first position (Matched middle one)
  pub rest : DerivesItems figure file others middle (Matched end more)
  pub is : trees ≡ followed_by one more

first_item : {file : List ℕ} {item : Form} {rest : Forms} {position : ℕ} {x : Recognition}
    → DerivesItems figure file (Then item rest) position x → (end : ℕ) (trees : Trees) → x ≡ Matched end trees
    → FirstItem file item rest position end trees
first_item (DerivesItems.items_failed d) end trees is = cc
first_item {file} {item} {rest} {position} (DerivesItems.items_then {middle = middle} {trees = one} {more = more} d others same) end trees is =
    let last = following_matched one more end trees (sym same ∙ is) in
    record {
      middle = middle;
      one = one;
      more = last.0;
      item = d;
      rest = subst (λ (y : Recognition). DerivesItems figure file rest middle y) last.1 others;
      is = last.2;
    }

named_tree : {position a b : ℕ} {tree trees inside : Trees} {m : Meaning} {number terminal : ℕ} {body : Form}
    → Matched a tree ≡ Matched b trees → tree ≡ Tree m.rule position a inside NoTrees
    → m ≡ record { rule = number; terminal = terminal; body = body } → trees ≡ Tree number position b inside NoTrees
named_tree {position = position} {a = a} {inside = inside} {number = number} is t one =
    let trees_are = same_trees is in
    sym trees_are ∙ (t ∙ (ap (λ (m : Meaning). Tree m.rule position a inside NoTrees) one
    ∙ ap (λ n. Tree number position n inside NoTrees) (ends_at is)))
  where
    same_trees : {a b : ℕ} {t u : Trees} → Matched a t ≡ Matched b u → t ≡ u
    same_trees e = cc

-- a match of a name is a match of its body
named : {file : List ℕ} {used : List ℕ} {span : Extent} {position : ℕ} {x : Recognition} → Derives figure file (Name used span) position x
    → (end : ℕ) (trees : Trees) → x ≡ Matched end trees → (rule terminal : ℕ) (body : Form)
    → meaning_of figure used ≡ Some (record { rule = rule; terminal = terminal; body = body })
    → (inside : Trees) × Derives figure file body position (Matched end inside)
    × (trees ≡ Tree rule position end inside NoTrees)
named {file} {position = position} (Derives.name_matched {meaning = m} {end = last} {trees = inside} found d t) end trees is rule terminal body known =
    let same : Some m ≡ Some (record { rule = rule; terminal = terminal; body = body }) = sym found ∙ known in
    let one : m ≡ record { rule = rule; terminal = terminal; body = body } = cc in (
      inside,
      subst (λ n. Derives figure file body position (Matched n inside)) (ends_at is)
          (subst (λ (y : Meaning). Derives figure file y.body position (Matched last inside)) one d),
      named_tree is t one,
    )
named (Derives.name_failed found d) end trees is rule terminal body known = cc

items_of : {file : List ℕ} {items : Forms} {span : Extent} {position : ℕ} {x : Recognition}
    → Derives figure file (Seq items span) position x → DerivesItems figure file items position x
items_of (Derives.sequence items) = items

-- a match ends within the file
ends_within : {file : List ℕ} {e : Form} {position end : ℕ} {trees : Trees} → Derives figure file e position (Matched end trees)
    → position ≤ length file → end ≤ length file
ends_within {file} {e} {position} {end} {trees} d within =
    let known = recorded d 0 in
    record_in-ends figure file known.depth e 0 position end trees known.found within known.is known.result_is

none_left : (rest : List ℕ) → begins_with passes_any rest ≡ false → length rest ≡ 0
none_left [] none = refl
none_left (byte ∷ rest) none = cc

not_any : {file : List ℕ} {span : Extent} {position : ℕ} {x : Recognition} → Derives figure file (Any span) position x → x ≡ Failed
    → length file ≤ position
not_any (Derives.any_matched a b) is = cc
not_any {file} {position = position} (Derives.any_failed none) is =
    let size : length (drop position file) ≡ 0 = none_left (drop position file) none in omega (arith, size, length-drop position file)

-- where no byte is next, the file ends
no_byte : {file : List ℕ} {inner span : Extent} {position : ℕ} {x : Recognition} → Derives figure file (Not (Any inner) span) position x
    → (end : ℕ) (trees : Trees) → x ≡ Matched end trees → length file ≤ position
no_byte (Derives.not_matched d) end trees is = not_any d refl
no_byte (Derives.not_failed d) end trees is = cc

-- each match has a derivation
pub derives : {file name : List ℕ} {p end : ℕ} {trees : Trees} → Matches file name p end trees
    → Derives figure file (Name name (between 0 0)) p (Matched end trees)
derives {file} {name} {p} m =
    subst (λ (x : Recognition). Derives figure file (Name name (between 0 0)) p x) m.2
    (derived figure file m.1.0 (Name name (between 0 0)) 0 p m.0 m.1.1)

-- the tokens of a file that the metagrammar matches, and its trees, with the same nesting depth and counts out of range
pub record MatchedFile (file : List ℕ) (trees : Trees) : Type 0 where
  pub lexemes : List Lexeme
  pub tokens : IsTokens file lexemes
  pub deep : deepest lexemes ≤ nesting trees
  pub counts : bad_counts file trees ≡ bad_places file lexemes

-- spacing has no count
spacing-fine : {file : List ℕ} {span : Extent} {position end : ℕ} {trees : Trees}
    → Derives figure file (Name (codes "Spacing") span) position (Matched end trees) → bad_counts file trees ≡ []
spacing-fine {file} {span} {position} {end} {trees} d =
    let gap = finds-spacing file span position in
    let same : Matched end trees ≡ Matched _ gap.trees = one_result d gap.derives in
    let one : trees ≡ gap.trees = cc in
    ap (bad_counts file) one ∙ gap.fine

-- no items give no tree
no_items : {file : List ℕ} {position end : ℕ} {trees : Trees} → DerivesItems figure file End position (Matched end trees)
    → trees ≡ NoTrees
no_items DerivesItems.items_none = refl

-- a predicate gives no tree
not_leaves : {file : List ℕ} {part : Form} {span : Extent} {position end : ℕ} {trees : Trees}
    → Derives figure file (Not part span) position (Matched end trees) → trees ≡ NoTrees
not_leaves (Derives.not_matched d) = refl

-- a file that the metagrammar matches has tokens
pub has_tokens : (file : List ℕ) (end : ℕ) (trees : Trees) → Matches file (codes "Grammar") 0 end trees
    → MatchedFile file trees
unfolding grammar_body end_of_file_body
has_tokens file end trees m =
    let whole = named (derives m) end trees refl _ _ grammar_body grammar-meaning_of.1 in
    let gap = first_item (items_of whole.1) end whole.0 refl in
    let rules = first_item gap.rest end gap.more refl in
    let last = first_item rules.rest end rules.more refl in
    let inside = named last.item last.middle last.one refl _ _ end_of_file_body end_of_file-meaning_of.1 in
    let past : length file ≤ rules.middle = no_byte inside.1 last.middle inside.0 refl in
    let start : gap.middle ≤ length file = ends_within gap.item (omega arith) in
    let within : rules.middle ≤ length file = ends_within rules.item start in
    let tokens : TokensBetween file gap.middle rules.middle rules.one =
    form-has_tokens (inr (IsSyntax.is_definition refl)) rules.item in
    let last_end : rules.middle ≡ length file = omega (arith, past, within) in
    record {
      lexemes = tokens.list;
      tokens = (
        gap.middle,
        gap.one,
        matches (elsewhere (between 0 0) gap.item),
        subst (Lexemes file gap.middle tokens.list) last_end tokens.are_lexemes,
      );
      deep =
          omega (
            arith,
            tokens.deep,
            ap nesting whole.2,
            ap nesting gap.is,
            nesting-seq_matcher gap.one gap.more,
            ap nesting rules.is,
            nesting-seq_matcher rules.one rules.more,
          );
      counts =
          ap (bad_counts file) whole.2
          ∙ (node-counts file grammar_rule 0 end whole.0 refl
          ∙ (ap (bad_counts file) gap.is
          ∙ (bad_counts-seq_matcher file gap.one gap.more
          ∙ (ap (λ (l : List ℕ). l ++ bad_counts file gap.more) (spacing-fine gap.item)
          ∙ (ap (bad_counts file) rules.is
          ∙ (bad_counts-seq_matcher file rules.one rules.more
          ∙ (ap (λ (l : List ℕ). bad_counts file rules.one ++ l) (ap (bad_counts file) last.is ∙ (ap (λ (t : Trees). bad_counts file (followed_by last.one t)) (no_items last.rest)
          ∙ (ap (λ (t : Trees). bad_counts file (followed_by t NoTrees)) inside.2
          ∙ ap (λ (t : Trees). bad_counts file (followed_by (Tree end_of_file_rule rules.middle last.middle t NoTrees) NoTrees)) (not_leaves inside.1))))
          ∙ (append-nil (bad_counts file rules.one) ∙ tokens.counts))))))));
    }

-- the metagrammar doesn't match a file with a lexing fault
pub fault_not_matched : (file : List ℕ) (at : ℕ) → IsLexingFault file at → ¬ FigureMatches file
fault_not_matched file at fault m =
    let it = has_tokens file m.0 m.1 m.2 in tokens_or_fault file it.lexemes at it.tokens fault

-- the counts out of range of a file's trees are those of its tokens
pub counts-tokens : (file : List ℕ) (lexemes : List Lexeme) → IsTokens file lexemes → (end : ℕ) (trees : Trees)
    → Matches file (codes "Grammar") 0 end trees → bad_counts file trees ≡ bad_places file lexemes
counts-tokens file lexemes tokens end trees m =
    let it = has_tokens file end trees m in
    it.counts ∙ ap (bad_places file) (one_list file it.lexemes lexemes it.tokens tokens)

-- the trees of a file have the nesting depth of its tokens
pub nests-tokens : (file : List ℕ) (lexemes : List Lexeme) → IsTokens file lexemes → (end : ℕ) (trees : Trees)
    → Matches file (codes "Grammar") 0 end trees → deepest lexemes ≤ nesting trees
nests-tokens file lexemes tokens end trees m =
    let it = has_tokens file end trees m in
    subst (λ list. deepest list ≤ nesting trees) (one_list file it.lexemes lexemes it.tokens tokens) it.deep

pub ruleset checked = (fault_not_matched)
