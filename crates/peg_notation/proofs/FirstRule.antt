-- A file of the notation has a rule, since the metagrammar's Grammar has a Definition.
use Rattle.std.proofs.Common.{◌≡◌, ◌≢◌, ℕ, List, [], ◌∷◌, ◌++◌, drop, codes, Option, None, Some, refl, sym, ap, ◌∙◌}
use Rattle.std.proofs.Common.{append-nil, subst}
use Rattle.peg_bytes.specs.Extent.{Extent, between}
use Rattle.peg_tree.specs.Trees.{Trees, NoTrees, Tree, followed_by}
use Rattle.peg_semantics.specs.Form.{Form, Forms, Name, Seq, Plus, End, Then}
use Rattle.peg_semantics.specs.Record.{Recognition, Failed, Matched, prepend_trees}
use Rattle.peg_semantics.specs.Rules.{Rule, Meaning, meaning_of}
use Rattle.peg_semantics.proofs.Derivations.{Derives, DerivesItems, derived, one_result}
use Rattle.peg_metagrammar.specs.Figure.{figure, grammar_body, definition_body, on_line}
use Rattle.peg_metagrammar.specs.FigureRules.{grammar_rule, definition_rule, leftarrow_rule}
use Rattle.peg_lexer.specs.Lexical.{matcher_of}
use Rattle.peg_lexer.specs.Matchers.{PrefixMatch}
use Rattle.peg_metagrammar.specs.Notation.{IsReading}
use Rattle.peg_metagrammar.specs.Denotation.{Denotation, Byte, Bytes, Numeral, Word, Sign, Expression, Definition}
use Rattle.peg_metagrammar.specs.Denotation.{text_end, part, spelled, choice_spelled, definition_spelled, expressions_in}
use Rattle.peg_metagrammar.specs.Denotation.{rules_denoted, rules_spelled}
use Rattle.peg_lexer.specs.declared.token.TokenKind.TheVariants as kind
use Rattle.peg_metagrammar.proofs.FigureNames.{grammar-meaning_of, definition-meaning_of, identifier-meaning_of, expression-meaning_of}
use Rattle.peg_lexer.proofs.PieceSizes.{blank-literal_bytes}
use Rattle.peg_notation.proofs.Streams.{here}
use Rattle.peg_lexer.proofs.KindRules.{takes-kind}
use Rattle.peg_lexer.proofs.Takes.{spelled-seq_matcher}
use Rattle.peg_lexer.proofs.Texts.{FindsToken}

-- ---- the parts of a derivation

-- a match of a name is one tree of its rule, over a match of the rule's expression
record InName (file : List ℕ) (m : Meaning) (p end : ℕ) (trees : Trees) : Type 0 where
  inner : Trees
  derives : Derives figure file m.body p (Matched end inner)
  is : trees ≡ Tree m.rule p end inner NoTrees

in_name : {file used : List ℕ} {span : Extent} {p end : ℕ} {trees : Trees} (m : Meaning) → meaning_of figure used ≡ Some m
    → Derives figure file (Name used span) p (Matched end trees) → InName file m p end trees
in_name {file} {used} {span} {p} {end} m known (Derives.name_matched {meaning = other} {trees = inner} same d is) =
    let it : other ≡ m = let both : Some other ≡ Some m = sym same ∙ known in cc in
    record {
      inner = inner;
      derives = subst (λ (x : Meaning). Derives figure file x.body p (Matched end inner)) it d;
      is = is ∙ ap (λ (x : Meaning). Tree x.rule p end inner NoTrees) it;
    }

-- a match of items is a match of the first and a match of the rest after it
record InItems (file : List ℕ) (item : Form) (rest : Forms) (p end : ℕ) (trees : Trees) : Type 0 where
  middle : ℕ
  first : Trees
  more : Trees
  here_is : Derives figure file item p (Matched middle first)
  there_is : DerivesItems figure file rest middle (Matched end more)
  is : trees ≡ followed_by first more

in_items : {file : List ℕ} {item : Form} {rest : Forms} {p end : ℕ} {trees : Trees}
    → DerivesItems figure file (Then item rest) p (Matched end trees) → InItems file item rest p end trees
in_items {file} {item} {rest} {p} {end} {trees}
    (DerivesItems.items_then {middle = middle} {trees = first} {more = result} d others is) = by result others is
  where
    by : (x : Recognition) → DerivesItems figure file rest middle x → Matched end trees ≡ prepend_trees first x
        → InItems file item rest p end trees
    by Failed others is = cc
    by (Matched last more) others is =
        let ends : last ≡ end = cc in
        record {
          middle = middle;
          first = first;
          more = more;
          here_is = d;
          there_is = subst (λ n. DerivesItems figure file rest middle (Matched n more)) ends others;
          is = cc;
        }

in_sequence : {file : List ℕ} {items : Forms} {span : Extent} {p end : ℕ} {trees : Trees}
    → Derives figure file (Seq items span) p (Matched end trees) → DerivesItems figure file items p (Matched end trees)
in_sequence (Derives.sequence items) = items

-- ---- a definition

-- an arrow denotes nothing
arrow-blank : (file : List ℕ) (span : Extent) (p end : ℕ) (trees : Trees)
    → Derives figure file (Name (codes "LEFTARROW") span) p (Matched end trees) → (before : ℕ)
    → spelled file before trees ≡ []
arrow-blank file span p end trees d before = by (matcher_of kind.Arrow (drop p file)) refl
  where
    by : (text : Option PrefixMatch) → matcher_of kind.Arrow (drop p file) ≡ text → spelled file before trees ≡ []
    by None none =
        let bad : Matched end trees ≡ Failed = one_result d ((takes-kind file kind.Arrow).none span p none) in cc
    by (Some piece) found =
        let it : FindsToken file leftarrow_rule (codes "LEFTARROW") span p piece = here kind.Arrow piece span found in
        let both = one_result d it.derives in
        let same : trees ≡ it.trees = cc in
        ap (spelled file before) same ∙ (it.spells before ∙ (blank-literal_bytes (codes "<-")).blank (drop p file) piece found)

-- no items give no tree
in_nothing : {file : List ℕ} {p end : ℕ} {trees : Trees} → DerivesItems figure file End p (Matched end trees)
    → trees ≡ NoTrees
in_nothing DerivesItems.items_none = refl

-- the tree of a definition denotes one
definition-spells : (file : List ℕ) (span : Extent) (p end : ℕ) (trees : Trees)
    → Derives figure file (Name (codes "Definition") span) p (Matched end trees) → (before : ℕ)
    → (r : Rule) × (spelled file before trees ≡ Definition r ∷ [])
unfolding definition_body
definition-spells file span p end trees d before =
    let node = in_name _ definition-meaning_of.1 d in
    let a = in_items (in_sequence node.derives) in
    let b = in_items a.there_is in
    let c = in_items b.there_is in
    let name = in_name _ identifier-meaning_of.1 a.here_is in
    let body = in_name _ expression-meaning_of.1 c.here_is in
    let following_name = text_end before a.first in
    let following_arrow = text_end following_name b.first in
    let last = text_end before name.inner in
    let form = choice_spelled (between b.middle (text_end following_arrow body.inner))
    (expressions_in (spelled file following_arrow body.inner)) in
    let names : spelled file before a.first ≡ Word (part file p last) (between p last) ∷ [] =
    ap (spelled file before) name.is in
    let arrows : spelled file following_name b.first ≡ [] =
    arrow-blank file (on_line definition_rule 25 34) a.middle b.middle b.first b.here_is following_name in
    let bodies : spelled file following_arrow c.first ≡ Expression form ∷ [] = ap (spelled file following_arrow) body.is in
    let nothing : spelled file (text_end following_arrow c.first) c.more ≡ [] =
    ap (spelled file (text_end following_arrow c.first)) (in_nothing c.there_is) in
    let from_body : spelled file following_arrow b.more ≡ Expression form ∷ [] =
    ap (spelled file following_arrow) c.is
    ∙ (spelled-seq_matcher file following_arrow c.first c.more ∙ (λ i. bodies i ++ nothing i)) in
    let from_arrow : spelled file following_name a.more ≡ Expression form ∷ [] =
    ap (spelled file following_name) b.is
    ∙ (spelled-seq_matcher file following_name b.first b.more ∙ (λ i. arrows i ++ from_body i)) in
    let inside : spelled file before node.inner ≡ Word (part file p last) (between p last) ∷ Expression form ∷ [] =
    ap (spelled file before) a.is
    ∙ (spelled-seq_matcher file before a.first a.more ∙ (λ i. names i ++ from_arrow i)) in (
      record {
        name = part file p last;
        span = between p last;
        body = form;
      },
      ap (spelled file before) node.is
          ∙ (append-nil (definition_spelled (spelled file before node.inner)) ∙ ap definition_spelled inside),
    )

-- ---- a file

-- one or more are one and those after it
record InPlus (file : List ℕ) (part : Form) (p : ℕ) (trees : Trees) : Type 0 where
  middle : ℕ
  first : Trees
  more : Trees
  here_is : Derives figure file part p (Matched middle first)
  is : trees ≡ followed_by first more

in_plus : {file : List ℕ} {part : Form} {span : Extent} {p end : ℕ} {trees : Trees}
    → Derives figure file (Plus part span) p (Matched end trees) → InPlus file part p trees
in_plus (Derives.plus_matched {middle = middle} {first = first} {more = more} d others is) =
    record { middle = middle; first = first; more = more; here_is = d; is = is }

-- if a definition is among the pieces, a rule is
rules_denoted-some : (pieces : List Denotation) (r : Rule) (others : List Denotation)
    → rules_denoted (pieces ++ Definition r ∷ others) ≢ []
rules_denoted-some [] r others none = cc
rules_denoted-some (Definition first ∷ pieces) r others none = cc
rules_denoted-some (Byte byte ∷ pieces) r others none = rules_denoted-some pieces r others none
rules_denoted-some (Bytes bytes ∷ pieces) r others none = rules_denoted-some pieces r others none
rules_denoted-some (Numeral value ∷ pieces) r others none = rules_denoted-some pieces r others none
rules_denoted-some (Word name span ∷ pieces) r others none = rules_denoted-some pieces r others none
rules_denoted-some (Sign sign ∷ pieces) r others none = rules_denoted-some pieces r others none
rules_denoted-some (Expression form ∷ pieces) r others none = rules_denoted-some pieces r others none

-- the reading of a file has a rule
pub IsReading-some : (file : List ℕ) (rules : List Rule) → IsReading file rules → rules ≢ []
unfolding grammar_body
IsReading-some file rules reading none =
    let matched = reading.2 in
    let d = subst (λ (x : Recognition). Derives figure file (Name (codes "Grammar") (between 0 0)) 0 x) matched.2
    (derived figure file matched.1.0 (Name (codes "Grammar") (between 0 0)) 0 0 matched.0 matched.1.1) in
    let node = in_name _ grammar-meaning_of.1 d in
    let gap = in_items (in_sequence node.derives) in
    let rest = in_items gap.there_is in
    let plus = in_plus rest.here_is in
    let following_gap = text_end 0 gap.first in
    let one = definition-spells file (on_line grammar_rule 19 29) gap.middle plus.middle plus.first plus.here_is following_gap in
    let others = spelled file (text_end following_gap plus.first) plus.more in
    let last = spelled file (text_end following_gap rest.first) rest.more in
    let definitions : spelled file following_gap rest.first ≡ Definition one.0 ∷ others =
    ap (spelled file following_gap) plus.is
    ∙ (spelled-seq_matcher file following_gap plus.first plus.more ∙ (λ i. one.1 i ++ others)) in
    let prepend_trees : spelled file following_gap gap.more ≡ Definition one.0 ∷ (others ++ last) =
    ap (spelled file following_gap) rest.is
    ∙ (spelled-seq_matcher file following_gap rest.first rest.more ∙ (λ i. definitions i ++ last)) in
    let all : spelled file 0 node.inner ≡ spelled file 0 gap.first ++ Definition one.0 ∷ (others ++ last) =
    ap (spelled file 0) gap.is
    ∙ (spelled-seq_matcher file 0 gap.first gap.more ∙ (λ i. spelled file 0 gap.first ++ prepend_trees i)) in
    let whole : rules_spelled file reading.1
    ≡ rules_denoted (spelled file 0 gap.first ++ Definition one.0 ∷ (others ++ last)) =
    ap (rules_spelled file) node.is ∙ ap rules_denoted (append-nil (spelled file 0 node.inner) ∙ all) in
    rules_denoted-some (spelled file 0 gap.first) one.0 (others ++ last) (sym whole ∙ (sym reading.4 ∙ none))
