-- The metagrammar nodes from Identifier to DOT: each is the text of a token and the spacing after it.
use Rattle.std.proofs.Common.{◌≡◌, ℕ, ◌+◌, ◌≤◌, Bool, false, List, [], drop, length, codes}
use Rattle.std.proofs.Common.{Option, None, Some, ◌==◌, if◌then◌else◌, inl, inr, refl, sym, ap, ◌∙◌, subst, arith}
use Rattle.std.proofs.lemmas.Bool.Decides.{leb_tells}
use Rattle.std.proofs.lemmas.List.{drop_all}
use Rattle.peg_bytes.specs.Extent.{Extent, between}
use Rattle.peg_tree.specs.Trees.{Trees, NoTrees, Tree, followed_by}
use Rattle.peg_semantics.specs.Form.{Form, Forms, Name, Seq, End, Then}
use Rattle.peg_semantics.specs.Record.{Failed, Matched}
use Rattle.peg_semantics.proofs.Derivations.{Derives, DerivesItems, one_result}
use Rattle.peg_metagrammar.specs.Figure.{figure, identifier_body, literal_body, class_body, count_body}
use Rattle.peg_metagrammar.specs.FigureRules.{spacing_rule}
use Rattle.peg_metagrammar.specs.Nesting.{nesting, has_open}
use Rattle.peg_metagrammar.specs.Notation.{Matches}
use Rattle.peg_metagrammar.specs.Denotation.{text_end, node_spelled, spelled, bad_count, bad_counts}
use Rattle.peg_metagrammar.proofs.FigureNames.{identifier-meaning_of, literal-meaning_of, class-meaning_of, leftarrow-meaning_of, slash-meaning_of, and_sign-meaning_of, not_sign-meaning_of, question-meaning_of, star-meaning_of, plus-meaning_of, count-meaning_of, open_sign-meaning_of, close-meaning_of, dot-meaning_of, spacing-meaning_of}
use Rattle.peg_lexer.specs.Lexical.{matcher_of, identifier, literal, quoted, class, count}
use Rattle.peg_lexer.specs.Matchers.{PrefixMatch}
use Rattle.peg_lexer.specs.Tokens.{rule_of_kind}
use Rattle.peg_lexer.specs.declared.token.TokenKind.{TokenKind}
use Rattle.peg_lexer.specs.declared.token.TokenKind.TheVariants.{Ident, Literal, Class, Arrow, Slash, And, Not, Question, Star, Plus, Count, Open, Close, Dot}
use Rattle.peg_lexer.proofs.Takes.{text_end-seq_matcher}
use Rattle.peg_lexer.proofs.Texts.{TakesToken, FindsToken, following_text}
use Rattle.peg_lexer.proofs.KindRules.{number_of, takes-kind, nothing_left}
use Rattle.peg_bootstrap.specs.FigureNodes.{last_start}
use Rattle.peg_bootstrap.proofs.Inversions.{derives, Node, node_of, node_matched, first_of, items_of, none_of, first_matched, either_of, only_of}
use Rattle.peg_bootstrap.proofs.Shapes.{followed-none}

-- ---- the spacing that ends a token

-- the last of the trees starts where their text ends
abbrev pub Spaced : Trees → Type 0
Spaced trees = (position before : ℕ) → last_start position trees ≡ text_end before trees

last_start-followed : (position : ℕ) (a b : Trees) → last_start position (followed_by a b) ≡ last_start (last_start position a) b
last_start-followed position NoTrees b = refl
last_start-followed position (Tree r start end children rest) b = last_start-followed start rest b

spaced_following : (one more : Trees) → Spaced more → Spaced (followed_by one more)
spaced_following one more spaced position before =
    last_start-followed position one more ∙ (spaced (last_start position one) (text_end before one) ∙ sym (text_end-seq_matcher before one more))

-- the last of the items is spacing
abbrev EndsSpaced : Forms → Type 0
EndsSpaced End = ⊥
EndsSpaced (Then item End) = (span : Extent) × (item ≡ Name (codes "Spacing") span)
EndsSpaced (Then item (Then next rest)) = EndsSpaced (Then next rest)

spaced_items : {file : List ℕ} (items : Forms) {position : ℕ} → EndsSpaced items → (end : ℕ) (trees : Trees)
    → DerivesItems figure file items position (Matched end trees) → Spaced trees
spaced_items End last end trees d = absurd last
spaced_items {file} (Then item End) {position} last end trees d =
    let first = first_of d end trees refl in
    let none = none_of first.rest end first.more refl in
    let node : Node file (codes "Spacing") spacing_rule _ position first.middle first.one =
    node_of spacing-meaning_of.1 (subst (λ (e : Form). Derives figure file e position (Matched first.middle first.one)) last.1 first.item)
    first.middle first.one refl in
    subst Spaced (sym (first.is ∙ (ap (followed_by first.one) none.1 ∙ (followed-none first.one ∙ node.is)))) (λ p before. refl)
spaced_items {file} (Then item (Then next rest)) last end trees d =
    let first = first_of d end trees refl in
    subst Spaced (sym first.is)
    (spaced_following first.one first.more (spaced_items (Then next rest) last end first.more first.rest))

spaced_seq : {file : List ℕ} {items : Forms} {span : Extent} {position : ℕ} → EndsSpaced items → (end : ℕ) (trees : Trees)
    → Derives figure file (Seq items span) position (Matched end trees) → Spaced trees
spaced_seq {items = items} last end trees d = spaced_items items last end trees (items_of d)

-- a token's node: its last child is spacing, which starts where its text ends
pub record SpacedNode (wanted rule position end : ℕ) (children : Trees) : Type 0 where
  pub number : rule ≡ wanted
  pub below : Spaced children
  pub text : (before : ℕ) → text_end before (Tree rule position end children NoTrees) ≡ text_end before children

spaced_from : {file used : List ℕ} {number position end r : ℕ} {body : Form} {children : Trees} → (number == spacing_rule) ≡ false
    → (node : Node file used number body position end (Tree r position end children NoTrees)) → Spaced node.children
    → SpacedNode number r position end children
spaced_from {number = number} {position} {end} {r} {children = children} apart node last =
    let number_is : r ≡ number = let e = node.is in cc in
    let same : node.children ≡ children = let e = node.is in cc in
    record {
      number = number_is;
      below = subst Spaced same last;
      text = λ before. subst (λ n. text_end before (Tree n position end children NoTrees) ≡ text_end before children) (sym number_is)
          (ap (λ (t : Bool). if t then position else text_end before children) apart);
    }

spaced_node : {file used : List ℕ} {number position end : ℕ} {items : Forms} {span : Extent} {r : ℕ} {children : Trees}
    → (number == spacing_rule) ≡ false → EndsSpaced items
    → Node file used number (Seq items span) position end (Tree r position end children NoTrees) → SpacedNode number r position end children
spaced_node {end = end} apart last node = spaced_from apart node (spaced_seq last end node.children node.inside)

pub spaced : (file : List ℕ) (kind : TokenKind) (number position end : ℕ) (children : Trees)
    → Matches file (rule_of_kind kind) position end (Tree number position end children NoTrees)
    → SpacedNode (number_of kind) number position end children
unfolding identifier_body literal_body class_body count_body
spaced file Ident number position end children m = spaced_node refl (_, refl) (node_matched identifier-meaning_of.1 m)
spaced file Literal number position end children m =
    let node = node_matched literal-meaning_of.1 m in
    spaced_from refl node (elim (either_of (first_matched node.inside) end node.children refl) [
      | inl one ↦ spaced_seq (_, refl) end node.children one
      | inr other ↦ spaced_seq (_, refl) end node.children (only_of other)
    ])
spaced file Class number position end children m = spaced_node refl (_, refl) (node_matched class-meaning_of.1 m)
spaced file Arrow number position end children m = spaced_node refl (_, refl) (node_matched leftarrow-meaning_of.1 m)
spaced file Slash number position end children m = spaced_node refl (_, refl) (node_matched slash-meaning_of.1 m)
spaced file And number position end children m = spaced_node refl (_, refl) (node_matched and_sign-meaning_of.1 m)
spaced file Not number position end children m = spaced_node refl (_, refl) (node_matched not_sign-meaning_of.1 m)
spaced file Question number position end children m = spaced_node refl (_, refl) (node_matched question-meaning_of.1 m)
spaced file Star number position end children m = spaced_node refl (_, refl) (node_matched star-meaning_of.1 m)
spaced file Plus number position end children m = spaced_node refl (_, refl) (node_matched plus-meaning_of.1 m)
spaced file Count number position end children m = spaced_node refl (_, refl) (node_matched count-meaning_of.1 m)
spaced file Open number position end children m = spaced_node refl (_, refl) (node_matched open_sign-meaning_of.1 m)
spaced file Close number position end children m = spaced_node refl (_, refl) (node_matched close-meaning_of.1 m)
spaced file Dot number position end children m = spaced_node refl (_, refl) (node_matched dot-meaning_of.1 m)

-- ---- the token of a node

-- A token's text is at the start of its node, and the node denotes what the text denotes. The text ends where the last
-- child starts.
pub record Token (file : List ℕ) (kind : TokenKind) (rule position end : ℕ) (children : Trees) : Type 0 where
  pub number : rule ≡ number_of kind
  pub piece : PrefixMatch
  pub found : matcher_of kind (drop position file) ≡ Some piece
  pub last : last_start position children ≡ position + piece.length
  pub ends : (before : ℕ) → text_end before (Tree rule position end children NoTrees) ≡ position + piece.length
  pub spells : (before : ℕ) → spelled file before (Tree rule position end children NoTrees)
      ≡ node_spelled file (number_of kind) before position end (position + piece.length) piece.spells
  pub flat : nesting (Tree rule position end children NoTrees) ≡ 0
  pub opens : has_open (Tree rule position end children NoTrees) ≡ (number_of kind == 23)
  pub counts : bad_counts file (Tree rule position end children NoTrees) ≡ bad_count (number_of kind) position piece.spells
  pub order : position + piece.length ≤ end
  pub inside : position ≤ length file

pub token : (file : List ℕ) (kind : TokenKind) (number position end : ℕ) (children : Trees)
    → Matches file (rule_of_kind kind) position end (Tree number position end children NoTrees)
    → Token file kind number position end children
token file kind number position end children m = by (matcher_of kind (drop position file)) refl
  where
    tree : Trees
    tree = Tree number position end children NoTrees

    here : (piece : PrefixMatch) → matcher_of kind (drop position file) ≡ Some piece → position ≤ length file
    here piece found =
        elim (leb_tells position (length file)) [
          | inl is ↦ is.1
          | inr past ↦
              let none : drop position file ≡ [] = drop_all position file (omega (arith, past.1)) in
              absurd (let bad : None ≡ Some piece = sym (nothing_left kind) ∙ (ap (matcher_of kind) (sym none) ∙ found) in cc)
        ]

    by : (text : Option PrefixMatch) → matcher_of kind (drop position file) ≡ text → Token file kind number position end children
    by None none =
        absurd (let bad : Matched end tree ≡ Failed = one_result (derives m) ((takes-kind file kind).none (between 0 0) position none) in cc)
    by (Some piece) found =
        let it : FindsToken file (number_of kind) (rule_of_kind kind) (between 0 0) position piece =
        (takes-kind file kind).some (between 0 0) position piece found in
        let same : Matched end tree ≡ Matched (following_text file position piece.length) it.trees = one_result (derives m) it.derives in
        let trees : tree ≡ it.trees = cc in
        let ends : following_text file position piece.length ≡ end = cc in
        let text : (before : ℕ) → text_end before tree ≡ position + piece.length = λ before. ap (text_end before) trees ∙ it.ends before in
        let node = spaced file kind number position end children m in
        record {
          piece = piece;
          found = found;
          number = node.number;
          last = node.below position 0 ∙ (sym (node.text 0) ∙ text 0);
          ends = text;
          spells = λ before. ap (spelled file before) trees ∙ (it.spells before
              ∙ ap (λ n. node_spelled file (number_of kind) before position n (position + piece.length) piece.spells) ends);
          flat = ap nesting trees ∙ it.flat;
          opens = ap has_open trees ∙ it.opens;
          counts = ap (bad_counts file) trees ∙ it.counts;
          order = omega (arith, ends);
          inside = here piece found;
        }
