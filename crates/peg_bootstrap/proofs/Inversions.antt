-- The structure of metagrammar matches: the match of each rule is one tree, and its children are the matches of its
-- parts.
use Rattle.std.proofs.Common.{◌≡◌, ◌⊎◌, inl, inr, ℕ, List, Some, refl, sym, ap, ◌∙◌, subst}
use Rattle.peg_bytes.specs.Extent.{Extent, between}
use Rattle.peg_tree.specs.Trees.{Trees, NoTrees, Tree, followed_by}
use Rattle.peg_semantics.specs.Form.{Form, Forms, Name, Seq, Choice, Optional, Star, Plus, Not, End, Then}
use Rattle.peg_semantics.specs.Record.{Recognition, Failed, Matched, prepend_trees}
use Rattle.peg_semantics.specs.Rules.{Meaning, meaning_of}
use Rattle.peg_semantics.proofs.Derivations.{Derives, DerivesItems, DerivesFirst, derived}
use Rattle.peg_metagrammar.specs.Figure.{figure}
use Rattle.peg_metagrammar.specs.Notation.{Matches}
use Rattle.peg_lexer.proofs.Lexemes.{matches}

-- ---- names

-- each match has a derivation
pub derives : {file name : List ℕ} {p end : ℕ} {trees : Trees} → Matches file name p end trees
    → Derives figure file (Name name (between 0 0)) p (Matched end trees)
derives {file} {name} {p} m =
    subst (λ (x : Recognition). Derives figure file (Name name (between 0 0)) p x) m.2
    (derived figure file m.1.0 (Name name (between 0 0)) 0 p m.0 m.1.1)

-- a match of a name is a match of the name wherever it is called
elsewhere : {file used : List ℕ} {span : Extent} {position : ℕ} {x : Recognition}
    → Derives figure file (Name used span) position x → Derives figure file (Name used (between 0 0)) position x
elsewhere (Derives.name_matched found d t) = Derives.name_matched found d t
elsewhere (Derives.name_failed found d) = Derives.name_failed found d

-- a match of a name is one tree of its rule, whose children match the rule's expression
pub record Node (file used : List ℕ) (rule : ℕ) (body : Form) (position end : ℕ) (trees : Trees) : Type 0 where
  pub children : Trees
  pub is : trees ≡ Tree rule position end children NoTrees
  pub match : Matches file used position end (Tree rule position end children NoTrees)
  pub inside : Derives figure file body position (Matched end children)

pub node_of : {file used : List ℕ} {span : Extent} {position : ℕ} {x : Recognition} {rule terminal : ℕ} {body : Form}
    → meaning_of figure used ≡ Some (record { rule = rule; terminal = terminal; body = body })
    → Derives figure file (Name used span) position x → (end : ℕ) (trees : Trees) → x ≡ Matched end trees
    → Node file used rule body position end trees
node_of {file} {used} {position = position} {rule = rule} {terminal} {body} known
    (Derives.name_matched {meaning = m} {end = last} {trees = inside} {tree = tree} found d t) end trees is =
    let same : Some m ≡ Some (record { rule = rule; terminal = terminal; body = body }) = sym found ∙ known in
    let one : m ≡ record { rule = rule; terminal = terminal; body = body } = cc in
    let ends : last ≡ end = cc in
    let tree_is : tree ≡ Tree rule position end inside NoTrees =
    t ∙ (ap (λ (y : Meaning). Tree y.rule position last inside NoTrees) one
    ∙ ap (λ n. Tree rule position n inside NoTrees) ends) in
    let whole : Derives figure file (Name used (between 0 0)) position (Matched last tree) = Derives.name_matched found d t in
    record {
      children = inside;
      is = (let out : trees ≡ tree = cc in out) ∙ tree_is;
      match = matches (subst (λ (y : Trees). Derives figure file (Name used (between 0 0)) position (Matched end y)) tree_is
          (subst (λ n. Derives figure file (Name used (between 0 0)) position (Matched n tree)) ends whole));
      inside = subst (λ n. Derives figure file body position (Matched n inside)) ends
          (subst (λ (y : Meaning). Derives figure file y.body position (Matched last inside)) one d);
    }
node_of known (Derives.name_failed found d) end trees is = cc

-- the same for a match of a name in the definitions
pub node_matched : {file used : List ℕ} {position end : ℕ} {trees : Trees} {rule terminal : ℕ} {body : Form}
    → meaning_of figure used ≡ Some (record { rule = rule; terminal = terminal; body = body })
    → Matches file used position end trees → Node file used rule body position end trees
node_matched {end = end} {trees} known m = node_of known (derives m) end trees refl

-- ---- sequences

-- trees in front of a match are part of a match that ends at the same position
following_matched : (one : Trees) (more : Recognition) (end : ℕ) (trees : Trees) → prepend_trees one more ≡ Matched end trees
    → (rest : Trees) × (more ≡ Matched end rest) × (trees ≡ followed_by one rest)
following_matched one Failed end trees is = cc
following_matched one (Matched last rest) end trees is =
    let ends : last ≡ end = cc in
    let out : trees ≡ followed_by one rest = cc in
    (rest, ap (λ n. Matched n rest) ends, out)

-- a first item, and those after it
pub record First (file : List ℕ) (first : Form) (others : Forms) (position end : ℕ) (trees : Trees) : Type 0 where
  pub middle : ℕ
  pub one : Trees
  pub more : Trees
  pub is : trees ≡ followed_by one more
  pub item : Derives figure file first position (Matched middle one)
  pub rest : DerivesItems figure file others middle (Matched end more)

pub first_of : {file : List ℕ} {item : Form} {rest : Forms} {position : ℕ} {x : Recognition}
    → DerivesItems figure file (Then item rest) position x → (end : ℕ) (trees : Trees) → x ≡ Matched end trees
    → First file item rest position end trees
first_of (DerivesItems.items_failed d) end trees is = cc
first_of {file} {item} {rest} {position} (DerivesItems.items_then {middle = middle} {trees = one} {more = more} d others same) end trees is =
    let last = following_matched one more end trees (sym same ∙ is) in
    record {
      middle = middle;
      one = one;
      more = last.0;
      is = last.2;
      item = d;
      rest = subst (λ (y : Recognition). DerivesItems figure file rest middle y) last.1 others;
    }

pub items_of : {file : List ℕ} {items : Forms} {span : Extent} {position : ℕ} {x : Recognition}
    → Derives figure file (Seq items span) position x → DerivesItems figure file items position x
items_of (Derives.sequence items) = items

-- no item
pub none_of : {file : List ℕ} {position : ℕ} {x : Recognition} → DerivesItems figure file End position x
    → (end : ℕ) (trees : Trees) → x ≡ Matched end trees → (position ≡ end) × (trees ≡ NoTrees)
none_of {position = position} DerivesItems.items_none end trees is =
    let ends : position ≡ end = cc in
    let out : trees ≡ NoTrees = cc in
    (ends, out)

-- ---- choices

pub first_matched : {file : List ℕ} {first : Form} {rest : Forms} {span : Extent} {position : ℕ} {x : Recognition}
    → Derives figure file (Choice first rest span) position x → DerivesFirst figure file first rest position x
first_matched (Derives.choice first) = first

-- the first alternative, or one of the others
pub either_of : {file : List ℕ} {first next : Form} {rest : Forms} {position : ℕ} {x : Recognition}
    → DerivesFirst figure file first (Then next rest) position x → (end : ℕ) (trees : Trees) → x ≡ Matched end trees
    → Derives figure file first position (Matched end trees) ⊎ DerivesFirst figure file next rest position (Matched end trees)
either_of {file} {first} {position = position} (DerivesFirst.alternative_matched d) end trees is =
    inl (subst (λ (x : Recognition). Derives figure file first position x) is d)
either_of {file} {next = next} {rest} {position} (DerivesFirst.alternative_failed d others) end trees is =
    inr (subst (λ (x : Recognition). DerivesFirst figure file next rest position x) is others)

pub only_of : {file : List ℕ} {only : Form} {position : ℕ} {x : Recognition} → DerivesFirst figure file only End position x
    → Derives figure file only position x
only_of (DerivesFirst.alternative_last d) = d

-- ---- optional expressions, repetitions and predicates

pub optional_of : {file : List ℕ} {part : Form} {span : Extent} {position : ℕ} {x : Recognition}
    → Derives figure file (Optional part span) position x → (end : ℕ) (trees : Trees) → x ≡ Matched end trees
    → Derives figure file part position (Matched end trees) ⊎ ((position ≡ end) × (trees ≡ NoTrees))
optional_of {file} {part} {position = position} (Derives.optional_some d) end trees is =
    inl (subst (λ (x : Recognition). Derives figure file part position x) is d)
optional_of {position = position} (Derives.optional_none d) end trees is =
    let ends : position ≡ end = cc in
    let out : trees ≡ NoTrees = cc in
    inr (ends, out)

-- a repetition that has matched once, and continues
pub record Round (file : List ℕ) (part : Form) (span : Extent) (position end : ℕ) (trees : Trees) : Type 0 where
  pub middle : ℕ
  pub one : Trees
  pub more : Trees
  pub is : trees ≡ followed_by one more
  pub item : Derives figure file part position (Matched middle one)
  pub rest : Derives figure file (Star part span) middle (Matched end more)

pub plus_of : {file : List ℕ} {part : Form} {span : Extent} {position : ℕ} {x : Recognition}
    → Derives figure file (Plus part span) position x → (end : ℕ) (trees : Trees) → x ≡ Matched end trees
    → Round file part span position end trees
plus_of (Derives.plus_failed d) end trees is = cc
plus_of {file} {part} {span} (Derives.plus_matched {middle = middle} {end = last} {first = one} {more = more} {trees = all} d rest t) end trees is =
    let ends : last ≡ end = cc in
    let same : trees ≡ all = cc in
    record {
      middle = middle;
      one = one;
      more = more;
      is = same ∙ t;
      item = d;
      rest = subst (λ n. Derives figure file (Star part span) middle (Matched n more)) ends rest;
    }

-- a predicate gives no tree and consumes nothing
pub not_of : {file : List ℕ} {part : Form} {span : Extent} {position : ℕ} {x : Recognition}
    → Derives figure file (Not part span) position x → (end : ℕ) (trees : Trees) → x ≡ Matched end trees
    → (position ≡ end) × (trees ≡ NoTrees)
not_of {position = position} (Derives.not_matched d) end trees is =
    let ends : position ≡ end = cc in
    let out : trees ≡ NoTrees = cc in
    (ends, out)
not_of (Derives.not_failed d) end trees is = cc
