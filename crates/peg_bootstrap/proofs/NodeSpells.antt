-- The meaning of nodes from Primary to Grammar, from the meaning of their children.
use Rattle.std.proofs.Common.{◌≡◌, ℕ, max, ◌+◌, Bool, false, List, [], ◌∷◌, ◌++◌, Some, refl, ap, ◌∙◌, subst, arith, append-nil, if◌then◌else◌, ◌==◌, ◌&&◌, not}
use Rattle.peg_bytes.specs.Extent.{Extent, between}
use Rattle.peg_tree.specs.Trees.{Trees, NoTrees, Tree}
use Rattle.peg_semantics.specs.Form.{Form, Name}
use Rattle.peg_semantics.specs.Record.{Matched}
use Rattle.peg_semantics.specs.Rules.{meaning_of}
use Rattle.peg_semantics.proofs.Derivations.{Derives}
use Rattle.peg_metagrammar.specs.Figure.{figure}
use Rattle.peg_metagrammar.specs.FigureRules.{definition_rule, expression_rule, sequence_rule, prefix_rule}
use Rattle.peg_metagrammar.specs.FigureRules.{suffix_rule, primary_rule, count_rule, spacing_rule}
use Rattle.peg_metagrammar.specs.Nesting.{nesting, has_open}
use Rattle.peg_metagrammar.specs.Notation.{Matches}
use Rattle.peg_metagrammar.specs.Denotation.{Word, Sign, Expression, Definition, expressions_in, sequence_spelled, choice_spelled, text_end, node_spelled, spelled, numerals_in, bounds_spelled, bounds_in_range, bad_counts}
use Rattle.peg_bootstrap.specs.AstBuilderCode.{Builds}
use Rattle.peg_bootstrap.proofs.Inversions.{node_matched}
use Rattle.peg_bootstrap.proofs.Loops.{spelled-first}

-- ---- one node

-- a node of a rule, and the match below it
pub record Opened (file : List ℕ) (number : ℕ) (body : Form) (r position end : ℕ) (children : Trees) : Type 0 where
  pub is : r ≡ number
  pub inside : Derives figure file body position (Matched end children)

pub opened : {file : List ℕ} (used : List ℕ) {number terminal : ℕ} {body : Form} {r position end : ℕ} {children : Trees}
    → meaning_of figure used ≡ Some (record { rule = number; terminal = terminal; body = body })
    → Matches file used position end (Tree r position end children NoTrees) → Opened file number body r position end children
opened {file} used {number = number} {body = body} {r} {position} {end} {children} known m =
    let node = node_matched known m in
    let same : node.children ≡ children = let e = node.is in cc in
    record {
      is = let e = node.is in cc;
      inside = subst (λ t. Derives figure file body position (Matched end t)) same node.inside;
    }

-- the definitions for a node of a rule with a known number
module _ (file : List ℕ) (number r position end : ℕ) (children : Trees) (is : r ≡ number) (apart : (number == spacing_rule) ≡ false) where
  pub node-pieces : (before : ℕ) → spelled file before (Tree r position end children NoTrees)
      ≡ node_spelled file number before position end (text_end before children) (spelled file before children)
  node-pieces before =
      append-nil (node_spelled file r before position end (text_end before children) (spelled file before children))
      ∙ ap (λ n. node_spelled file n before position end (text_end before children) (spelled file before children)) is

  pub node-text : (before : ℕ) → text_end before (Tree r position end children NoTrees) ≡ text_end before children
  node-text before =
      ap (λ n. text_end before (Tree n position end children NoTrees)) is
      ∙ ap (λ (t : Bool). if t then position else text_end before children) apart

  -- a node with the meaning of its children
  pub node-passes : {before : ℕ} {form : Form} {last : ℕ}
      → ((l : ℕ) → node_spelled file number before position end l (Expression form ∷ []) ≡ Expression form ∷ [])
      → Builds file before children form last → Builds file before (Tree r position end children NoTrees) form last
  node-passes {before} passes says = record {
    pieces = node-pieces before ∙ (ap (node_spelled file number before position end (text_end before children)) says.pieces
        ∙ passes (text_end before children));
    ends = node-text before ∙ says.ends;
  }

pub node-nesting : (number r position end : ℕ) (children : Trees) → r ≡ number → (number == primary_rule) ≡ false
    → nesting (Tree r position end children NoTrees) ≡ nesting children
node-nesting number r position end children is apart =
    ap (λ n. nesting (Tree n position end children NoTrees)) is
    ∙ (ap (λ (t : Bool). max ((if t && has_open children then 1 else 0) + nesting children) 0) apart ∙ omega arith)

-- a node of a rule other than COUNT has the counts of its children
pub node-counts : (file : List ℕ) (number r position end : ℕ) (children : Trees) → r ≡ number → (number == count_rule) ≡ false
    → bad_counts file (Tree r position end children NoTrees) ≡ bad_counts file children
node-counts file number r position end children is apart =
    ap (λ n. bad_counts file (Tree n position end children NoTrees)) is
    ∙ (ap (λ (t : Bool). (if t && not (bounds_in_range (bounds_spelled (numerals_in (spelled file position children))))
    then position ∷ [] else []) ++ (bad_counts file children ++ [])) apart ∙ append-nil (bad_counts file children))

-- a Primary
pub primary-nesting : (r position end : ℕ) (children : Trees) (opens : Bool) → r ≡ primary_rule → has_open children ≡ opens
    → nesting (Tree r position end children NoTrees) ≡ (if opens then 1 else 0) + nesting children
primary-nesting r position end children opens is open_is =
    ap (λ n. nesting (Tree n position end children NoTrees)) is
    ∙ (ap (λ (t : Bool). max ((if t then 1 else 0) + nesting children) 0) open_is ∙ omega arith)

-- ---- Prefix and Suffix

-- an operator before an expression
pub prefix-with_operator : (file : List ℕ) (before r position end : ℕ) (a s m : ℕ) (c rest : Trees) (sign : Form → Extent → Form)
    (middle : ℕ) (form : Form) (last : ℕ) → r ≡ prefix_rule → spelled file before (Tree a s m c NoTrees) ≡ Sign sign ∷ []
    → text_end before (Tree a s m c NoTrees) ≡ middle → Builds file middle rest form last
    → Builds file before (Tree r position end (Tree a s m c rest) NoTrees) (sign form (between position last)) last
prefix-with_operator file before r position end a s m c rest sign middle form last is signs ends says =
    let text : text_end before (Tree a s m c rest) ≡ last = ap (λ n. text_end n rest) ends ∙ says.ends in
    let pieces : spelled file before (Tree a s m c rest) ≡ Sign sign ∷ Expression form ∷ [] =
    spelled-first file before a s m c rest ∙ (ap (λ l. l ++ spelled file (text_end before (Tree a s m c NoTrees)) rest) signs
    ∙ ap (λ l. Sign sign ∷ l) (ap (λ n. spelled file n rest) ends ∙ says.pieces)) in
    record {
      pieces = node-pieces file prefix_rule r position end (Tree a s m c rest) is refl before
          ∙ (ap (λ n. node_spelled file prefix_rule before position end n (spelled file before (Tree a s m c rest))) text
          ∙ ap (node_spelled file prefix_rule before position end last) pieces);
      ends = node-text file prefix_rule r position end (Tree a s m c rest) is refl before ∙ text;
    }

-- an operator after an expression
pub suffix-with_operator : (file : List ℕ) (before r position end : ℕ) (a s m : ℕ) (c rest : Trees) (sign : Form → Extent → Form)
    (middle : ℕ) (form : Form) (last : ℕ) → r ≡ suffix_rule → Builds file before (Tree a s m c NoTrees) form middle
    → spelled file middle rest ≡ Sign sign ∷ [] → text_end middle rest ≡ last
    → Builds file before (Tree r position end (Tree a s m c rest) NoTrees) (sign form (between position last)) last
suffix-with_operator file before r position end a s m c rest sign middle form last is says signs ends =
    let text : text_end before (Tree a s m c rest) ≡ last = ap (λ n. text_end n rest) says.ends ∙ ends in
    let pieces : spelled file before (Tree a s m c rest) ≡ Expression form ∷ Sign sign ∷ [] =
    spelled-first file before a s m c rest ∙ (ap (λ l. l ++ spelled file (text_end before (Tree a s m c NoTrees)) rest) says.pieces
    ∙ ap (λ l. Expression form ∷ l) (ap (λ n. spelled file n rest) says.ends ∙ signs)) in
    record {
      pieces = node-pieces file suffix_rule r position end (Tree a s m c rest) is refl before
          ∙ (ap (λ n. node_spelled file suffix_rule before position end n (spelled file before (Tree a s m c rest))) text
          ∙ ap (node_spelled file suffix_rule before position end last) pieces);
      ends = node-text file suffix_rule r position end (Tree a s m c rest) is refl before ∙ text;
    }

-- ---- Primary

-- a name
pub primary-name : (file : List ℕ) (before r position end : ℕ) (children : Trees) (name : List ℕ) (span : Extent) (last : ℕ)
    → r ≡ primary_rule → spelled file before children ≡ Word name span ∷ [] → text_end before children ≡ last
    → Builds file before (Tree r position end children NoTrees) (Name name span) last
primary-name file before r position end children name span last is pieces ends = record {
  pieces = node-pieces file primary_rule r position end children is refl before
      ∙ ap (node_spelled file primary_rule before position end (text_end before children)) pieces;
  ends = node-text file primary_rule r position end children is refl before ∙ ends;
}

-- parentheses, which denote nothing themselves
pub primary-parentheses : (file : List ℕ) (before r position end : ℕ) (a s m : ℕ) (c : Trees) (b i j : ℕ) (d rest : Trees)
    (opened inside last : ℕ) (form : Form) → r ≡ primary_rule → spelled file before (Tree a s m c NoTrees) ≡ []
    → text_end before (Tree a s m c NoTrees) ≡ opened → Builds file opened (Tree b i j d NoTrees) form inside
    → spelled file inside rest ≡ [] → text_end inside rest ≡ last
    → Builds file before (Tree r position end (Tree a s m c (Tree b i j d rest)) NoTrees) form last
primary-parentheses file before r position end a s m c b i j d rest opened inside last form is nothing ends says closes stop =
    let more = Tree b i j d rest in
    let text : text_end before (Tree a s m c more) ≡ last =
    ap (λ n. text_end n more) ends ∙ (ap (λ n. text_end n rest) says.ends ∙ stop) in
    let after : spelled file opened more ≡ Expression form ∷ [] =
    spelled-first file opened b i j d rest ∙ (ap (λ l. l ++ spelled file (text_end opened (Tree b i j d NoTrees)) rest) says.pieces
    ∙ ap (λ l. Expression form ∷ l) (ap (λ n. spelled file n rest) says.ends ∙ closes)) in
    let pieces : spelled file before (Tree a s m c more) ≡ Expression form ∷ [] =
    spelled-first file before a s m c more ∙ (ap (λ l. l ++ spelled file (text_end before (Tree a s m c NoTrees)) more) nothing
    ∙ (ap (λ n. spelled file n more) ends ∙ after)) in
    node-passes file primary_rule r position end (Tree a s m c more) is refl (λ l. refl) (record { pieces = pieces; ends = text })

-- ---- Sequence and Expression

pub sequence-says : (file : List ℕ) (before r position end : ℕ) (children : Trees) (list : List Form) (last : ℕ) → r ≡ sequence_rule
    → expressions_in (spelled file before children) ≡ list → text_end before children ≡ last
    → Builds file before (Tree r position end children NoTrees) (sequence_spelled before (between position last) list) last
sequence-says file before r position end children list last is all ends = record {
  pieces = node-pieces file sequence_rule r position end children is refl before
      ∙ (ap (λ l. Expression (sequence_spelled before (between position (text_end before children)) l) ∷ []) all
      ∙ ap (λ n. Expression (sequence_spelled before (between position n) list) ∷ []) ends);
  ends = node-text file sequence_rule r position end children is refl before ∙ ends;
}

pub expression-says : (file : List ℕ) (before r position end : ℕ) (children : Trees) (list : List Form) (last : ℕ)
    → r ≡ expression_rule → expressions_in (spelled file before children) ≡ list → text_end before children ≡ last
    → Builds file before (Tree r position end children NoTrees) (choice_spelled (between position last) list) last
expression-says file before r position end children list last is all ends = record {
  pieces = node-pieces file expression_rule r position end children is refl before
      ∙ (ap (λ l. Expression (choice_spelled (between position (text_end before children)) l) ∷ []) all
      ∙ ap (λ n. Expression (choice_spelled (between position n) list) ∷ []) ends);
  ends = node-text file expression_rule r position end children is refl before ∙ ends;
}

-- ---- Definition

pub definition-says : (file : List ℕ) (before r position end : ℕ) (a s m : ℕ) (c : Trees) (b i j : ℕ) (d rest : Trees)
    (name : List ℕ) (span : Extent) (named pointed last : ℕ) (form : Form) → r ≡ definition_rule
    → spelled file before (Tree a s m c NoTrees) ≡ Word name span ∷ [] → text_end before (Tree a s m c NoTrees) ≡ named
    → spelled file named (Tree b i j d NoTrees) ≡ [] → text_end named (Tree b i j d NoTrees) ≡ pointed
    → Builds file pointed rest form last
    → spelled file before (Tree r position end (Tree a s m c (Tree b i j d rest)) NoTrees)
    ≡ Definition (record { name = name; span = span; body = form }) ∷ []
definition-says file before r position end a s m c b i j d rest name span named pointed last form is rule_name ends nothing stop says =
    let more = Tree b i j d rest in
    let after : spelled file named more ≡ Expression form ∷ [] =
    spelled-first file named b i j d rest ∙ (ap (λ l. l ++ spelled file (text_end named (Tree b i j d NoTrees)) rest) nothing
    ∙ (ap (λ n. spelled file n rest) stop ∙ says.pieces)) in
    let pieces : spelled file before (Tree a s m c more) ≡ Word name span ∷ Expression form ∷ [] =
    spelled-first file before a s m c more ∙ (ap (λ l. l ++ spelled file (text_end before (Tree a s m c NoTrees)) more) rule_name
    ∙ ap (λ l. Word name span ∷ l) (ap (λ n. spelled file n more) ends ∙ after)) in
    node-pieces file definition_rule r position end (Tree a s m c more) is refl before
    ∙ ap (node_spelled file definition_rule before position end (text_end before (Tree a s m c more))) pieces
