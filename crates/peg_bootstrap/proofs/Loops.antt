-- The meaning of neighbouring nodes, node by node.
use Rattle.std.proofs.Common.{◌≡◌, ℕ, max, ◌<◌, ◌≤◌, List, [], ◌∷◌, ◌++◌, refl, sym, ap, ◌∙◌, arith, append-nil, append_assoc}
use Rattle.peg_tree.specs.Trees.{Trees, NoTrees, Tree}
use Rattle.peg_semantics.specs.Form.{Form}
use Rattle.peg_semantics.specs.Rules.{Rule}
use Rattle.peg_metagrammar.specs.Nesting.{nesting}
use Rattle.peg_metagrammar.specs.Denotation.{Expression, Definition, expressions_in, rules_denoted, text_end, node_spelled, spelled, bad_count, bad_counts}
use Rattle.peg_bootstrap.specs.FigureNodes.{HasBadCount}
use Rattle.peg_bootstrap.specs.declared.fault.DefinitionsFault.{DefinitionsFault}
use Rattle.peg_bootstrap.specs.declared.fault.DefinitionsFault.TheVariants.{TooNested, BadCount, Memory}

-- the first of some trees, and those after it
pub spelled-first : (file : List ℕ) (before r s e : ℕ) (c rest : Trees) → spelled file before (Tree r s e c rest)
    ≡ spelled file before (Tree r s e c NoTrees) ++ spelled file (text_end before (Tree r s e c NoTrees)) rest
spelled-first file before r s e c rest =
    ap (λ l. l ++ spelled file (text_end before (Tree r s e c NoTrees)) rest)
    (sym (append-nil (node_spelled file r before s e (text_end before c) (spelled file before c))))

pub nesting-first : (r s e : ℕ) (c rest : Trees) → nesting (Tree r s e c rest) ≡ max (nesting (Tree r s e c NoTrees)) (nesting rest)
nesting-first r s e c rest = omega arith

pub counts-first : (file : List ℕ) (r s e : ℕ) (c rest : Trees)
    → bad_counts file (Tree r s e c rest) ≡ bad_counts file (Tree r s e c NoTrees) ++ bad_counts file rest
counts-first file r s e c rest =
    let own : List ℕ = bad_count r s (spelled file s c) in
    sym (append_assoc own (bad_counts file c ++ []) (bad_counts file rest)
    ∙ ap (λ (l : List ℕ). own ++ (l ++ bad_counts file rest)) (append-nil (bad_counts file c)))

-- after a tree without a count out of range
pub counts-following : (file : List ℕ) (r s e : ℕ) (c rest : Trees) → bad_counts file (Tree r s e c NoTrees) ≡ []
    → bad_counts file (Tree r s e c rest) ≡ bad_counts file rest
counts-following file r s e c rest fine =
    counts-first file r s e c rest ∙ ap (λ (l : List ℕ). l ++ bad_counts file rest) fine

-- the first count out of range of some trees is the first of more trees
pub bad-more : (file : List ℕ) (part whole : Trees) (more : List ℕ)
    → bad_counts file whole ≡ bad_counts file part ++ more → (fault : DefinitionsFault) → HasBadCount file part fault
    → HasBadCount file whole fault
bad-more file part whole more same TooNested bad = bad
bad-more file part whole more same (BadCount at) bad = (bad.0 ++ more, same ∙ ap (λ (l : List ℕ). l ++ more) bad.1)
bad-more file part whole more same Memory bad = bad

pub bad-same : (file : List ℕ) (part whole : Trees) → bad_counts file whole ≡ bad_counts file part
    → (fault : DefinitionsFault) → HasBadCount file part fault → HasBadCount file whole fault
bad-same file part whole same = bad-more file part whole [] (same ∙ sym (append-nil (bad_counts file part)))

-- the nodes before the rest denote these expressions, and the text before the rest ends at `last`
pub record SoFar (file : List ℕ) (before left : ℕ) (nodes : Trees) (list : List Form) (last : ℕ) (rest : Trees) : Type 0 where
  pub spells : expressions_in (spelled file before nodes) ≡ list ++ expressions_in (spelled file last rest)
  pub ends : text_end before nodes ≡ text_end last rest
  pub counts : bad_counts file nodes ≡ bad_counts file rest
  pub less : nesting rest ≤ nesting nodes
  pub limit : nesting nodes ≤ max left (nesting rest)

pub so_far-none : (file : List ℕ) (before left : ℕ) (nodes : Trees) → SoFar file before left nodes [] before nodes
so_far-none file before left nodes = record { spells = refl; ends = refl; counts = refl; less = omega arith; limit = omega arith }

-- one more node that denotes an expression
pub so_far-one : {file : List ℕ} {before left : ℕ} {nodes : Trees} {list : List Form} {last : ℕ} (r s e : ℕ) (c rest : Trees)
    (form : Form) (next : ℕ) → SoFar file before left nodes list last (Tree r s e c rest)
    → spelled file last (Tree r s e c NoTrees) ≡ Expression form ∷ [] → text_end last (Tree r s e c NoTrees) ≡ next
    → nesting (Tree r s e c NoTrees) ≤ left → bad_counts file (Tree r s e c NoTrees) ≡ [] → SoFar file before left nodes (list ++ form ∷ []) next rest
so_far-one {file} {list = list} {last} r s e c rest form next so_far spells ends within fine = record {
  spells = so_far.spells ∙ (ap (λ l. list ++ expressions_in l) (spelled-first file last r s e c rest
      ∙ (ap (λ l. l ++ spelled file (text_end last (Tree r s e c NoTrees)) rest) spells
      ∙ ap (λ n. Expression form ∷ spelled file n rest) ends))
      ∙ sym (append_assoc list (form ∷ []) (expressions_in (spelled file next rest))));
  ends = so_far.ends ∙ ap (λ n. text_end n rest) ends;
  counts = so_far.counts ∙ counts-following file r s e c rest fine;
  less = omega (arith, so_far.less, nesting-first r s e c rest);
  limit = omega (arith, so_far.limit, nesting-first r s e c rest, within);
}

-- one more node that denotes nothing
pub so_far-pass : {file : List ℕ} {before left : ℕ} {nodes : Trees} {list : List Form} {last : ℕ} (r s e : ℕ) (c rest : Trees)
    (next : ℕ) → SoFar file before left nodes list last (Tree r s e c rest)
    → spelled file last (Tree r s e c NoTrees) ≡ [] → text_end last (Tree r s e c NoTrees) ≡ next
    → nesting (Tree r s e c NoTrees) ≡ 0 → bad_counts file (Tree r s e c NoTrees) ≡ [] → SoFar file before left nodes list next rest
so_far-pass {file} {list = list} {last} r s e c rest next so_far spells ends flat fine = record {
  spells = so_far.spells ∙ ap (λ l. list ++ expressions_in l) (spelled-first file last r s e c rest
      ∙ (ap (λ l. l ++ spelled file (text_end last (Tree r s e c NoTrees)) rest) spells
      ∙ ap (λ n. spelled file n rest) ends));
  ends = so_far.ends ∙ ap (λ n. text_end n rest) ends;
  counts = so_far.counts ∙ counts-following file r s e c rest fine;
  less = omega (arith, so_far.less, nesting-first r s e c rest);
  limit = omega (arith, so_far.limit, nesting-first r s e c rest, flat);
}

-- all nodes
pub so_far-all : {file : List ℕ} {before left : ℕ} {nodes : Trees} {list : List Form} {last : ℕ}
    → SoFar file before left nodes list last NoTrees → expressions_in (spelled file before nodes) ≡ list
so_far-all {list = list} so_far = so_far.spells ∙ append-nil list

-- a node that nests too deep is among the nodes
pub so_far-deep : {file : List ℕ} {before left : ℕ} {nodes : Trees} {list : List Form} {last : ℕ} (r s e : ℕ) (c rest : Trees)
    → SoFar file before left nodes list last (Tree r s e c rest) → left < nesting (Tree r s e c NoTrees) → left < nesting nodes
so_far-deep r s e c rest so_far deep = omega (arith, so_far.less, nesting-first r s e c rest)

-- the first count out of range in a node is the first in the nodes
pub so_far-bad : {file : List ℕ} {before left : ℕ} {nodes : Trees} {list : List Form} {last : ℕ} (r s e : ℕ) (c rest : Trees)
    → SoFar file before left nodes list last (Tree r s e c rest) → (fault : DefinitionsFault)
    → HasBadCount file (Tree r s e c NoTrees) fault → HasBadCount file nodes fault
so_far-bad {file} {nodes = nodes} r s e c rest so_far = bad-more file (Tree r s e c NoTrees) nodes (bad_counts file rest) (so_far.counts ∙ counts-first file r s e c rest)

-- the same for definitions
pub record RulesSoFar (file : List ℕ) (bound : ℕ) (nodes : Trees) (list : List Rule) (rest : Trees) : Type 0 where
  pub last : ℕ
  pub spells : rules_denoted (spelled file 0 nodes) ≡ list ++ rules_denoted (spelled file last rest)
  pub counts : bad_counts file nodes ≡ bad_counts file rest
  pub less : nesting rest ≤ nesting nodes
  pub limit : nesting nodes ≤ max bound (nesting rest)

pub rules_so_far-one : {file : List ℕ} {limit : ℕ} {nodes : Trees} {list : List Rule} (r s e : ℕ) (c rest : Trees) (rule : Rule)
    → RulesSoFar file limit nodes list (Tree r s e c rest)
    → ((before : ℕ) → spelled file before (Tree r s e c NoTrees) ≡ Definition rule ∷ [])
    → nesting (Tree r s e c NoTrees) ≤ limit → bad_counts file (Tree r s e c NoTrees) ≡ [] → RulesSoFar file limit nodes (list ++ rule ∷ []) rest
rules_so_far-one {file} {list = list} r s e c rest rule so_far spells within fine =
    let next = text_end so_far.last (Tree r s e c NoTrees) in
    record {
      last = next;
      spells = so_far.spells ∙ (ap (λ l. list ++ rules_denoted l) (spelled-first file so_far.last r s e c rest
          ∙ ap (λ l. l ++ spelled file next rest) (spells so_far.last))
          ∙ sym (append_assoc list (rule ∷ []) (rules_denoted (spelled file next rest))));
      counts = so_far.counts ∙ counts-following file r s e c rest fine;
      less = omega (arith, so_far.less, nesting-first r s e c rest);
      limit = omega (arith, so_far.limit, nesting-first r s e c rest, within);
    }
