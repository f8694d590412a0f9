-- Facts that `definition` and `definitions_of` use about their nodes and the nodes below them.
use Rattle.std.proofs.Common.{◌≡◌, ◌≢◌, inl, inr, ℕ, ◌≤◌, List, [], ◌∷◌, ◌++◌, drop, codes, refl, sym, ap, ◌∙◌, subst, arith, append-nil}
use Rattle.peg_bytes.specs.Extent.{Extent, between}
use Rattle.peg_tree.specs.Branches.{trees_in, trees_from_branch, tree_of_branch}
use Rattle.peg_tree.specs.Trees.{Trees, NoTrees, Tree}
use Rattle.peg_tree.specs.declared.forest.Branch.{Branch}
use Rattle.peg_semantics.specs.Form.{Form}
use Rattle.peg_semantics.specs.Rules.{Rule}
use Rattle.peg_metagrammar.specs.Figure.{definition_body, grammar_body, end_of_file_body}
use Rattle.peg_metagrammar.specs.FigureRules.{grammar_rule, definition_rule, expression_rule, identifier_rule}
use Rattle.peg_metagrammar.specs.FigureRules.{leftarrow_rule, spacing_rule, end_of_file_rule}
use Rattle.peg_metagrammar.specs.Nesting.{nesting, max_open}
use Rattle.peg_metagrammar.specs.Denotation.{Word, Definition, rules_denoted, text_end, spelled, rules_spelled, bad_counts}
use Rattle.peg_bootstrap.specs.declared.fault.DefinitionsFault.{DefinitionsFault}
use Rattle.peg_metagrammar.proofs.FigureNames.{definition-meaning_of, grammar-meaning_of, end_of_file-meaning_of}
use Rattle.peg_lexer.proofs.PieceSizes.{blank-literal_bytes}
use Rattle.peg_lexer.proofs.SpacingRules.{finds-spacing}
use Rattle.peg_lexer.specs.declared.token.TokenKind.TheVariants as kind
use Rattle.peg_semantics.proofs.Derivations.{one_result}
use Rattle.peg_bootstrap.specs.FigureNodes.{IsNode, last_start, HasBadCount}
use Rattle.peg_bootstrap.specs.FigureTrees.{IsTreeOf}
use Rattle.peg_bootstrap.specs.AstBuilderCode.{Builds}
use Rattle.peg_bootstrap.proofs.Facts.{then_some}
use Rattle.peg_bootstrap.proofs.Inversions.{Node, node_matched, derives, not_of}
use Rattle.peg_bootstrap.proofs.Loops.{RulesSoFar, rules_so_far-one, spelled-first, nesting-first, counts-first, counts-following, bad-more}
use Rattle.peg_bootstrap.proofs.NodeSpells.{Opened, opened, node-nesting, node-counts, definition-says}
use Rattle.peg_bootstrap.proofs.Shapes.{Ends, Then_is, definition_children, Definitions, grammar_children}
use Rattle.peg_bootstrap.proofs.TokenNodes.{Token, token}
use Rattle.peg_bootstrap.proofs.Walks.{Defining}

-- ---- Definition

module _ (file : List ℕ) (node : Branch) (m : IsNode file (codes "Definition") node) where
  definition_opened : Opened file definition_rule definition_body node.rule node.span.start node.span.end (trees_in node.children)
  definition_opened = opened (codes "Definition") definition-meaning_of.1 m

  abbrev Body : ℕ → Trees → Type 0
  Body = Then_is file (codes "Expression") expression_rule (Ends node.span.end)

  abbrev Arrow : ℕ → Trees → Type 0
  Arrow = Then_is file (codes "LEFTARROW") leftarrow_rule Body

  definition_shape : Then_is file (codes "Identifier") identifier_rule Arrow node.span.start (trees_in node.children)
  definition_shape = definition_children definition_opened.inside

  pub name_some : trees_in node.children ≢ NoTrees
  name_some = then_some _ _ _ _ _ _ definition_shape

  module _ (name : Branch) (is : trees_in node.children ≡ trees_from_branch name) where
    name_here : Then_is file (codes "Identifier") identifier_rule Arrow node.span.start (trees_from_branch name)
    name_here = subst (Then_is file (codes "Identifier") identifier_rule Arrow node.span.start) is definition_shape

    pub name_identifier : IsNode file (codes "Identifier") name
    name_identifier = name_here.2

    name_token : Token file kind.Ident name.rule name.span.start name.span.end (trees_in name.children)
    name_token = token file kind.Ident name.rule name.span.start name.span.end (trees_in name.children) name_here.2

    pub arrow_some : trees_in name.rest ≢ NoTrees
    arrow_some = then_some _ _ _ _ _ _ name_here.3

    module _ (arrow : Branch) (arrow_is : trees_in name.rest ≡ trees_from_branch arrow) where
      arrow_here : Arrow name.span.end (trees_from_branch arrow)
      arrow_here = subst (Arrow name.span.end) arrow_is name_here.3

      arrow_token : Token file kind.Arrow arrow.rule arrow.span.start arrow.span.end (trees_in arrow.children)
      arrow_token = token file kind.Arrow arrow.rule arrow.span.start arrow.span.end (trees_in arrow.children) arrow_here.2

      pub body_some : trees_in arrow.rest ≢ NoTrees
      body_some = then_some _ _ _ _ _ _ arrow_here.3

      module _ (body : Branch) (body_is : trees_in arrow.rest ≡ trees_from_branch body) where
        body_here : Body arrow.span.end (trees_from_branch body)
        body_here = subst (Body arrow.span.end) body_is arrow_here.3

        pub body_expression : IsNode file (codes "Expression") body
        body_expression = body_here.2

        pub body_following : last_start arrow.span.start (trees_in arrow.children) ≤ body.span.start
        body_following = let order = arrow_token.order in omega (arith, order, arrow_token.last, body_here.1)

        all_is : trees_in node.children ≡ Tree name.rule name.span.start name.span.end (trees_in name.children)
            (Tree arrow.rule arrow.span.start arrow.span.end (trees_in arrow.children) (tree_of_branch body))
        all_is =
            is ∙ ap (Tree name.rule name.span.start name.span.end (trees_in name.children))
            (arrow_is ∙ ap (Tree arrow.rule arrow.span.start arrow.span.end (trees_in arrow.children))
            (body_is ∙ ap (Tree body.rule body.span.start body.span.end (trees_in body.children)) body_here.3.1))

        pub rule_says : (text : List ℕ) (span : Extent) (named last : ℕ) (f : Form)
            → ((before : ℕ) → spelled file before (tree_of_branch name) ≡ Word text span ∷ [])
            → ((before : ℕ) → text_end before (tree_of_branch name) ≡ named)
            → Builds file (last_start arrow.span.start (trees_in arrow.children)) (tree_of_branch body) f last → (before : ℕ)
            → spelled file before (tree_of_branch node) ≡ Definition (record { name = text; span = span; body = f }) ∷ []
        rule_says text span named last f rule_name ends says before =
            subst (λ t. spelled file before (Tree node.rule node.span.start node.span.end t NoTrees) ≡ Definition (record { name = text; span = span; body = f }) ∷ []) (sym all_is)
            (definition-says file before node.rule node.span.start node.span.end name.rule name.span.start name.span.end (trees_in name.children)
            arrow.rule arrow.span.start arrow.span.end (trees_in arrow.children) (tree_of_branch body) text span named
            (last_start arrow.span.start (trees_in arrow.children)) last f definition_opened.is (rule_name before) (ends before)
            (arrow_token.spells named ∙ (blank-literal_bytes (codes "<-")).blank (drop arrow.span.start file) arrow_token.piece arrow_token.found)
            (arrow_token.ends named ∙ sym arrow_token.last) says)

        pub rule_nests : nesting (tree_of_branch node) ≡ nesting (tree_of_branch body)
        rule_nests =
            let below = nesting-first name.rule name.span.start name.span.end (trees_in name.children)
            (Tree arrow.rule arrow.span.start arrow.span.end (trees_in arrow.children) (tree_of_branch body)) in
            let next = nesting-first arrow.rule arrow.span.start arrow.span.end (trees_in arrow.children) (tree_of_branch body) in
            node-nesting definition_rule node.rule node.span.start node.span.end (trees_in node.children) definition_opened.is refl
            ∙ (ap nesting all_is ∙ (let sum : nesting (Tree name.rule name.span.start name.span.end (trees_in name.children)
            (Tree arrow.rule arrow.span.start arrow.span.end (trees_in arrow.children) (tree_of_branch body))) ≡ nesting (tree_of_branch body) =
            omega (arith, below, next, name_token.flat, arrow_token.flat) in sum))

        pub rule_counts : bad_counts file (tree_of_branch node) ≡ bad_counts file (tree_of_branch body)
        rule_counts =
            node-counts file definition_rule node.rule node.span.start node.span.end (trees_in node.children) definition_opened.is refl
            ∙ (ap (bad_counts file) all_is
            ∙ (counts-following file name.rule name.span.start name.span.end (trees_in name.children)
            (Tree arrow.rule arrow.span.start arrow.span.end (trees_in arrow.children) (tree_of_branch body)) name_token.counts
            ∙ counts-following file arrow.rule arrow.span.start arrow.span.end (trees_in arrow.children) (tree_of_branch body) arrow_token.counts))

-- ---- Grammar

-- the tree of a file isn't empty
pub tree_some : (file : List ℕ) (tree : Trees) → IsTreeOf file tree → tree ≢ NoTrees
tree_some file tree m none =
    let node = node_matched grammar-meaning_of.1 m.1 in
    let bad : NoTrees ≡ Tree grammar_rule 0 m.0 node.children NoTrees = sym none ∙ node.is in
    cc

module _ (file : List ℕ) (tree : Trees) (m : IsTreeOf file tree) (root : Branch) (is : tree ≡ trees_from_branch root) where
  grammar_node : Node file (codes "Grammar") grammar_rule grammar_body 0 m.0 tree
  grammar_node = node_matched grammar-meaning_of.1 m.1

  grammar_same : grammar_node.children ≡ trees_in root.children
  grammar_same =
      let one : trees_from_branch root ≡ Tree grammar_rule 0 m.0 grammar_node.children NoTrees = sym is ∙ grammar_node.is in cc

  tree_is : tree ≡ Tree grammar_rule 0 m.0 (trees_in root.children) NoTrees
  tree_is = grammar_node.is ∙ ap (λ t. Tree grammar_rule 0 m.0 t NoTrees) grammar_same

  abbrev Rules : ℕ → Trees → Type 0
  Rules = Then_is file (codes "Definition") definition_rule (Definitions file m.0)

  grammar_shape : Then_is file (codes "Spacing") spacing_rule Rules 0 (trees_in root.children)
  grammar_shape =
      subst (Then_is file (codes "Spacing") spacing_rule Rules 0) grammar_same (grammar_children grammar_node.inside)

  pub spacing_some : trees_in root.children ≢ NoTrees
  spacing_some = then_some _ _ _ _ _ _ grammar_shape

  module _ (gap : Branch) (gap_is : trees_in root.children ≡ trees_from_branch gap) where
    gap_here : Then_is file (codes "Spacing") spacing_rule Rules 0 (trees_from_branch gap)
    gap_here = subst (Then_is file (codes "Spacing") spacing_rule Rules 0) gap_is grammar_shape

    pub rules_some : trees_in gap.rest ≢ NoTrees
    rules_some = then_some _ _ _ _ _ _ gap_here.3

    -- spacing denotes nothing
    gap_same : tree_of_branch gap ≡ (finds-spacing file (between 0 0) gap.span.start).trees
    gap_same =
        let it = finds-spacing file (between 0 0) gap.span.start in
        let one = one_result (derives gap_here.2) it.derives in cc

    module _ (node : Branch) (node_is : trees_in gap.rest ≡ trees_from_branch node) where
      first_rule : Rules gap.span.end (trees_from_branch node)
      first_rule = subst (Rules gap.span.end) node_is gap_here.3

      whole_is : tree ≡ Tree grammar_rule 0 m.0 (Tree gap.rule gap.span.start gap.span.end (trees_in gap.children) (trees_from_branch node)) NoTrees
      whole_is =
          tree_is ∙ ap (λ t. Tree grammar_rule 0 m.0 t NoTrees)
          (gap_is ∙ ap (Tree gap.rule gap.span.start gap.span.end (trees_in gap.children)) node_is)

      pub rules_none : Defining file tree [] (trees_from_branch node)
      rules_none =
          let it = finds-spacing file (between 0 0) gap.span.start in
          let children = Tree gap.rule gap.span.start gap.span.end (trees_in gap.children) (trees_from_branch node) in
          let flat : nesting (tree_of_branch gap) ≡ 0 = ap nesting gap_same ∙ it.flat in
          let nests = nesting-first gap.rule gap.span.start gap.span.end (trees_in gap.children) (trees_from_branch node) in
          let count : nesting tree ≡ nesting (trees_from_branch node) =
          ap nesting whole_is ∙ (let sum : nesting (Tree grammar_rule 0 m.0 children NoTrees) ≡ nesting (trees_from_branch node) = omega (arith, nests, flat) in sum) in
          record {
            end = m.0;
            position = gap.span.end;
            shape = inl (first_rule.0, first_rule.1, first_rule.2, first_rule.3);
            so_far = record {
              last = text_end 0 (tree_of_branch gap);
              spells = ap (λ t. rules_denoted (spelled file 0 t)) whole_is ∙ (ap rules_denoted (append-nil (spelled file 0 children))
                  ∙ ap rules_denoted (spelled-first file 0 gap.rule gap.span.start gap.span.end (trees_in gap.children) (trees_from_branch node)
                  ∙ ap (λ l. l ++ spelled file (text_end 0 (tree_of_branch gap)) (trees_from_branch node)) (ap (spelled file 0) gap_same ∙ it.spells 0)));
              counts = ap (bad_counts file) whole_is ∙ (append-nil (bad_counts file children)
                  ∙ counts-following file gap.rule gap.span.start gap.span.end (trees_in gap.children) (trees_from_branch node)
                  (ap (bad_counts file) gap_same ∙ it.fine));
              less = omega (arith, count);
              limit = omega (arith, count);
            };
          }

-- ---- definitions

module _ (file : List ℕ) (tree : Trees) (list : List Rule) (node : Branch) (walk : Defining file tree list (trees_from_branch node)) where
  -- one more definition, and the node after it
  pub rules_one : node.rule ≡ definition_rule → (next : Branch) → trees_in node.rest ≡ trees_from_branch next → (more : Rule)
      → ((before : ℕ) → spelled file before (tree_of_branch node) ≡ Definition more ∷ []) → nesting (tree_of_branch node) ≤ max_open
      → bad_counts file (tree_of_branch node) ≡ [] → Defining file tree (list ++ more ∷ []) (trees_from_branch next)
  rules_one known next next_is more says within fine = by walk.shape
    where
      by : Definitions file walk.end walk.position (trees_from_branch node) → Defining file tree (list ++ more ∷ []) (trees_from_branch next)
      by (inl here) = record {
        end = walk.end;
        position = node.span.end;
        shape = subst (Definitions file walk.end node.span.end) next_is here.3;
        so_far = subst (RulesSoFar file max_open tree (list ++ more ∷ [])) next_is
            (rules_so_far-one node.rule node.span.start node.span.end (trees_in node.children) (trees_in node.rest) more walk.so_far says within fine);
      }
      by (inr here) = absurd (let bad : 30 ≡ 1 = sym here.0 ∙ known in cc)

  -- after the last definition the file ends
  record FileEnds : Type 0 where
    pub none : trees_from_branch node ≡ Tree node.rule node.span.start node.span.end NoTrees NoTrees
    pub is : node.rule ≡ end_of_file_rule

  file_ends : node.rule ≢ definition_rule → FileEnds
  unfolding end_of_file_body
  file_ends apart = by walk.shape
    where
      by : Definitions file walk.end walk.position (trees_from_branch node) → FileEnds
      by (inl here) = absurd (apart here.0)
      by (inr here) =
          let it = opened (codes "EndOfFile") end_of_file-meaning_of.1 here.2 in
          let still = not_of it.inside node.span.end (trees_in node.children) refl in
          record {
            none = ap (λ t. Tree node.rule node.span.start node.span.end t (trees_in node.rest)) still.1
                ∙ ap (Tree node.rule node.span.start node.span.end NoTrees) here.3.1;
            is = it.is;
          }

  last_is : node.rule ≢ definition_rule → trees_from_branch node ≡ Tree end_of_file_rule node.span.start node.span.end NoTrees NoTrees
  last_is apart =
      let ends = file_ends apart in
      ends.none ∙ ap (λ n. Tree n node.span.start node.span.end NoTrees NoTrees) ends.is

  pub rules_all : node.rule ≢ definition_rule → list ≡ rules_spelled file tree
  rules_all apart =
      sym (walk.so_far.spells ∙ (ap (λ t. list ++ rules_denoted (spelled file walk.so_far.last t)) (last_is apart) ∙ append-nil list))

  pub rules_nest : node.rule ≢ definition_rule → nesting tree ≤ max_open
  rules_nest apart =
      let flat : nesting (trees_from_branch node) ≡ 0 = ap nesting (last_is apart) in
      omega (arith, walk.so_far.limit, flat)

  -- the first count out of range in this definition is the first in the tree
  pub rule_bad : (fault : DefinitionsFault) → HasBadCount file (tree_of_branch node) fault → HasBadCount file tree fault
  rule_bad =
      bad-more file (tree_of_branch node) tree (bad_counts file (trees_in node.rest))
      (walk.so_far.counts ∙ counts-first file node.rule node.span.start node.span.end (trees_in node.children) (trees_in node.rest))

  pub rules_fine : node.rule ≢ definition_rule → bad_counts file tree ≡ []
  rules_fine apart = walk.so_far.counts ∙ ap (bad_counts file) (last_is apart)
