-- Facts that `primary` and `parenthesized` use about their node and the nodes below it.
use Rattle.std.proofs.Common.{◌≡◌, ◌≢◌, ℕ, ◌+◌, ◌≤◌, true, false, ◌||◌, List, [], ◌∷◌, ◌++◌, append-nil, drop, codes, IsTrue, refl, sym, ap, ◌∙◌, subst, arith, ◌==◌}
use Rattle.peg_bytes.specs.Extent.{Extent}
use Rattle.peg_tree.specs.Branches.{trees_in, trees_from_branch, tree_of_branch}
use Rattle.peg_tree.specs.Trees.{Trees, NoTrees, Tree}
use Rattle.peg_tree.specs.declared.forest.Branch.{Branch}
use Rattle.peg_semantics.specs.Form.{Form, Name}
use Rattle.peg_metagrammar.specs.Figure.{primary_body}
use Rattle.peg_metagrammar.specs.FigureRules.{expression_rule, primary_rule, identifier_rule, literal_rule}
use Rattle.peg_metagrammar.specs.FigureRules.{class_rule, open_sign_rule, close_rule}
use Rattle.peg_metagrammar.specs.Nesting.{nesting, has_open}
use Rattle.peg_metagrammar.specs.Denotation.{Denotation, Word, text_end, spelled, bad_count, bad_counts}
use Rattle.peg_metagrammar.proofs.FigureNames.{primary-meaning_of}
use Rattle.peg_lexer.proofs.PieceSizes.{blank-literal_bytes}
use Rattle.peg_lexer.specs.declared.token.TokenKind.{TokenKind}
use Rattle.peg_lexer.specs.declared.token.TokenKind.TheVariants as kind
use Rattle.peg_lexer.specs.Tokens.{rule_of_kind}
use Rattle.peg_bootstrap.specs.FigureNodes.{IsNode, last_start}
use Rattle.peg_bootstrap.specs.AstBuilderCode.{Builds}
use Rattle.peg_bootstrap.proofs.Facts.{then_some, one_child}
use Rattle.peg_bootstrap.proofs.Loops.{nesting-first, counts-first, counts-following}
use Rattle.peg_bootstrap.proofs.NodeSpells.{Opened, opened, node-passes, node-counts, primary-nesting, primary-name, primary-parentheses}
use Rattle.peg_bootstrap.proofs.Shapes.{Ends, Then_is, PrimaryChildren, primary_children}
use Rattle.peg_lexer.proofs.KindRules.{number_of}
use Rattle.peg_bootstrap.proofs.TokenNodes.{Token, token}

module _ (file : List ℕ) (node : Branch) (m : IsNode file (codes "Primary") node) where
  primary_opened : Opened file primary_rule primary_body node.rule node.span.start node.span.end (trees_in node.children)
  primary_opened = opened (codes "Primary") primary-meaning_of.1 m

  primary_shape : PrimaryChildren file node.span.end node.span.start (trees_in node.children)
  primary_shape = primary_children primary_opened.inside

  pub primary_some : trees_in node.children ≢ NoTrees
  primary_some = by primary_shape
    where
      by : PrimaryChildren file node.span.end node.span.start (trees_in node.children) → trees_in node.children ≢ NoTrees
      by (PrimaryChildren.name is) = then_some _ _ _ _ _ _ is
      by (PrimaryChildren.parentheses is) = then_some _ _ _ _ _ _ is
      by (PrimaryChildren.literal is) = then_some _ _ _ _ _ _ is
      by (PrimaryChildren.class is) = then_some _ _ _ _ _ _ is
      by (PrimaryChildren.dot is) = then_some _ _ _ _ _ _ is

  module _ (first : Branch) (is : trees_in node.children ≡ trees_from_branch first) where
    -- one token below
    pub record OneToken (k : TokenKind) : Type 0 where
      pub start : first.span.start ≡ node.span.start
      pub match : IsNode file (rule_of_kind k) first
      pub none : trees_in first.rest ≡ NoTrees

    token_from : (k : TokenKind) → Then_is file (rule_of_kind k) (number_of k) (Ends node.span.end) node.span.start (trees_in node.children)
        → OneToken k
    token_from k shape =
        let here = subst (Then_is file (rule_of_kind k) (number_of k) (Ends node.span.end) node.span.start) is shape in
        record { start = here.1; match = here.2; none = here.3.1 }

    -- the rule of the first child
    rule_from : (name : List ℕ) (number : ℕ) (next : ℕ → Trees → Type 0)
        → Then_is file name number next node.span.start (trees_in node.children) → first.rule ≡ number
    rule_from name number next shape = (subst (Then_is file name number next node.span.start) is shape).0

    pub primary_word : first.rule ≡ identifier_rule → OneToken kind.Ident
    primary_word known = by primary_shape
      where
        by : PrimaryChildren file node.span.end node.span.start (trees_in node.children) → OneToken kind.Ident
        by (PrimaryChildren.name shape) = token_from kind.Ident shape
        by (PrimaryChildren.parentheses shape) = absurd (let bad : 23 ≡ 7 = sym (rule_from _ _ _ shape) ∙ known in cc)
        by (PrimaryChildren.literal shape) = absurd (let bad : 10 ≡ 7 = sym (rule_from _ _ _ shape) ∙ known in cc)
        by (PrimaryChildren.class shape) = absurd (let bad : 11 ≡ 7 = sym (rule_from _ _ _ shape) ∙ known in cc)
        by (PrimaryChildren.dot shape) = absurd (let bad : 25 ≡ 7 = sym (rule_from _ _ _ shape) ∙ known in cc)

    pub primary_literal : first.rule ≡ literal_rule → OneToken kind.Literal
    primary_literal known = by primary_shape
      where
        by : PrimaryChildren file node.span.end node.span.start (trees_in node.children) → OneToken kind.Literal
        by (PrimaryChildren.literal shape) = token_from kind.Literal shape
        by (PrimaryChildren.parentheses shape) = absurd (let bad : 23 ≡ 10 = sym (rule_from _ _ _ shape) ∙ known in cc)
        by (PrimaryChildren.name shape) = absurd (let bad : 7 ≡ 10 = sym (rule_from _ _ _ shape) ∙ known in cc)
        by (PrimaryChildren.class shape) = absurd (let bad : 11 ≡ 10 = sym (rule_from _ _ _ shape) ∙ known in cc)
        by (PrimaryChildren.dot shape) = absurd (let bad : 25 ≡ 10 = sym (rule_from _ _ _ shape) ∙ known in cc)

    pub primary_class : first.rule ≡ class_rule → OneToken kind.Class
    primary_class known = by primary_shape
      where
        by : PrimaryChildren file node.span.end node.span.start (trees_in node.children) → OneToken kind.Class
        by (PrimaryChildren.class shape) = token_from kind.Class shape
        by (PrimaryChildren.parentheses shape) = absurd (let bad : 23 ≡ 11 = sym (rule_from _ _ _ shape) ∙ known in cc)
        by (PrimaryChildren.name shape) = absurd (let bad : 7 ≡ 11 = sym (rule_from _ _ _ shape) ∙ known in cc)
        by (PrimaryChildren.literal shape) = absurd (let bad : 10 ≡ 11 = sym (rule_from _ _ _ shape) ∙ known in cc)
        by (PrimaryChildren.dot shape) = absurd (let bad : 25 ≡ 11 = sym (rule_from _ _ _ shape) ∙ known in cc)

    pub primary_dot : first.rule ≢ identifier_rule → first.rule ≢ open_sign_rule → first.rule ≢ literal_rule
        → first.rule ≢ class_rule → OneToken kind.Dot
    primary_dot a b c d = by primary_shape
      where
        by : PrimaryChildren file node.span.end node.span.start (trees_in node.children) → OneToken kind.Dot
        by (PrimaryChildren.dot shape) = token_from kind.Dot shape
        by (PrimaryChildren.parentheses shape) = absurd (b (rule_from _ _ _ shape))
        by (PrimaryChildren.name shape) = absurd (a (rule_from _ _ _ shape))
        by (PrimaryChildren.literal shape) = absurd (c (rule_from _ _ _ shape))
        by (PrimaryChildren.class shape) = absurd (d (rule_from _ _ _ shape))

    module _ {k : TokenKind} (one : OneToken k) where
      pub primary_says : (before : ℕ) (f : Form) (last : ℕ) → ((l : ℕ) → Rattle.peg_metagrammar.specs.Denotation.node_spelled file primary_rule before node.span.start node.span.end l
          (Rattle.peg_metagrammar.specs.Denotation.Expression f ∷ []) ≡ Rattle.peg_metagrammar.specs.Denotation.Expression f ∷ [])
          → Builds file before (tree_of_branch first) f last → Builds file before (tree_of_branch node) f last
      primary_says before f last passes says =
          node-passes file primary_rule node.rule node.span.start node.span.end (trees_in node.children) primary_opened.is refl
          passes (subst (λ t. Builds file before t f last) (sym (one_child node first is one.none)) says)

      pub primary_name_says : (before : ℕ) (name : List ℕ) (span : Extent) (last : ℕ)
          → spelled file before (tree_of_branch first) ≡ Word name span ∷ [] → text_end before (tree_of_branch first) ≡ last
          → Builds file before (tree_of_branch node) (Name name span) last
      primary_name_says before name span last pieces ends =
          primary-name file before node.rule node.span.start node.span.end (trees_in node.children) name span last primary_opened.is
          (ap (spelled file before) (one_child node first is one.none) ∙ pieces)
          (ap (text_end before) (one_child node first is one.none) ∙ ends)

      pub primary_flat : (number_of k == open_sign_rule) ≡ false → nesting (tree_of_branch node) ≡ 0
      primary_flat apart =
          let t = token file k first.rule first.span.start first.span.end (trees_in first.children) one.match in
          let child = one_child node first is one.none in
          primary-nesting node.rule node.span.start node.span.end (trees_in node.children) false primary_opened.is
          (ap has_open child ∙ (t.opens ∙ apart)) ∙ ap (λ n. 0 + n) (ap nesting child ∙ t.flat)

      pub primary_fine : ((position : ℕ) (pieces : List Denotation) → bad_count (number_of k) position pieces ≡ [])
          → bad_counts file (tree_of_branch node) ≡ []
      primary_fine fine =
          let t = token file k first.rule first.span.start first.span.end (trees_in first.children) one.match in
          node-counts file primary_rule node.rule node.span.start node.span.end (trees_in node.children) primary_opened.is refl
          ∙ (ap (bad_counts file) (one_child node first is one.none) ∙ (t.counts ∙ fine first.span.start t.piece.spells))

  -- ---- parentheses

  pub opens_from : (first : Branch) → trees_in node.children ≡ trees_from_branch first → first.rule ≡ open_sign_rule
      → IsTrue (has_open (trees_in node.children))
  opens_from first is known =
      subst (λ t. IsTrue (has_open t)) (sym is)
      (subst (λ n. IsTrue (n == 23 || has_open (trees_in first.rest))) (sym known) refl)

  module _ (opens : IsTrue (has_open (trees_in node.children))) where
    abbrev Inside : ℕ → Trees → Type 0
    Inside = Then_is file (codes "Expression") expression_rule (Then_is file (codes "CLOSE") close_rule (Ends node.span.end))

    no_open : (k : TokenKind) → (number_of k == open_sign_rule) ≡ false
        → Then_is file (rule_of_kind k) (number_of k) (Ends node.span.end) node.span.start (trees_in node.children) → ⊥
    no_open k apart shape = by (trees_in node.children) opens shape
      where
        by : (t : Trees) → IsTrue (has_open t) → Then_is file (rule_of_kind k) (number_of k) (Ends node.span.end) node.span.start t → ⊥
        by NoTrees h here = here
        by (Tree r s e c rest) h here =
            let none : has_open (Tree r s e c NoTrees) ≡ false = (token file k r s e c here.2).opens ∙ apart in
            let whole : has_open (Tree r s e c rest) ≡ false = ap (λ t. has_open (Tree r s e c t)) here.3.1 ∙ none in
            (let bad : false ≡ true = sym whole ∙ h in cc)

    parenthesized_shape : Then_is file (codes "OPEN") open_sign_rule Inside node.span.start (trees_in node.children)
    parenthesized_shape = by primary_shape
      where
        by : PrimaryChildren file node.span.end node.span.start (trees_in node.children)
            → Then_is file (codes "OPEN") open_sign_rule Inside node.span.start (trees_in node.children)
        by (PrimaryChildren.parentheses shape) = shape
        by (PrimaryChildren.name shape) = absurd (no_open kind.Ident refl shape)
        by (PrimaryChildren.literal shape) = absurd (no_open kind.Literal refl shape)
        by (PrimaryChildren.class shape) = absurd (no_open kind.Class refl shape)
        by (PrimaryChildren.dot shape) = absurd (no_open kind.Dot refl shape)

    -- the node nests one level deeper than its children
    pub parenthesized_nests : nesting (tree_of_branch node) ≡ 1 + nesting (trees_in node.children)
    parenthesized_nests =
        primary-nesting node.rule node.span.start node.span.end (trees_in node.children) true primary_opened.is opens

    module _ (opening : Branch) (is : trees_in node.children ≡ trees_from_branch opening) where
      open_here : Then_is file (codes "OPEN") open_sign_rule Inside node.span.start (trees_from_branch opening)
      open_here = subst (Then_is file (codes "OPEN") open_sign_rule Inside node.span.start) is parenthesized_shape

      open_token : Token file kind.Open opening.rule opening.span.start opening.span.end (trees_in opening.children)
      open_token = token file kind.Open opening.rule opening.span.start opening.span.end (trees_in opening.children) open_here.2

      pub inside_some : trees_in opening.rest ≢ NoTrees
      inside_some = then_some _ _ _ _ _ _ open_here.3

      module _ (inside : Branch) (inside_is : trees_in opening.rest ≡ trees_from_branch inside) where
        inside_here : Inside opening.span.end (trees_from_branch inside)
        inside_here = subst (Inside opening.span.end) inside_is open_here.3

        pub inside_expression : IsNode file (codes "Expression") inside
        inside_expression = inside_here.2

        pub inside_following : last_start opening.span.start (trees_in opening.children) ≤ inside.span.start
        inside_following = let order = open_token.order in omega (arith, order, open_token.last, inside_here.1)

        pub closing_some : trees_in inside.rest ≢ NoTrees
        closing_some = then_some _ _ _ _ _ _ inside_here.3

        module _ (closing : Branch) (closing_is : trees_in inside.rest ≡ trees_from_branch closing) where
          closing_here : Then_is file (codes "CLOSE") close_rule (Ends node.span.end) inside.span.end (trees_from_branch closing)
          closing_here = subst (Then_is file (codes "CLOSE") close_rule (Ends node.span.end) inside.span.end) closing_is inside_here.3

          closing_token : Token file kind.Close closing.rule closing.span.start closing.span.end (trees_in closing.children)
          closing_token = token file kind.Close closing.rule closing.span.start closing.span.end (trees_in closing.children) closing_here.2

          all_is : trees_in node.children ≡ Tree opening.rule opening.span.start opening.span.end (trees_in opening.children)
              (Tree inside.rule inside.span.start inside.span.end (trees_in inside.children) (tree_of_branch closing))
          all_is =
              is ∙ ap (Tree opening.rule opening.span.start opening.span.end (trees_in opening.children))
              (inside_is ∙ ap (Tree inside.rule inside.span.start inside.span.end (trees_in inside.children))
              (closing_is ∙ ap (Tree closing.rule closing.span.start closing.span.end (trees_in closing.children)) closing_here.3.1))

          pub parenthesized_says : (f : Form) (last : ℕ)
              → Builds file (last_start opening.span.start (trees_in opening.children)) (tree_of_branch inside) f last → (before : ℕ)
              → Builds file before (tree_of_branch node) f (last_start closing.span.start (trees_in closing.children))
          parenthesized_says f last says before =
              let opened_end = last_start opening.span.start (trees_in opening.children) in
              subst (λ t. Builds file before (Tree node.rule node.span.start node.span.end t NoTrees) f (last_start closing.span.start (trees_in closing.children))) (sym all_is)
              (primary-parentheses file before node.rule node.span.start node.span.end opening.rule opening.span.start opening.span.end
              (trees_in opening.children) inside.rule inside.span.start inside.span.end (trees_in inside.children) (tree_of_branch closing)
              opened_end last (last_start closing.span.start (trees_in closing.children)) f primary_opened.is
              (open_token.spells before ∙ (blank-literal_bytes (codes "(")).blank (drop opening.span.start file) open_token.piece open_token.found)
              (open_token.ends before ∙ sym open_token.last) says
              (closing_token.spells last ∙ (blank-literal_bytes (codes ")")).blank (drop closing.span.start file) closing_token.piece closing_token.found)
              (closing_token.ends last ∙ sym closing_token.last))

          pub inside_nests : nesting (tree_of_branch node) ≡ 1 + nesting (tree_of_branch inside)
          inside_nests =
              let below = nesting-first opening.rule opening.span.start opening.span.end (trees_in opening.children)
              (Tree inside.rule inside.span.start inside.span.end (trees_in inside.children) (tree_of_branch closing)) in
              let next = nesting-first inside.rule inside.span.start inside.span.end (trees_in inside.children) (tree_of_branch closing) in
              let count : nesting (trees_in node.children) ≡ nesting (tree_of_branch inside) =
              ap nesting all_is ∙ (let sum : nesting (Tree opening.rule opening.span.start opening.span.end (trees_in opening.children)
              (Tree inside.rule inside.span.start inside.span.end (trees_in inside.children) (tree_of_branch closing))) ≡ nesting (tree_of_branch inside) =
              omega (arith, below, next, open_token.flat, closing_token.flat) in sum) in
              parenthesized_nests ∙ ap (λ n. 1 + n) count

          pub inside_counts : bad_counts file (tree_of_branch node) ≡ bad_counts file (tree_of_branch inside)
          inside_counts =
              node-counts file primary_rule node.rule node.span.start node.span.end (trees_in node.children) primary_opened.is refl
              ∙ (ap (bad_counts file) all_is
              ∙ (counts-following file opening.rule opening.span.start opening.span.end (trees_in opening.children)
              (Tree inside.rule inside.span.start inside.span.end (trees_in inside.children) (tree_of_branch closing)) open_token.counts
              ∙ (counts-first file inside.rule inside.span.start inside.span.end (trees_in inside.children) (tree_of_branch closing)
              ∙ (ap (λ (l : List ℕ). bad_counts file (tree_of_branch inside) ++ l) closing_token.counts
              ∙ append-nil (bad_counts file (tree_of_branch inside))))))

          pub parenthesized_order : node.span.start ≤ last_start closing.span.start (trees_in closing.children)
          parenthesized_order =
              let close_order = closing_token.last in
              omega (arith, close_order, open_here.1, inside_here.1, closing_here.1, opening.span.ordered, inside.span.ordered)
