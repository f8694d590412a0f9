-- Facts that `sequence` and `expression` use about their node and the nodes below it.
use Rattle.std.proofs.Common.{◌≡◌, ◌≢◌, ℕ, ◌<◌, ◌≤◌, List, [], ◌∷◌, ◌++◌, drop, codes, refl, sym, ◌∙◌, subst, arith}
use Rattle.peg_bytes.specs.Extent.{between}
use Rattle.peg_tree.specs.Branches.{trees_in, trees_from_branch, tree_of_branch}
use Rattle.peg_tree.specs.Trees.{Trees, NoTrees, Tree}
use Rattle.peg_tree.specs.declared.forest.Branch.{Branch}
use Rattle.peg_semantics.specs.Form.{Form}
use Rattle.peg_metagrammar.specs.Figure.{sequence_body, expression_body}
use Rattle.peg_metagrammar.specs.FigureRules.{expression_rule, sequence_rule}
use Rattle.peg_metagrammar.specs.Nesting.{nesting}
use Rattle.peg_metagrammar.specs.Denotation.{sequence_spelled, choice_spelled, bad_counts}
use Rattle.peg_bootstrap.specs.declared.fault.DefinitionsFault.{DefinitionsFault}
use Rattle.peg_metagrammar.proofs.FigureNames.{expression-meaning_of, sequence-meaning_of}
use Rattle.peg_lexer.proofs.PieceSizes.{blank-literal_bytes}
use Rattle.peg_lexer.specs.declared.token.TokenKind.TheVariants as kind
use Rattle.peg_bootstrap.specs.FigureNodes.{IsNode, last_start, HasBadCount}
use Rattle.peg_bootstrap.specs.AstBuilderCode.{Builds}
use Rattle.peg_bootstrap.proofs.Facts.{then_some}
use Rattle.peg_bootstrap.proofs.Loops.{SoFar, so_far-none, so_far-one, so_far-pass, so_far-all, so_far-deep, so_far-bad, bad-same}
use Rattle.peg_bootstrap.proofs.NodeSpells.{Opened, opened, node-nesting, node-counts, sequence-says, expression-says}
use Rattle.peg_bootstrap.proofs.Shapes.{Then_is, Prefixes, sequence_children, Alternatives, expression_children}
use Rattle.peg_bootstrap.proofs.TokenNodes.{Token, token}
use Rattle.peg_bootstrap.proofs.Walks as walks

-- an invariant, with equal lists and equal ends
pub same_walk : {file : List ℕ} {rest_is : ℕ → Trees → Type 0} {before start left : ℕ} {nodes : Trees} {f g : List Form} {m n : ℕ}
    {l k : ℕ} {rest : Trees} → g ≡ f → k ≡ l → walks.Spelling file rest_is before start left nodes f m l rest
    → (0 < n → start ≤ k) → walks.Spelling file rest_is before start left nodes g n k rest
same_walk {file} {before = before} {left = left} {nodes} {f = f} {g} {l = l} {k} {rest} e is it some = record {
  position = it.position;
  shape = it.shape;
  following = it.following;
  so_far = subst (λ n. SoFar file before left nodes g n rest) (sym is) (subst (λ h. SoFar file before left nodes h l rest) (sym e) it.so_far);
  order = omega (arith, it.order, is);
  some = some;
}

module _ (file : List ℕ) (node : Branch) (before left : ℕ) (following : before ≤ node.span.start) where
  -- ---- Sequence

  module _ (m : IsNode file (codes "Sequence") node) where
    sequence_opened : Opened file sequence_rule sequence_body node.rule node.span.start node.span.end (trees_in node.children)
    sequence_opened = opened (codes "Sequence") sequence-meaning_of.1 m

    abbrev Items : List Form → (count last : ℕ) → Trees → Type 0
    Items = walks.Spelling file (Prefixes file node.span.end) before node.span.start left (trees_in node.children)

    pub items_none : Items [] 0 before (trees_in node.children)
    items_none = record {
      position = node.span.start;
      shape = sequence_children sequence_opened.inside;
      following = omega arith;
      so_far = so_far-none file before left (trees_in node.children);
      order = omega arith;
      some = λ none. absurd (let bad : ⊥ = omega (arith, none) in bad);
    }

    module _ {list : List Form} {count last : ℕ} {rest : Trees} (walk : Items list count last rest) (item : Branch)
        (is : rest ≡ trees_from_branch item) where
      item_here : Prefixes file node.span.end walk.position (trees_from_branch item)
      item_here = subst (Prefixes file node.span.end walk.position) is walk.shape

      item_walk : SoFar file before left (trees_in node.children) list last (trees_from_branch item)
      item_walk = subst (SoFar file before left (trees_in node.children) list last) is walk.so_far

      pub item_prefix : IsNode file (codes "Prefix") item
      item_prefix = item_here.2

      pub items_one : (f : Form) (next count' : ℕ) → Builds file last (tree_of_branch item) f next → nesting (tree_of_branch item) ≤ left
          → bad_counts file (tree_of_branch item) ≡ [] → item.span.start ≤ next → Items (list ++ f ∷ []) count' next (trees_in item.rest)
      items_one f next count' says within fine order = record {
        position = item.span.end;
        shape = item_here.3;
        following = omega (arith, item_here.1, walk.following, item.span.ordered);
        so_far = so_far-one item.rule item.span.start item.span.end (trees_in item.children) (trees_in item.rest) f next item_walk
            says.pieces says.ends within fine;
        order = omega (arith, order, item_here.1, walk.following);
        some = λ some. omega (arith, order, item_here.1, walk.following);
      }

      pub item_deep : left < nesting (tree_of_branch item) → left < nesting (tree_of_branch node)
      item_deep deep =
          subst (λ n. left < n) (sym (node-nesting sequence_rule node.rule node.span.start node.span.end (trees_in node.children) sequence_opened.is refl))
          (so_far-deep item.rule item.span.start item.span.end (trees_in item.children) (trees_in item.rest) item_walk deep)

      pub item_bad : (fault : DefinitionsFault) → HasBadCount file (tree_of_branch item) fault → HasBadCount file (tree_of_branch node) fault
      item_bad fault bad =
          bad-same file (trees_in node.children) (tree_of_branch node) (node-counts file sequence_rule node.rule node.span.start node.span.end (trees_in node.children) sequence_opened.is refl) fault
          (so_far-bad item.rule item.span.start item.span.end (trees_in item.children) (trees_in item.rest) item_walk fault bad)

    module _ {list : List Form} {count last : ℕ} {rest : Trees} (walk : Items list count last rest) (none : rest ≡ NoTrees) where
      items_walk : SoFar file before left (trees_in node.children) list last NoTrees
      items_walk = subst (SoFar file before left (trees_in node.children) list last) none walk.so_far

      pub items_say : Builds file before (tree_of_branch node) (sequence_spelled before (between node.span.start last) list) last
      items_say =
          sequence-says file before node.rule node.span.start node.span.end (trees_in node.children) list last sequence_opened.is
          (so_far-all items_walk) items_walk.ends

      pub items_nest : nesting (tree_of_branch node) ≤ left
      items_nest =
          subst (λ n. n ≤ left) (sym (node-nesting sequence_rule node.rule node.span.start node.span.end (trees_in node.children) sequence_opened.is refl))
          (omega (arith, items_walk.limit))

      pub items_fine : bad_counts file (tree_of_branch node) ≡ []
      items_fine =
          node-counts file sequence_rule node.rule node.span.start node.span.end (trees_in node.children) sequence_opened.is refl
          ∙ items_walk.counts

  -- ---- Expression

  module _ (m : IsNode file (codes "Expression") node) where
    expression_opened : Opened file expression_rule expression_body node.rule node.span.start node.span.end (trees_in node.children)
    expression_opened = opened (codes "Expression") expression-meaning_of.1 m

    expression_shape : Then_is file (codes "Sequence") sequence_rule (Alternatives file node.span.end) node.span.start (trees_in node.children)
    expression_shape = expression_children expression_opened.inside

    abbrev Choices : List Form → (count last : ℕ) → Trees → Type 0
    Choices = walks.Spelling file (Alternatives file node.span.end) before node.span.start left (trees_in node.children)

    pub expression_some : trees_in node.children ≢ NoTrees
    expression_some = then_some _ _ _ _ _ _ expression_shape

    module _ (first : Branch) (is : trees_in node.children ≡ trees_from_branch first) where
      first_here : Then_is file (codes "Sequence") sequence_rule (Alternatives file node.span.end) node.span.start (trees_from_branch first)
      first_here = subst (Then_is file (codes "Sequence") sequence_rule (Alternatives file node.span.end) node.span.start) is expression_shape

      pub first_sequence : IsNode file (codes "Sequence") first
      first_sequence = first_here.2

      pub first_following : before ≤ first.span.start
      first_following = omega (arith, first_here.1, following)

      pub choices_one : (f : Form) (last : ℕ) → Builds file before (tree_of_branch first) f last → nesting (tree_of_branch first) ≤ left
          → bad_counts file (tree_of_branch first) ≡ [] → before ≤ last → Choices (f ∷ []) 0 last (trees_in first.rest)
      choices_one f last says within fine order = record {
        position = first.span.end;
        shape = first_here.3;
        following = omega (arith, first_here.1, first.span.ordered);
        so_far = so_far-one first.rule first.span.start first.span.end (trees_in first.children) (trees_in first.rest) f last
            (subst (SoFar file before left (trees_in node.children) [] before) is (so_far-none file before left (trees_in node.children)))
            says.pieces says.ends within fine;
        order = order;
        some = λ none. absurd (let bad : ⊥ = omega (arith, none) in bad);
      }

      pub first_bad : (fault : DefinitionsFault) → HasBadCount file (tree_of_branch first) fault → HasBadCount file (tree_of_branch node) fault
      first_bad fault bad =
          bad-same file (trees_in node.children) (tree_of_branch node) (node-counts file expression_rule node.rule node.span.start node.span.end (trees_in node.children) expression_opened.is refl) fault
          (so_far-bad first.rule first.span.start first.span.end (trees_in first.children) (trees_in first.rest)
          (subst (SoFar file before left (trees_in node.children) [] before) is (so_far-none file before left (trees_in node.children))) fault bad)

    module _ {list : List Form} {count last : ℕ} {rest : Trees} (walk : Choices list count last rest) (slash : Branch)
        (is : rest ≡ trees_from_branch slash) where
      pub slash_some : trees_in slash.rest ≢ NoTrees
      slash_some none =
          subst (λ t. Alternatives file node.span.end walk.position (Tree slash.rule slash.span.start slash.span.end (trees_in slash.children) t)) none
          (subst (Alternatives file node.span.end walk.position) is walk.shape)

      module _ (next : Branch) (next_is : trees_in slash.rest ≡ trees_from_branch next) where
        pair_here : Alternatives file node.span.end walk.position
            (Tree slash.rule slash.span.start slash.span.end (trees_in slash.children) (trees_from_branch next))
        pair_here =
            subst (λ t. Alternatives file node.span.end walk.position (Tree slash.rule slash.span.start slash.span.end (trees_in slash.children) t)) next_is
            (subst (Alternatives file node.span.end walk.position) is walk.shape)

        slash_token : Token file kind.Slash slash.rule slash.span.start slash.span.end (trees_in slash.children)
        slash_token = token file kind.Slash slash.rule slash.span.start slash.span.end (trees_in slash.children) pair_here.2

        pub next_sequence : IsNode file (codes "Sequence") next
        next_sequence = pair_here.5

        slash_end : ℕ
        slash_end = last_start slash.span.start (trees_in slash.children)

        pub next_following : last_start slash.span.start (trees_in slash.children) ≤ next.span.start
        next_following = let order = slash_token.order in omega (arith, order, slash_token.last, pair_here.4)

        slash_walk : SoFar file before left (trees_in node.children) list (last_start slash.span.start (trees_in slash.children)) (trees_from_branch next)
        slash_walk =
            so_far-pass slash.rule slash.span.start slash.span.end (trees_in slash.children) (trees_from_branch next)
            (last_start slash.span.start (trees_in slash.children))
            (subst (λ t. SoFar file before left (trees_in node.children) list last (Tree slash.rule slash.span.start slash.span.end (trees_in slash.children) t))
            next_is (subst (SoFar file before left (trees_in node.children) list last) is walk.so_far))
            (slash_token.spells last ∙ (blank-literal_bytes (codes "/")).blank (drop slash.span.start file) slash_token.piece slash_token.found)
            (slash_token.ends last ∙ sym slash_token.last) slash_token.flat slash_token.counts

        pub choices_more : (f : Form) (stop count' : ℕ) → Builds file (last_start slash.span.start (trees_in slash.children)) (tree_of_branch next) f stop
            → nesting (tree_of_branch next) ≤ left → bad_counts file (tree_of_branch next) ≡ [] → last_start slash.span.start (trees_in slash.children) ≤ stop
            → Choices (list ++ f ∷ []) count' stop (trees_in next.rest)
        choices_more f stop count' says within fine order = record {
          position = next.span.end;
          shape = pair_here.6;
          following = omega (arith, pair_here.1, pair_here.4, walk.following, slash.span.ordered, next.span.ordered);
          so_far = so_far-one next.rule next.span.start next.span.end (trees_in next.children) (trees_in next.rest) f stop slash_walk
              says.pieces says.ends within fine;
          order = omega (arith, order, slash_token.last, pair_here.1, walk.following);
          some = λ some. omega (arith, order, slash_token.last, pair_here.1, walk.following);
        }

        pub next_deep : left < nesting (tree_of_branch next) → left < nesting (tree_of_branch node)
        next_deep deep =
            subst (λ n. left < n) (sym (node-nesting expression_rule node.rule node.span.start node.span.end (trees_in node.children) expression_opened.is refl))
            (so_far-deep next.rule next.span.start next.span.end (trees_in next.children) (trees_in next.rest) slash_walk deep)

        pub next_bad : (fault : DefinitionsFault) → HasBadCount file (tree_of_branch next) fault → HasBadCount file (tree_of_branch node) fault
        next_bad fault bad =
            bad-same file (trees_in node.children) (tree_of_branch node) (node-counts file expression_rule node.rule node.span.start node.span.end (trees_in node.children) expression_opened.is refl) fault
            (so_far-bad next.rule next.span.start next.span.end (trees_in next.children) (trees_in next.rest) slash_walk fault bad)

    module _ {list : List Form} {count last : ℕ} {rest : Trees} (walk : Choices list count last rest) (none : rest ≡ NoTrees) where
      choices_walk : SoFar file before left (trees_in node.children) list last NoTrees
      choices_walk = subst (SoFar file before left (trees_in node.children) list last) none walk.so_far

      pub choices_say : Builds file before (tree_of_branch node) (choice_spelled (between node.span.start last) list) last
      choices_say =
          expression-says file before node.rule node.span.start node.span.end (trees_in node.children) list last expression_opened.is
          (so_far-all choices_walk) choices_walk.ends

      pub choices_nest : nesting (tree_of_branch node) ≤ left
      choices_nest =
          subst (λ n. n ≤ left) (sym (node-nesting expression_rule node.rule node.span.start node.span.end (trees_in node.children) expression_opened.is refl))
          (omega (arith, choices_walk.limit))

      pub choices_fine : bad_counts file (tree_of_branch node) ≡ []
      choices_fine =
          node-counts file expression_rule node.rule node.span.start node.span.end (trees_in node.children) expression_opened.is refl
          ∙ choices_walk.counts
