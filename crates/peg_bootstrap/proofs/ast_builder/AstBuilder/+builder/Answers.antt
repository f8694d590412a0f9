use Rattle.std.proofs.Common.{rules, ◌<◌, ◌≤◌, ◌-◌, ℕ, List, ◌++◌, drop, length, map, ◌∷◌}
use Rattle.peg_metagrammar.specs.Denotation.{bad_counts}
use Rattle.peg_lexer.specs.LexicalCode.{count_spelled}
use Rattle.peg_bootstrap.proofs.Loops.{bad-same}
use Rattle.peg_bootstrap.proofs.ast_builder.AstBuilder.+builder.Goals.{suffix-then-sign-eq-COUNT+in_ok-expression, suffix-else-sign-eq-COUNT+in_ok-expression-2}
use Rattle.peg_metagrammar.specs.Nesting.{nesting}
use Rattle.peg_tree.specs.Branches.{trees_in, tree_of_branch}
use Rattle.peg_bootstrap.specs.AstBuilderCode.{file_in, BuildsAt}
use Rattle.std.proofs.Common.{refl, sym, ap, ◌∙◌, subst, arith}
use Rattle.peg_bootstrap.specs.FigureNodes.{sign_form, last_start, HasBadCount}
use Rattle.peg_bytes.specs.Extent.{between}
use Rattle.peg_bootstrap.proofs.Facts as facts
use Rattle.peg_bootstrap.proofs.ListFacts as lists
use Rattle.peg_bootstrap.proofs.PrimaryFacts as primary
use Rattle.peg_grammar.specs.Written.{form_of}
use Rattle.peg_bootstrap.proofs.Values.{says-same}
use Rattle.peg_bootstrap.proofs.ast_builder.AstBuilder.+builder.Goals as goal

pub expression-first-sequence-requires : goal.expression-first-sequence-requires
expression-first-sequence-requires t c =
    lists.expression_some (file_in c.args.self.now) c.args.node.now c.args.before c.args.left c.requires.ordered c.requires.node

pub expression-sequence-requires : goal.expression-sequence-requires
expression-sequence-requires t c =
    (omega arith, (lists.first_sequence (file_in c.args.self.now) c.args.node.now c.args.before c.args.left c.requires.ordered c.requires.node c.first-sequence.result c.first-sequence.ensures, lists.first_following (file_in c.args.self.now) c.args.node.now c.args.before c.args.left c.requires.ordered c.requires.node c.first-sequence.result c.first-sequence.ensures))

pub expression-alternatives-init : goal.expression-alternatives-init
expression-alternatives-init t c =
    lists.same_walk (ap (λ l. form_of c.in_ok-first.first.expression ∷ map form_of l) c.none-more.ensures.list) c.none-more.ensures.last
    (lists.choices_one (file_in c.args.self.now) c.args.node.now c.args.before c.args.left c.requires.ordered c.requires.node c.first-sequence.result c.first-sequence.ensures _ _ c.in_ok-first.ensures.spells c.in_ok-first.ensures.within c.in_ok-first.ensures.fine c.in_ok-first.ensures.order)
    (λ none. absurd (let bad : ⊥ = omega (arith, none, ap length c.none-more.ensures.list) in bad))

pub expression-sequence-requires-in-alternatives :
    goal.expression-sequence-requires-in-alternatives
expression-sequence-requires-in-alternatives t c =
    (omega arith, (lists.next_sequence (file_in c.args.self.now) c.args.node.now c.args.before c.args.left c.requires.ordered c.requires.node c.alternatives.invariant c.first-slash.result c.first-slash.ensures c.first-next.result c.first-next.ensures, (let following = lists.next_following (file_in c.args.self.now) c.args.node.now c.args.before c.args.left c.requires.ordered c.requires.node c.alternatives.invariant c.first-slash.result c.first-slash.ensures c.first-next.result c.first-next.ensures in omega (arith, following, c.token_end.ensures))))

pub expression-alternatives-preserved : goal.expression-alternatives-preserved
expression-alternatives-preserved t c =
    let walk = lists.choices_more (file_in c.args.self.now) c.args.node.now c.args.before c.args.left c.requires.ordered c.requires.node c.alternatives.invariant c.first-slash.result c.first-slash.ensures c.first-next.result c.first-next.ensures _ _ 1 (subst (λ n. BuildsAt (file_in c.args.self.now) n (tree_of_branch c.first-next.result) c.in_ok-part.part) c.token_end.ensures c.in_ok-part.ensures.spells)
    c.in_ok-part.ensures.within c.in_ok-part.ensures.fine (subst (λ n. n ≤ c.in_ok-part.part.last) c.token_end.ensures c.in_ok-part.ensures.order) in
    lists.same_walk (ap (λ l. form_of c.in_ok-first.first.expression ∷ l) c.in_ok-add.ensures.list) c.in_ok-add.ensures.last walk
    (λ some. let h = walk.some (omega arith) in omega (arith, h, c.in_ok-add.ensures.last))

pub expression-returns-clause-spells : goal.expression-returns-clause-spells
expression-returns-clause-spells t c =
    says-same c.in_ok-into_choice.ensures.form c.in_ok-into_choice.ensures.last (lists.choices_say (file_in c.args.self.now) c.args.node.now c.args.before c.args.left c.requires.ordered c.requires.node c.alternatives.invariant (search rules))

pub expression-returns-clause-within : goal.expression-returns-clause-within
expression-returns-clause-within t c =
    lists.choices_nest (file_in c.args.self.now) c.args.node.now c.args.before c.args.left c.requires.ordered c.requires.node c.alternatives.invariant (search rules)

pub parenthesized-returns-then-left-eq0-clause-deep :
    goal.parenthesized-returns-then-left-eq0-clause-deep
parenthesized-returns-then-left-eq0-clause-deep t c stated =
    subst (λ n. c.args.left < n) (sym (primary.parenthesized_nests (file_in c.args.self.now) c.args.node.now c.requires.node c.requires.opens)) (omega arith)

pub parenthesized-first-inside-requires : goal.parenthesized-first-inside-requires
parenthesized-first-inside-requires t c =
    primary.inside_some (file_in c.args.self.now) c.args.node.now c.requires.node c.requires.opens c.first-opening.result c.first-opening.ensures

pub parenthesized-first-closing-requires : goal.parenthesized-first-closing-requires
parenthesized-first-closing-requires t c =
    primary.closing_some (file_in c.args.self.now) c.args.node.now c.requires.node c.requires.opens c.first-opening.result c.first-opening.ensures c.first-inside.result c.first-inside.ensures

pub parenthesized-expression-requires : goal.parenthesized-expression-requires
parenthesized-expression-requires t c =
    (omega arith, (primary.inside_expression (file_in c.args.self.now) c.args.node.now c.requires.node c.requires.opens c.first-opening.result c.first-opening.ensures c.first-inside.result c.first-inside.ensures, (let order = primary.inside_following (file_in c.args.self.now) c.args.node.now c.requires.node c.requires.opens c.first-opening.result c.first-opening.ensures c.first-inside.result c.first-inside.ensures in omega (arith, order, c.token_end.ensures))))

pub parenthesized-returns-in_err-part-clause-deep :
    goal.parenthesized-returns-in_err-part-clause-deep
parenthesized-returns-in_err-part-clause-deep t c stated =
    subst (λ n. c.args.left < n) (sym (primary.inside_nests (file_in c.args.self.now) c.args.node.now c.requires.node c.requires.opens c.first-opening.result c.first-opening.ensures c.first-inside.result c.first-inside.ensures c.first-closing.result c.first-closing.ensures)) (let h = c.from_residual.ensures in let deep : c.args.left - 1 < nesting (tree_of_branch c.first-inside.result) = c.in_err-part.ensures.deep (search rules) in omega (arith, deep))

pub parenthesized-returns-clause-spells : goal.parenthesized-returns-clause-spells
parenthesized-returns-clause-spells t c before =
    says-same refl c.token_end-2.ensures
    (primary.parenthesized_says (file_in c.args.self.now) c.args.node.now c.requires.node c.requires.opens c.first-opening.result c.first-opening.ensures c.first-inside.result c.first-inside.ensures c.first-closing.result c.first-closing.ensures _ _ (subst (λ n. BuildsAt (file_in c.args.self.now) n (tree_of_branch c.first-inside.result) c.in_ok-part.part) c.token_end.ensures c.in_ok-part.ensures.spells) before)

pub parenthesized-returns-clause-order : goal.parenthesized-returns-clause-order
parenthesized-returns-clause-order t c =
    let order = primary.parenthesized_order (file_in c.args.self.now) c.args.node.now c.requires.node c.requires.opens c.first-opening.result c.first-opening.ensures c.first-inside.result c.first-inside.ensures c.first-closing.result c.first-closing.ensures in omega (arith, order, c.token_end-2.ensures)

pub parenthesized-returns-clause-within : goal.parenthesized-returns-clause-within
parenthesized-returns-clause-within t c =
    subst (λ n. n ≤ c.args.left) (sym (primary.inside_nests (file_in c.args.self.now) c.args.node.now c.requires.node c.requires.opens c.first-opening.result c.first-opening.ensures c.first-inside.result c.first-inside.ensures c.first-closing.result c.first-closing.ensures)) (omega (arith, c.in_ok-part.ensures.within, c.if-left-eq0.false))

pub prefix-first-first-requires : goal.prefix-first-first-requires
prefix-first-first-requires t c =
    facts.prefix_some (file_in c.args.self.now) c.args.node.now c.requires.node

pub prefix-suffix-requires : goal.prefix-suffix-requires
prefix-suffix-requires t c =
    (omega arith, (facts.prefix_plain (file_in c.args.self.now) c.args.node.now c.requires.node c.first-first.result c.first-first.ensures c.if-first-eq-SUFFIX.true).suffix)

pub prefix-returns-then-first-eq-SUFFIX-clause-spells :
    goal.prefix-returns-then-first-eq-SUFFIX-clause-spells
prefix-returns-then-first-eq-SUFFIX-clause-spells t c =
    facts.if_ok c.suffix.result (λ part spells before. (facts.prefix_plain (file_in c.args.self.now) c.args.node.now c.requires.node c.first-first.result c.first-first.ensures c.if-first-eq-SUFFIX.true).says before _ _ (spells before)) c.suffix.ensures.spells

pub prefix-returns-then-first-eq-SUFFIX-clause-order :
    goal.prefix-returns-then-first-eq-SUFFIX-clause-order
prefix-returns-then-first-eq-SUFFIX-clause-order t c =
    facts.if_ok c.suffix.result (λ part order. let e = (facts.prefix_plain (file_in c.args.self.now) c.args.node.now c.requires.node c.first-first.result c.first-first.ensures c.if-first-eq-SUFFIX.true).start in omega (arith, order, e)) c.suffix.ensures.order

pub prefix-returns-then-first-eq-SUFFIX-clause-within :
    goal.prefix-returns-then-first-eq-SUFFIX-clause-within
prefix-returns-then-first-eq-SUFFIX-clause-within t c =
    facts.on_ok c.suffix.result (λ within. subst (λ n. n ≤ c.args.left) (sym (facts.prefix_plain (file_in c.args.self.now) c.args.node.now c.requires.node c.first-first.result c.first-first.ensures c.if-first-eq-SUFFIX.true).nests) within) c.suffix.ensures.within

pub prefix-first-requires : goal.prefix-first-requires
prefix-first-requires t c =
    facts.prefix_next_some (file_in c.args.self.now) c.args.node.now c.requires.node c.first-first.result c.first-first.ensures (facts.prefix_sign (file_in c.args.self.now) c.args.node.now c.requires.node c.first-first.result c.first-first.ensures c.if-first-eq-SUFFIX.false)

pub prefix-suffix-requires-2 : goal.prefix-suffix-requires-2
prefix-suffix-requires-2 t c =
    (omega arith, facts.prefix_suffix (file_in c.args.self.now) c.args.node.now c.requires.node c.first-first.result c.first-first.ensures (facts.prefix_sign (file_in c.args.self.now) c.args.node.now c.requires.node c.first-first.result c.first-first.ensures c.if-first-eq-SUFFIX.false) c.first.result c.first.ensures)

pub prefix-new-span-requires : goal.prefix-new-span-requires
prefix-new-span-requires t c =
    facts.prefix_order (file_in c.args.self.now) c.args.node.now c.requires.node c.first-first.result c.first-first.ensures (facts.prefix_sign (file_in c.args.self.now) c.args.node.now c.requires.node c.first-first.result c.first-first.ensures c.if-first-eq-SUFFIX.false) c.first.result c.first.ensures c.in_ok-part.part.last c.in_ok-part.ensures.order

pub prefix-returns-clause-spells : goal.prefix-returns-clause-spells
prefix-returns-clause-spells t c before =
    says-same (c.in_ok-with_operator.ensures ∙ ap (λ s. sign_form c.first-first.result.rule (form_of c.in_ok-part.part.expression) s) (ap (λ n. between n c.new-span.result.end) c.new-span.ensures.start ∙ ap (between c.args.node.now.span.start) c.new-span.ensures.end)) refl
    (facts.prefix_says (file_in c.args.self.now) c.args.node.now c.requires.node c.first-first.result c.first-first.ensures (facts.prefix_sign (file_in c.args.self.now) c.args.node.now c.requires.node c.first-first.result c.first-first.ensures c.if-first-eq-SUFFIX.false) c.first.result c.first.ensures _ _ c.in_ok-part.ensures.spells before)

pub prefix-returns-clause-within : goal.prefix-returns-clause-within
prefix-returns-clause-within t c =
    subst (λ n. n ≤ c.args.left) (sym (facts.prefix_nests (file_in c.args.self.now) c.args.node.now c.requires.node c.first-first.result c.first-first.ensures (facts.prefix_sign (file_in c.args.self.now) c.args.node.now c.requires.node c.first-first.result c.first-first.ensures c.if-first-eq-SUFFIX.false) c.first.result c.first.ensures)) c.in_ok-part.ensures.within

pub primary-first-first-requires : goal.primary-first-first-requires
primary-first-first-requires t c =
    primary.primary_some (file_in c.args.self.now) c.args.node.now c.requires.node

pub primary-rule_name-requires : goal.primary-rule_name-requires
primary-rule_name-requires t c =
    (primary.primary_word (file_in c.args.self.now) c.args.node.now c.requires.node c.first-first.result c.first-first.ensures c.in-7.is).match

pub primary-literal-requires : goal.primary-literal-requires
primary-literal-requires t c =
    (primary.primary_literal (file_in c.args.self.now) c.args.node.now c.requires.node c.first-first.result c.first-first.ensures c.in-10.is).match

pub primary-class-requires : goal.primary-class-requires
primary-class-requires t c =
    (primary.primary_class (file_in c.args.self.now) c.args.node.now c.requires.node c.first-first.result c.first-first.ensures c.in-11.is).match

pub primary-dot-requires : goal.primary-dot-requires
primary-dot-requires t c =
    (primary.primary_dot (file_in c.args.self.now) c.args.node.now c.requires.node c.first-first.result c.first-first.ensures (search rules) (search rules) (search rules) (search rules)).match

pub primary-returns-in_ok-rule_name-in-7-clause-spells :
    goal.primary-returns-in_ok-rule_name-in-7-clause-spells
primary-returns-in_ok-rule_name-in-7-clause-spells t c before =
    says-same c.into_use.ensures.form c.into_use.ensures.last (primary.primary_name_says (file_in c.args.self.now) c.args.node.now c.requires.node c.first-first.result c.first-first.ensures (primary.primary_word (file_in c.args.self.now) c.args.node.now c.requires.node c.first-first.result c.first-first.ensures c.in-7.is) before _ _ _
    (c.in_ok-rule_name-in-7.ensures.spells.pieces before) (c.in_ok-rule_name-in-7.ensures.spells.ends before))

pub primary-returns-in_ok-rule_name-in-7-clause-order :
    goal.primary-returns-in_ok-rule_name-in-7-clause-order
primary-returns-in_ok-rule_name-in-7-clause-order t c =
    let start = (primary.primary_word (file_in c.args.self.now) c.args.node.now c.requires.node c.first-first.result c.first-first.ensures c.in-7.is).start in omega (arith, start, c.in_ok-rule_name-in-7.ensures.start, c.into_use.ensures.last, c.in_ok-rule_name-in-7.field-0.span.ordered)

pub primary-returns-in_ok-rule_name-in-7-clause-within :
    goal.primary-returns-in_ok-rule_name-in-7-clause-within
primary-returns-in_ok-rule_name-in-7-clause-within t c =
    subst (λ n. n ≤ c.args.left) (sym (primary.primary_flat (file_in c.args.self.now) c.args.node.now c.requires.node c.first-first.result c.first-first.ensures (primary.primary_word (file_in c.args.self.now) c.args.node.now c.requires.node c.first-first.result c.first-first.ensures c.in-7.is) refl)) (omega arith)

pub primary-returns-in_ok-literal-in-10-clause-spells :
    goal.primary-returns-in_ok-literal-in-10-clause-spells
primary-returns-in_ok-literal-in-10-clause-spells t c before =
    primary.primary_says (file_in c.args.self.now) c.args.node.now c.requires.node c.first-first.result c.first-first.ensures (primary.primary_literal (file_in c.args.self.now) c.args.node.now c.requires.node c.first-first.result c.first-first.ensures c.in-10.is) before _ _ (λ l. refl) (c.in_ok-literal-in-10.ensures.spells before)

pub primary-returns-in_ok-literal-in-10-clause-order :
    goal.primary-returns-in_ok-literal-in-10-clause-order
primary-returns-in_ok-literal-in-10-clause-order t c =
    let start = (primary.primary_literal (file_in c.args.self.now) c.args.node.now c.requires.node c.first-first.result c.first-first.ensures c.in-10.is).start in omega (arith, start, c.in_ok-literal-in-10.ensures.order)

pub primary-returns-in_ok-literal-in-10-clause-within :
    goal.primary-returns-in_ok-literal-in-10-clause-within
primary-returns-in_ok-literal-in-10-clause-within t c =
    subst (λ n. n ≤ c.args.left) (sym (primary.primary_flat (file_in c.args.self.now) c.args.node.now c.requires.node c.first-first.result c.first-first.ensures (primary.primary_literal (file_in c.args.self.now) c.args.node.now c.requires.node c.first-first.result c.first-first.ensures c.in-10.is) refl)) (omega arith)

pub primary-returns-in_ok-class-in-11-clause-spells :
    goal.primary-returns-in_ok-class-in-11-clause-spells
primary-returns-in_ok-class-in-11-clause-spells t c before =
    primary.primary_says (file_in c.args.self.now) c.args.node.now c.requires.node c.first-first.result c.first-first.ensures (primary.primary_class (file_in c.args.self.now) c.args.node.now c.requires.node c.first-first.result c.first-first.ensures c.in-11.is) before _ _ (λ l. refl) (c.in_ok-class-in-11.ensures.spells before)

pub primary-returns-in_ok-class-in-11-clause-order :
    goal.primary-returns-in_ok-class-in-11-clause-order
primary-returns-in_ok-class-in-11-clause-order t c =
    let start = (primary.primary_class (file_in c.args.self.now) c.args.node.now c.requires.node c.first-first.result c.first-first.ensures c.in-11.is).start in omega (arith, start, c.in_ok-class-in-11.ensures.order)

pub primary-returns-in_ok-class-in-11-clause-within :
    goal.primary-returns-in_ok-class-in-11-clause-within
primary-returns-in_ok-class-in-11-clause-within t c =
    subst (λ n. n ≤ c.args.left) (sym (primary.primary_flat (file_in c.args.self.now) c.args.node.now c.requires.node c.first-first.result c.first-first.ensures (primary.primary_class (file_in c.args.self.now) c.args.node.now c.requires.node c.first-first.result c.first-first.ensures c.in-11.is) refl)) (omega arith)

pub primary-returns-in_default-clause-spells : goal.primary-returns-in_default-clause-spells
primary-returns-in_default-clause-spells t c before =
    primary.primary_says (file_in c.args.self.now) c.args.node.now c.requires.node c.first-first.result c.first-first.ensures (primary.primary_dot (file_in c.args.self.now) c.args.node.now c.requires.node c.first-first.result c.first-first.ensures (search rules) (search rules) (search rules) (search rules)) before _ _ (λ l. refl) (c.dot.ensures.spells before)

pub primary-returns-in_default-clause-order : goal.primary-returns-in_default-clause-order
primary-returns-in_default-clause-order t c =
    let start = (primary.primary_dot (file_in c.args.self.now) c.args.node.now c.requires.node c.first-first.result c.first-first.ensures (search rules) (search rules) (search rules) (search rules)).start in omega (arith, start, c.dot.ensures.order)

pub primary-returns-in_default-clause-within : goal.primary-returns-in_default-clause-within
primary-returns-in_default-clause-within t c =
    subst (λ n. n ≤ c.args.left) (sym (primary.primary_flat (file_in c.args.self.now) c.args.node.now c.requires.node c.first-first.result c.first-first.ensures (primary.primary_dot (file_in c.args.self.now) c.args.node.now c.requires.node c.first-first.result c.first-first.ensures (search rules) (search rules) (search rules) (search rules)) refl)) (omega arith)

pub sequence-items-init : goal.sequence-items-init
sequence-items-init t c =
    lists.same_walk (ap (map form_of) c.none-items.ensures.list) c.none-items.ensures.last (lists.items_none (file_in c.args.self.now) c.args.node.now c.args.before c.args.left c.requires.ordered c.requires.node) (λ none. absurd (let bad : ⊥ = omega (arith, none, ap length c.none-items.ensures.list) in bad))

pub sequence-items-preserved : goal.sequence-items-preserved
sequence-items-preserved t c =
    let walk = lists.items_one (file_in c.args.self.now) c.args.node.now c.args.before c.args.left c.requires.ordered c.requires.node c.items.invariant c.first-item.result c.first-item.ensures _ _ 1 (c.in_ok-part.ensures.spells c.items.items.last) c.in_ok-part.ensures.within c.in_ok-part.ensures.fine c.in_ok-part.ensures.order in
    lists.same_walk c.in_ok-add.ensures.list c.in_ok-add.ensures.last walk (λ some. let h = walk.some (omega arith) in omega (arith, h, c.in_ok-add.ensures.last))

pub sequence-returns-clause-spells : goal.sequence-returns-clause-spells
sequence-returns-clause-spells t c =
    says-same c.into_sequence.ensures.form c.into_sequence.ensures.last (lists.items_say (file_in c.args.self.now) c.args.node.now c.args.before c.args.left c.requires.ordered c.requires.node c.items.invariant (search rules))

pub sequence-returns-clause-within : goal.sequence-returns-clause-within
sequence-returns-clause-within t c =
    lists.items_nest (file_in c.args.self.now) c.args.node.now c.args.before c.args.left c.requires.ordered c.requires.node c.items.invariant (search rules)

pub suffix-first-primary-requires : goal.suffix-first-primary-requires
suffix-first-primary-requires t c =
    facts.suffix_some (file_in c.args.self.now) c.args.node.now c.requires.node

pub suffix-primary-requires : goal.suffix-primary-requires
suffix-primary-requires t c =
    (omega arith, facts.suffix_primary (file_in c.args.self.now) c.args.node.now c.requires.node c.first-primary.result c.first-primary.ensures)

pub suffix-returns-then-is_empty-clause-spells : goal.suffix-returns-then-is_empty-clause-spells
suffix-returns-then-is_empty-clause-spells t c before =
    facts.suffix_plain (file_in c.args.self.now) c.args.node.now c.requires.node c.first-primary.result c.first-primary.ensures (c.is_empty.ensures.0 c.if-is_empty.true) before _ _ (c.in_ok-part.ensures.spells before)

pub suffix-returns-then-is_empty-clause-order : goal.suffix-returns-then-is_empty-clause-order
suffix-returns-then-is_empty-clause-order t c =
    let start = facts.suffix_start (file_in c.args.self.now) c.args.node.now c.requires.node c.first-primary.result c.first-primary.ensures in omega (arith, start, c.in_ok-part.ensures.order)

pub suffix-returns-then-is_empty-clause-within : goal.suffix-returns-then-is_empty-clause-within
suffix-returns-then-is_empty-clause-within t c =
    subst (λ n. n ≤ c.args.left) (sym (facts.suffix_plain_nests (file_in c.args.self.now) c.args.node.now c.requires.node c.first-primary.result c.first-primary.ensures (c.is_empty.ensures.0 c.if-is_empty.true))) c.in_ok-part.ensures.within

pub suffix-new-span-requires : goal.suffix-new-span-requires
suffix-new-span-requires t c =
    let order = facts.suffix_order (file_in c.args.self.now) c.args.node.now c.requires.node c.first-primary.result c.first-primary.ensures (λ none. let bad = c.is_empty.ensures.1 none in cc) c.first-sign.result c.first-sign.ensures in omega (arith, order, c.token_end-last.ensures)

pub suffix-returns-clause-spells : goal.suffix-returns-clause-spells
suffix-returns-clause-spells t c before =
    elim c.if-sign-eq-COUNT.branch [
      | suffix-then-sign-eq-COUNT+in_ok-expression w ↦
          says-same (ap form_of w.expression-is ∙ (w.in_ok-expression.ensures.form
          ∙ (ap (λ s. Rattle.peg_metagrammar.specs.Denotation.counted_form (count_spelled (drop c.first-sign.result.span.start (file_in c.args.self.now))) (form_of c.in_ok-part.part.expression) s) (ap (λ n. between n c.new-span.result.end) c.new-span.ensures.start ∙ ap (between c.args.node.now.span.start) (c.new-span.ensures.end ∙ c.token_end-last.ensures))
          ∙ ap (λ g. g (form_of c.in_ok-part.part.expression) (between c.args.node.now.span.start (last_start c.first-sign.result.span.start (trees_in c.first-sign.result.children)))) ((facts.suffix_sign (file_in c.args.self.now) c.args.node.now c.requires.node c.first-primary.result c.first-primary.ensures (λ none. let bad = c.is_empty.ensures.1 none in cc) c.first-sign.result c.first-sign.ensures).counted w.if-sign-eq-COUNT.true).1))) c.token_end-last.ensures
          (facts.suffix_says (file_in c.args.self.now) c.args.node.now c.requires.node c.first-primary.result c.first-primary.ensures (λ none. let bad = c.is_empty.ensures.1 none in cc) c.first-sign.result c.first-sign.ensures (form_of c.in_ok-part.part.expression) c.in_ok-part.part.last c.in_ok-part.ensures.spells before)
      | suffix-else-sign-eq-COUNT+in_ok-expression-2 w ↦
          says-same (ap form_of w.expression-is ∙ (w.in_ok-expression-2.ensures
          ∙ (ap (λ s. sign_form c.first-sign.result.rule (form_of c.in_ok-part.part.expression) s) (ap (λ n. between n c.new-span.result.end) c.new-span.ensures.start ∙ ap (between c.args.node.now.span.start) (c.new-span.ensures.end ∙ c.token_end-last.ensures))
          ∙ ap (λ g. g (form_of c.in_ok-part.part.expression) (between c.args.node.now.span.start (last_start c.first-sign.result.span.start (trees_in c.first-sign.result.children)))) ((facts.suffix_sign (file_in c.args.self.now) c.args.node.now c.requires.node c.first-primary.result c.first-primary.ensures (λ none. let bad = c.is_empty.ensures.1 none in cc) c.first-sign.result c.first-sign.ensures).plain w.if-sign-eq-COUNT.false).0))) c.token_end-last.ensures
          (facts.suffix_says (file_in c.args.self.now) c.args.node.now c.requires.node c.first-primary.result c.first-primary.ensures (λ none. let bad = c.is_empty.ensures.1 none in cc) c.first-sign.result c.first-sign.ensures (form_of c.in_ok-part.part.expression) c.in_ok-part.part.last c.in_ok-part.ensures.spells before)
    ]

pub suffix-returns-clause-within : goal.suffix-returns-clause-within
suffix-returns-clause-within t c =
    subst (λ n. n ≤ c.args.left) (sym (facts.suffix_nests (file_in c.args.self.now) c.args.node.now c.requires.node c.first-primary.result c.first-primary.ensures (λ none. let bad = c.is_empty.ensures.1 none in cc) c.first-sign.result c.first-sign.ensures)) c.in_ok-part.ensures.within

pub expression-returns-in_err-first-clause-bad : goal.expression-returns-in_err-first-clause-bad
expression-returns-in_err-first-clause-bad t c =
    facts.err_stated (HasBadCount (file_in c.args.self.now) (tree_of_branch c.args.node.now)) _ _ c.from_residual.ensures.1 (lists.first_bad (file_in c.args.self.now) c.args.node.now c.args.before c.args.left c.requires.ordered c.requires.node c.first-sequence.result c.first-sequence.ensures _ c.in_err-first.ensures.bad)

pub expression-returns-in_err-part-clause-bad : goal.expression-returns-in_err-part-clause-bad
expression-returns-in_err-part-clause-bad t c =
    facts.err_stated (HasBadCount (file_in c.args.self.now) (tree_of_branch c.args.node.now)) _ _ c.from_residual-in_err-part.ensures.1 (lists.next_bad (file_in c.args.self.now) c.args.node.now c.args.before c.args.left c.requires.ordered c.requires.node c.alternatives.invariant c.first-slash.result c.first-slash.ensures c.first-next.result c.first-next.ensures _ c.in_err-part.ensures.bad)

pub expression-returns-clause-fine : goal.expression-returns-clause-fine
expression-returns-clause-fine t c =
    lists.choices_fine (file_in c.args.self.now) c.args.node.now c.args.before c.args.left c.requires.ordered c.requires.node c.alternatives.invariant (search rules)

pub sequence-returns-in_err-part-clause-bad : goal.sequence-returns-in_err-part-clause-bad
sequence-returns-in_err-part-clause-bad t c =
    facts.err_stated (HasBadCount (file_in c.args.self.now) (tree_of_branch c.args.node.now)) _ _ c.from_residual.ensures.1 (lists.item_bad (file_in c.args.self.now) c.args.node.now c.args.before c.args.left c.requires.ordered c.requires.node c.items.invariant c.first-item.result c.first-item.ensures _ c.in_err-part.ensures.bad)

pub sequence-returns-clause-fine : goal.sequence-returns-clause-fine
sequence-returns-clause-fine t c =
    lists.items_fine (file_in c.args.self.now) c.args.node.now c.args.before c.args.left c.requires.ordered c.requires.node c.items.invariant (search rules)

pub parenthesized-returns-in_err-part-clause-bad : goal.parenthesized-returns-in_err-part-clause-bad
parenthesized-returns-in_err-part-clause-bad t c =
    facts.err_stated (HasBadCount (file_in c.args.self.now) (tree_of_branch c.args.node.now)) _ _ c.from_residual.ensures.1 (bad-same (file_in c.args.self.now) (tree_of_branch c.first-inside.result) (tree_of_branch c.args.node.now) (primary.inside_counts (file_in c.args.self.now) c.args.node.now c.requires.node c.requires.opens c.first-opening.result c.first-opening.ensures c.first-inside.result c.first-inside.ensures c.first-closing.result c.first-closing.ensures) _ c.in_err-part.ensures.bad)

pub parenthesized-returns-clause-fine : goal.parenthesized-returns-clause-fine
parenthesized-returns-clause-fine t c =
    primary.inside_counts (file_in c.args.self.now) c.args.node.now c.requires.node c.requires.opens c.first-opening.result c.first-opening.ensures c.first-inside.result c.first-inside.ensures c.first-closing.result c.first-closing.ensures ∙ c.in_ok-part.ensures.fine

pub prefix-returns-then-first-eq-SUFFIX-clause-fine : goal.prefix-returns-then-first-eq-SUFFIX-clause-fine
prefix-returns-then-first-eq-SUFFIX-clause-fine t c =
    facts.on_ok c.suffix.result (λ fine. (facts.prefix_plain (file_in c.args.self.now) c.args.node.now c.requires.node c.first-first.result c.first-first.ensures c.if-first-eq-SUFFIX.true).counts ∙ fine) c.suffix.ensures.fine

pub prefix-returns-then-first-eq-SUFFIX-clause-bad : goal.prefix-returns-then-first-eq-SUFFIX-clause-bad
prefix-returns-then-first-eq-SUFFIX-clause-bad t c =
    facts.if_err c.suffix.result (bad-same (file_in c.args.self.now) (tree_of_branch c.first-first.result) (tree_of_branch c.args.node.now) (facts.prefix_plain (file_in c.args.self.now) c.args.node.now c.requires.node c.first-first.result c.first-first.ensures c.if-first-eq-SUFFIX.true).counts) c.suffix.ensures.bad

pub prefix-returns-in_err-part-clause-bad : goal.prefix-returns-in_err-part-clause-bad
prefix-returns-in_err-part-clause-bad t c =
    facts.err_stated (HasBadCount (file_in c.args.self.now) (tree_of_branch c.args.node.now)) _ _ c.from_residual.ensures.1 (bad-same (file_in c.args.self.now) (tree_of_branch c.first.result) (tree_of_branch c.args.node.now) (facts.prefix_counts (file_in c.args.self.now) c.args.node.now c.requires.node c.first-first.result c.first-first.ensures (facts.prefix_sign (file_in c.args.self.now) c.args.node.now c.requires.node c.first-first.result c.first-first.ensures c.if-first-eq-SUFFIX.false) c.first.result c.first.ensures) _ c.in_err-part.ensures.bad)

pub prefix-returns-clause-fine : goal.prefix-returns-clause-fine
prefix-returns-clause-fine t c =
    facts.prefix_counts (file_in c.args.self.now) c.args.node.now c.requires.node c.first-first.result c.first-first.ensures (facts.prefix_sign (file_in c.args.self.now) c.args.node.now c.requires.node c.first-first.result c.first-first.ensures c.if-first-eq-SUFFIX.false) c.first.result c.first.ensures ∙ c.in_ok-part.ensures.fine

pub primary-returns-in_ok-rule_name-in-7-clause-fine : goal.primary-returns-in_ok-rule_name-in-7-clause-fine
primary-returns-in_ok-rule_name-in-7-clause-fine t c =
    primary.primary_fine (file_in c.args.self.now) c.args.node.now c.requires.node c.first-first.result c.first-first.ensures (primary.primary_word (file_in c.args.self.now) c.args.node.now c.requires.node c.first-first.result c.first-first.ensures c.in-7.is) (λ position pieces. refl)

pub primary-returns-in_ok-literal-in-10-clause-fine : goal.primary-returns-in_ok-literal-in-10-clause-fine
primary-returns-in_ok-literal-in-10-clause-fine t c =
    primary.primary_fine (file_in c.args.self.now) c.args.node.now c.requires.node c.first-first.result c.first-first.ensures (primary.primary_literal (file_in c.args.self.now) c.args.node.now c.requires.node c.first-first.result c.first-first.ensures c.in-10.is) (λ position pieces. refl)

pub primary-returns-in_ok-class-in-11-clause-fine : goal.primary-returns-in_ok-class-in-11-clause-fine
primary-returns-in_ok-class-in-11-clause-fine t c =
    primary.primary_fine (file_in c.args.self.now) c.args.node.now c.requires.node c.first-first.result c.first-first.ensures (primary.primary_class (file_in c.args.self.now) c.args.node.now c.requires.node c.first-first.result c.first-first.ensures c.in-11.is) (λ position pieces. refl)

pub primary-returns-in_default-clause-fine : goal.primary-returns-in_default-clause-fine
primary-returns-in_default-clause-fine t c =
    primary.primary_fine (file_in c.args.self.now) c.args.node.now c.requires.node c.first-first.result c.first-first.ensures (primary.primary_dot (file_in c.args.self.now) c.args.node.now c.requires.node c.first-first.result c.first-first.ensures (search rules) (search rules) (search rules) (search rules)) (λ position pieces. refl)

pub suffix-returns-in_err-part-clause-bad : goal.suffix-returns-in_err-part-clause-bad
suffix-returns-in_err-part-clause-bad t c =
    facts.err_stated (HasBadCount (file_in c.args.self.now) (tree_of_branch c.args.node.now)) _ _ c.from_residual.ensures.1 (facts.suffix_first_bad (file_in c.args.self.now) c.args.node.now c.requires.node c.first-primary.result c.first-primary.ensures _ c.in_err-part.ensures.bad)

pub suffix-returns-then-is_empty-clause-fine : goal.suffix-returns-then-is_empty-clause-fine
suffix-returns-then-is_empty-clause-fine t c =
    facts.suffix_plain_counts (file_in c.args.self.now) c.args.node.now c.requires.node c.first-primary.result c.first-primary.ensures (c.is_empty.ensures.0 c.if-is_empty.true) ∙ c.in_ok-part.ensures.fine

pub suffix-counted-requires : goal.suffix-counted-requires
suffix-counted-requires t c =
    ((facts.suffix_sign (file_in c.args.self.now) c.args.node.now c.requires.node c.first-primary.result c.first-primary.ensures (λ none. let bad = c.is_empty.ensures.1 none in cc) c.first-sign.result c.first-sign.ensures).counted c.if-sign-eq-COUNT.true).0

pub suffix-returns-in_err-expression-clause-bad : goal.suffix-returns-in_err-expression-clause-bad
suffix-returns-in_err-expression-clause-bad t c =
    facts.err_stated (HasBadCount (file_in c.args.self.now) (tree_of_branch c.args.node.now)) _ _ c.from_residual-in_err-expression.ensures.1 (bad-same (file_in c.args.self.now) (tree_of_branch c.first-sign.result) (tree_of_branch c.args.node.now) (facts.suffix_counts (file_in c.args.self.now) c.args.node.now c.requires.node c.first-primary.result c.first-primary.ensures (λ none. let bad = c.is_empty.ensures.1 none in cc) c.first-sign.result c.first-sign.ensures ∙ ap (λ (l : List ℕ). l ++ bad_counts (file_in c.args.self.now) (tree_of_branch c.first-sign.result)) c.in_ok-part.ensures.fine) _ c.in_err-expression.ensures.bad)

pub suffix-returns-clause-fine : goal.suffix-returns-clause-fine
suffix-returns-clause-fine t c =
    elim c.if-sign-eq-COUNT.branch [
      | suffix-then-sign-eq-COUNT+in_ok-expression w ↦ facts.suffix_counts (file_in c.args.self.now) c.args.node.now c.requires.node c.first-primary.result c.first-primary.ensures (λ none. let bad = c.is_empty.ensures.1 none in cc) c.first-sign.result c.first-sign.ensures ∙ (ap (λ (l : List ℕ). l ++ bad_counts (file_in c.args.self.now) (tree_of_branch c.first-sign.result)) c.in_ok-part.ensures.fine ∙ w.in_ok-expression.ensures.fine)
      | suffix-else-sign-eq-COUNT+in_ok-expression-2 w ↦ facts.suffix_counts (file_in c.args.self.now) c.args.node.now c.requires.node c.first-primary.result c.first-primary.ensures (λ none. let bad = c.is_empty.ensures.1 none in cc) c.first-sign.result c.first-sign.ensures ∙ (ap (λ (l : List ℕ). l ++ bad_counts (file_in c.args.self.now) (tree_of_branch c.first-sign.result)) c.in_ok-part.ensures.fine ∙ ((facts.suffix_sign (file_in c.args.self.now) c.args.node.now c.requires.node c.first-primary.result c.first-primary.ensures (λ none. let bad = c.is_empty.ensures.1 none in cc) c.first-sign.result c.first-sign.ensures).plain w.if-sign-eq-COUNT.false).1)
    ]
