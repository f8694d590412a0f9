use Rattle.std.proofs.Common.{◌≡◌, ℕ, ◌+◌, ◌-◌, ◌<◌, List, length, map, drop, sym, ap, ◌∙◌, arith}
use Rattle.peg_bytes.specs.Extent.{extent}
use Rattle.peg_bytes.specs.ByteSet.{bytes_of}
use Rattle.peg_grammar.proofs.WrittenForms.{form_of-And, form_of-Choice, form_of-Counted, form_of-Name, form_of-Not, form_of-Optional}
use Rattle.peg_grammar.proofs.WrittenForms.{form_of-Plus, form_of-Seq, form_of-Star}
use Rattle.peg_grammar.specs.GrammarRules.{rules_in}
use Rattle.peg_grammar.specs.Written.{form_of}
use Rattle.peg_grammar.specs.declared.expr.Expr.{Expr}
use Rattle.peg_semantics.specs.Form as form
use Rattle.peg_semantics.specs.Form.{Form, Forms, forms}
use Rattle.peg_lint.specs.Edges.{Edges, alternatives_edges, and_edges, choice_edges, count_edges, edges_in, items_edges}
use Rattle.peg_lint.specs.Edges.{literal_edges, not_edges, optional_edges, plus_edges, seq_edges, star_edges}
use Rattle.peg_lint.specs.Known.{known_of}
use Rattle.peg_lint.proofs.EdgeTableLemmas.{alternatives-from, by-form, items-from, of-part}
use Rattle.peg_lint.proofs.PartLemmas.{form_of-Any, form_of-Class, form_of-Literal}
use Rattle.peg_lint.proofs.edge_table.+edges.Goals as goal

pub edges_of-returns-in-Literal : goal.edges_of-returns-in-Literal
edges_of-returns-in-Literal t c = λ n known.
    let rules = rules_in c.args.grammar.now in
    let span = extent c.in-Literal.span in
    by-form rules n (form_of c.args.expr.now) (form.Literal c.in-Literal.bytes.items span) (known_of c.literal.result)
    (ap form_of c.in-Literal.is ∙ form_of-Literal c.in-Literal.bytes c.in-Literal.span) (c.literal.ensures ∙ ap literal_edges c.deref.ensures.value)

pub edges_of-returns-in-Class : goal.edges_of-returns-in-Class
edges_of-returns-in-Class t c = λ n known.
    let rules = rules_in c.args.grammar.now in
    let span = extent c.in-Class.span in
    by-form rules n (form_of c.args.expr.now) (form.Class (bytes_of c.in-Class.set) span) (known_of c.one_of.result)
    (ap form_of c.in-Class.is ∙ form_of-Class c.in-Class.set c.in-Class.span) (c.one_of.ensures)

pub edges_of-returns-in-Any : goal.edges_of-returns-in-Any
edges_of-returns-in-Any t c = λ n known.
    let rules = rules_in c.args.grammar.now in
    let span = extent c.in-Any.span in
    by-form rules n (form_of c.args.expr.now) (form.Any span) (known_of c.dot.result)
    (ap form_of c.in-Any.is ∙ form_of-Any c.in-Any.span) (c.dot.ensures)

pub edges_of-returns-in-Name : goal.edges_of-returns-in-Name
edges_of-returns-in-Name t c = λ n known.
    let rules = rules_in c.args.grammar.now in
    let e = form_of c.args.expr.now in
    let span = extent c.in-Name.span in
    let same : e ≡ form.Name c.as_str.result.now span =
    ap form_of c.in-Name.is ∙ (form_of-Name c.in-Name.name c.in-Name.span
    ∙ sym (ap (λ (l : List ℕ). form.Name l span) c.as_str.ensures.value)) in
    by-form rules n e (form.Name c.as_str.result.now span) (known_of c.name_edges.result) same (c.name_edges.ensures n known)

pub edges_of-returns-in-Seq : goal.edges_of-returns-in-Seq
edges_of-returns-in-Seq t c = λ n known.
    let rules = rules_in c.args.grammar.now in
    let span = extent c.in-Seq.span in
    by-form rules n (form_of c.args.expr.now) (form.Seq (forms (map form_of c.in-Seq.items.items)) span)
    (known_of c.edges_of_items.result) (ap form_of c.in-Seq.is ∙ form_of-Seq c.in-Seq.items c.in-Seq.span)
    (c.edges_of_items.ensures n known
    ∙ ap (λ (l : List Expr). items_edges rules (edges_in rules n) (forms (map form_of l))) c.deref-in-Seq.ensures.value)

pub edges_of-returns-in-Choice : goal.edges_of-returns-in-Choice
edges_of-returns-in-Choice t c = λ n known.
    let rules = rules_in c.args.grammar.now in
    let span = extent c.in-Choice.span in
    let first = form_of c.in-Choice.first.value in
    let rest = forms (map form_of c.in-Choice.rest.items) in
    let one = of-part rules n (form_of c.deref-in-Choice.result.now) first (known_of c.edges_of.result)
    (ap form_of c.deref-in-Choice.ensures) (c.edges_of.ensures n known) in
    let others = c.edges_of_alternatives.ensures n known
    ∙ ap (λ (l : List Expr). alternatives_edges rules (edges_in rules n) (forms (map form_of l)))
    c.deref-in-Choice-2.ensures.value in
    by-form rules n (form_of c.args.expr.now) (form.Choice first rest span) (known_of c.or_else.result)
    (ap form_of c.in-Choice.is ∙ form_of-Choice c.in-Choice.first c.in-Choice.rest c.in-Choice.span)
    (c.or_else.ensures ∙ (λ i. choice_edges (one i) (others i)))

pub edges_of-returns-in-Optional : goal.edges_of-returns-in-Optional
edges_of-returns-in-Optional t c = λ n known.
    let rules = rules_in c.args.grammar.now in
    let span = extent c.in-Optional.span in
    let part = form_of c.in-Optional.part.value in
    let one = of-part rules n (form_of c.deref-in-Optional.result.now) part (known_of c.edges_of-in-Optional.result)
    (ap form_of c.deref-in-Optional.ensures) (c.edges_of-in-Optional.ensures n known) in
    by-form rules n (form_of c.args.expr.now) (form.Optional part span) (known_of c.optional.result)
    (ap form_of c.in-Optional.is ∙ form_of-Optional c.in-Optional.part c.in-Optional.span)
    (c.optional.ensures ∙ ap optional_edges one)

pub edges_of-returns-in-Star : goal.edges_of-returns-in-Star
edges_of-returns-in-Star t c = λ n known.
    let rules = rules_in c.args.grammar.now in
    let span = extent c.in-Star.span in
    let part = form_of c.in-Star.part.value in
    let one = of-part rules n (form_of c.deref-in-Star.result.now) part (known_of c.edges_of-in-Star.result)
    (ap form_of c.deref-in-Star.ensures) (c.edges_of-in-Star.ensures n known) in
    by-form rules n (form_of c.args.expr.now) (form.Star part span) (known_of c.star.result)
    (ap form_of c.in-Star.is ∙ form_of-Star c.in-Star.part c.in-Star.span)
    (c.star.ensures ∙ ap star_edges one)

pub edges_of-returns-in-Plus : goal.edges_of-returns-in-Plus
edges_of-returns-in-Plus t c = λ n known.
    let rules = rules_in c.args.grammar.now in
    let span = extent c.in-Plus.span in
    let part = form_of c.in-Plus.part.value in
    let one = of-part rules n (form_of c.deref-in-Plus.result.now) part (known_of c.edges_of-in-Plus.result)
    (ap form_of c.deref-in-Plus.ensures) (c.edges_of-in-Plus.ensures n known) in
    by-form rules n (form_of c.args.expr.now) (form.Plus part span) (known_of c.plus.result)
    (ap form_of c.in-Plus.is ∙ form_of-Plus c.in-Plus.part c.in-Plus.span)
    (c.plus.ensures ∙ ap plus_edges one)

pub edges_of-returns-in-And : goal.edges_of-returns-in-And
edges_of-returns-in-And t c = λ n known.
    let rules = rules_in c.args.grammar.now in
    let span = extent c.in-And.span in
    let part = form_of c.in-And.part.value in
    let one = of-part rules n (form_of c.deref-in-And.result.now) part (known_of c.edges_of-in-And.result)
    (ap form_of c.deref-in-And.ensures) (c.edges_of-in-And.ensures n known) in
    by-form rules n (form_of c.args.expr.now) (form.And part span) (known_of c.and.result)
    (ap form_of c.in-And.is ∙ form_of-And c.in-And.part c.in-And.span)
    (c.and.ensures ∙ ap and_edges one)

pub edges_of-returns-in-Not : goal.edges_of-returns-in-Not
edges_of-returns-in-Not t c = λ n known.
    let rules = rules_in c.args.grammar.now in
    let span = extent c.in-Not.span in
    let part = form_of c.in-Not.part.value in
    let one = of-part rules n (form_of c.deref-in-Not.result.now) part (known_of c.edges_of-in-Not.result)
    (ap form_of c.deref-in-Not.ensures) (c.edges_of-in-Not.ensures n known) in
    by-form rules n (form_of c.args.expr.now) (form.Not part span) (known_of c.not.result)
    (ap form_of c.in-Not.is ∙ form_of-Not c.in-Not.part c.in-Not.span)
    (c.not.ensures ∙ ap not_edges one)

pub edges_of-returns-in-Counted : goal.edges_of-returns-in-Counted
edges_of-returns-in-Counted t c = λ n known.
    let rules = rules_in c.args.grammar.now in
    let span = extent c.in-Counted.span in
    let part = form_of c.in-Counted.part.value in
    let min = c.in-Counted.min in
    let max = c.in-Counted.max in
    let one = of-part rules n (form_of c.deref-in-Counted.result.now) part (known_of c.edges_of-in-Counted.result)
    (ap form_of c.deref-in-Counted.ensures) (c.edges_of-in-Counted.ensures n known) in
    by-form rules n (form_of c.args.expr.now) (form.Counted part min max span) (known_of c.count.result)
    (ap form_of c.in-Counted.is ∙ form_of-Counted c.in-Counted.part min max c.in-Counted.span)
    (c.count.ensures ∙ ap (λ (k : Edges). count_edges k min max) one)

pub edges_of_items-items-preserved : goal.edges_of_items-items-preserved
edges_of_items-items-preserved t c =
    let rules = rules_in c.args.grammar.now in
    let items = c.args.items.now in
    let i = c.items.index - 1 in
    let item = c.index-items-index.result in
    let next : c.items.index ≡ i + 1 = omega (arith, c.items-test.true) in
    let within : i < length items = omega (arith, next, c.items.invariant.within) in
    record {
      within = omega (arith, within);
      known = λ n known.
          let rest = c.items.invariant.known n known
          ∙ ap (λ k. items_edges rules (edges_in rules n) (forms (drop k (map form_of items)))) next in
          let one = c.edges_of-item.ensures n known in
          c.then-all.ensures ∙ ((λ k. seq_edges (one k) (rest k)) ∙ sym (items-from rules n items i item within c.index-items-index.is));
    }

pub edges_of_alternatives-alternatives-preserved : goal.edges_of_alternatives-alternatives-preserved
edges_of_alternatives-alternatives-preserved t c =
    let rules = rules_in c.args.grammar.now in
    let items = c.args.alternatives.now in
    let i = c.alternatives.index - 1 in
    let item = c.index-alternatives-index.result in
    let next : c.alternatives.index ≡ i + 1 = omega (arith, c.alternatives-test.true) in
    let within : i < length items = omega (arith, next, c.alternatives.invariant.within) in
    record {
      within = omega (arith, within);
      known = λ n known.
          let rest = c.alternatives.invariant.known n known
          ∙ ap (λ k. alternatives_edges rules (edges_in rules n) (forms (drop k (map form_of items)))) next in
          let one = c.edges_of-alternative.ensures n known in
          c.or_else-any.ensures ∙ ((λ k. choice_edges (one k) (rest k)) ∙ sym (alternatives-from rules n items i item within c.index-alternatives-index.is));
    }
