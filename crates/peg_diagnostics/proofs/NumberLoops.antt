-- Loops over expressions that count terminals or number items.
use Rattle.std.proofs.Common.{◌≡◌, ℕ, ◌+◌, ◌*◌, ◌<◌, ◌≤◌, List, ◌++◌, map, length, get_or, drop, sym, ap, subst, arith}
use Rattle.std.proofs.Common.{Result, Ok, Err, IfOk, ◌∙◌, append_assoc}
use denote.Param.Weighed.{most, at_most}
use Rattle.peg_semantics.specs.Form.{Form, Forms, Literal, Class, Any, Name, Seq, Choice, Optional, Star, Plus, Counted}
use Rattle.peg_semantics.specs.Form.{And, Not, End, Then, forms, form_weight, forms_weight, terminals, terminals_of_all}
use Rattle.peg_semantics.proofs.RulesLemmas.{terminals-weight}
use Rattle.peg_grammar.specs.Written.{form_of}
use Rattle.peg_grammar.specs.declared.expr.Expr.{Expr}
use Rattle.peg_grammar.proofs.LoopLemmas.{forms-drop}
use Rattle.peg_grammar.proofs.expr.Expr.TheLaws.{the_size}
use Rattle.peg_diagnostics.specs.Diagnostic.{quiet, quiet_name, loud, loud_all}
use Rattle.peg_diagnostics.specs.ItemTests.{added_terminals, added_terminals_of_all}
use Rattle.peg_diagnostics.proofs.Renaming.{terminals-rename}

-- an item is no deeper than the deepest item
pub no_deeper : (items : List Expr) (i : ℕ) (item : Expr) → i < length items → item ≡ get_or items i item
    → the_size item ≤ most the_size items
no_deeper items i item h e = subst (λ x. the_size x ≤ most the_size items) (sym e) (at_most the_size items i item h)

-- the terminals from index i on are those of that item and of the items after it
pub terminals-drop : (items : List Expr) (i : ℕ) (item : Expr) → i < length items → item ≡ get_or items i item
    → terminals_of_all (forms (drop i (map form_of items)))
    ≡ terminals (form_of item) + terminals_of_all (forms (drop (i + 1) (map form_of items)))
terminals-drop items i item h e = ap terminals_of_all (forms-drop form_of items i item h e)

-- the terminals of the loud expressions from index i on
pub loud_terminals-drop : (items : List Expr) (i : ℕ) (item : Expr) → i < length items → item ≡ get_or items i item
    → terminals_of_all (loud_all (forms (drop i (map form_of items))))
    ≡ terminals (loud (form_of item)) + terminals_of_all (loud_all (forms (drop (i + 1) (map form_of items))))
loud_terminals-drop items i item h e = ap (λ l. terminals_of_all (loud_all l)) (forms-drop form_of items i item h e)

-- a quiet expression has as many terminals as the expression
pub terminals-quiet : (e : Form) → terminals (quiet e) ≡ terminals e
terminals-quiet e = terminals-rename quiet_name e

-- a loud expression has at most twice as many terminals as the expression's weight
mutual
  pub loud-weight : (e : Form) → terminals (loud e) ≤ 2 * form_weight e
  loud-weight (Literal bytes span) = omega arith
  loud-weight (Class set span) = omega arith
  loud-weight (Any span) = omega arith
  loud-weight (Name name span) = omega arith
  loud-weight (Seq items span) = omega (arith, all_loud-weight items)
  loud-weight (Choice first rest span) = omega (arith, loud-weight first, all_loud-weight rest)
  loud-weight (Optional part span) = omega (arith, loud-weight part)
  loud-weight (Star part span) = omega (arith, loud-weight part)
  loud-weight (Plus part span) = omega (arith, loud-weight part)
  loud-weight (Counted part min max span) = omega (arith, loud-weight part)
  loud-weight (And part span) = omega (arith, terminals-quiet part, terminals-weight part)
  loud-weight (Not part span) = omega (arith, terminals-quiet part, terminals-weight part)

  all_loud-weight : (items : Forms) → terminals_of_all (loud_all items) ≤ 2 * forms_weight items
  all_loud-weight End = omega arith
  all_loud-weight (Then e rest) = omega (arith, loud-weight e, all_loud-weight rest)

-- the number after a predicate's empty class
pub next-number : {E : Type 0} (r : Result ℕ E) (first count : ℕ) (part : Form) → count ≡ terminals part
    → IfOk r (λ next. next ≡ first + count + 1) → IfOk r (λ next. next ≡ first + (terminals (quiet part) + 1))
next-number (Ok next) first count part counted is = omega (arith, counted, is, terminals-quiet part)
next-number (Err fault) first count part counted is = tt

-- The numbers of one more expression: those so far, its own ones, and those of the expressions after it.
pub numbers-more : (items : List Expr) (i : ℕ) (item : Expr) (so_far more : List ℕ) (next after : ℕ) → i < length items
    → item ≡ get_or items i item → more ≡ so_far ++ added_terminals (form_of item) next
    → after ≡ next + terminals (loud (form_of item))
    → more ++ added_terminals_of_all (forms (drop (i + 1) (map form_of items))) after
    ≡ so_far ++ added_terminals_of_all (forms (drop i (map form_of items))) next
numbers-more items i item so_far more next after within there adds counts =
    let rest = forms (drop (i + 1) (map form_of items)) in
    (λ j. adds j ++ added_terminals_of_all rest (counts j))
    ∙ append_assoc so_far (added_terminals (form_of item) next)
    (added_terminals_of_all rest (next + terminals (loud (form_of item))))
    ∙ ap (λ l. so_far ++ added_terminals_of_all l next) (sym (forms-drop form_of items i item within there))
