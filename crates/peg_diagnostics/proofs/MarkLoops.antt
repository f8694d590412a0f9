-- Loops that mark the expressions of a list.
use Rattle.std.proofs.Common.{◌≡◌, ℕ, zero, suc, ◌+◌, ◌<◌, ◌≤◌, List, [], ◌∷◌, ◌++◌, map, length, get_or, drop, refl, sym, ap, ◌∙◌, arith, append_assoc, suc-add}
use Rattle.std.proofs.Math.ListN.{drop_of_length-le}
use Rattle.std.proofs.lemmas.List.{length-map}
use Rattle.peg_bytes.specs.Extent.{Extent, extent}
use Rattle.peg_bytes.specs.declared.span.Span.{Span}
use Rattle.std.proofs.lemmas.List.{map-append}
use Rattle.peg_semantics.specs.Form.{Form, Then, forms}
use Rattle.peg_grammar.specs.Written.{form_of, rule_of, rules_of}
use Rattle.peg_grammar.specs.declared.expr.Definition.{Definition}
use Rattle.peg_grammar.specs.declared.expr.Expr.{Expr}
use Rattle.peg_diagnostics.specs.Diagnostic.{form_extent}
use Rattle.peg_diagnostics.specs.Marked.{alternatives, doubled, mark, mark_all, mark_each, marker_rule, marker_rules, with_markers}

-- the items of a sequence marked, as a list
abbrev pub marked_list : (number : ℕ) → List Form → List Form
marked_list number [] = []
marked_list number (e ∷ rest) = mark number e ∷ marked_list (number + alternatives e) rest

-- the alternatives of a choice marked, as a list
abbrev pub marked_each : (number : ℕ) → List Form → List Form
marked_each number [] = []
marked_each number (e ∷ rest) =
    with_markers number (form_extent e) (mark (number + 1) e) ∷ marked_each (number + 1 + alternatives e) rest

pub forms-marked : (number : ℕ) (items : List Form) → forms (marked_list number items) ≡ mark_all number (forms items)
forms-marked number [] = refl
forms-marked number (e ∷ rest) = ap (Then (mark number e)) (forms-marked (number + alternatives e) rest)

pub forms-each : (number : ℕ) (items : List Form) → forms (marked_each number items) ≡ mark_each number (forms items)
forms-each number [] = refl
forms-each number (e ∷ rest) =
    ap (Then (with_markers number (form_extent e) (mark (number + 1) e)))
    (forms-each (number + 1 + alternatives e) rest)

-- the images from index i on are that of the element there and those after it
pub list-drop : {X Y : Type 0} (f : X → Y) (xs : List X) (i : ℕ) (x : X) → i < length xs → x ≡ get_or xs i x
    → drop i (map f xs) ≡ f x ∷ drop (i + 1) (map f xs)
list-drop f [] i x within is = absurd (omega arith)
list-drop f (y ∷ ys) zero x within is = ap (λ z. f z ∷ map f ys) (sym is)
list-drop f (y ∷ ys) (suc i) x within is = rw suc-add (list-drop f ys i x (omega arith) is)

-- one more item is marked
pub one_more_item : (items : List Expr) (i : ℕ) (item copy : Expr) (so_far new : List Expr) (next after : ℕ)
    → i < length items → item ≡ get_or items i item → new ≡ so_far ++ copy ∷ []
    → form_of copy ≡ mark next (form_of item) → after ≡ next + alternatives (form_of item)
    → map form_of new ++ marked_list after (drop (i + 1) (map form_of items))
    ≡ map form_of so_far ++ marked_list next (drop i (map form_of items))
one_more_item items i item copy so_far new next after within is pushed marked counted =
    let rest = drop (i + 1) (map form_of items) in
    (λ j. map form_of (pushed j) ++ marked_list (counted j) rest)
    ∙ ap (λ l. l ++ marked_list (next + alternatives (form_of item)) rest) (map-append form_of so_far (copy ∷ []))
    ∙ append_assoc (map form_of so_far) (form_of copy ∷ []) (marked_list (next + alternatives (form_of item)) rest)
    ∙ ap (λ e. map form_of so_far ++ e ∷ marked_list (next + alternatives (form_of item)) rest) marked
    ∙ ap (λ l. map form_of so_far ++ marked_list next l) (sym (list-drop form_of items i item within is))

-- one more alternative is marked
pub one_more_alternative : (items : List Expr) (i : ℕ) (item copy : Expr) (so_far new : List Expr) (next after : ℕ)
    → i < length items → item ≡ get_or items i item → new ≡ so_far ++ copy ∷ []
    → form_of copy ≡ with_markers next (form_extent (form_of item)) (mark (next + 1) (form_of item))
    → after ≡ next + 1 + alternatives (form_of item)
    → map form_of new ++ marked_each after (drop (i + 1) (map form_of items))
    ≡ map form_of so_far ++ marked_each next (drop i (map form_of items))
one_more_alternative items i item copy so_far new next after within is pushed marked counted =
    let rest = drop (i + 1) (map form_of items) in
    (λ j. map form_of (pushed j) ++ marked_each (counted j) rest)
    ∙ ap (λ l. l ++ marked_each (next + 1 + alternatives (form_of item)) rest) (map-append form_of so_far (copy ∷ []))
    ∙ append_assoc (map form_of so_far) (form_of copy ∷ []) (marked_each (next + 1 + alternatives (form_of item)) rest)
    ∙ ap (λ e. map form_of so_far ++ e ∷ marked_each (next + 1 + alternatives (form_of item)) rest) marked
    ∙ ap (λ l. map form_of so_far ++ marked_each next l) (sym (list-drop form_of items i item within is))

-- past the end of a list nothing is left
pub list-drop_all : (items : List Expr) (i : ℕ) → length items ≤ i → drop i (map form_of items) ≡ []
list-drop_all items i past = drop_of_length-le (map form_of items) (rw length-map past)

-- the extents of one more alternative: its own one, and those of the alternatives inside it
pub one_more_extent : (so_far inside more pushed all : List Extent) (span : Extent) → pushed ≡ so_far ++ span ∷ []
    → all ≡ pushed ++ inside → all ++ more ≡ so_far ++ (span ∷ (inside ++ more))
one_more_extent so_far inside more pushed all span first then =
    ap (λ l. l ++ more) (then ∙ ap (λ l. l ++ inside) first ∙ append_assoc so_far (span ∷ []) inside)
    ∙ append_assoc so_far (span ∷ inside) more

-- one more marker is added
pub one_more_marker : (spans : List Span) (i : ℕ) (span : Span) (so_far new : List Definition) (added : Definition)
    (number : ℕ) → i < length spans → span ≡ get_or spans i span → new ≡ so_far ++ added ∷ []
    → rule_of added ≡ marker_rule number (extent span)
    → rules_of new ++ marker_rules (number + 1) (drop (i + 1) (map extent spans))
    ≡ rules_of so_far ++ marker_rules number (drop i (map extent spans))
one_more_marker spans i span so_far new added number within is pushed made =
    let later = marker_rules (number + 1) (drop (i + 1) (map extent spans)) in
    ap (λ l. rules_of l ++ later) pushed
    ∙ ap (λ l. l ++ later) (map-append rule_of so_far (added ∷ []))
    ∙ append_assoc (rules_of so_far) (rule_of added ∷ []) later
    ∙ ap (λ r. rules_of so_far ++ r ∷ later) made
    ∙ ap (λ l. rules_of so_far ++ marker_rules number l) (sym (list-drop extent spans i span within is))

-- one more span is added two times
pub two_more_spans : (spans : List Span) (i : ℕ) (span : Span) (so_far middle new : List Span) → i < length spans
    → span ≡ get_or spans i span → middle ≡ so_far ++ span ∷ [] → new ≡ middle ++ span ∷ []
    → map extent new ++ doubled (drop (i + 1) (map extent spans))
    ≡ map extent so_far ++ doubled (drop i (map extent spans))
two_more_spans spans i span so_far middle new within is first second =
    let later = doubled (drop (i + 1) (map extent spans)) in
    ap (λ l. map extent l ++ later) (second ∙ ap (λ l. l ++ span ∷ []) first ∙ append_assoc so_far (span ∷ []) (span ∷ []))
    ∙ ap (λ l. l ++ later) (map-append extent so_far (span ∷ span ∷ []))
    ∙ append_assoc (map extent so_far) (extent span ∷ extent span ∷ []) later
    ∙ ap (λ l. map extent so_far ++ doubled l) (sym (list-drop extent spans i span within is))
