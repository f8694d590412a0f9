-- Loops that replace each element of a list by another.
use Rattle.std.proofs.Common.{◌≡◌, ◌⊎◌, inl, inr, ℕ, zero, suc, ◌+◌, ◌<◌, ◌≤◌, min, List, [], ◌∷◌, length, map, get_or, set}
use Rattle.std.proofs.Common.{refl, sym, ap, ap₂, ◌∙◌, subst, arith, get_or-set_same, get_or-set_other, length-set}
use Rattle.std.proofs.lemmas.Bool.{cases_lt}
use Rattle.std.proofs.lemmas.List.{with_items_is}
use Rattle.std.specs.Vec.{with_items}
use Rattle.std.specs.declared.alloc.Global.{Global}
use Rattle.std.specs.declared.boxed.Box.{Box}
use Rattle.std.specs.declared.vec.Vec.{Vec}
use Rattle.peg_bytes.specs.Extent.{extent}
use Rattle.peg_bytes.specs.declared.span.Span.{Span}
use Rattle.peg_semantics.specs.CutCounts.{at_most_one, cut_all_counts, cut_counts, cut_rule, cut_rules}
use Rattle.peg_semantics.specs.Form as form
use Rattle.peg_semantics.specs.Form.{Then, forms}
use Rattle.peg_grammar.specs.Written.{form_of, rule_of, rules_of}
use Rattle.peg_grammar.specs.declared.expr.Definition.{Definition}
use Rattle.peg_grammar.specs.declared.expr.Expr.{Expr}
use Rattle.peg_grammar.specs.declared.expr.Expr.TheViews.{Seq, Choice}
use Rattle.peg_grammar.proofs.WrittenForms.{form_of-Seq, form_of-Choice}

-- lists whose elements have the same images have the same list of images
pub map-each : {X Y : Type 0} (f g : X → Y) (xs ys : List X) → length xs ≡ length ys
    → ((k : ℕ) (d : X) → k < length ys → f (get_or xs k d) ≡ g (get_or ys k d)) → map f xs ≡ map g ys
map-each f g [] [] same each = refl
map-each f g [] (y ∷ ys) same each = absurd (omega (arith, same))
map-each f g (x ∷ xs) [] same each = absurd (omega (arith, same))
map-each f g (x ∷ xs) (y ∷ ys) same each =
    ap₂ ◌∷◌ (each 0 x (omega arith))
    (map-each f g xs ys (omega (arith, same)) (λ k d within. each (suc k) d (omega (arith, within))))

-- an element within a list doesn't depend on the value for those past its end
get_or-default : {X : Type 0} (xs : List X) (k : ℕ) (d e : X) → k < length xs → get_or xs k d ≡ get_or xs k e
get_or-default [] k d e within = absurd (omega (arith, within))
get_or-default (x ∷ xs) zero d e within = refl
get_or-default (x ∷ xs) (suc k) d e within = get_or-default xs k d e (omega (arith, within))

-- The elements below an index are replaced, and the others are those at the start.
pub record IsReplaced {X Y : Type 0} (f g : X → Y) (start now : List X) (index : ℕ) : Type 0 where
  pub count : length now ≡ length start
  pub before : (k : ℕ) (d : X) → k < index → f (get_or now k d) ≡ g (get_or start k d)
  pub after : (k : ℕ) (d : X) → index ≤ k → get_or now k d ≡ get_or start k d

-- one more element is replaced
module _ {X Y : Type 0} (f g : X → Y) (start now : List X) (index : ℕ) (x : X) (so_far : IsReplaced f g start now index)
    (within : index < length now) (image : f x ≡ g (get_or now index x)) where
  before-more : (k : ℕ) (d : X) → k < index + 1 → f (get_or (set now index x) k d) ≡ g (get_or start k d)
  before-more k d below = by (cases_lt k index)
    where
      same-d : get_or now index x ≡ get_or start index d
      same-d = get_or-default now index x d within ∙ so_far.after index d (omega arith)

      by : (k < index) ⊎ (index ≤ k) → f (get_or (set now index x) k d) ≡ g (get_or start k d)
      by (inl before) =
          ap f (get_or-set_other now index k x d (λ same. omega (arith, before, same))) ∙ so_far.before k d before
      by (inr at) =
          let is : k ≡ index = omega (arith, below, at) in
          subst (λ k. f (get_or (set now index x) k d) ≡ g (get_or start k d)) (sym is)
          (ap f (get_or-set_same now index x d within) ∙ image ∙ ap g same-d)

  pub replaced-more : (new : List X) → new ≡ set now index x → IsReplaced f g start new (index + 1)
  replaced-more new is = record {
    count = ap length is ∙ length-set now index x ∙ so_far.count;
    before = λ k d below. ap (λ l. f (get_or l k d)) is ∙ before-more k d below;
    after = λ k d past.
        ap (λ l. get_or l k d) is ∙ get_or-set_other now index k x d (λ same. omega (arith, past, same))
        ∙ so_far.after k d (omega (arith, past));
  }

-- after the last element, all are replaced
pub replaced-all : {X Y : Type 0} (f g : X → Y) (start now : List X) (index : ℕ) → IsReplaced f g start now index
    → length now ≤ index → map f now ≡ map g start
replaced-all f g start now index so_far past =
    map-each f g now start so_far.count (λ k d within. so_far.before k d (omega (arith, past, so_far.count, within)))

-- the cut expressions of a list, as `Forms`
pub forms-cut : (items : List Expr)
    → forms (map (λ item. cut_counts (form_of item)) items) ≡ cut_all_counts (forms (map form_of items))
forms-cut [] = refl
forms-cut (item ∷ items) = ap (Then (cut_counts (form_of item))) (forms-cut items)

-- the cut rules of definitions
pub rules-cut : (definitions : List Definition)
    → map (λ definition. cut_rule (rule_of definition)) definitions ≡ cut_rules (rules_of definitions)
rules-cut [] = refl
rules-cut (definition ∷ definitions) = ap (λ l. cut_rule (rule_of definition) ∷ l) (rules-cut definitions)

-- the smaller of a number and 1
pub at_most_one-min : (n : ℕ) → min n 1 ≡ at_most_one n
at_most_one-min zero = omega arith
at_most_one-min (suc n) = omega arith

-- a sequence or a choice whose list was written
pub form_of-Seq-with : (items : Vec Expr Global) (new : List Expr) (span : Span) → length new ≡ items.len
    → form_of (Seq (with_items items new) span) ≡ form.Seq (forms (map form_of new)) (extent span)
form_of-Seq-with items new span count =
    form_of-Seq (with_items items new) span
    ∙ ap (λ l. form.Seq (forms (map form_of l)) (extent span)) (with_items_is items new count)

pub form_of-Choice-with : (first : Box Expr Global) (rest : Vec Expr Global) (new : List Expr) (span : Span) → length new ≡ rest.len
    → form_of (Choice first (with_items rest new) span) ≡ form.Choice (form_of first.value) (forms (map form_of new)) (extent span)
form_of-Choice-with first rest new span count =
    form_of-Choice first (with_items rest new) span
    ∙ ap (λ l. form.Choice (form_of first.value) (forms (map form_of l)) (extent span)) (with_items_is rest new count)
