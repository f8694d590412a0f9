-- An item after a star or a plus fails wherever the repetition ends, if it fails wherever the repeated part fails.
use Rattle.std.proofs.Common.{◌≡◌, inl, inr, ℕ, zero, suc, ◌+◌, ◌<◌, List, [], ◌∷◌, length, map, get_or, Some, sym, ap, ◌∙◌, subst, arith}
use Rattle.peg_bytes.specs.Extent.{Extent}
use Rattle.peg_grammar.specs.Written.{form_of}
use Rattle.peg_grammar.specs.declared.expr.Expr.{Expr}
use Rattle.peg_tree.specs.Trees.{Trees}
use Rattle.peg_semantics.specs.Form.{Form, Literal, Class, Any, Name, Seq, Choice, Optional, Star, Plus, Counted, And, Not}
use Rattle.peg_semantics.specs.Form.{forms}
use Rattle.peg_semantics.specs.Record.{Recognition, Failed, Matched, Record, IsRecord, prepend_trees, record_in}
use Rattle.peg_semantics.specs.Rules.{Rule}
use Rattle.peg_semantics.proofs.ResultSteps.{rounds_cases, then_cases}
use Rattle.peg_lint.specs.Warnings.{FollowsIn, IsRepeatOf}
use Rattle.peg_lint.specs.Never.{FailsAfter, FailsWhere}

module _ (rules : List Rule) (text : List ℕ) where
  -- the expression fails at a position
  abbrev FailsAt : Form → (terminal position : ℕ) → Type 0
  FailsAt e terminal position = (r : Record) × IsRecord rules text e terminal position r × (r.result ≡ Failed)

  -- if a result is a match, the expression fails at its end
  abbrev EndsWhereFails : Form → (terminal : ℕ) → Recognition → Type 0
  EndsWhereFails e terminal x = (end : ℕ) (trees : Trees) → x ≡ Matched end trees → FailsAt e terminal end

  -- trees before a match leave its end
  prepended : (e : Form) (terminal : ℕ) (trees : Trees) (x : Recognition) → EndsWhereFails e terminal x
      → EndsWhereFails e terminal (prepend_trees trees x)
  prepended e terminal trees Failed is end more matched = cc
  prepended e terminal trees (Matched at later) is end more matched =
      let same : at ≡ end = cc in is end later (ap (λ n. Matched n later) same)

  star-ends : (n : ℕ) (e : Form) (span : Extent) (terminal position : ℕ) (r : Record)
      → record_in rules text n (Star e span) terminal position ≡ Some r → EndsWhereFails e terminal r.result
  unfolding record_in
  star-ends zero e span terminal position r at = cc
  star-ends (suc n) e span terminal position r at =
      rounds_cases (EndsWhereFails e terminal) (record_in rules text n e terminal position) position
      (λ end. record_in rules text n (Star e span) terminal end) r
      (λ part tried failed end trees matched.
      let same : position ≡ end = cc in
      let here : FailsAt e terminal position = (part, (n, tried), failed) in
      subst (FailsAt e terminal) same here)
      (λ part more end trees tried matched next.
      prepended e terminal trees more.result (star-ends n e span terminal end more next)) at

  plus-ends : (n : ℕ) (e : Form) (span : Extent) (terminal position : ℕ) (r : Record)
      → record_in rules text n (Plus e span) terminal position ≡ Some r → EndsWhereFails e terminal r.result
  unfolding record_in
  plus-ends zero e span terminal position r at = cc
  plus-ends (suc n) e span terminal position r at =
      then_cases (EndsWhereFails e terminal) (record_in rules text n e terminal position)
      (λ end. record_in rules text n (Star e span) terminal end) r
      (λ part tried failed end trees matched. absurd cc)
      (λ part more end trees tried matched next.
      prepended e terminal trees more.result (star-ends n e span terminal end more next)) at

  repeat-ends : (n : ℕ) (repeat part : Form) (terminal position : ℕ) (r : Record) → IsRepeatOf repeat part
      → record_in rules text n repeat terminal position ≡ Some r → EndsWhereFails part terminal r.result
  repeat-ends n (Star e span) part terminal position r is at =
      subst (λ (f : Form). EndsWhereFails f terminal r.result) is (star-ends n e span terminal position r at)
  repeat-ends n (Plus e span) part terminal position r is at =
      subst (λ (f : Form). EndsWhereFails f terminal r.result) is (plus-ends n e span terminal position r at)
  repeat-ends n (Literal bytes span) part terminal position r is at = absurd is
  repeat-ends n (Class set span) part terminal position r is at = absurd is
  repeat-ends n (Any span) part terminal position r is at = absurd is
  repeat-ends n (Name name span) part terminal position r is at = absurd is
  repeat-ends n (Seq items span) part terminal position r is at = absurd is
  repeat-ends n (Choice first rest span) part terminal position r is at = absurd is
  repeat-ends n (Optional e span) part terminal position r is at = absurd is
  repeat-ends n (Counted e min max span) part terminal position r is at = absurd is
  repeat-ends n (And e span) part terminal position r is at = absurd is
  repeat-ends n (Not e span) part terminal position r is at = absurd is

-- the item fails wherever the repetition ends
pub fails-after : (rules : List Rule) (repeat next part : Form) → IsRepeatOf repeat part → FailsWhere rules part next
    → FailsAfter rules repeat next
fails-after rules repeat next part is fails text terminal number position end trees r s (n, at) matched tested =
    let stops = repeat-ends rules text n repeat part terminal position r is at end trees matched in
    fails text terminal number end stops.0 s stops.1 tested stops.2

-- items at neighbouring indexes follow each other
pub follows : (items : List Expr) (i : ℕ) (one other : Expr) → i + 1 < length items → one ≡ get_or items i one
    → other ≡ get_or items (i + 1) other → FollowsIn (forms (map form_of items)) (form_of one) (form_of other)
follows [] i one other within at there = absurd (omega (arith, within))
follows (x ∷ []) i one other within at there = absurd (omega (arith, within))
follows (x ∷ (y ∷ ys)) zero one other within at there = inl (ap form_of (sym at), ap form_of (sym there))
follows (x ∷ (y ∷ ys)) (suc i) one other within at there =
    let next : suc i + 1 ≡ suc (i + 1) = omega arith in
    inr (follows (y ∷ ys) i one other (omega (arith, within)) at
    (there ∙ ap (λ n. get_or (x ∷ (y ∷ ys)) n other) next))
