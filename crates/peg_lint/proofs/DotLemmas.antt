-- Expressions that end in a dot.
use Rattle.std.proofs.Common.{◌≡◌, ℕ, zero, suc, ◌+◌, ◌<◌, ◌≤◌, List, [], ◌∷◌, length, map, get_or, slice_get, Option, None, Some, IfNone, IfSome, option_map, refl, sym, ◌∙◌, ap, subst, arith}
use Rattle.peg_bytes.specs.Extent.{Extent, between, extent}
use Rattle.peg_bytes.specs.declared.span.Span.{Span}
use Rattle.peg_grammar.specs.Written.{form_of}
use Rattle.peg_grammar.specs.declared.expr.Expr.{Expr}
use Rattle.peg_semantics.specs.Form.{Form, Forms, Literal, Class, Any, Name, Seq, Choice, Optional, Star, Plus, Counted}
use Rattle.peg_semantics.specs.Form.{And, Not, End, Then, forms}
use Rattle.peg_semantics.specs.Rules.{Rule}
use Rattle.peg_lint.specs.FileWarnings.{AreLastTwo, EndInDot, EndsInDot, IsDotAtEnd, IsLastAlternative, IsLastOf}
use Rattle.peg_lint.specs.Habits.{EndsRule}

-- the expression at the last index is the last one
pub last-of : (items : List Expr) (i : ℕ) (one : Expr) → i + 1 ≡ length items → one ≡ get_or items i one
    → IsLastOf (forms (map form_of items)) (form_of one)
last-of [] i one count at = absurd (omega (arith, count))
last-of (x ∷ []) zero one count at = ap form_of (sym at)
last-of (x ∷ []) (suc i) one count at = absurd (omega (arith, count))
last-of (x ∷ y ∷ ys) zero one count at = absurd (omega (arith, count))
last-of (x ∷ y ∷ ys) (suc i) one count at = last-of (y ∷ ys) i one (omega (arith, count)) at

-- the expressions at the last two indexes are the last two
pub last-two : (items : List Expr) (i : ℕ) (one other : Expr) → i + 2 ≡ length items → one ≡ get_or items i one
    → other ≡ get_or items (i + 1) other → AreLastTwo (forms (map form_of items)) (form_of one) (form_of other)
last-two [] i one other count at next = absurd (omega (arith, count))
last-two (x ∷ []) i one other count at next = absurd (omega (arith, count))
last-two (x ∷ y ∷ []) zero one other count at next = (ap form_of (sym at), ap form_of (sym next))
last-two (x ∷ y ∷ []) (suc i) one other count at next = absurd (omega (arith, count))
last-two (x ∷ y ∷ z ∷ zs) zero one other count at next = absurd (omega (arith, count))
last-two (x ∷ y ∷ z ∷ zs) (suc i) one other count at next =
    last-two (y ∷ z ∷ zs) i one other (omega (arith, count)) at
    (next ∙ let same : suc i + 1 ≡ suc (i + 1) = omega arith in ap (λ n. get_or (x ∷ y ∷ z ∷ zs) n other) same)

-- ---- the last ones are the only ones

pub same-last : (items : Forms) (e f : Form) → IsLastOf items e → IsLastOf items f → e ≡ f
same-last End e f is also = absurd is
same-last (Then first End) e f is also = sym is ∙ also
same-last (Then first (Then next rest)) e f is also = same-last (Then next rest) e f is also

pub same-before : (items : Forms) (a b e f : Form) → AreLastTwo items a b → AreLastTwo items e f → a ≡ e
same-before End a b e f are also = absurd are
same-before (Then first End) a b e f are also = absurd are
same-before (Then first (Then next End)) a b e f are also = sym are.0 ∙ also.0
same-before (Then first (Then next (Then other rest))) a b e f are also =
    same-before (Then next (Then other rest)) a b e f are also

pub same-second : (items : Forms) (a b e f : Form) → AreLastTwo items a b → AreLastTwo items e f → b ≡ f
same-second End a b e f are also = absurd are
same-second (Then first End) a b e f are also = absurd are
same-second (Then first (Then next End)) a b e f are also = sym are.1 ∙ also.1
same-second (Then first (Then next (Then other rest))) a b e f are also =
    same-second (Then next (Then other rest)) a b e f are also

pub two-at-least : (items : List Expr) (a b : Form) → AreLastTwo (forms (map form_of items)) a b → 2 ≤ length items
two-at-least [] a b are = absurd are
two-at-least (x ∷ []) a b are = absurd are
two-at-least (x ∷ y ∷ ys) a b are = omega arith

pub before-is : (items : List Expr) (i : ℕ) (one : Expr) (a b : Form) → i + 2 ≡ length items
    → one ≡ get_or items i one → AreLastTwo (forms (map form_of items)) a b → a ≡ form_of one
before-is [] i one a b count at are = absurd are
before-is (x ∷ []) i one a b count at are = absurd are
before-is (x ∷ y ∷ []) zero one a b count at are = sym are.0 ∙ ap form_of (sym at)
before-is (x ∷ y ∷ []) (suc i) one a b count at are = absurd (omega (arith, count))
before-is (x ∷ y ∷ z ∷ zs) zero one a b count at are = absurd (omega (arith, count))
before-is (x ∷ y ∷ z ∷ zs) (suc i) one a b count at are =
    before-is (y ∷ z ∷ zs) i one a b (omega (arith, count)) at are

pub second-is : (items : List Expr) (i : ℕ) (other : Expr) (a b : Form) → i + 1 ≡ length items
    → other ≡ get_or items i other → AreLastTwo (forms (map form_of items)) a b → b ≡ form_of other
second-is [] i other a b count at are = absurd are
second-is (x ∷ []) i other a b count at are = absurd are
second-is (x ∷ y ∷ []) zero other a b count at are = absurd (omega (arith, count))
second-is (x ∷ y ∷ []) (suc zero) other a b count at are = sym are.1 ∙ ap form_of (sym at)
second-is (x ∷ y ∷ []) (suc (suc i)) other a b count at are = absurd (omega (arith, count))
second-is (x ∷ y ∷ z ∷ zs) zero other a b count at are = absurd (omega (arith, count))
second-is (x ∷ y ∷ z ∷ zs) (suc i) other a b count at are =
    second-is (y ∷ z ∷ zs) i other a b (omega (arith, count)) at are

pub same-alternative : (whole e f : Form) → IsLastAlternative whole e → IsLastAlternative whole f → e ≡ f
same-alternative (Literal bytes span) e f is also = sym is ∙ also
same-alternative (Class set span) e f is also = sym is ∙ also
same-alternative (Any span) e f is also = sym is ∙ also
same-alternative (Name name span) e f is also = sym is ∙ also
same-alternative (Seq items span) e f is also = sym is ∙ also
same-alternative (Choice first rest span) e f is also = same-last (Then first rest) e f is also
same-alternative (Optional part span) e f is also = sym is ∙ also
same-alternative (Star part span) e f is also = sym is ∙ also
same-alternative (Plus part span) e f is also = sym is ∙ also
same-alternative (Counted part min max span) e f is also = sym is ∙ also
same-alternative (And part span) e f is also = sym is ∙ also
same-alternative (Not part span) e f is also = sym is ∙ also

same-span : (span other : Extent) → Any span ≡ Any other → span ≡ other
same-span span other same = cc

-- the dot with which items end is the only one
pub same-dot : (items : Forms) (span other : Extent) → EndInDot items span → EndInDot items other → span ≡ other
same-dot items span other one two =
    same-span span other (same-second items one.0 (Any span) two.0 (Any other) one.1 two.1)

-- the items of the last alternative are the only ones
pub same-items : (e : Form) (items others : Forms) (whole span : Extent) → IsLastAlternative e (Seq items whole)
    → IsLastAlternative e (Seq others span) → items ≡ others
same-items e items others whole span one two =
    let same = same-alternative e (Seq items whole) (Seq others span) one two in cc

-- the span that was read is that of the dot
pub dot-read : (read : Option Span) (e : Form) (span : Extent) → IfSome read (λ s. e ≡ Any (extent s))
    → IfNone read ((s : Extent) → e ≡ Any s → ⊥) → e ≡ Any span → option_map extent read ≡ Some span
dot-read None e span some none is = absurd (none span is)
dot-read (Some s) e span some none is = ap (λ x. Some x) (same-span (extent s) span (sym some ∙ is))

-- ---- rules

pub some-next : (rules : List Rule) (number : ℕ) (rule : Rule) → slice_get rules number ≡ Some rule
    → number < length rules
some-next [] number rule at = cc
some-next (r ∷ rules) zero rule at = omega arith
some-next (r ∷ rules) (suc number) rule at =
    let more = some-next rules number rule at in omega (arith, more)

-- a rule whose expression ends in a dot
pub dot-at-end : (file : List ℕ) (rules : List Rule) (number : ℕ) (e : Form) (span name : Extent)
    → option_map (λ (r : Rule). r.body) (slice_get rules number) ≡ Some e
    → option_map (λ (r : Rule). r.span) (slice_get rules (number + 1)) ≡ Some name → EndsInDot e span
    → EndsRule file (between span.end name.start) → IsDotAtEnd file rules number span
dot-at-end file rules number e span name is named dot ends =
    by (slice_get rules number) (slice_get rules (number + 1)) refl refl is named
  where
    by : (found next : Option Rule) → slice_get rules number ≡ found → slice_get rules (number + 1) ≡ next
        → option_map (λ (r : Rule). r.body) found ≡ Some e → option_map (λ (r : Rule). r.span) next ≡ Some name
        → IsDotAtEnd file rules number span
    by None next at after body named = absurd cc
    by (Some rule) None at after body named = absurd cc
    by (Some rule) (Some next) at after body named =
        let same : rule.body ≡ e = cc in
        let name_is : next.span ≡ name = cc in
        record {
          rule = rule;
          at = at;
          next = next;
          after = after;
          dot = subst (λ (f : Form). EndsInDot f span) (sym same) dot;
          ends = subst (λ (s : Extent). EndsRule file (between span.end s.start)) (sym name_is) ends;
        }

-- the name of the next rule
pub next-is : (rules : List Rule) (number : ℕ) (rule : Rule) (name : Extent)
    → option_map (λ (r : Rule). r.span) (slice_get rules number) ≡ Some name → slice_get rules number ≡ Some rule
    → rule.span ≡ name
next-is rules number rule name is at =
    let same : Some rule.span ≡ Some name = sym (ap (option_map (λ (r : Rule). r.span)) at) ∙ is in cc
