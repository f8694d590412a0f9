-- Alternatives that come before others.
use Rattle.std.proofs.Common.{◌≡◌, ℕ, zero, suc, ◌+◌, ◌<◌, inl, inr, List, [], ◌∷◌, length, map, get_or, slice_get, Some, true, false, refl, sym, ap, ◌∙◌, subst, arith}
use Rattle.peg_semantics.specs.AbstractOutcomes.{Can}
use Rattle.peg_grammar.specs.Written.{form_of}
use Rattle.peg_grammar.specs.declared.expr.Expr.{Expr}
use Rattle.peg_semantics.specs.Form.{Form, forms}
use Rattle.peg_semantics.specs.RuleOutcomes.{IsAbstractOutcome}
use Rattle.peg_semantics.specs.Rules.{Rule}
use Rattle.peg_lint.specs.Excluded.{CannotFail}
use Rattle.peg_lint.specs.Linting.{AllFail, can_at}
use Rattle.peg_lint.specs.Outcomes.{AreOutcomes}
use Rattle.peg_lint.specs.Warnings.{ComesBefore, IsAmong, IsUntried}

-- an expression at an index is one of them
among : (items : List Expr) (i : ℕ) (item : Expr) → slice_get items i ≡ Some item
    → IsAmong (forms (map form_of items)) (form_of item)
among [] i item at = cc
among (x ∷ xs) zero item at = let same : x ≡ item = cc in inl (ap form_of same)
among (x ∷ xs) (suc i) item at = inr (among xs i item at)

-- an expression comes before those at greater indexes
pub before : (items : List Expr) (i j : ℕ) (one other : Expr) → i < j → slice_get items i ≡ Some one
    → slice_get items j ≡ Some other → ComesBefore (forms (map form_of items)) (form_of one) (form_of other)
before [] i j one other less at there = cc
before (x ∷ xs) i zero one other less at there = absurd (omega (arith, less))
before (x ∷ xs) zero (suc j) one other less at there =
    let same : x ≡ one = cc in inl (ap form_of same, among xs j other there)
before (x ∷ xs) (suc i) (suc j) one other less at there = inr (before xs i j one other (omega (arith, less)) at there)

-- an expression that isn't the last comes before one of the others
pub before-some : (items : List Expr) (i : ℕ) (one : Expr) → i + 1 < length items → slice_get items i ≡ Some one
    → (later : Form) × ComesBefore (forms (map form_of items)) (form_of one) later
before-some [] i one within at = absurd (omega (arith, within))
before-some (x ∷ []) zero one within at = absurd (omega (arith, within))
before-some (x ∷ y ∷ ys) zero one within at = let same : x ≡ one = cc in (form_of y, inl (ap form_of same, inl refl))
before-some (x ∷ xs) (suc i) one within at =
    let more : (later : Form) × ComesBefore (forms (map form_of xs)) (form_of one) later =
    before-some xs i one (omega (arith, within)) at in
    (more.0, inr more.1)

-- the expression of an alternative at an index
pub form-at : (items : List Expr) (k : ℕ) (one : Expr) → slice_get items k ≡ Some one
    → slice_get (map form_of items) k ≡ Some (form_of one)
form-at [] k one at = cc
form-at (x ∷ xs) zero one at = let same : x ≡ one = cc in ap (λ (e : Expr). Some (form_of e)) same
form-at (x ∷ xs) (suc k) one at = form-at xs k one at

-- among no expressions there is none
some-among : (es : List Form) (later : Form) → IsAmong (forms es) later → 0 < length es
some-among [] later is = absurd is
some-among (e ∷ es) later is = omega arith

-- an expression that comes before another is at an index
pub comes-before-at : (es : List Form) (earlier later : Form) → ComesBefore (forms es) earlier later
    → (k : ℕ) × (k + 1 < length es) × (slice_get es k ≡ Some earlier)
comes-before-at [] earlier later is = absurd is
comes-before-at (e ∷ es) earlier later (inl here) =
    let more = some-among es later here.1 in
    (0, omega (arith, more), ap (λ (f : Form). Some f) here.0)
comes-before-at (e ∷ es) earlier later (inr rest) =
    let found : (k : ℕ) × (k + 1 < length es) × (slice_get es k ≡ Some earlier) = comes-before-at es earlier later rest in
    (suc found.0, omega (arith, found.1), found.2)

-- ---- the first alternative that cannot fail

among-at : (es : List Form) (k : ℕ) (e : Form) → slice_get es k ≡ Some e → IsAmong (forms es) e
among-at [] k e at = cc
among-at (x ∷ es) zero e at = let same : x ≡ e = cc in inl same
among-at (x ∷ es) (suc k) e at = inr (among-at es k e at)

at-among : (es : List Form) (e : Form) → IsAmong (forms es) e → (k : ℕ) × (slice_get es k ≡ Some e)
at-among [] e is = absurd is
at-among (x ∷ es) e (inl same) = (0, ap (λ (f : Form). Some f) same)
at-among (x ∷ es) e (inr more) =
    let found : (k : ℕ) × (slice_get es k ≡ Some e) = at-among es e more in (suc found.0, found.1)

pub certain-excluded : (rules : List Rule) (e : Form) (can : Can) → IsAbstractOutcome rules e can → can.fails ≡ false
    → CannotFail rules e
certain-excluded rules e can is never fails = let bad : true ≡ false = sym (is.fails.1 fails) ∙ never in cc

-- the outcomes of an expression at an index
pub outcome-at : (rules : List Rule) (es : List Form) (cans : List Can) (k : ℕ) (e : Form) → AreOutcomes rules (forms es) cans
    → slice_get es k ≡ Some e → IsAbstractOutcome rules e (can_at cans k)
outcome-at rules [] cans k e are at = cc
outcome-at rules (x ∷ es) [] k e are at = absurd are
outcome-at rules (x ∷ es) (c ∷ cs) zero e are at =
    let same : x ≡ e = cc in subst (λ (f : Form). IsAbstractOutcome rules f c) same are.0
outcome-at rules (x ∷ es) (c ∷ cs) (suc k) e are at = outcome-at rules es cs k e are.1 at

-- an alternative after the first one that cannot fail
pub untried-from : (rules : List Rule) (es : List Form) (cans : List Can) (i j : ℕ) (a b : Form)
    → AreOutcomes rules (forms es) cans → i < j → slice_get es i ≡ Some a → slice_get es j ≡ Some b
    → (can_at cans i).fails ≡ false → ((k : ℕ) → k < i → (can_at cans k).fails ≡ true) → IsUntried rules (forms es) a b
untried-from rules [] cans i j a b are less at there certain before = cc
untried-from rules (e ∷ es) [] i j a b are less at there certain before = absurd are
untried-from rules (e ∷ es) (c ∷ cs) i zero a b are less at there certain before = absurd (omega (arith, less))
untried-from rules (e ∷ es) (c ∷ cs) zero (suc j) a b are less at there certain before =
    let same : e ≡ a = cc in
    inl (same, certain-excluded rules e c are.0 certain, among-at es j b there)
untried-from rules (e ∷ es) (c ∷ cs) (suc i) (suc j) a b are less at there certain before =
    inr (
      are.0.fails.0 (before 0 (omega arith)),
      untried-from rules es cs i j a b are.1 (omega (arith, less)) at there
          certain (λ k below. before (suc k) (omega (arith, below))),
    )

-- the first one that cannot fail is the only one
pub untried-at : (rules : List Rule) (es : List Form) (cans : List Can) (n : ℕ) (a b : Form)
    → AreOutcomes rules (forms es) cans → (can_at cans n).fails ≡ false
    → ((k : ℕ) → k < n → (can_at cans k).fails ≡ true) → IsUntried rules (forms es) a b
    → (j : ℕ) × (n < j) × (slice_get es n ≡ Some a) × (slice_get es j ≡ Some b)
untried-at rules [] cans n a b are certain before is = absurd is
untried-at rules (e ∷ es) [] n a b are certain before is = absurd are
untried-at rules (e ∷ es) (c ∷ cs) zero a b are certain before (inl here) =
    let found = at-among es b here.2 in
    (suc found.0, omega arith, ap (λ (f : Form). Some f) here.0, found.1)
untried-at rules (e ∷ es) (c ∷ cs) zero a b are certain before (inr rest) =
    absurd (certain-excluded rules e c are.0 certain rest.0)
untried-at rules (e ∷ es) (c ∷ cs) (suc n) a b are certain before (inl here) =
    absurd (here.1 (are.0.fails.0 (before 0 (omega arith))))
untried-at rules (e ∷ es) (c ∷ cs) (suc n) a b are certain before (inr rest) =
    let found : (j : ℕ) × (n < j) × (slice_get es n ≡ Some a) × (slice_get es j ≡ Some b) =
    untried-at rules es cs n a b are.1 certain (λ k below. before (suc k) (omega (arith, below))) rest.1 in
    (suc found.0, omega (arith, found.1), found.2, found.3)

-- where all can fail, none is untried
pub none-untried : (rules : List Rule) (es : List Form) (cans : List Can) (a b : Form) → AreOutcomes rules (forms es) cans
    → AllFail cans → IsUntried rules (forms es) a b → ⊥
none-untried rules [] cans a b are all is = is
none-untried rules (e ∷ es) [] a b are all is = are
none-untried rules (e ∷ es) (c ∷ cs) a b are all (inl here) = here.1 (are.0.fails.0 (all 0 (omega arith)))
none-untried rules (e ∷ es) (c ∷ cs) a b are all (inr rest) =
    none-untried rules es cs a b are.1 (λ k below. all (suc k) (omega (arith, below))) rest.1

pub some-at : (items : List Expr) (k : ℕ) (one : Expr) → k < length items → one ≡ get_or items k one
    → slice_get items k ≡ Some one
some-at [] k one within at = absurd (omega (arith, within))
some-at (x ∷ xs) zero one within at = ap (λ (e : Expr). Some e) (sym at)
some-at (x ∷ xs) (suc k) one within at = some-at xs k one (omega (arith, within)) at
