use Rattle.std.proofs.Common.{◌≡◌, ℕ, List, [], ◌∷◌, ◌⊎◌, inl, inr, map, slice_get, position, bytes_eq, Option, None, Some, IfSome, option_map, refl, sym, ap, ◌∙◌, subst}
use Rattle.std.specs.declared.alloc.Global.{Global}
use Rattle.std.specs.declared.boxed.Box.{Box}
use Rattle.std.specs.declared.vec.Vec.{Vec}
use Rattle.peg_bytes.specs.Extent.{Extent, extent}
use Rattle.peg_bytes.specs.declared.byte_set.ByteSet.{ByteSet}
use Rattle.peg_bytes.specs.declared.span.Span.{Span}
use Rattle.peg_grammar.proofs.WrittenForms.{form_of-And, form_of-Name, form_of-Plus, form_of-Seq}
use Rattle.peg_grammar.specs.GrammarRules.{rules_in}
use Rattle.peg_grammar.specs.Written.{form_of}
use Rattle.peg_grammar.specs.declared.expr.Expr.{Expr}
use Rattle.peg_grammar.specs.declared.expr.Expr.TheViews as code
use Rattle.peg_grammar.specs.declared.expr.Expr.TheVariants.{Any, Class, Literal}
use Rattle.peg_semantics.specs.Form as form
use Rattle.peg_semantics.specs.Form.{Form, forms}
use Rattle.peg_semantics.specs.Rules.{Rule, names}
use Rattle.peg_lint.proofs.HeadLemmas.{head-and, head-itself, head-name, head-plus, head-seq}
use Rattle.peg_lint.proofs.PartLemmas.{form_of-Any, form_of-Class, form_of-Literal}
use Rattle.peg_lint.specs.Linting.{IsHeadOf, IsTerminal}
use Rattle.peg_lint.proofs.heads.+head.Goals as goal

if_some : {X : Type 0} (P Q : X → Type 0) (o : Option X) → ((x : X) → P x → Q x) → IfSome o P → IfSome o Q
if_some P Q None to h = tt
if_some P Q (Some x) to h = to x h

-- the expression of the rule that a name refers to
head-named : (rules : List Rule) (head body : Form) (name : List ℕ) (span : Extent) (k : ℕ)
    → Some k ≡ position (bytes_eq name) (names rules)
    → option_map (λ (r : Rule). r.body) (slice_get rules k) ≡ Some body → IsHeadOf rules head body
    → IsHeadOf rules head (form.Name name span)
head-named rules head body name span k named is at = by (slice_get rules k) refl is
  where
    by : (found : Option Rule) → slice_get rules k ≡ found → option_map (λ (r : Rule). r.body) found ≡ Some body
        → IsHeadOf rules head (form.Name name span)
    by None there none = absurd cc
    by (Some rule) there some =
        let same : rule.body ≡ body = cc in
        head-name rules head name span k rule (sym named) there (subst (IsHeadOf rules head) (sym same) at)

-- the first item of a sequence
head-first : (rules : List Rule) (head : Form) (items : List Expr) (item : Expr) (span : Extent)
    → Some item ≡ slice_get items 0 → IsHeadOf rules head (form_of item)
    → IsHeadOf rules head (form.Seq (forms (map form_of items)) span)
head-first rules head [] item span at is = absurd cc
head-first rules head (x ∷ xs) item span at is =
    let same : item ≡ x = cc in
    let here : IsHeadOf rules head (form_of x) = subst (λ (e : Expr). IsHeadOf rules head (form_of e)) same is in
    head-seq rules head (form_of x) here (forms (map form_of xs)) span

-- literals, classes and dots
terminal : (expr : Expr) → ((bytes : Vec ℕ Global) × (span : Span) × (expr ≡ Literal bytes span))
    ⊎ (((set : ByteSet) × (span : Span) × (expr ≡ Class set span)) ⊎ ((span : Span) × (expr ≡ Any span)))
    → IsTerminal (form_of expr)
terminal expr (inl (bytes, span, is)) = subst IsTerminal (sym (ap form_of is ∙ form_of-Literal bytes span)) tt
terminal expr (inr (inl (set, span, is))) = subst IsTerminal (sym (ap form_of is ∙ form_of-Class set span)) tt
terminal expr (inr (inr (span, is))) = subst IsTerminal (sym (ap form_of is ∙ form_of-Any span)) tt

-- a plus or an and-predicate
head-part : (rules : List Rule) (expr : Expr) (part : Box Expr Global) (head now : Form) → now ≡ form_of part.value
    → ((span : Span) × (expr ≡ code.Plus part span)) ⊎ ((span : Span) × (expr ≡ code.And part span))
    → IsHeadOf rules head now → IsHeadOf rules head (form_of expr)
head-part rules expr part head now at (inl (span, is)) of_part =
    subst (IsHeadOf rules head) (sym (ap form_of is ∙ form_of-Plus part span))
    (head-plus rules head (form_of part.value) (subst (IsHeadOf rules head) at of_part) (extent span))
head-part rules expr part head now at (inr (span, is)) of_part =
    subst (IsHeadOf rules head) (sym (ap form_of is ∙ form_of-And part span))
    (head-and rules head (form_of part.value) (subst (IsHeadOf rules head) at of_part) (extent span))

pub returns-in-Some : goal.returns-in-Some
returns-in-Some t c =
    let rules = rules_in c.args.grammar.now in
    let name = c.as_str.result.now in
    let span = extent c.in-Name.span in
    let body = form_of c.body.result.now in
    let same : form_of c.args.expr.now ≡ form.Name name span =
    ap form_of c.in-Name.is ∙ (form_of-Name c.in-Name.name c.in-Name.span
    ∙ sym (ap (λ (l : List ℕ). form.Name l span) c.as_str.ensures.value)) in
    if_some (λ start. IsHeadOf rules (form_of start.now) body)
    (λ start. IsHeadOf rules (form_of start.now) (form_of c.args.expr.now)) c.head.result
    (λ start is. subst (IsHeadOf rules (form_of start.now)) (sym same)
    (head-named rules (form_of start.now) body name span c.in-Some.rule c.in-Some.ensures c.body.ensures is))
    c.head.ensures

pub returns-in-Some-first : goal.returns-in-Some-first
returns-in-Some-first t c =
    let rules = rules_in c.args.grammar.now in
    let items = c.in-Seq.items.items in
    let item = c.in-Some-first.item.now in
    let span = extent c.in-Seq.span in
    let same = ap form_of c.in-Seq.is ∙ form_of-Seq c.in-Seq.items c.in-Seq.span in
    let there : Some item ≡ slice_get items 0 =
    c.in-Some-first.ensures.value ∙ ap (λ (l : List Expr). slice_get l 0) c.deref.ensures.value in
    if_some (λ start. IsHeadOf rules (form_of start.now) (form_of item))
    (λ start. IsHeadOf rules (form_of start.now) (form_of c.args.expr.now)) c.head-in-Some-first.result
    (λ start is. subst (IsHeadOf rules (form_of start.now)) (sym same)
    (head-first rules (form_of start.now) items item span there is)) c.head-in-Some-first.ensures

pub returns-in-Literal : goal.returns-in-Literal
returns-in-Literal t c =
    head-itself (rules_in c.args.grammar.now) (form_of c.args.expr.now) (terminal c.args.expr.now c.in-Literal.is)

pub returns-in-Plus : goal.returns-in-Plus
returns-in-Plus t c =
    let rules = rules_in c.args.grammar.now in
    let now = form_of c.deref-in-Plus.result.now in
    if_some (λ start. IsHeadOf rules (form_of start.now) now)
    (λ start. IsHeadOf rules (form_of start.now) (form_of c.args.expr.now)) c.head-in-Plus.result
    (λ start is. head-part rules c.args.expr.now c.in-Plus.part (form_of start.now) now
    (ap form_of c.deref-in-Plus.ensures) c.in-Plus.is is) c.head-in-Plus.ensures
