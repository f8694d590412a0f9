use Rattle.std.proofs.Common.{◌≡◌, ℕ, List, [], ◌∷◌, Bool, true, false, not, nat_eq, ◌==◌, IsTrue, Some, length, slice_get, vec_len, sym, ap, ◌∙◌, subst, arith}
use Rattle.std.proofs.lemmas.Bool.{eq-eqb}
use Rattle.std.specs.Cmp.Lexicographic.{same_text}
use Rattle.std.specs.List.{starts_with}
use Rattle.peg_bytes.specs.declared.byte_set.ByteSet.{ByteSet}
use Rattle.peg_semantics.proofs.RoundsLemmas.{or_right}
use Rattle.peg_bytes.specs.ByteSet.{Bytes, bytes_of, has}
use Rattle.peg_bytes.specs.Extent.{Extent, extent}
use Rattle.peg_grammar.specs.Written.{form_of}
use Rattle.peg_semantics.specs.Form as form
use Rattle.peg_semantics.specs.Form.{Form}
use Rattle.peg_semantics.specs.Rules.{Rule}
use Rattle.peg_lint.proofs.HeadLemmas.{any-any, any-class, any-literal, class-class, class-literal, literal-literal}
use Rattle.peg_lint.proofs.PartLemmas.{form_of-Any, form_of-Class, form_of-Literal}
use Rattle.peg_lint.specs.Never.{FailsWhere}
use Rattle.peg_lint.proofs.heads.covers.Goals as goal

-- from the forms of two expressions to the expressions that the code has
at : (rules : List Rule) (one other e f : Form) → one ≡ e → other ≡ f → FailsWhere rules e f → FailsWhere rules one other
at rules one other e f same equal fails =
    subst (λ (g : Form). FailsWhere rules g other) (sym same) (subst (FailsWhere rules e) (sym equal) fails)

pub returns-in-Any-Any : goal.returns-in-Any-Any
returns-in-Any-Any c = λ yes rules.
    at rules (form_of c.args.one.now) (form_of c.args.other.now) (form.Any (extent c.in-Any-Any.span-0))
    (form.Any (extent c.in-Any-Any.span-1)) (ap form_of c.in-Any-Any.is-0 ∙ form_of-Any c.in-Any-Any.span-0)
    (ap form_of c.in-Any-Any.is-1 ∙ form_of-Any c.in-Any-Any.span-1)
    (any-any rules (extent c.in-Any-Any.span-0) (extent c.in-Any-Any.span-1))

pub returns-in-Any-Class : goal.returns-in-Any-Class
returns-in-Any-Class c = λ yes rules.
    at rules (form_of c.args.one.now) (form_of c.args.other.now) (form.Any (extent c.in-Any-Class.span-0))
    (form.Class (bytes_of c.in-Any-Class.set) (extent c.in-Any-Class.span-1))
    (ap form_of c.in-Any-Class.is-0 ∙ form_of-Any c.in-Any-Class.span-0)
    (ap form_of c.in-Any-Class.is-1 ∙ form_of-Class c.in-Any-Class.set c.in-Any-Class.span-1)
    (any-class rules (extent c.in-Any-Class.span-0) (extent c.in-Any-Class.span-1) (bytes_of c.in-Any-Class.set))

pub returns-then-not-is_empty : goal.returns-then-not-is_empty
returns-then-not-is_empty c = λ yes rules.
    let a = c.in-Literal-Literal.a.items in
    let b = c.in-Literal-Literal.b.items in
    let here : starts_with nat_eq b a ≡ c.starts_with.result =
    sym (c.starts_with.ensures.value
    ∙ λ i. starts_with nat_eq (c.deref.ensures.value i) (c.deref-then-not-is_empty.ensures.value i)) in
    at rules (form_of c.args.one.now) (form_of c.args.other.now)
    (form.Literal a (extent c.in-Literal-Literal.span-0)) (form.Literal b (extent c.in-Literal-Literal.span-1))
    (ap form_of c.in-Literal-Literal.is-0 ∙ form_of-Literal c.in-Literal-Literal.a c.in-Literal-Literal.span-0)
    (ap form_of c.in-Literal-Literal.is-1 ∙ form_of-Literal c.in-Literal-Literal.b c.in-Literal-Literal.span-1)
    (literal-literal rules (extent c.in-Literal-Literal.span-0) (extent c.in-Literal-Literal.span-1) a b (here ∙ yes))

-- a class and a literal whose first byte it has
class-first : (rules : List Rule) (span other : Extent) (set : Bytes) (bytes : List ℕ) (byte : ℕ)
    → Some byte ≡ slice_get bytes 0 → has set byte ≡ true → FailsWhere rules (form.Class set span) (form.Literal bytes other)
class-first rules span other set [] byte there passes = absurd cc
class-first rules span other set (b ∷ bs) byte there passes =
    let same : byte ≡ b = cc in
    class-literal rules span other set b bs (ap (has set) (sym same) ∙ passes)

pub returns-in-Some : goal.returns-in-Some
returns-in-Some c = λ yes rules.
    let set = bytes_of c.in-Class-Literal.set in
    let bytes = c.in-Class-Literal.bytes.items in
    let there : Some c.in-Some.byte.now ≡ slice_get bytes 0 =
    c.in-Some.ensures.value ∙ ap (λ (l : List ℕ). slice_get l 0) c.deref-in-Class-Literal.ensures.value in
    at rules (form_of c.args.one.now) (form_of c.args.other.now)
    (form.Class set (extent c.in-Class-Literal.span-0)) (form.Literal bytes (extent c.in-Class-Literal.span-1))
    (ap form_of c.in-Class-Literal.is-0 ∙ form_of-Class c.in-Class-Literal.set c.in-Class-Literal.span-0)
    (ap form_of c.in-Class-Literal.is-1 ∙ form_of-Literal c.in-Class-Literal.bytes c.in-Class-Literal.span-1)
    (class-first rules (extent c.in-Class-Literal.span-0) (extent c.in-Class-Literal.span-1) set bytes
    c.in-Some.byte.now there (sym c.contains.ensures ∙ yes))

pub returns-then-not-is_empty-2 : goal.returns-then-not-is_empty-2
returns-then-not-is_empty-2 c = λ yes rules.
    let a = c.in-Class-Class.a in
    let b = c.in-Class-Class.b in
    let words : c.union.result.words ≡ a.words = same_text c.union.result.words a.words (sym yes ∙ c.eq.ensures) in
    let same : c.union.result ≡ a = λ i. record { words = words i } in
    at rules (form_of c.args.one.now) (form_of c.args.other.now)
    (form.Class (bytes_of a) (extent c.in-Class-Class.span-0)) (form.Class (bytes_of b) (extent c.in-Class-Class.span-1))
    (ap form_of c.in-Class-Class.is-0 ∙ form_of-Class a c.in-Class-Class.span-0)
    (ap form_of c.in-Class-Class.is-1 ∙ form_of-Class b c.in-Class-Class.span-1)
    (class-class rules (extent c.in-Class-Class.span-0) (extent c.in-Class-Class.span-1) (bytes_of a) (bytes_of b)
    (λ byte passes. sym (ap (λ (s : ByteSet). has (bytes_of s) byte) same)
    ∙ (c.union.ensures byte ∙ or_right (has (bytes_of a) byte) (has (bytes_of b) byte) passes)))

-- a dot and a literal that isn't empty
any-some : (rules : List Rule) (span other : Extent) (bytes : List ℕ) (count : ℕ) (empty : Bool)
    → count ≡ length bytes → empty ≡ (count == 0) → IsTrue (not empty)
    → FailsWhere rules (form.Any span) (form.Literal bytes other)
any-some rules span other [] count empty counted is some =
    let none : empty ≡ true = is ∙ eq-eqb count 0 counted in
    let bad : false ≡ true = sym (ap not none) ∙ some in
    absurd cc
any-some rules span other (b ∷ bs) count empty counted is some = any-literal rules span other b bs

pub returns-in-Any-Literal : goal.returns-in-Any-Literal
returns-in-Any-Literal c = λ yes rules.
    let bytes = c.in-Any-Literal.bytes in
    at rules (form_of c.args.one.now) (form_of c.args.other.now) (form.Any (extent c.in-Any-Literal.span-0))
    (form.Literal bytes.items (extent c.in-Any-Literal.span-1))
    (ap form_of c.in-Any-Literal.is-0 ∙ form_of-Any c.in-Any-Literal.span-0)
    (ap form_of c.in-Any-Literal.is-1 ∙ form_of-Literal bytes c.in-Any-Literal.span-1)
    (any-some rules (extent c.in-Any-Literal.span-0) (extent c.in-Any-Literal.span-1) bytes.items (vec_len bytes)
    c.is_empty-in-Any-Literal.result (omega (arith, bytes.ok.0)) c.is_empty-in-Any-Literal.ensures yes)
