-- The warnings about an expression, from those about its parts.
use Rattle.std.proofs.Common.{◌≡◌, inl, inr, ℕ, List, [], ◌++◌, sym, subst}
use Rattle.std.proofs.lemmas.List.Elements.{All-append, All-cons, All-nil}
use Rattle.peg_bytes.specs.Extent.{Extent}
use Rattle.peg_semantics.specs.Form.{Form, Forms, Literal, Class, Any, Name, Seq, Choice, Optional, Star, Plus, Counted}
use Rattle.peg_semantics.specs.Form.{And, Not, End, Then}
use Rattle.peg_semantics.specs.Rules.{Rule}
use Rattle.peg_semantics.specs.WellFormed.{below, below_all, subexpressions}
use Rattle.peg_lint.specs.Linting.{Adds, FindsBelow, FindsBelowBut, FindsExcluded, FindsOf, FindsOfAll}
use Rattle.peg_lint.specs.Linting.{FindsOperator, FindsUntried, IsOperatorOn, Keeps, KeepsTrue}
use Rattle.peg_lint.specs.Warnings.{IsFailingPredicate, IsWithoutUse, IsItemOf, IsUntriedIn}
use Rattle.peg_lint.specs.declared.warning.Warning.{Warning}
use Rattle.peg_lint.proofs.FileLemmas.{Adds-same, Adds-then, Adds-weaker, FindsExcluded-later, FindsItems-later, FindsOfAll-later}
use Rattle.peg_lint.proofs.FileLemmas.{KeepsTrue-then}
use Rattle.peg_lint.proofs.OperatorLemmas.{no-items, no-untried}

-- an expression has no parts
abbrev pub IsLeaf : Form → Type 0
IsLeaf (Literal bytes span) = Unit {0}
IsLeaf (Class set span) = Unit {0}
IsLeaf (Any span) = Unit {0}
IsLeaf (Name name span) = Unit {0}
IsLeaf (Seq items span) = ⊥
IsLeaf (Choice first rest span) = ⊥
IsLeaf (Optional part span) = ⊥
IsLeaf (Star part span) = ⊥
IsLeaf (Plus part span) = ⊥
IsLeaf (Counted part min max span) = ⊥
IsLeaf (And part span) = ⊥
IsLeaf (Not part span) = ⊥

module _ (rules : List Rule) (number : ℕ) (found : List Warning) where
  no-parts-of : (e : Form) → ((item : Form) → IsItemOf e item → ⊥) → ((a b : Form) → IsUntriedIn rules e a b → ⊥)
      → (IsFailingPredicate rules e → ⊥) → (IsWithoutUse rules e → ⊥) → FindsOf rules number found e
  no-parts-of e items untried failing without_use = record {
    items = λ item is. absurd (items item is);
    untried = λ a b is. absurd (untried a b is);
    operator = record { failing = λ is. absurd (failing is); without_use = λ is. absurd (without_use is) };
  }

  leaf : (e : Form) → IsLeaf e → FindsOf rules number found e
  leaf (Literal bytes span) is = no-parts-of (Literal bytes span) (λ item h. h) (λ a b h. h) (λ h. h) (λ h. h)
  leaf (Class set span) is = no-parts-of (Class set span) (λ item h. h) (λ a b h. h) (λ h. h) (λ h. h)
  leaf (Any span) is = no-parts-of (Any span) (λ item h. h) (λ a b h. h) (λ h. h) (λ h. h)
  leaf (Name name span) is = no-parts-of (Name name span) (λ item h. h) (λ a b h. h) (λ h. h) (λ h. h)
  leaf (Seq items span) is = absurd is
  leaf (Choice first rest span) is = absurd is
  leaf (Optional part span) is = absurd is
  leaf (Star part span) is = absurd is
  leaf (Plus part span) is = absurd is
  leaf (Counted part min max span) is = absurd is
  leaf (And part span) is = absurd is
  leaf (Not part span) is = absurd is

  nothing-below : (e : Form) → IsLeaf e → below e ≡ []
  nothing-below (Literal bytes span) is = λ i. []
  nothing-below (Class set span) is = λ i. []
  nothing-below (Any span) is = λ i. []
  nothing-below (Name name span) is = λ i. []
  nothing-below (Seq items span) is = absurd is
  nothing-below (Choice first rest span) is = absurd is
  nothing-below (Optional part span) is = absurd is
  nothing-below (Star part span) is = absurd is
  nothing-below (Plus part span) is = absurd is
  nothing-below (Counted part min max span) is = absurd is
  nothing-below (And part span) is = absurd is
  nothing-below (Not part span) is = absurd is

  pub FindsOfAll-leaf : (e : Form) → IsLeaf e → FindsOfAll rules number (subexpressions e) found
  FindsOfAll-leaf e is =
      All-cons (FindsOf rules number found) e (below e) (leaf e is)
      (subst (λ (es : List Form). FindsOfAll rules number es found) (sym (nothing-below e is))
      (All-nil (FindsOf rules number found)))

  pub FindsOfAll-seq : (items : Forms) (span : Extent) → FindsBelow rules number items found
      → FindsOfAll rules number (subexpressions (Seq items span)) found
  FindsOfAll-seq items span finds =
      All-cons (FindsOf rules number found) (Seq items span) (below_all items)
      (record {
        items = finds.excluded;
        untried = λ a b is. absurd is;
        operator = record { failing = λ is. absurd is; without_use = λ is. absurd is };
      }) finds.parts

  pub FindsOfAll-choice : (first : Form) (rest : Forms) (span : Extent) → FindsOfAll rules number (subexpressions first) found
      → FindsExcluded rules number first found → FindsBelow rules number rest found
      → FindsUntried rules number (Choice first rest span) found
      → FindsOfAll rules number (subexpressions (Choice first rest span)) found
  FindsOfAll-choice first rest span of_first excluded of_rest untried =
      All-cons (FindsOf rules number found) (Choice first rest span) (subexpressions first ++ below_all rest)
      (record {
        items = item-of;
        untried = untried;
        operator = record { failing = λ is. absurd is; without_use = λ is. absurd is };
      })
      (All-append (FindsOf rules number found) (subexpressions first) (below_all rest) of_first of_rest.parts)
    where
      item-of : (item : Form) → IsItemOf (Choice first rest span) item → FindsExcluded rules number item found
      item-of item (inl here) = subst (λ (f : Form). FindsExcluded rules number f found) here excluded
      item-of item (inr among) = of_rest.excluded item among

  pub FindsOfAll-operator : (e part : Form) → IsOperatorOn e part → below e ≡ subexpressions part
      → FindsOfAll rules number (subexpressions part) found → FindsOperator rules number e found
      → FindsOfAll rules number (subexpressions e) found
  FindsOfAll-operator e part on under of_part operator =
      All-cons (FindsOf rules number found) e (below e)
      (record {
        items = λ item is. absurd (no-items e part item on is);
        untried = λ a b is. absurd (no-untried rules e part a b on is);
        operator = operator;
      })
      (subst (λ (es : List Form). FindsOfAll rules number es found) (sym under) of_part)

-- ---- steps

FindsBelow-later : (rules : List Rule) (number : ℕ) (items : Forms) (one two : List Warning) → Keeps one two
    → FindsBelow rules number items one → FindsBelow rules number items two
FindsBelow-later rules number items one two keeps finds = record {
  excluded = FindsItems-later one two keeps rules number items finds.excluded;
  parts = FindsOfAll-later one two keeps rules number (below_all items) finds.parts;
}

module _ (rules : List Rule) (number : ℕ) where
  pub Adds-leaf : (e : Form) (old : List Warning) → IsLeaf e → Adds rules (FindsOfAll rules number (subexpressions e)) old old
  Adds-leaf e old is = Adds-same rules (FindsOfAll rules number (subexpressions e)) old (FindsOfAll-leaf rules number old e is)

  pub Adds-seq : (items : Forms) (span : Extent) (l0 l1 : List Warning) → Adds rules (FindsBelow rules number items) l0 l1
      → Adds rules (FindsOfAll rules number (subexpressions (Seq items span))) l0 l1
  Adds-seq items span l0 l1 one =
      Adds-weaker rules (FindsBelow rules number items) (FindsOfAll rules number (subexpressions (Seq items span))) l0 l1
      (λ finds. FindsOfAll-seq rules number l1 items span finds) one

  pub Adds-operator : (e part : Form) (l0 l1 l2 : List Warning) → IsOperatorOn e part → below e ≡ subexpressions part
      → Adds rules (FindsOfAll rules number (subexpressions part)) l0 l1 → Adds rules (FindsOperator rules number e) l1 l2
      → Adds rules (FindsOfAll rules number (subexpressions e)) l0 l2
  Adds-operator e part l0 l1 l2 on under one two =
      Adds-then rules (FindsOfAll rules number (subexpressions part)) (FindsOperator rules number e)
      (FindsOfAll rules number (subexpressions e)) l0 l1 l2 one two
      (λ keeps a b. FindsOfAll-operator rules number l2 e part on under
      (FindsOfAll-later l1 l2 keeps rules number (subexpressions part) a) b)

  module _ (first : Form) (rest : Forms) (span : Extent) where
    abbrev First : List Warning → Type 0
    First found = FindsOfAll rules number (subexpressions first) found × FindsExcluded rules number first found

    abbrev Both : List Warning → Type 0
    Both found = First found × FindsBelow rules number rest found

    Both-later : (one two : List Warning) → Keeps one two → Both one → Both two
    Both-later one two keeps both = (
      (
        FindsOfAll-later one two keeps rules number (subexpressions first) both.0.0,
        FindsExcluded-later one two keeps rules number first both.0.1,
      ),
      FindsBelow-later rules number rest one two keeps both.1,
    )

    pub Adds-choice : (l0 l1 l2 l3 l4 l5 : List Warning) → Adds rules (FindsOfAll rules number (subexpressions first)) l0 l1
        → Adds rules (FindsExcluded rules number first) l1 l2 → Adds rules (FindsBelow rules number rest) l2 l3
        → KeepsTrue rules l3 l4
        → Adds rules (FindsUntried rules number (Choice first rest span)) l4 l5
        → Adds rules (FindsOfAll rules number (subexpressions (Choice first rest span))) l0 l5
    Adds-choice l0 l1 l2 l3 l4 l5 one two three four five =
        let a : Adds rules First l0 l2 =
        Adds-then rules (FindsOfAll rules number (subexpressions first)) (FindsExcluded rules number first) First l0 l1 l2
        one two (λ keeps x y. (FindsOfAll-later l1 l2 keeps rules number (subexpressions first) x, y)) in
        let b : Adds rules Both l0 l3 =
        Adds-then rules First (FindsBelow rules number rest) Both l0 l2 l3 a three
        (λ keeps x y. (
          (
            FindsOfAll-later l2 l3 keeps rules number (subexpressions first) x.0,
            FindsExcluded-later l2 l3 keeps rules number first x.1,
          ),
          y,
        )) in
        let d = KeepsTrue-then rules Both l0 l3 l4 b four (λ keeps x. Both-later l3 l4 keeps x) in
        Adds-then rules Both (FindsUntried rules number (Choice first rest span))
        (FindsOfAll rules number (subexpressions (Choice first rest span))) l0 l4 l5 d five
        (λ keeps x y. let z = Both-later l4 l5 keeps x in
        FindsOfAll-choice rules number l5 first rest span z.0.0 z.0.1 z.1 y)

  -- ---- items in a loop

  pub below-all : (all : Forms) → (old : List Warning) → Adds rules (FindsBelowBut rules number all all) old old
  below-all all old = Adds-same rules (FindsBelowBut rules number all all) old (λ later keeps finds. finds)

  abbrev Some-more : (e : Form) → (now all : Forms) → List Warning → Type 0
  Some-more e now all found = (m : List Warning) × Keeps m found × FindsBelowBut rules number now all m
      × FindsOfAll rules number (subexpressions e) found

  pub below-more : (e : Form) (now after all : Forms) (l0 l1 l2 l3 : List Warning) → now ≡ Then e after
      → Adds rules (FindsBelowBut rules number now all) l0 l1 → Adds rules (FindsOfAll rules number (subexpressions e)) l1 l2
      → Adds rules (FindsExcluded rules number e) l2 l3 → Adds rules (FindsBelowBut rules number after all) l0 l3
  below-more e now after all l0 l1 l2 l3 step so_far parts excluded =
      Adds-then rules (Some-more e now all) (FindsExcluded rules number e) (FindsBelowBut rules number after all) l0 l2 l3
      (Adds-then rules (FindsBelowBut rules number now all) (FindsOfAll rules number (subexpressions e)) (Some-more e now all) l0 l1 l2
      so_far parts (λ keeps a b. (l1, keeps, a, b))) excluded
      (λ keeps a b later more finds. a.2 later (λ w in_it. more w (keeps w (a.1 w in_it)))
      (subst (λ (items : Forms). FindsBelow rules number items later) (sym step)
      (record {
        excluded = λ item is. elim is [
          | inl here ↦ subst (λ (f : Form). FindsExcluded rules number f later) here
              (FindsExcluded-later l3 later more rules number e b)
          | inr among ↦ finds.excluded item among
        ];
        parts = All-append (FindsOf rules number later) (subexpressions e) (below_all after)
            (FindsOfAll-later l2 later (λ w in_it. more w (keeps w in_it)) rules number (subexpressions e) a.3)
            finds.parts;
      })))

  pub below-end : (now all : Forms) (l0 l1 : List Warning) → now ≡ End → Adds rules (FindsBelowBut rules number now all) l0 l1
      → Adds rules (FindsBelow rules number all) l0 l1
  below-end now all l0 l1 none adds =
      Adds-weaker rules (FindsBelowBut rules number now all) (FindsBelow rules number all) l0 l1
      (λ finds. finds l1 (λ w in_it. in_it)
      (subst (λ (items : Forms). FindsBelow rules number items l1) (sym none)
      (record { excluded = λ item is. absurd is; parts = All-nil (FindsOf rules number l1) }))) adds
