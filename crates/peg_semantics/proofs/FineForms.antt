-- Expressions with well-formed subexpressions, as in a well-formed grammar; their subexpressions have the same
-- property.
use Rattle.std.proofs.Common.{ℕ, zero, suc, List, ◌∷◌, ◌++◌, All}
use Rattle.std.proofs.lemmas.List.Elements.{All-nil, All-cons, All-head, All-tail, All-append}
use Rattle.peg_bytes.specs.Extent.{Extent}
use Rattle.peg_semantics.specs.Form.{Form, Forms, Literal, Class, Any, Name, Seq, Choice, Optional, Star, Plus, Counted, And, Not}
use Rattle.peg_semantics.specs.Form.{End, Then}
use Rattle.peg_semantics.specs.Rules.{Rule}
use Rattle.peg_semantics.specs.WellFormed.{IsWellFormedIn, IsWellFormed, below, below_all, subexpressions}
use Rattle.peg_semantics.proofs.MeaningLemmas.{All-front, All-back}

-- all subexpressions of an expression are well-formed; and the same for a list of expressions
abbrev pub IsFine : List Rule → Form → Type 0
IsFine rules e = All (IsWellFormed rules) (subexpressions e)

abbrev pub AreFine : List Rule → Forms → Type 0
AreFine rules items = All (IsWellFormed rules) (below_all items)

-- the first expression of a list, and the rest
pub fine-first : (rules : List Rule) (e : Form) (rest : Forms)
    → All (IsWellFormed rules) (e ∷ (below e ++ below_all rest)) → IsFine rules e
fine-first rules e rest fine =
    All-cons (IsWellFormed rules) e (below e) (All-head (IsWellFormed rules) e (below e ++ below_all rest) fine)
    (All-front (IsWellFormed rules) (below e) (below_all rest)
    (All-tail (IsWellFormed rules) e (below e ++ below_all rest) fine))

pub fine-rest : (rules : List Rule) (e : Form) (rest : Forms)
    → All (IsWellFormed rules) (e ∷ (below e ++ below_all rest)) → AreFine rules rest
fine-rest rules e rest fine =
    All-back (IsWellFormed rules) (below e) (below_all rest)
    (All-tail (IsWellFormed rules) e (below e ++ below_all rest) fine)

-- the proper subexpressions
pub fine-below : (rules : List Rule) (e : Form) → IsFine rules e → All (IsWellFormed rules) (below e)
fine-below rules e fine = All-tail (IsWellFormed rules) e (below e) fine

-- the iterations of a plus after the first are a star, which is well-formed if the plus is
star-of_plus : (rules : List Rule) (part : Form) (span : Extent) (n : ℕ) → IsWellFormedIn rules n (Plus part span)
    → IsWellFormedIn rules n (Star part span)
unfolding IsWellFormedIn
star-of_plus rules part span zero is = is
star-of_plus rules part span (suc n) is = is

pub fine-star : (rules : List Rule) (part : Form) (span : Extent) → IsFine rules (Plus part span)
    → IsFine rules (Star part span)
fine-star rules part span fine =
    let plus = All-head (IsWellFormed rules) (Plus part span) (subexpressions part) fine in
    All-cons (IsWellFormed rules) (Star part span) (subexpressions part)
    (plus.0, star-of_plus rules part span plus.0 plus.1) (fine-below rules (Plus part span) fine)

-- a part and its subexpressions
part-inside : (rules : List Rule) (part : Form) → IsFine rules part
    → (All (IsWellFormed rules) (below part) → All (IsFine rules) (below part))
    → All (IsFine rules) (subexpressions part)
part-inside rules part fine inside =
    All-cons (IsFine rules) part (below part) fine (inside (fine-below rules part fine))

-- the property passes from an expression to each of its subexpressions
mutual
  pub fine-inside : (rules : List Rule) (e : Form) → All (IsWellFormed rules) (below e) → All (IsFine rules) (below e)
  fine-inside rules (Literal bytes span) fine = All-nil (IsFine rules)
  fine-inside rules (Class set span) fine = All-nil (IsFine rules)
  fine-inside rules (Any span) fine = All-nil (IsFine rules)
  fine-inside rules (Name name span) fine = All-nil (IsFine rules)
  fine-inside rules (Seq items span) fine = all-fine-inside rules items fine
  fine-inside rules (Choice first rest span) fine =
      All-cons (IsFine rules) first (below first ++ below_all rest) (fine-first rules first rest fine)
      (All-append (IsFine rules) (below first) (below_all rest)
      (fine-inside rules first (fine-below rules first (fine-first rules first rest fine)))
      (all-fine-inside rules rest (fine-rest rules first rest fine)))
  fine-inside rules (Optional part span) fine = part-inside rules part fine (fine-inside rules part)
  fine-inside rules (Star part span) fine = part-inside rules part fine (fine-inside rules part)
  fine-inside rules (Plus part span) fine = part-inside rules part fine (fine-inside rules part)
  fine-inside rules (Counted part min max span) fine = part-inside rules part fine (fine-inside rules part)
  fine-inside rules (And part span) fine = part-inside rules part fine (fine-inside rules part)
  fine-inside rules (Not part span) fine = part-inside rules part fine (fine-inside rules part)

  all-fine-inside : (rules : List Rule) (items : Forms) → AreFine rules items → All (IsFine rules) (below_all items)
  all-fine-inside rules End fine = All-nil (IsFine rules)
  all-fine-inside rules (Then e rest) fine =
      All-cons (IsFine rules) e (below e ++ below_all rest) (fine-first rules e rest fine)
      (All-append (IsFine rules) (below e) (below_all rest)
      (fine-inside rules e (fine-below rules e (fine-first rules e rest fine)))
      (all-fine-inside rules rest (fine-rest rules e rest fine)))
