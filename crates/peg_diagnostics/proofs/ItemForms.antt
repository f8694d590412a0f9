-- Items have consecutive numbers, in written order.
use Rattle.std.proofs.Common.{◌≡◌, ℕ, ◌+◌, Bool, true, false, if◌then◌else◌, List, [], ◌∷◌, ◌++◌, length}
use Rattle.std.proofs.Common.{Some, slice_get, bytes_eq, refl, sym, ap, ap₂, subst, ◌∙◌, append_assoc}
use Rattle.std.proofs.lemmas.List.{length-append}
use Rattle.peg_semantics.specs.Form.{Form, Forms, Literal, Class, Any, Name, Seq, Choice, Optional, Star, Plus, Counted}
use Rattle.peg_semantics.specs.Form.{And, Not, End, Then}
use Rattle.peg_semantics.specs.Rules.{Rule, Meaning}
use Rattle.peg_diagnostics.specs.Items.{forms_of_items, item_forms, item_forms_of_all, item_meaning_from, items, items_of_all}

-- In a list of expressions, the items of an expression are those from a number on.
abbrev mutual
  pub AreItemsFrom : List Form → Form → (item : ℕ) → Type 0
  AreItemsFrom all (Literal bytes span) item = slice_get all item ≡ Some (Literal bytes span)
  AreItemsFrom all (Class set span) item = slice_get all item ≡ Some (Class set span)
  AreItemsFrom all (Any span) item = slice_get all item ≡ Some (Any span)
  AreItemsFrom all (Name name span) item = Unit {0}
  AreItemsFrom all (Seq parts span) item = AreAllItemsFrom all parts item
  AreItemsFrom all (Choice first rest span) item =
      AreItemsFrom all first item × AreAllItemsFrom all rest (item + items first)
  AreItemsFrom all (Optional part span) item = AreItemsFrom all part item
  AreItemsFrom all (Star part span) item = AreItemsFrom all part item
  AreItemsFrom all (Plus part span) item = AreItemsFrom all part item
  AreItemsFrom all (Counted part min max span) item = AreItemsFrom all part item
  AreItemsFrom all (And part span) item = slice_get all item ≡ Some (And part span)
  AreItemsFrom all (Not part span) item = slice_get all item ≡ Some (Not part span)

  pub AreAllItemsFrom : List Form → Forms → (item : ℕ) → Type 0
  AreAllItemsFrom all End item = Unit {0}
  AreAllItemsFrom all (Then e rest) item = AreItemsFrom all e item × AreAllItemsFrom all rest (item + items e)

mutual
  length-item_forms : (e : Form) → length (item_forms e) ≡ items e
  length-item_forms (Literal bytes span) = refl
  length-item_forms (Class set span) = refl
  length-item_forms (Any span) = refl
  length-item_forms (Name name span) = refl
  length-item_forms (Seq parts span) = length-item_forms_of_all parts
  length-item_forms (Choice first rest span) =
      length-append (item_forms first) (item_forms_of_all rest)
      ∙ ap₂ ◌+◌ (length-item_forms first) (length-item_forms_of_all rest)
  length-item_forms (Optional part span) = length-item_forms part
  length-item_forms (Star part span) = length-item_forms part
  length-item_forms (Plus part span) = length-item_forms part
  length-item_forms (Counted part min max span) = length-item_forms part
  length-item_forms (And part span) = refl
  length-item_forms (Not part span) = refl

  length-item_forms_of_all : (parts : Forms) → length (item_forms_of_all parts) ≡ items_of_all parts
  length-item_forms_of_all End = refl
  length-item_forms_of_all (Then e rest) =
      length-append (item_forms e) (item_forms_of_all rest)
      ∙ ap₂ ◌+◌ (length-item_forms e) (length-item_forms_of_all rest)

-- the element between two lists
between-lists : {X : Type 0} (before : List X) (x : X) (after : List X)
    → slice_get (before ++ (x ∷ after)) (length before) ≡ Some x
between-lists [] x after = refl
between-lists (y ∷ before) x after = between-lists before x after

-- what follows some expressions begins after them
module _ (e : Form) (rest : Forms) (before after : List Form) where
  abbrev both : List Form
  both = before ++ ((item_forms e ++ item_forms_of_all rest) ++ after)

  first-of-both : AreItemsFrom (before ++ (item_forms e ++ (item_forms_of_all rest ++ after))) e (length before)
      → AreItemsFrom both e (length before)
  first-of-both is =
      subst (λ l. AreItemsFrom (before ++ l) e (length before))
      (sym (append_assoc (item_forms e) (item_forms_of_all rest) after)) is

  rest-of-both : AreAllItemsFrom ((before ++ item_forms e) ++ (item_forms_of_all rest ++ after)) rest
      (length (before ++ item_forms e)) → AreAllItemsFrom both rest (length before + items e)
  rest-of-both is =
      subst (λ n. AreAllItemsFrom both rest n)
      (length-append before (item_forms e) ∙ ap (λ n. length before + n) (length-item_forms e))
      (subst (λ l. AreAllItemsFrom l rest (length (before ++ item_forms e)))
      (append_assoc before (item_forms e) (item_forms_of_all rest ++ after)
      ∙ ap (λ l. before ++ l) (sym (append_assoc (item_forms e) (item_forms_of_all rest) after))) is)

mutual
  items-from : (e : Form) (before after : List Form)
      → AreItemsFrom (before ++ (item_forms e ++ after)) e (length before)
  items-from (Literal bytes span) before after = between-lists before (Literal bytes span) after
  items-from (Class set span) before after = between-lists before (Class set span) after
  items-from (Any span) before after = between-lists before (Any span) after
  items-from (Name name span) before after = tt
  items-from (Seq parts span) before after = all_items-from parts before after
  items-from (Choice first rest span) before after = (
    first-of-both first rest before after (items-from first before (item_forms_of_all rest ++ after)),
    rest-of-both first rest before after (all_items-from rest (before ++ item_forms first) after),
  )
  items-from (Optional part span) before after = items-from part before after
  items-from (Star part span) before after = items-from part before after
  items-from (Plus part span) before after = items-from part before after
  items-from (Counted part min max span) before after = items-from part before after
  items-from (And part span) before after = between-lists before (And part span) after
  items-from (Not part span) before after = between-lists before (Not part span) after

  all_items-from : (parts : Forms) (before after : List Form)
      → AreAllItemsFrom (before ++ (item_forms_of_all parts ++ after)) parts (length before)
  all_items-from End before after = tt
  all_items-from (Then e rest) before after = (
    first-of-both e rest before after (items-from e before (item_forms_of_all rest ++ after)),
    rest-of-both e rest before after (all_items-from rest (before ++ item_forms e) after),
  )

-- the items of the rule that a name refers to
meaning-items-from : (rule : ℕ) (rules : List Rule) (before : List Form) (name : List ℕ) (m : Meaning)
    → item_meaning_from rule (length before) rules name ≡ Some m
    → AreItemsFrom (before ++ forms_of_items rules) m.body m.terminal
meaning-items-from rule [] before name m is = cc
meaning-items-from rule (r ∷ rs) before name m is =
    by (bytes_eq name r.name) (meaning-items-from (rule + 1) rs (before ++ item_forms r.body) name m) is
  where
    first : Meaning
    first = record { rule = rule; terminal = length before; body = r.body }

    by : (b : Bool)
        → (item_meaning_from (rule + 1) (length (before ++ item_forms r.body)) rs name ≡ Some m
        → AreItemsFrom ((before ++ item_forms r.body) ++ forms_of_items rs) m.body m.terminal)
        → (if b then Some first else item_meaning_from (rule + 1) (length before + items r.body) rs name) ≡ Some m
        → AreItemsFrom (before ++ (item_forms r.body ++ forms_of_items rs)) m.body m.terminal
    by true later is =
        let same : first ≡ m = cc in
        subst (λ (m : Meaning). AreItemsFrom (before ++ (item_forms r.body ++ forms_of_items rs)) m.body m.terminal) same
        (items-from r.body before (forms_of_items rs))
    by false later is =
        subst (λ l. AreItemsFrom l m.body m.terminal) (append_assoc before (item_forms r.body) (forms_of_items rs))
        (later (ap (λ n. item_meaning_from (rule + 1) n rs name)
        (length-append before (item_forms r.body) ∙ ap (λ n. length before + n) (length-item_forms r.body)) ∙ is))

pub meaning-items : (rules : List Rule) (name : List ℕ) (m : Meaning) → item_meaning_from 0 0 rules name ≡ Some m
    → AreItemsFrom (forms_of_items rules) m.body m.terminal
meaning-items rules name m is = meaning-items-from 0 rules [] name m is
