-- The added empty classes of the diagnostic grammar are those of the items, in order.
use Rattle.std.proofs.Common.{◌≡◌, ◌≢◌, ℕ, suc, ◌+◌, ◌<◌, ◌≤◌, Bool, true, false, List, [], ◌∷◌, ◌++◌, length, All}
use Rattle.std.proofs.Common.{Option, None, Some, refl, sym, ap, ap₂, ◌∙◌, arith, ◌==◌, cond, append_assoc}
use Rattle.std.specs.List.{position_from}
use Rattle.std.proofs.lemmas.Bool.Decides.{nat_tests}
use Rattle.std.proofs.lemmas.List.{length-append}
use Rattle.std.proofs.lemmas.List.Elements.{All-nil, All-cons, All-head, All-tail, All-append, All-weaker}
use Rattle.peg_semantics.specs.Form.{Form, Forms, Literal, Class, Any, Name, Seq, Choice, Optional, Star, Plus, Counted}
use Rattle.peg_semantics.specs.Form.{And, Not, End, Then, terminals, terminals_of_all}
use Rattle.peg_diagnostics.specs.Diagnostic.{quiet, quiet_name, loud, loud_all}
use Rattle.peg_diagnostics.specs.Items.{items, items_of_all}
use Rattle.peg_diagnostics.specs.ItemTests.{added_terminals, added_terminals_of_all}
use Rattle.peg_diagnostics.specs.Placed.{IsItemAt, IsPlaced, AreAllPlaced}
use Rattle.peg_diagnostics.proofs.Renaming.{terminals-rename}

-- ---- the place of a number in a list

-- the place of a number, counted from the given place of the first element
abbrev pub place_from : ℕ → ℕ → List ℕ → Option ℕ
place_from n first xs = position_from (λ x. x == n) first xs

differ : (x n : ℕ) → x ≢ n → (x == n) ≡ false
differ x n apart = by (x == n) refl
  where
    by : (b : Bool) → (x == n) ≡ b → (x == n) ≡ false
    by true is = absurd (apart (let same : x ≡ n = grind (arith, nat_tests) in same))
    by false is = is

pub place_from-none : (n first : ℕ) (xs : List ℕ) → All (λ x. x ≢ n) xs → place_from n first xs ≡ None
place_from-none n first [] apart = refl
place_from-none n first (x ∷ xs) apart =
    ap (λ b. cond b (Some first) (place_from n (first + 1) xs))
    (differ x n (All-head (λ x. x ≢ n) x xs apart))
    ∙ place_from-none n (first + 1) xs (All-tail (λ x. x ≢ n) x xs apart)

place_from-after : (n first : ℕ) (xs ys : List ℕ) → All (λ x. x ≢ n) xs
    → place_from n first (xs ++ ys) ≡ place_from n (first + length xs) ys
place_from-after n first [] ys apart = ap (λ k. place_from n k ys) (let at : first ≡ first + 0 = omega arith in at)
place_from-after n first (x ∷ xs) ys apart =
    ap (λ b. cond b (Some first) (place_from n (first + 1) (xs ++ ys)))
    (differ x n (All-head (λ x. x ≢ n) x xs apart))
    ∙ place_from-after n (first + 1) xs ys (All-tail (λ x. x ≢ n) x xs apart)
    ∙ ap (λ k. place_from n k ys) (let at : first + 1 + length xs ≡ first + suc (length xs) = omega arith in at)

place_from-here : (n first : ℕ) (xs : List ℕ) → place_from n first (n ∷ xs) ≡ Some first
place_from-here n first xs =
    ap (λ b. cond b (Some first) (place_from n (first + 1) xs))
    (let same : (n == n) ≡ true = grind (arith, nat_tests) in same)

-- ---- numbers below and from a bound

abbrev pub Below : ℕ → List ℕ → Type 0
Below most xs = All (λ x. x < most) xs

abbrev pub From : ℕ → List ℕ → Type 0
From least xs = All (λ x. least ≤ x) xs

pub Below-more : (low high : ℕ) (xs : List ℕ) → low ≤ high → Below low xs → Below high xs
Below-more low high xs up below = All-weaker (λ x. x < low) (λ x. x < high) (λ x h. omega (arith, h, up)) xs below

pub From-less : (low high : ℕ) (xs : List ℕ) → low ≤ high → From high xs → From low xs
From-less low high xs up from = All-weaker (λ x. high ≤ x) (λ x. low ≤ x) (λ x h. omega (arith, h, up)) xs from

one_below : (x most : ℕ) → x < most → Below most (x ∷ [])
one_below x most below = All-cons (λ n. n < most) x [] below (All-nil (λ n. n < most))

one_from : (x least : ℕ) → least ≤ x → From least (x ∷ [])
one_from x least from = All-cons (λ n. least ≤ n) x [] from (All-nil (λ n. least ≤ n))

-- ---- an item in the list

-- the item at the place of a number, in a list of all added empty classes
abbrev pub item_in : List ℕ → ℕ → Option ℕ
item_in all terminal = place_from terminal 0 all

item_at : (all before after : List ℕ) (count terminal number : ℕ) → all ≡ before ++ (terminal + count) ∷ after
    → length before ≡ number → Below terminal before → From (terminal + count + 1) after
    → IsItemAt (item_in all) count terminal number
item_at all before after count terminal number is long below from = (
  λ k within. ap (place_from (terminal + k) 0) is
      ∙ place_from-none (terminal + k) 0 (before ++ (terminal + count) ∷ after)
      (All-append (λ x. x ≢ terminal + k) before ((terminal + count) ∷ after)
      (All-weaker (λ x. x < terminal) (λ x. x ≢ terminal + k) (λ x h e. omega (arith, h, e)) before below)
      (All-cons (λ x. x ≢ terminal + k) (terminal + count) after (λ e. omega (arith, e, within))
      (All-weaker (λ x. terminal + count + 1 ≤ x) (λ x. x ≢ terminal + k) (λ x h e. omega (arith, h, e, within)) after
      from))),
  ap (place_from (terminal + count) 0) is
      ∙ place_from-after (terminal + count) 0 before ((terminal + count) ∷ after)
      (All-weaker (λ x. x < terminal) (λ x. x ≢ terminal + count) (λ x h e. omega (arith, h, e)) before below)
      ∙ place_from-here (terminal + count) (0 + length before) after
      ∙ ap Some (let at : 0 + length before ≡ number = omega (arith, long) in at),
)

-- ---- the added empty classes of an expression

-- the terminals of an item's loud expression: its own ones and the empty class
terminals-item : (e : Form) → terminals (quiet e) + (1 + 0) ≡ terminals e + 1
terminals-item e = omega (arith, terminals-rename quiet_name e)

mutual
  pub length-added : (e : Form) (terminal : ℕ) → length (added_terminals e terminal) ≡ items e
  length-added (Literal bytes span) terminal = refl
  length-added (Class set span) terminal = refl
  length-added (Any span) terminal = refl
  length-added (Name name span) terminal = refl
  length-added (Seq parts span) terminal = length-added_of_all parts terminal
  length-added (Choice first rest span) terminal =
      length-append (added_terminals first terminal) (added_terminals_of_all rest (terminal + terminals (loud first)))
      ∙ ap₂ ◌+◌ (length-added first terminal) (length-added_of_all rest (terminal + terminals (loud first)))
  length-added (Optional part span) terminal = length-added part terminal
  length-added (Star part span) terminal = length-added part terminal
  length-added (Plus part span) terminal = length-added part terminal
  length-added (Counted part min max span) terminal = length-added part terminal
  length-added (And part span) terminal = refl
  length-added (Not part span) terminal = refl

  length-added_of_all : (parts : Forms) (terminal : ℕ)
      → length (added_terminals_of_all parts terminal) ≡ items_of_all parts
  length-added_of_all End terminal = refl
  length-added_of_all (Then e rest) terminal =
      length-append (added_terminals e terminal) (added_terminals_of_all rest (terminal + terminals (loud e)))
      ∙ ap₂ ◌+◌ (length-added e terminal) (length-added_of_all rest (terminal + terminals (loud e)))

pub two_parts-below : (xs ys : List ℕ) (terminal one two : ℕ) → Below (terminal + one) xs
    → Below (terminal + one + two) ys
    → Below (terminal + (one + two)) (xs ++ ys)
two_parts-below xs ys terminal one two first second =
    All-append (λ x. x < terminal + (one + two)) xs ys
    (Below-more (terminal + one) (terminal + (one + two)) xs (omega arith) first)
    (Below-more (terminal + one + two) (terminal + (one + two)) ys (omega arith) second)

pub two_parts-from : (xs ys : List ℕ) (terminal one : ℕ) → From terminal xs → From (terminal + one) ys
    → From terminal (xs ++ ys)
two_parts-from xs ys terminal one first second =
    All-append (λ x. terminal ≤ x) xs ys first (From-less terminal (terminal + one) ys (omega arith) second)

mutual
  pub added-below : (e : Form) (terminal : ℕ) → Below (terminal + terminals (loud e)) (added_terminals e terminal)
  added-below (Literal bytes span) terminal = one_below (terminal + 1) (terminal + (1 + (1 + 0))) (omega arith)
  added-below (Class set span) terminal = one_below (terminal + 1) (terminal + (1 + (1 + 0))) (omega arith)
  added-below (Any span) terminal = one_below (terminal + 1) (terminal + (1 + (1 + 0))) (omega arith)
  added-below (Name name span) terminal = All-nil (λ x. x < terminal + 0)
  added-below (Seq parts span) terminal = all_added-below parts terminal
  added-below (Choice first rest span) terminal =
      two_parts-below (added_terminals first terminal)
      (added_terminals_of_all rest (terminal + terminals (loud first))) terminal (terminals (loud first))
      (terminals_of_all (loud_all rest)) (added-below first terminal)
      (all_added-below rest (terminal + terminals (loud first)))
  added-below (Optional part span) terminal = added-below part terminal
  added-below (Star part span) terminal = added-below part terminal
  added-below (Plus part span) terminal = added-below part terminal
  added-below (Counted part min max span) terminal = added-below part terminal
  added-below (And part span) terminal =
      one_below (terminal + terminals part) (terminal + (terminals (quiet part) + (1 + 0)))
      (omega (arith, terminals-item part))
  added-below (Not part span) terminal =
      one_below (terminal + terminals part) (terminal + (terminals (quiet part) + (1 + 0)))
      (omega (arith, terminals-item part))

  all_added-below : (parts : Forms) (terminal : ℕ)
      → Below (terminal + terminals_of_all (loud_all parts)) (added_terminals_of_all parts terminal)
  all_added-below End terminal = All-nil (λ x. x < terminal + 0)
  all_added-below (Then e rest) terminal =
      two_parts-below (added_terminals e terminal) (added_terminals_of_all rest (terminal + terminals (loud e)))
      terminal
      (terminals (loud e)) (terminals_of_all (loud_all rest)) (added-below e terminal)
      (all_added-below rest (terminal + terminals (loud e)))

mutual
  pub added-from : (e : Form) (terminal : ℕ) → From terminal (added_terminals e terminal)
  added-from (Literal bytes span) terminal = one_from (terminal + 1) terminal (omega arith)
  added-from (Class set span) terminal = one_from (terminal + 1) terminal (omega arith)
  added-from (Any span) terminal = one_from (terminal + 1) terminal (omega arith)
  added-from (Name name span) terminal = All-nil (λ x. terminal ≤ x)
  added-from (Seq parts span) terminal = all_added-from parts terminal
  added-from (Choice first rest span) terminal =
      two_parts-from (added_terminals first terminal)
      (added_terminals_of_all rest (terminal + terminals (loud first))) terminal (terminals (loud first))
      (added-from first terminal) (all_added-from rest (terminal + terminals (loud first)))
  added-from (Optional part span) terminal = added-from part terminal
  added-from (Star part span) terminal = added-from part terminal
  added-from (Plus part span) terminal = added-from part terminal
  added-from (Counted part min max span) terminal = added-from part terminal
  added-from (And part span) terminal = one_from (terminal + terminals part) terminal (omega arith)
  added-from (Not part span) terminal = one_from (terminal + terminals part) terminal (omega arith)

  all_added-from : (parts : Forms) (terminal : ℕ) → From terminal (added_terminals_of_all parts terminal)
  all_added-from End terminal = All-nil (λ x. terminal ≤ x)
  all_added-from (Then e rest) terminal =
      two_parts-from (added_terminals e terminal) (added_terminals_of_all rest (terminal + terminals (loud e))) terminal
      (terminals (loud e)) (added-from e terminal) (all_added-from rest (terminal + terminals (loud e)))

-- ---- the added empty classes of an expression, in the list of all

-- A part of the list of all added empty classes: what is before it, where it begins, and what is after it.
pub record IsPart (all before part after : List ℕ) (terminal count number : ℕ) : Type 0 where
  pub is : all ≡ before ++ (part ++ after)
  pub long : length before ≡ number
  pub below : Below terminal before
  pub from : From (terminal + count) after

module _ (all before xs ys after : List ℕ) (terminal one two number : ℕ)
    (part : IsPart all before (xs ++ ys) after terminal (one + two) number) where
  pub part-front : From (terminal + one) ys → IsPart all before xs (ys ++ after) terminal one number
  part-front from = record {
    is = part.is ∙ ap (λ l. before ++ l) (append_assoc xs ys after);
    long = part.long;
    below = part.below;
    from = All-append (λ x. terminal + one ≤ x) ys after from
        (From-less (terminal + one) (terminal + (one + two)) after (omega arith) part.from);
  }

  pub part-back : (count : ℕ) → length xs ≡ count → Below (terminal + one) xs
      → IsPart all (before ++ xs) ys after (terminal + one) two (number + count)
  part-back count long below = record {
    is = part.is ∙ ap (λ l. before ++ l) (append_assoc xs ys after) ∙ sym (append_assoc before xs (ys ++ after));
    long = length-append before xs ∙ ap₂ ◌+◌ part.long long;
    below = All-append (λ x. x < terminal + one) before xs
        (Below-more terminal (terminal + one) before (omega arith) part.below) below;
    from = From-less (terminal + one + two) (terminal + (one + two)) after (omega arith) part.from;
  }

module _ (all : List ℕ) where
  placed-item : (before after : List ℕ) (count size terminal number : ℕ) → size ≡ count + 1
      → IsPart all before ((terminal + count) ∷ []) after terminal size number
      → IsItemAt (item_in all) count terminal number
  placed-item before after count size terminal number long part =
      item_at all before after count terminal number part.is part.long part.below
      (From-less (terminal + count + 1) (terminal + size) after (omega (arith, long)) part.from)

  mutual
    pub placed : (e : Form) (before after : List ℕ) (terminal number : ℕ)
        → IsPart all before (added_terminals e terminal) after terminal (terminals (loud e)) number
        → IsPlaced (item_in all) e terminal number
    placed (Literal bytes span) before after terminal number part =
        placed-item before after 1 (1 + (1 + 0)) terminal number refl part
    placed (Class set span) before after terminal number part =
        placed-item before after 1 (1 + (1 + 0)) terminal number refl part
    placed (Any span) before after terminal number part =
        placed-item before after 1 (1 + (1 + 0)) terminal number refl part
    placed (Name name span) before after terminal number part = tt
    placed (Seq parts span) before after terminal number part = all_placed parts before after terminal number part
    placed (Choice first rest span) before after terminal number part =
        let later = terminal + terminals (loud first) in
        let xs = added_terminals first terminal in
        let ys = added_terminals_of_all rest later in (
          placed first before (ys ++ after) terminal number
              (part-front all before xs ys after terminal (terminals (loud first)) (terminals_of_all (loud_all rest))
              number part
              (all_added-from rest later)),
          all_placed rest (before ++ xs) after later (number + items first)
              (part-back all before xs ys after terminal (terminals (loud first)) (terminals_of_all (loud_all rest))
              number part
              (items first) (length-added first terminal) (added-below first terminal)),
        )
    placed (Optional e span) before after terminal number part = placed e before after terminal number part
    placed (Star e span) before after terminal number part = placed e before after terminal number part
    placed (Plus e span) before after terminal number part = placed e before after terminal number part
    placed (Counted e min max span) before after terminal number part = placed e before after terminal number part
    placed (And e span) before after terminal number part =
        placed-item before after (terminals e) (terminals (quiet e) + (1 + 0)) terminal number (terminals-item e) part
    placed (Not e span) before after terminal number part =
        placed-item before after (terminals e) (terminals (quiet e) + (1 + 0)) terminal number (terminals-item e) part

    all_placed : (parts : Forms) (before after : List ℕ) (terminal number : ℕ)
        → IsPart all before (added_terminals_of_all parts terminal) after terminal (terminals_of_all (loud_all parts))
        number
        → AreAllPlaced (item_in all) parts terminal number
    all_placed End before after terminal number part = tt
    all_placed (Then e rest) before after terminal number part =
        let later = terminal + terminals (loud e) in
        let xs = added_terminals e terminal in
        let ys = added_terminals_of_all rest later in (
          placed e before (ys ++ after) terminal number
              (part-front all before xs ys after terminal (terminals (loud e)) (terminals_of_all (loud_all rest)) number
              part
              (all_added-from rest later)),
          all_placed rest (before ++ xs) after later (number + items e)
              (part-back all before xs ys after terminal (terminals (loud e)) (terminals_of_all (loud_all rest)) number
              part
              (items e) (length-added e terminal) (added-below e terminal)),
        )
