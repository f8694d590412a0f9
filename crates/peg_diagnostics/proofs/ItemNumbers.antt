-- The added terminals of items ascend, there are as many as extents, and item tests have the numbers of items.
use Rattle.std.proofs.Common.{◌≡◌, ℕ, suc, ◌+◌, ◌<◌, ◌≤◌, List, [], ◌∷◌, ◌++◌, length, All}
use Rattle.std.proofs.Common.{refl, sym, ap₂, ◌∙◌, arith}
use Rattle.std.proofs.lemmas.List.{length-append}
use Rattle.std.proofs.lemmas.List.Elements.{All-head, All-tail}
use Rattle.std.specs.List.Sorted.{IsStrictlyIncreasing}
use Rattle.peg_semantics.specs.Form.{Form, Forms, Literal, Class, Any, Name, Seq, Choice, Optional, Star, Plus, Counted}
use Rattle.peg_semantics.specs.Form.{And, Not, End, Then, terminals}
use Rattle.peg_semantics.specs.Record.{Test}
use Rattle.peg_semantics.specs.Rules.{Rule}
use Rattle.peg_semantics.proofs.Ascending.{RisesFrom, RisesFrom-to_increasing}
use Rattle.peg_semantics.proofs.TestsAmongLemmas.{among-within}
use Rattle.peg_diagnostics.specs.Diagnostic.{loud}
use Rattle.peg_diagnostics.specs.Items.{item_extents, item_extents_of_all, extents_of_items}
use Rattle.peg_diagnostics.specs.ItemTests.{added_terminals, added_terminals_of_all, added_terminals_from}
use Rattle.peg_diagnostics.specs.ItemTests.{item_terminals}
use Rattle.peg_diagnostics.specs.ItemTests.{item_tests}
use Rattle.peg_diagnostics.proofs.Placement.{Below, added-below}

-- ---- ascending numbers

RisesFrom-lower : (low high : ℕ) (xs : List ℕ) → low ≤ high → RisesFrom high xs → RisesFrom low xs
RisesFrom-lower low high [] up rises = tt
RisesFrom-lower low high (x ∷ xs) up rises = (omega (arith, up, rises.0), rises.1)

RisesFrom-append : (low high : ℕ) (xs ys : List ℕ) → low ≤ high → RisesFrom low xs → Below high xs → RisesFrom high ys
    → RisesFrom low (xs ++ ys)
RisesFrom-append low high [] ys up first below second = RisesFrom-lower low high ys up second
RisesFrom-append low high (x ∷ xs) ys up first below second =
    let small = All-head (λ n. n < high) x xs below in (
      first.0,
      RisesFrom-append (suc x) high xs ys (omega (arith, small)) first.1 (All-tail (λ n. n < high) x xs below)
          second,
    )

mutual
  added-rises : (e : Form) (terminal : ℕ) → RisesFrom terminal (added_terminals e terminal)
  added-rises (Literal bytes span) terminal = (omega arith, tt)
  added-rises (Class set span) terminal = (omega arith, tt)
  added-rises (Any span) terminal = (omega arith, tt)
  added-rises (Name name span) terminal = tt
  added-rises (Seq parts span) terminal = all_added-rises parts terminal
  added-rises (Choice first rest span) terminal =
      let later = terminal + terminals (loud first) in
      RisesFrom-append terminal later (added_terminals first terminal) (added_terminals_of_all rest later) (omega arith)
      (added-rises first terminal) (added-below first terminal) (all_added-rises rest later)
  added-rises (Optional part span) terminal = added-rises part terminal
  added-rises (Star part span) terminal = added-rises part terminal
  added-rises (Plus part span) terminal = added-rises part terminal
  added-rises (Counted part min max span) terminal = added-rises part terminal
  added-rises (And part span) terminal = (omega arith, tt)
  added-rises (Not part span) terminal = (omega arith, tt)

  all_added-rises : (parts : Forms) (terminal : ℕ) → RisesFrom terminal (added_terminals_of_all parts terminal)
  all_added-rises End terminal = tt
  all_added-rises (Then e rest) terminal =
      let later = terminal + terminals (loud e) in
      RisesFrom-append terminal later (added_terminals e terminal) (added_terminals_of_all rest later) (omega arith)
      (added-rises e terminal) (added-below e terminal) (all_added-rises rest later)

rules-rise : (rules : List Rule) (terminal : ℕ) → RisesFrom terminal (added_terminals_from terminal rules)
rules-rise [] terminal = tt
rules-rise (r ∷ rs) terminal =
    let later = terminal + terminals (loud r.body) in
    RisesFrom-append terminal later (added_terminals r.body terminal) (added_terminals_from later rs) (omega arith)
    (added-rises r.body terminal) (added-below r.body terminal) (rules-rise rs later)

pub item_terminals-rise : (rules : List Rule) → IsStrictlyIncreasing (item_terminals rules)
item_terminals-rise rules = RisesFrom-to_increasing 0 (item_terminals rules) (rules-rise rules 0)

-- ---- as many extents as terminals

same_lengths : {X Y : Type 0} (xs xs' : List X) (ys ys' : List Y) → length xs ≡ length ys → length xs' ≡ length ys'
    → length (xs ++ xs') ≡ length (ys ++ ys')
same_lengths xs xs' ys ys' first second = length-append xs xs' ∙ ap₂ ◌+◌ first second ∙ sym (length-append ys ys')

mutual
  extents-added : (e : Form) (terminal : ℕ) → length (item_extents e) ≡ length (added_terminals e terminal)
  extents-added (Literal bytes span) terminal = refl
  extents-added (Class set span) terminal = refl
  extents-added (Any span) terminal = refl
  extents-added (Name name span) terminal = refl
  extents-added (Seq parts span) terminal = all_extents-added parts terminal
  extents-added (Choice first rest span) terminal =
      let later = terminal + terminals (loud first) in
      same_lengths (item_extents first) (item_extents_of_all rest) (added_terminals first terminal)
      (added_terminals_of_all rest later) (extents-added first terminal) (all_extents-added rest later)
  extents-added (Optional part span) terminal = extents-added part terminal
  extents-added (Star part span) terminal = extents-added part terminal
  extents-added (Plus part span) terminal = extents-added part terminal
  extents-added (Counted part min max span) terminal = extents-added part terminal
  extents-added (And part span) terminal = refl
  extents-added (Not part span) terminal = refl

  all_extents-added : (parts : Forms) (terminal : ℕ)
      → length (item_extents_of_all parts) ≡ length (added_terminals_of_all parts terminal)
  all_extents-added End terminal = refl
  all_extents-added (Then e rest) terminal =
      let later = terminal + terminals (loud e) in
      same_lengths (item_extents e) (item_extents_of_all rest) (added_terminals e terminal)
      (added_terminals_of_all rest later) (extents-added e terminal) (all_extents-added rest later)

extents-from : (rules : List Rule) (terminal : ℕ)
    → length (extents_of_items rules) ≡ length (added_terminals_from terminal rules)
extents-from [] terminal = refl
extents-from (r ∷ rs) terminal =
    let later = terminal + terminals (loud r.body) in
    same_lengths (item_extents r.body) (extents_of_items rs) (added_terminals r.body terminal)
    (added_terminals_from later rs) (extents-added r.body terminal) (extents-from rs later)

pub extents-terminals : (rules : List Rule) → length (extents_of_items rules) ≡ length (item_terminals rules)
extents-terminals rules = extents-from rules 0

-- ---- item tests have the numbers of items

pub item_tests-within : (rules : List Rule) (tests : List Test)
    → All (λ (test : Test). test.terminal < length (item_terminals rules)) (item_tests rules tests)
item_tests-within rules tests = among-within (item_terminals rules) tests
