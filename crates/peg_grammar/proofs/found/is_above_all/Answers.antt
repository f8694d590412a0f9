use Rattle.std.proofs.Common.{◌<◌, ℕ, ◌-◌, ◌≤◌, length, arith, get_or, subst, sym}
use Rattle.std.proofs.lemmas.Bool.Decides.{nat_tests}
use Rattle.peg_semantics.proofs.Ascending.{increasing-rises}
use Rattle.peg_grammar.proofs.found.is_above_all.Goals as goal

-- the last number is the greatest
pub returns-in-Some : goal.returns-in-Some
returns-in-Some c =
    let xs = c.args.numbers.now in
    let n = c.args.number in
    let some : 0 < length xs = c.in-Some.ensures.item.3.0 in
    let highest : (k d : ℕ) → k < length xs → get_or xs k d ≤ c.in-Some.last.now = λ k d within. subst (λ m. get_or xs k d ≤ m) (sym (c.in-Some.ensures.item.3.1 d)) (increasing-rises xs c.requires k (length xs - 1) d (omega arith) (omega arith)) in
    (λ below k d within. let lt : c.in-Some.last.now < n = grind (arith, nat_tests) in omega (arith, highest k d within), λ all. let lt : c.in-Some.last.now < n = subst (λ m. m < n) (sym (c.in-Some.ensures.item.3.1 0)) (all (length xs - 1) 0 (omega arith)) in grind (arith, nat_tests))
