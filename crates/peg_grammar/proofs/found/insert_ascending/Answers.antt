use Rattle.std.proofs.Common.{◌<◌, All, get_or, le_refl, nat_cmp, subst, refl, sym, ◌∙◌, Ok, Err}
use Rattle.std.specs.List.Sorted.{IsStrictlyIncreasing, IsBinarySearchResult}
use Rattle.std.proofs.lemmas.List.Sorted.{searched}
use Rattle.peg_semantics.proofs.Ascending.{IsStrictlyIncreasing-insert, increasing-rises, increasing-below, insert_ascending-there, insert_ascending-between, insert_ascending-last}
use Rattle.peg_grammar.proofs.found.insert_ascending.Goals as goal

pub returns-then-is_above_all-clause-inserted : goal.returns-then-is_above_all-clause-inserted
returns-then-is_above_all-clause-inserted c =
    let xs = c.args.numbers.now.items in
    let all : All (λ m. m < c.args.number) xs = subst (All (λ m. m < c.args.number)) c.deref.ensures.value (c.if-is_above_all.ensures.0 refl) in
    c.in_ok-push.ensures.items ∙ sym (insert_ascending-last c.args.number xs all)

pub returns-in-Ok-clause-inserted : goal.returns-in-Ok-clause-inserted
returns-in-Ok-clause-inserted c =
    let xs = c.args.numbers.now.items in
    let n = c.args.number in
    let i = c.in-Ok.field-0 in
    let position = subst (λ l. IsBinarySearchResult (λ y. nat_cmp y n) l (Ok i)) c.deref-2.ensures.value c.in-Ok.ensures.position in
    let there = searched xs n (Ok i) position (λ j k le within. increasing-rises xs c.requires j k 0 le within) in
    sym (insert_ascending-there n i xs there.0 there.1 (λ k below. subst (λ m. get_or xs k 0 < m) there.1 (increasing-below xs c.requires i k there.0 below)))

pub returns-in_ok-insert-in-Err-clause-inserted : goal.returns-in_ok-insert-in-Err-clause-inserted
returns-in_ok-insert-in-Err-clause-inserted c =
    let xs = c.args.numbers.now.items in
    let n = c.args.number in
    let i = c.in-Err.at in
    let position = subst (λ l. IsBinarySearchResult (λ y. nat_cmp y n) l (Err i)) c.deref-2.ensures.value c.in-Err.ensures.position in
    let between = searched xs n (Err i) position (λ j k le within. increasing-rises xs c.requires j k 0 le within) in
    c.in_ok-insert-in-Err.ensures.items ∙ sym (insert_ascending-between n i xs between.0 between.1 (λ some. between.2 i (le_refl i) some))

pub returns-in_ok-insert-in-Err-clause-ascending : goal.returns-in_ok-insert-in-Err-clause-ascending
returns-in_ok-insert-in-Err-clause-ascending c =
    subst IsStrictlyIncreasing (sym (returns-in_ok-insert-in-Err-clause-inserted c)) (IsStrictlyIncreasing-insert c.args.number c.args.numbers.now.items c.requires)
