-- The names of a grammar's rules, by number.
use Rattle.std.proofs.Common.{◌≡◌, ℕ, zero, suc, ◌+◌, ◌<◌, ◌≤◌, All, List, [], ◌∷◌, ◌++◌, length, map, take, get_or}
use Rattle.std.proofs.Common.{Bor, refl, sym, ap, ◌∙◌, arith}
use Rattle.std.proofs.lemmas.List.{length-map, map_push, take_more, take_all}
use Rattle.std.proofs.lemmas.List.Elements.{All-head, All-tail}
use Rattle.peg_semantics.specs.Rules.{Rule, names, name_of}
use Rattle.peg_tree.specs.Names.{name_at}

-- the name with a number
pub name-numbered : (rules : List Rule) (k : ℕ) → k < length rules → get_or (names rules) k [] ≡ name_of rules k
name-numbered [] k low = absurd (omega arith)
name-numbered (rule ∷ rules) zero low = refl
name-numbered (rule ∷ rules) (suc k) low = name-numbered rules k (omega arith)

-- the list with one more name
pub names-more : (rules : List Rule) (list : List (Bor (List ℕ))) (k : ℕ) (name : Bor (List ℕ))
    → map (λ name. name.now) list ≡ take k (names rules) → k < length rules → name.now ≡ name_of rules k
    → map (λ name. name.now) (list ++ name ∷ []) ≡ take (k + 1) (names rules)
names-more rules list k name so_far low is =
    map_push (λ name. name.now) list name
    ∙ ap (λ (l : List (List ℕ)). l ++ name.now ∷ []) so_far
    ∙ ap (λ (n : List ℕ). take k (names rules) ++ n ∷ []) (is ∙ sym (name-numbered rules k low))
    ∙ sym (take_more (names rules) k [] (omega (arith, length-map rules (λ rule. rule.name))))

pub names-all : (rules : List Rule) (list : List (List ℕ)) (k : ℕ) → list ≡ take k (names rules) → length rules ≤ k
    → list ≡ names rules
names-all rules list k so_far over =
    so_far ∙ take_all k (names rules) (omega (arith, length-map rules (λ rule. rule.name)))

-- the names by number, if all numbers are below the number of rules
pub names-of-path : (rules : List Rule) (path : List ℕ) → All (λ rule. rule < length rules) path
    → map (name_at (names rules)) path ≡ map (name_of rules) path
names-of-path rules [] all = refl
names-of-path rules (k ∷ more) all =
    let first = All-head (λ rule. rule < length rules) k more all in
    let rest = names-of-path rules more (All-tail (λ rule. rule < length rules) k more all) in
    ap (λ (l : List (List ℕ)). name_at (names rules) k ∷ l) rest
    ∙ ap (λ (n : List ℕ). n ∷ map (name_of rules) more) (name-numbered rules k first)
