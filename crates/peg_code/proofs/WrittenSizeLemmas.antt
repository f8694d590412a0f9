-- The number of instructions of a written expression is the size of its core form.
use Rattle.std.proofs.Common.{◌≡◌, ℕ, zero, suc, ◌+◌, ◌-◌, ◌*◌, Bool, true, false, if◌then◌else◌, List, [], ◌∷◌, length, drop}
use Rattle.std.proofs.Common.{slice_get, option_map, Some, refl, ap, ◌∙◌, arith, suc-add, suc-mul, mul-zero, zero-mul}
use Rattle.peg_semantics.specs.Form.{Form, Forms, End, Then, terminals}
use Rattle.peg_semantics.specs.Form as written
use Rattle.peg_semantics.specs.Rules as grammar
use Rattle.peg_core.specs.CoreForm.{CoreForm, Empty, Test, Rule, Seq, Choice, Star, Not, in_order}
use Rattle.peg_core.specs.CoreForm.{all_in_order, one_of, tests_of, unfolded, is_all_empty}
use Rattle.peg_core.specs.CoreForm.{count_form, core_form, core_forms, core_bodies, core_bodies_from}
use Rattle.peg_core.proofs.EmptyParts.{first-all_empty, rest-all_empty}
use Rattle.peg_code.specs.Code.{program_code, size}
use Rattle.peg_code.specs.WrittenSizes.{counted_size, written_size, written_sizes}
use Rattle.peg_code.proofs.LayoutLemmas.{length-program_code, rules_size}

-- ---- the sizes of core forms

-- the size of all forms of a list, and `each` more for each of them
abbrev sizes : (each : ℕ) → List CoreForm → ℕ
sizes each [] = 0
sizes each (form ∷ forms) = size form + each + sizes each forms

size-in_order : (first : CoreForm) (rest : List CoreForm) → size (in_order first rest) ≡ size first + sizes 0 rest
size-in_order first [] = omega arith
size-in_order first (next ∷ rest) = omega (arith, size-in_order next rest)

size-all_in_order : (forms : List CoreForm) → size (all_in_order forms) ≡ sizes 0 forms
size-all_in_order [] = refl
size-all_in_order (first ∷ rest) = omega (arith, size-in_order first rest)

size-one_of : (first : CoreForm) (rest : List CoreForm) → size (one_of first rest) ≡ size first + sizes 2 rest
size-one_of first [] = omega arith
size-one_of first (next ∷ rest) = omega (arith, size-one_of next rest)

sizes-tests : (terminal : ℕ) (bytes : List ℕ) → sizes 0 (tests_of terminal bytes) ≡ length bytes
sizes-tests terminal [] = refl
sizes-tests terminal (b ∷ bs) = omega (arith, sizes-tests terminal bs)

size-unfolded : (part : CoreForm) (min max : ℕ)
    → size (unfolded part min max) ≡ max * size part + 2 * (max - min)
size-unfolded part min zero = omega (arith, zero-mul (size part))
size-unfolded part zero (suc max) = omega (arith, size-unfolded part zero max, suc-mul max (size part))
size-unfolded part (suc min) (suc max) = omega (arith, size-unfolded part min max, suc-mul max (size part))

-- a form of empty expressions alone has no code
size-all_empty : (form : CoreForm) → is_all_empty form ≡ true → size form ≡ 0
size-all_empty Empty empty = refl
size-all_empty (Test set terminal) empty = cc
size-all_empty (Rule rule) empty = cc
size-all_empty (Seq first rest) empty =
    omega (arith, size-all_empty first (first-all_empty first rest empty), size-all_empty rest (rest-all_empty first rest empty))
size-all_empty (Choice first rest) empty = cc
size-all_empty (Star part origin) empty = cc
size-all_empty (Not part) empty = cc

times-nothing : (times each : ℕ) → each ≡ 0 → times * each ≡ 0
times-nothing times each is = ap (λ n. times * n) is ∙ mul-zero times

-- the iterations that are left out have no code
size-kept : (part : CoreForm) (min max : ℕ) (empty : Bool) → is_all_empty part ≡ empty
    → size (unfolded part (min - (if empty then min - 1 else 0)) (suc (max - (if empty then min - 1 else 0))))
    ≡ suc max * size part + 2 * (suc max - min)
size-kept part min max true is =
    let none = size-all_empty part is in
    let least = min - (min - 1) in
    let most = suc (max - (min - 1)) in
    omega (arith, size-unfolded part least most, times-nothing most (size part) none, times-nothing (suc max) (size part) none)
size-kept part min max false is =
    let least : min - 0 ≡ min = omega arith in
    let most : max - 0 ≡ max = omega arith in
    (λ i. size (unfolded part (least i) (suc (most i)))) ∙ size-unfolded part min (suc max)

size-count : (part : CoreForm) (min max : ℕ) → size (count_form part min max) ≡ counted_size (size part) min max
size-count part min zero = omega arith
size-count part min (suc max) = size-kept part min max (is_all_empty part) refl

-- ---- written expressions

mutual
  size-core : (rules : List grammar.Rule) (terminal : ℕ) (e : Form) → size (core_form rules terminal e) ≡ written_size e
  size-core rules terminal (written.Literal bytes span) =
      size-all_in_order (tests_of terminal bytes) ∙ sizes-tests terminal bytes
  size-core rules terminal (written.Class set span) = refl
  size-core rules terminal (written.Any span) = refl
  size-core rules terminal (written.Name name span) = refl
  size-core rules terminal (written.Seq items span) =
      size-all_in_order (core_forms rules terminal items) ∙ sizes-core rules terminal 0 items
  size-core rules terminal (written.Choice first rest span) =
      let later = terminal + terminals first in
      omega (arith, size-one_of (core_form rules terminal first) (core_forms rules later rest), size-core rules terminal first, sizes-core rules later 2 rest)
  size-core rules terminal (written.Optional part span) = omega (arith, size-core rules terminal part)
  size-core rules terminal (written.Star part span) = omega (arith, size-core rules terminal part)
  size-core rules terminal (written.Plus part span) = omega (arith, size-core rules terminal part)
  size-core rules terminal (written.Counted part min max span) =
      size-count (core_form rules terminal part) min max
      ∙ ap (λ n. counted_size n min max) (size-core rules terminal part)
  size-core rules terminal (written.And part span) = omega (arith, size-core rules terminal part)
  size-core rules terminal (written.Not part span) = omega (arith, size-core rules terminal part)

  sizes-core : (rules : List grammar.Rule) (terminal each : ℕ) (items : Forms)
      → sizes each (core_forms rules terminal items) ≡ written_sizes each items
  sizes-core rules terminal each End = refl
  sizes-core rules terminal each (Then e rest) =
      omega (arith, size-core rules terminal e, sizes-core rules (terminal + terminals e) each rest)

-- ---- rules

-- the number of instructions of rules
abbrev pub written_rules_size : List grammar.Rule → ℕ
written_rules_size [] = 0
written_rules_size (rule ∷ more) = written_size rule.body + 1 + written_rules_size more

rules_size-core : (rules : List grammar.Rule) (terminal : ℕ) (some : List grammar.Rule)
    → rules_size (core_bodies_from rules terminal some) ≡ written_rules_size some
rules_size-core rules terminal [] = refl
rules_size-core rules terminal (rule ∷ more) =
    omega (arith, size-core rules terminal rule.body, rules_size-core rules (terminal + terminals rule.body) more)

pub length-program_of : (rules : List grammar.Rule)
    → length (program_code (core_bodies rules)) ≡ 1 + written_rules_size rules
length-program_of rules = omega (arith, length-program_code (core_bodies rules), rules_size-core rules 0 rules)

-- the rules from one on are that rule and those after it
pub next-rule : (rules : List grammar.Rule) (k : ℕ) (e : Form)
    → option_map (λ (r : grammar.Rule). r.body) (slice_get rules k) ≡ Some e
    → written_rules_size (drop k rules) ≡ written_size e + 1 + written_rules_size (drop (k + 1) rules)
next-rule [] k e is = cc
next-rule (rule ∷ rules) zero e is =
    let same : rule.body ≡ e = cc in
    let first : written_rules_size (drop zero (rule ∷ rules))
    ≡ written_size rule.body + 1 + written_rules_size (drop (0 + 1) (rule ∷ rules)) = refl in
    omega (arith, first, ap written_size same)
next-rule (rule ∷ rules) (suc k) e is = rw suc-add (next-rule rules k e is)
