-- The names that a grammar is rejected for are within the file.
use Rattle.std.proofs.Common.{◌≡◌, ℕ, ◌≤◌, List, [], ◌∷◌, ◌++◌, All, Bool, true, false, not, bytes_eq, find, Some}
use Rattle.std.proofs.Common.{if◌then◌else◌, subst, arith}
use Rattle.std.specs.List.{list_any}
use Rattle.std.proofs.lemmas.List.Elements.{All-nil, All-cons, All-head, All-tail, All-append}
use Rattle.peg_semantics.specs.Form.{Form, Forms, Reference, Literal, Class, Any, Name, Seq, Choice, Optional, Star}
use Rattle.peg_semantics.specs.Form.{Plus, Counted, And, Not, End, Then, names_used, names_used_by_all}
use Rattle.peg_semantics.specs.Grammar.{duplicate_after, first_duplicate, first_undefined}
use Rattle.peg_semantics.specs.Rules.{Rule, references, defined_at, is_defined}
use Rattle.peg_notation.specs.Spans.{LiesIn, FormLiesIn, FormsLieIn, RuleLiesIn}

-- a name within a file of this length
abbrev NameLiesIn : (size : ℕ) → Reference → Type 0
NameLiesIn size name = LiesIn size name.span

-- a duplicate name is the name of one of the rules
duplicate-inside : (size : ℕ) (earlier : List (List ℕ)) (rules : List Rule) (name : Reference)
    → All (RuleLiesIn size) rules → duplicate_after earlier rules ≡ Some name → NameLiesIn size name
duplicate-inside size earlier [] name inside is = cc
duplicate-inside size earlier (rule ∷ rules) name inside is =
    by (list_any (bytes_eq rule.name) earlier) is (duplicate-inside size (earlier ++ rule.name ∷ []) rules name
    (All-tail (RuleLiesIn size) rule rules inside))
  where
    by : (known : Bool) → (if known then Some (defined_at rule) else duplicate_after (earlier ++ rule.name ∷ [])
        rules) ≡ Some name
        → (duplicate_after (earlier ++ rule.name ∷ []) rules ≡ Some name → NameLiesIn size name) → NameLiesIn size name
    by true here later =
        let same : defined_at rule ≡ name = cc in
        subst (NameLiesIn size) same (All-head (RuleLiesIn size) rule rules inside).0
    by false there later = later there

-- the names that an expression calls are within the expression
mutual
  names-inside : (size : ℕ) (e : Form) → FormLiesIn size e → All (NameLiesIn size) (names_used e)
  names-inside size (Literal bytes span) inside = All-nil (NameLiesIn size)
  names-inside size (Class set span) inside = All-nil (NameLiesIn size)
  names-inside size (Any span) inside = All-nil (NameLiesIn size)
  names-inside size (Name name span) inside = All-cons (NameLiesIn size) _ [] inside (All-nil (NameLiesIn size))
  names-inside size (Seq items span) inside = all_names-inside size items inside.1
  names-inside size (Choice first rest span) inside =
      All-append (NameLiesIn size) (names_used first) (names_used_by_all rest) (names-inside size first inside.1)
      (all_names-inside size rest inside.2)
  names-inside size (Optional part span) inside = names-inside size part inside.1
  names-inside size (Star part span) inside = names-inside size part inside.1
  names-inside size (Plus part span) inside = names-inside size part inside.1
  names-inside size (Counted part min max span) inside = names-inside size part inside.1
  names-inside size (And part span) inside = names-inside size part inside.1
  names-inside size (Not part span) inside = names-inside size part inside.1

  all_names-inside : (size : ℕ) (items : Forms) → FormsLieIn size items → All (NameLiesIn size) (names_used_by_all items)
  all_names-inside size End inside = All-nil (NameLiesIn size)
  all_names-inside size (Then e rest) inside =
      All-append (NameLiesIn size) (names_used e) (names_used_by_all rest) (names-inside size e inside.0)
      (all_names-inside size rest inside.1)

references-inside : (size : ℕ) (rules : List Rule) → All (RuleLiesIn size) rules → All (NameLiesIn size) (references rules)
references-inside size [] inside = All-nil (NameLiesIn size)
references-inside size (rule ∷ rules) inside =
    All-append (NameLiesIn size) (names_used rule.body) (references rules)
    (names-inside size rule.body (All-head (RuleLiesIn size) rule rules inside).1)
    (references-inside size rules (All-tail (RuleLiesIn size) rule rules inside))

-- a name that a search finds is in the list
found-inside : (size : ℕ) (test : Reference → Bool) (names : List Reference) (name : Reference)
    → All (NameLiesIn size) names → find test names ≡ Some name → NameLiesIn size name
found-inside size test [] name inside is = cc
found-inside size test (first ∷ rest) name inside is =
    by (test first) is (found-inside size test rest name (All-tail (NameLiesIn size) first rest inside))
  where
    by : (passes : Bool) → (if passes then Some first else find test rest) ≡ Some name
        → (find test rest ≡ Some name → NameLiesIn size name) → NameLiesIn size name
    by true here later =
        let same : first ≡ name = cc in
        subst (NameLiesIn size) same (All-head (NameLiesIn size) first rest inside)
    by false there later = later there

-- a duplicate name and an undefined name are within the file
pub twice-inside : (size : ℕ) (rules : List Rule) (name : Reference) → All (RuleLiesIn size) rules
    → first_duplicate rules ≡ Some name → name.span.start ≤ size
twice-inside size rules name inside is =
    let lies = duplicate-inside size [] rules name inside is in omega (arith, lies.0, lies.1)

pub missing-inside : (size : ℕ) (rules : List Rule) (name : Reference) → All (RuleLiesIn size) rules
    → first_undefined rules ≡ Some name → name.span.start ≤ size
missing-inside size rules name inside is =
    let lies = found-inside size (λ (reference : Reference). not (is_defined rules reference.name)) (references rules) name
    (references-inside size rules inside) is in
    omega (arith, lies.0, lies.1)
