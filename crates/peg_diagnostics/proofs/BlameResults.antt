-- The blame of an expression has the result of its record, in each depth.
use Rattle.std.proofs.Common.{◌≡◌, ℕ, zero, suc, ◌+◌, Bool, true, false, if◌then◌else◌, List, [], ◌∷◌}
use Rattle.std.proofs.Common.{Option, None, Some, IfSome, refl, sym, ap, ap₂, subst, bytes_eq, option_map}
use Rattle.std.proofs.Common.{option_and_then}
use Rattle.peg_tree.specs.Trees.{NoTrees, Tree, followed_by}
use Rattle.peg_semantics.specs.Form.{Form, Forms, Literal, Class, Any, Name, Seq, Choice, Optional, Star, Plus, Counted}
use Rattle.peg_semantics.specs.Form.{And, Not, End, Then, terminals}
use Rattle.peg_semantics.specs.Record.{Recognition, Failed, Matched, Record, Recognizer, matched_at}
use Rattle.peg_semantics.specs.Record.{as_call, recognize_seq, recognize_choice, table, record_in}
use Rattle.peg_semantics.specs.Rules.{Rule, Meaning, meaning_from, meaning_of}
use Rattle.peg_diagnostics.specs.Blame.{item_blame, blame_item, blame_seq, blame_choice, blame_table, blame_in}
use Rattle.peg_diagnostics.specs.Diagnostic.{rename, rename_all}
use Rattle.peg_diagnostics.specs.Items.{items, item_meaning_from, item_meaning_of}
use Rattle.peg_diagnostics.proofs.Renaming.{HasCopy, Simulates-rename}
use Rattle.peg_diagnostics.proofs.Simulation.{Likeness, SameResult, IsLike, Simulates, Simulates-map}
use Rattle.peg_diagnostics.proofs.Simulation.{Simulates-matched_at}
use Rattle.peg_diagnostics.proofs.Simulation.{Simulates-then_at, Simulates-or_else, Simulates-rounds}
use Rattle.peg_diagnostics.proofs.Simulation.{Simulates-recognize_repeat, IsLike-as_call}

-- two records with the same result; their failed tests and their calls may differ
abbrev pub same_results : Likeness
same_results = record {
  Same = λ a b. a ≡ b;
  Fit = λ a b. Unit {0};
  Calls = λ a b. Unit {0};
  no_trees = refl;
  more_trees = λ a b c d same more. ap₂ followed_by same more;
  no_tests = tt;
  more_tests = λ a b c d same more. tt;
  no_calls = tt;
  more_calls = λ a b c d same more. tt;
}

-- ---- a record's result does not depend on the number of its first terminal

-- the renaming that keeps each name
abbrev itself : List ℕ → List ℕ
itself name = name

mutual
  rename-itself : (e : Form) → rename itself e ≡ e
  rename-itself (Literal bytes span) = refl
  rename-itself (Class set span) = refl
  rename-itself (Any span) = refl
  rename-itself (Name name span) = refl
  rename-itself (Seq items span) = ap (λ l. Seq l span) (rename_all-itself items)
  rename-itself (Choice first rest span) =
      ap₂ (λ e l. Choice e l span) (rename-itself first) (rename_all-itself rest)
  rename-itself (Optional part span) = ap (λ e. Optional e span) (rename-itself part)
  rename-itself (Star part span) = ap (λ e. Star e span) (rename-itself part)
  rename-itself (Plus part span) = ap (λ e. Plus e span) (rename-itself part)
  rename-itself (Counted part min max span) = ap (λ e. Counted e min max span) (rename-itself part)
  rename-itself (And part span) = ap (λ e. And e span) (rename-itself part)
  rename-itself (Not part span) = ap (λ e. Not e span) (rename-itself part)

  rename_all-itself : (items : Forms) → rename_all itself items ≡ items
  rename_all-itself End = refl
  rename_all-itself (Then e rest) = ap₂ Then (rename-itself e) (rename_all-itself rest)

abbrev AnyTerminal : ℕ → Type 0
AnyTerminal terminal = Unit {0}

module _ (rules : List Rule) (text : List ℕ) where
  own_copy : (name : List ℕ) (m : Meaning) → meaning_of rules name ≡ Some m
      → HasCopy same_results AnyTerminal itself rules name m
  own_copy name m is = record {
    copy = m;
    found = is;
    renamed = sym (rename-itself m.body);
    free = λ k below. tt;
    node = λ start end a b same. ap (λ trees. Tree m.rule start end trees NoTrees) same;
    call = λ position. tt;
  }

  pub other_terminal : (n : ℕ) (e : Form) (t T position : ℕ)
      → Simulates same_results (record_in rules text n e t position) (record_in rules text n e T position)
  other_terminal n e t T position =
      subst (λ same. Simulates same_results (record_in rules text n e t position)
      (record_in rules text n same T position))
      (rename-itself e)
      (Simulates-rename same_results AnyTerminal (λ a b at free. tt) itself rules rules text own_copy n e t T position
      (λ k below. tt))

-- ---- the rule that a name refers to, with its first terminal and with its first item

-- the same rule and expression
abbrev pub SameRule : Meaning → Meaning → Type 0
SameRule m other = (m.rule ≡ other.rule) × (m.body ≡ other.body)

-- if the first is a meaning, the second is one of the same rule
abbrev pub AlsoMeans : (first second : Option Meaning) → Type 0
AlsoMeans first second = IfSome first (λ m. (other : Meaning) × (second ≡ Some other) × SameRule m other)

pub item_meaning_from-means : (rule terminal item : ℕ) (rules : List Rule) (name : List ℕ)
    → AlsoMeans (meaning_from rule terminal rules name) (item_meaning_from rule item rules name)
item_meaning_from-means rule terminal item [] name = tt
item_meaning_from-means rule terminal item (r ∷ rs) name =
    by (bytes_eq name r.name)
    (item_meaning_from-means (rule + 1) (terminal + terminals r.body) (item + items r.body) rs name)
  where
    first : Meaning
    first = record { rule = rule; terminal = terminal; body = r.body }

    second : Meaning
    second = record { rule = rule; terminal = item; body = r.body }

    by : (b : Bool)
        → AlsoMeans (meaning_from (rule + 1) (terminal + terminals r.body) rs name)
        (item_meaning_from (rule + 1) (item + items r.body) rs name)
        → AlsoMeans (if b then Some first else meaning_from (rule + 1) (terminal + terminals r.body) rs name)
        (if b then Some second else item_meaning_from (rule + 1) (item + items r.body) rs name)
    by true later = (second, refl, (refl, refl))
    by false later = later

-- ---- blame

-- items keep the result
IsLike-item_blame : (item position : ℕ) (x y : Record) → IsLike same_results x y
    → IsLike same_results x (item_blame item position y.result)
IsLike-item_blame item position x y is = record { results = by x.result y.result is.results; tests = tt; calls = tt }
  where
    by : (result other : Recognition) → SameResult same_results result other
        → SameResult same_results result (item_blame item position other).result
    by Failed Failed results = tt
    by Failed (Matched end trees) results = absurd results
    by (Matched end trees) Failed results = absurd results
    by (Matched end trees) (Matched other more) results = results

Simulates-item_blame : (item position : ℕ) (first second : Option Record) → Simulates same_results first second
    → Simulates same_results first (option_map (λ (r : Record). item_blame item position r.result) second)
Simulates-item_blame item position None second h = tt
Simulates-item_blame item position (Some x) second h = (
  item_blame item position (h.0).result,
  ap (option_map (λ (r : Record). item_blame item position r.result)) h.1,
  IsLike-item_blame item position x h.0 h.2,
)

module _ (rules : List Rule) (text : List ℕ) where
  abbrev SameResults : (take more : Recognizer) → Type 0
  SameResults take more = (e : Form) (terminal item position : ℕ)
      → Simulates same_results (take e terminal position) (more e item position)

  module _ (judge take more : Recognizer) (j : SameResults (table rules text take) judge) (h : SameResults take more)
    where
      Simulates-item : (e : Form) (terminal item position : ℕ)
          → Simulates same_results (table rules text take e terminal position) (blame_item judge e item position)
      Simulates-item e terminal item position =
          Simulates-item_blame item position (table rules text take e terminal position) (judge e 0 position)
          (j e terminal 0 position)

      Simulates-seq : (parts : Forms) (terminal item position : ℕ)
          → Simulates same_results (recognize_seq take parts terminal position) (blame_seq more parts item position)
      Simulates-seq End terminal item position = Simulates-matched_at same_results position
      Simulates-seq (Then e rest) terminal item position =
          Simulates-then_at same_results (take e terminal position) (more e item position)
          (λ end. recognize_seq take rest (terminal + terminals e) end)
          (λ end. blame_seq more rest (item + items e) end)
          (h e terminal item position) (λ end. Simulates-seq rest (terminal + terminals e) (item + items e) end)

      Simulates-choice : (e : Form) (rest : Forms) (terminal item position : ℕ)
          → Simulates same_results (recognize_choice take e rest terminal position)
          (blame_choice more e rest item position)
      Simulates-choice e End terminal item position = h e terminal item position
      Simulates-choice e (Then next rest) terminal item position =
          Simulates-or_else same_results (take e terminal position) (more e item position)
          (recognize_choice take next rest (terminal + terminals e) position)
          (blame_choice more next rest (item + items e) position) (h e terminal item position)
          (Simulates-choice next rest (terminal + terminals e) (item + items e) position)

      abbrev Call : Recognizer → ℕ → Meaning → Option Record
      Call by position m = option_map (as_call m.rule position) (by m.body m.terminal position)

      Simulates-call : (position : ℕ) (first second : Option Meaning) → AlsoMeans first second
          → Simulates same_results (option_and_then (Call take position) first)
          (option_and_then (Call more position) second)
      Simulates-call position None second means = tt
      Simulates-call position (Some m) second means =
          let other = means.0 in
          subst (λ o. Simulates same_results (Call take position m) (option_and_then (Call more position) o))
          (sym means.1)
          (Simulates-map same_results (as_call m.rule position) (as_call other.rule position)
          (IsLike-as_call same_results m.rule other.rule position
          (λ start end a b same. ap₂ (λ rule trees. Tree rule start end trees NoTrees) (means.2).0 same) (λ at. tt))
          (take m.body m.terminal position) (more other.body other.terminal position)
          (subst (λ body. Simulates same_results (take m.body m.terminal position) (more body other.terminal position))
          (means.2).1 (h m.body m.terminal other.terminal position)))

      Simulates-table : SameResults (table rules text take) (blame_table rules judge more)
      Simulates-table (Literal bytes span) terminal item position =
          Simulates-item (Literal bytes span) terminal item position
      Simulates-table (Class set span) terminal item position = Simulates-item (Class set span) terminal item position
      Simulates-table (Any span) terminal item position = Simulates-item (Any span) terminal item position
      Simulates-table (Name name span) terminal item position =
          Simulates-call position (meaning_of rules name) (item_meaning_of rules name)
          (item_meaning_from-means 0 0 0 rules name)
      Simulates-table (Seq parts span) terminal item position = Simulates-seq parts terminal item position
      Simulates-table (Choice first rest span) terminal item position =
          Simulates-choice first rest terminal item position
      Simulates-table (Optional part span) terminal item position =
          Simulates-or_else same_results (take part terminal position) (more part item position)
          (Some (matched_at position)) (Some (matched_at position)) (h part terminal item position)
          (Simulates-matched_at same_results position)
      Simulates-table (Star part span) terminal item position =
          Simulates-rounds same_results (take part terminal position) (more part item position) position
          (λ end. take (Star part span) terminal end) (λ end. more (Star part span) item end)
          (h part terminal item position) (λ end. h (Star part span) terminal item end)
      Simulates-table (Plus part span) terminal item position =
          Simulates-then_at same_results (take part terminal position) (more part item position)
          (λ end. take (Star part span) terminal end) (λ end. more (Star part span) item end)
          (h part terminal item position) (λ end. h (Star part span) terminal item end)
      Simulates-table (Counted part min max span) terminal item position =
          Simulates-recognize_repeat same_results (λ at. take part terminal at) (λ at. more part item at)
          (λ at. h part terminal item at) min max position
      Simulates-table (And part span) terminal item position = Simulates-item (And part span) terminal item position
      Simulates-table (Not part span) terminal item position = Simulates-item (Not part span) terminal item position

  -- in each depth an expression with a record has a blame with the same result
  pub Simulates-blame : (n : ℕ) → SameResults (record_in rules text n) (blame_in rules text n)
  unfolding record_in blame_in
  Simulates-blame zero e terminal item position = tt
  Simulates-blame (suc n) e terminal item position =
      Simulates-table (record_in rules text (suc n)) (record_in rules text n) (blame_in rules text n)
      (other_terminal rules text (suc n)) (Simulates-blame n) e terminal item position
