-- Each failed test of a blame is the failure of an item, and each call of a blame is a call of the record.
use Rattle.std.proofs.Common.{◌≡◌, ℕ, zero, suc, ◌+◌, List, [], ◌∷◌, ◌++◌, All, Contains, Option, None, Some, slice_get}
use Rattle.std.proofs.Common.{refl, sym, ap, ap₂, subst, arith, option_and_then, option_map}
use Rattle.std.proofs.lemmas.List.Elements.{All-append, All-cons, All-nil, All-weaker, Contains-append_left}
use Rattle.std.proofs.lemmas.List.Elements.{Contains-append_right}
use Rattle.peg_tree.specs.Trees.{NoTrees, Tree, followed_by}
use Rattle.peg_semantics.specs.Form.{Form, Forms, Literal, Class, Any, Name, Seq, Choice, Optional, Star, Plus, Counted}
use Rattle.peg_semantics.specs.Form.{And, Not, End, Then, terminals}
use Rattle.peg_semantics.specs.Record.{Failed, Matched, Recognition, Record, Recognizer, RuleCall, Test, as_call}
use Rattle.peg_semantics.specs.Record.{matched_at, record_in, recognize_choice, recognize_seq, table, test_of}
use Rattle.peg_semantics.specs.Rules.{Meaning, Rule, meaning_of}
use Rattle.peg_diagnostics.specs.Blame.{HasBlame, blame_choice, blame_in, blame_item, blame_seq, blame_table, item_blame}
use Rattle.peg_diagnostics.specs.FailedItems.{ItemFails}
use Rattle.peg_diagnostics.specs.Items.{forms_of_items, item_meaning_of, items}
use Rattle.peg_diagnostics.proofs.BlameLemmas.{one_blame}
use Rattle.peg_diagnostics.proofs.BlameResults.{AlsoMeans, item_meaning_from-means, other_terminal, same_results}
use Rattle.peg_diagnostics.proofs.ItemForms.{AreAllItemsFrom, AreItemsFrom, meaning-items}
use Rattle.peg_diagnostics.proofs.Simulation.{IsLike, IsLike-as_call, Likeness, SameResult, Simulates, call_of}
use Rattle.peg_diagnostics.proofs.Simulation.{Simulates-gives, Simulates-map, Simulates-matched_at, Simulates-or_else}
use Rattle.peg_diagnostics.proofs.Simulation.{Simulates-recognize_repeat, Simulates-rounds, Simulates-then_at}

module _ (rules : List Rule) (text : List ℕ) where
  abbrev Fails : Test → Type 0
  Fails test = ItemFails rules text test.terminal test.position

  abbrev AreAmong : (calls some : List RuleCall) → Type 0
  AreAmong calls some = All (Contains calls) some

  more-among : (a b c d : List RuleCall) → AreAmong a b → AreAmong c d → AreAmong (a ++ c) (b ++ d)
  more-among a b c d among more =
      All-append (Contains (a ++ c)) b d
      (All-weaker (Contains a) (Contains (a ++ c)) (λ call has. Contains-append_left a c call has) b among)
      (All-weaker (Contains c) (Contains (a ++ c)) (λ call has. Contains-append_right a c call has) d more)

  same-call : (rule other position : ℕ) → rule ≡ other
      → AreAmong (call_of rule position ∷ []) (call_of other position ∷ [])
  same-call rule other position same =
      let calls : List RuleCall = call_of rule position ∷ [] in
      subst (λ k. AreAmong calls (call_of k position ∷ [])) same
      (All-cons (Contains calls) (call_of rule position) [] (0, omega arith, refl) (All-nil (Contains calls)))

  -- a record and its blame
  abbrev blames : Likeness
  blames = record {
    Same = λ a b. a ≡ b;
    Fit = λ a b. All Fails b;
    Calls = AreAmong;
    no_trees = refl;
    more_trees = λ a b c d same more. ap₂ followed_by same more;
    no_tests = All-nil Fails;
    more_tests = λ a b c d fails more. All-append Fails b d fails more;
    no_calls = All-nil (Contains []);
    more_calls = more-among;
  }

  -- ---- one item

  item-like : (e : Form) (item position n : ℕ) (x y : Record) → slice_get (forms_of_items rules) item ≡ Some e
      → record_in rules text n e 0 position ≡ Some y → IsLike same_results x y
      → IsLike blames x (item_blame item position y.result)
  item-like e item position n x y here found like = by x.result y.result refl refl like.results
    where
      by : (result other : Recognition) → x.result ≡ result → y.result ≡ other → SameResult same_results result other
          → IsLike blames x (item_blame item position other)
      by Failed Failed is fails results = record {
        results = subst (λ r. SameResult blames r Failed) (sym is) tt;
        tests = All-cons Fails (test_of item position) []
            (record { expression = e; is = here; recognition = y; is_record = (n, found); fails = fails })
            (All-nil Fails);
        calls = All-nil (Contains x.calls);
      }
      by Failed (Matched end trees) is fails results = absurd results
      by (Matched end trees) Failed is fails results = absurd results
      by (Matched end trees) (Matched other more) is fails results = record {
        results = subst (λ r. SameResult blames r (Matched other more)) (sym is) results;
        tests = All-nil Fails;
        calls = All-nil (Contains x.calls);
      }

  Simulates-item : (n : ℕ) (e : Form) (terminal item position : ℕ) → slice_get (forms_of_items rules) item ≡ Some e
      → Simulates blames (record_in rules text n e terminal position)
      (blame_item (record_in rules text n) e item position)
  Simulates-item n e terminal item position here =
      by (record_in rules text n e terminal position) (other_terminal rules text n e terminal 0 position)
    where
      by : (first : Option Record) → Simulates same_results first (record_in rules text n e 0 position)
          → Simulates blames first (blame_item (record_in rules text n) e item position)
      by None h = tt
      by (Some x) h = (
        item_blame item position (h.0).result,
        ap (option_map (λ (r : Record). item_blame item position r.result)) h.1,
        item-like e item position n x h.0 here h.1 h.2,
      )

  -- ---- all forms

  abbrev AreBlames : (take more : Recognizer) → Type 0
  AreBlames take more = (e : Form) (terminal item position : ℕ) → AreItemsFrom (forms_of_items rules) e item
      → Simulates blames (take e terminal position) (more e item position)

  -- the same for expressions that are items
  abbrev AreItemBlames : (take judge : Recognizer) → Type 0
  AreItemBlames take judge = (e : Form) (terminal item position : ℕ) → slice_get (forms_of_items rules) item ≡ Some e
      → Simulates blames (table rules text take e terminal position) (blame_item judge e item position)

  module _ (judge take more : Recognizer) (j : AreItemBlames take judge) (h : AreBlames take more) where
    Simulates-seq : (parts : Forms) (terminal item position : ℕ) → AreAllItemsFrom (forms_of_items rules) parts item
        → Simulates blames (recognize_seq take parts terminal position) (blame_seq more parts item position)
    Simulates-seq End terminal item position here = Simulates-matched_at blames position
    Simulates-seq (Then e rest) terminal item position here =
        Simulates-then_at blames (take e terminal position) (more e item position)
        (λ end. recognize_seq take rest (terminal + terminals e) end)
        (λ end. blame_seq more rest (item + items e) end) (h e terminal item position here.0)
        (λ end. Simulates-seq rest (terminal + terminals e) (item + items e) end here.1)

    Simulates-choice : (e : Form) (rest : Forms) (terminal item position : ℕ)
        → AreItemsFrom (forms_of_items rules) e item → AreAllItemsFrom (forms_of_items rules) rest (item + items e)
        → Simulates blames (recognize_choice take e rest terminal position) (blame_choice more e rest item position)
    Simulates-choice e End terminal item position here later = h e terminal item position here
    Simulates-choice e (Then next rest) terminal item position here later =
        Simulates-or_else blames (take e terminal position) (more e item position)
        (recognize_choice take next rest (terminal + terminals e) position)
        (blame_choice more next rest (item + items e) position) (h e terminal item position here)
        (Simulates-choice next rest (terminal + terminals e) (item + items e) position later.0 later.1)

    abbrev Call : Recognizer → ℕ → Meaning → Option Record
    Call by position m = option_map (as_call m.rule position) (by m.body m.terminal position)

    Simulates-call : (position : ℕ) (first second : Option Meaning) → AlsoMeans first second
        → ((m : Meaning) → second ≡ Some m → AreItemsFrom (forms_of_items rules) m.body m.terminal)
        → Simulates blames (option_and_then (Call take position) first) (option_and_then (Call more position) second)
    Simulates-call position None second means placed = tt
    Simulates-call position (Some m) second means placed =
        let other = means.0 in
        let rule = (means.2).0 in
        subst (λ o. Simulates blames (Call take position m) (option_and_then (Call more position) o)) (sym means.1)
        (Simulates-map blames (as_call m.rule position) (as_call other.rule position)
        (IsLike-as_call blames m.rule other.rule position
        (λ start end a b same. ap₂ (λ rule trees. Tree rule start end trees NoTrees) rule same)
        (λ at. same-call m.rule other.rule at rule))
        (take m.body m.terminal position) (more other.body other.terminal position)
        (subst (λ body. Simulates blames (take body m.terminal position) (more other.body other.terminal position))
        (sym (means.2).1) (h other.body m.terminal other.terminal position (placed other means.1))))

    Simulates-table : (e : Form) (terminal number position : ℕ) → AreItemsFrom (forms_of_items rules) e number
        → Simulates blames (table rules text take e terminal position) (blame_table rules judge more e number position)
    Simulates-table (Literal bytes span) terminal number position here =
        j (Literal bytes span) terminal number position here
    Simulates-table (Class set span) terminal number position here = j (Class set span) terminal number position here
    Simulates-table (Any span) terminal number position here = j (Any span) terminal number position here
    Simulates-table (Name name span) terminal number position here =
        Simulates-call position (meaning_of rules name) (item_meaning_of rules name)
        (item_meaning_from-means 0 0 0 rules name) (meaning-items rules name)
    Simulates-table (Seq parts span) terminal number position here = Simulates-seq parts terminal number position here
    Simulates-table (Choice first rest span) terminal number position here =
        Simulates-choice first rest terminal number position here.0 here.1
    Simulates-table (Optional part span) terminal number position here =
        Simulates-or_else blames (take part terminal position) (more part number position)
        (Some (matched_at position)) (Some (matched_at position)) (h part terminal number position here)
        (Simulates-matched_at blames position)
    Simulates-table (Star part span) terminal number position here =
        Simulates-rounds blames (take part terminal position) (more part number position) position
        (λ end. take (Star part span) terminal end) (λ end. more (Star part span) number end)
        (h part terminal number position here) (λ end. h (Star part span) terminal number end here)
    Simulates-table (Plus part span) terminal number position here =
        Simulates-then_at blames (take part terminal position) (more part number position)
        (λ end. take (Star part span) terminal end) (λ end. more (Star part span) number end)
        (h part terminal number position here) (λ end. h (Star part span) terminal number end here)
    Simulates-table (Counted part min max span) terminal number position here =
        Simulates-recognize_repeat blames (λ at. take part terminal at) (λ at. more part number at)
        (λ at. h part terminal number at here) min max position
    Simulates-table (And part span) terminal number position here = j (And part span) terminal number position here
    Simulates-table (Not part span) terminal number position here = j (Not part span) terminal number position here

  Simulates-blames : (n : ℕ) → AreBlames (record_in rules text n) (blame_in rules text n)
  unfolding record_in blame_in
  Simulates-blames zero e terminal item position here = tt
  Simulates-blames (suc n) e terminal item position here =
      Simulates-table (record_in rules text (suc n)) (record_in rules text n) (blame_in rules text n)
      (Simulates-item (suc n)) (Simulates-blames n) e terminal item position here

  -- a name's blame and record
  pub name-blamed : (n : ℕ) (e : Form) (terminal item position : ℕ) (r b : Record)
      → AreItemsFrom (forms_of_items rules) e item → record_in rules text n e terminal position ≡ Some r
      → HasBlame rules text e item position b → All Fails b.tests × AreAmong r.calls b.calls
  name-blamed n e terminal item position r b here found is =
      let there = Simulates-gives blames (record_in rules text n e terminal position) (blame_in rules text n e item position)
      r found (Simulates-blames n e terminal item position here) in
      let same : there.0 ≡ b = one_blame rules text e item position there.0 b (n, there.1) is in (
        subst (λ (b : Record). All Fails b.tests) same (there.2).tests,
        subst (λ (b : Record). AreAmong r.calls b.calls) same (there.2).calls,
      )
