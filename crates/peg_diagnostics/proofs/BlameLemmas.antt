-- Blame is monotone in the depth.
use Rattle.std.proofs.Common.{◌≡◌, ℕ, zero, suc, ◌+◌, List, Some, ap, option_map}
use Rattle.std.proofs.Common.{zero-add, suc-add, add_comm}
use Rattle.peg_semantics.specs.Form.{Form, Forms, Literal, Class, Any, Name, Seq, Choice, Optional, Star, Plus, Counted}
use Rattle.peg_semantics.specs.Form.{And, Not, End, Then}
use Rattle.peg_semantics.specs.Record.{Record, Recognizer, matched_at, star_result, as_call, record_in}
use Rattle.peg_semantics.specs.Rules.{Rule, Meaning}
use Rattle.peg_semantics.proofs.RecordLemmas.{Extends, Extends-refl, Extends-none, Extends-map, Extends-and_then}
use Rattle.peg_semantics.proofs.RecordLemmas.{Extends-then_at, Extends-or_else, Extends-star_result}
use Rattle.peg_semantics.proofs.RecordLemmas.{Extends-recognize_repeat, record_in-more}
use Rattle.peg_diagnostics.specs.Blame.{item_blame, blame_item, blame_seq, blame_choice, blame_table, blame_in}
use Rattle.peg_diagnostics.specs.Blame.{HasBlame}
use Rattle.peg_diagnostics.specs.Items.{items, item_meaning_of}

-- every record of the first recognizer is one of the second
abbrev ExtendsAll : (take more : Recognizer) → Type 0
ExtendsAll take more = (e : Form) (item position : ℕ) → Extends (take e item position) (more e item position)

module _ (judge better : Recognizer) (j : ExtendsAll judge better) where
  Extends-item : (e : Form) (item position : ℕ)
      → Extends (blame_item judge e item position) (blame_item better e item position)
  Extends-item e item position =
      Extends-map (λ (r : Record). item_blame item position r.result) (judge e 0 position) (better e 0 position)
      (j e 0 position)

  module _ (take more : Recognizer) (h : ExtendsAll take more) where
    Extends-seq : (parts : Forms) (item position : ℕ)
        → Extends (blame_seq take parts item position) (blame_seq more parts item position)
    Extends-seq End item position = Extends-refl (Some (matched_at position))
    Extends-seq (Then e rest) item position =
        Extends-then_at (take e item position) (more e item position) (λ end. blame_seq take rest (item + items e) end)
        (λ end. blame_seq more rest (item + items e) end) (h e item position)
        (λ end. Extends-seq rest (item + items e) end)

    Extends-choice : (e : Form) (rest : Forms) (item position : ℕ)
        → Extends (blame_choice take e rest item position) (blame_choice more e rest item position)
    Extends-choice e End item position = h e item position
    Extends-choice e (Then next rest) item position =
        Extends-or_else (take e item position) (more e item position)
        (blame_choice take next rest (item + items e) position) (blame_choice more next rest (item + items e) position)
        (h e item position) (Extends-choice next rest (item + items e) position)

    Extends-blame_table : (rules : List Rule)
        → ExtendsAll (blame_table rules judge take) (blame_table rules better more)
    Extends-blame_table rules (Literal bytes span) item position = Extends-item (Literal bytes span) item position
    Extends-blame_table rules (Class set span) item position = Extends-item (Class set span) item position
    Extends-blame_table rules (Any span) item position = Extends-item (Any span) item position
    Extends-blame_table rules (Name name span) item position =
        Extends-and_then (λ (m : Meaning). option_map (as_call m.rule position) (take m.body m.terminal position))
        (λ (m : Meaning). option_map (as_call m.rule position) (more m.body m.terminal position))
        (item_meaning_of rules name) (item_meaning_of rules name)
        (λ m. Extends-map (as_call m.rule position) (take m.body m.terminal position)
        (more m.body m.terminal position) (h m.body m.terminal position)) (Extends-refl (item_meaning_of rules name))
    Extends-blame_table rules (Seq parts span) item position = Extends-seq parts item position
    Extends-blame_table rules (Choice first rest span) item position = Extends-choice first rest item position
    Extends-blame_table rules (Optional part span) item position =
        Extends-or_else (take part item position) (more part item position) (Some (matched_at position))
        (Some (matched_at position)) (h part item position) (Extends-refl (Some (matched_at position)))
    Extends-blame_table rules (Star part span) item position =
        Extends-and_then
        (λ (round : Record). star_result round.result position round (λ end. take (Star part span) item end))
        (λ (round : Record). star_result round.result position round (λ end. more (Star part span) item end))
        (take part item position) (more part item position)
        (λ round. Extends-star_result round.result position round (λ end. take (Star part span) item end)
        (λ end. more (Star part span) item end) (λ end. h (Star part span) item end)) (h part item position)
    Extends-blame_table rules (Plus part span) item position =
        Extends-then_at (take part item position) (more part item position) (λ end. take (Star part span) item end)
        (λ end. more (Star part span) item end) (h part item position) (λ end. h (Star part span) item end)
    Extends-blame_table rules (Counted part min max span) item position =
        Extends-recognize_repeat (λ at. take part item at) (λ at. more part item at) (λ at. h part item at) min max
        position
    Extends-blame_table rules (And part span) item position = Extends-item (And part span) item position
    Extends-blame_table rules (Not part span) item position = Extends-item (Not part span) item position

-- a blame in depth n is a blame in depth n + 1
pub blame_in-more : (rules : List Rule) (text : List ℕ) (n : ℕ)
    → ExtendsAll (blame_in rules text n) (blame_in rules text (suc n))
unfolding blame_in
blame_in-more rules text zero e item position = Extends-none (blame_in rules text (suc zero) e item position)
blame_in-more rules text (suc n) e item position =
    Extends-blame_table (record_in rules text (suc n)) (record_in rules text (suc (suc n)))
    (record_in-more rules text (suc n)) (blame_in rules text n) (blame_in rules text (suc n))
    (blame_in-more rules text n)
    rules e item position

-- a blame in depth n is a blame in every greater depth
blame_in-later : (rules : List Rule) (text : List ℕ) (more n : ℕ)
    → ExtendsAll (blame_in rules text n) (blame_in rules text (more + n))
blame_in-later rules text zero n e item position r h = rw zero-add h
blame_in-later rules text (suc more) n e item position r h =
    rw suc-add (blame_in-more rules text (more + n) e item position r
    (blame_in-later rules text more n e item position r h))

-- two blames of one expression at one position are equal
pub one_blame : (rules : List Rule) (text : List ℕ) (e : Form) (item position : ℕ) (r s : Record)
    → HasBlame rules text e item position r → HasBlame rules text e item position s → r ≡ s
one_blame rules text e item position r s a b =
    let first = blame_in-later rules text b.0 a.0 e item position r a.1 in
    let second = blame_in-later rules text a.0 b.0 e item position s b.1 in
    let meet : blame_in rules text (b.0 + a.0) e item position ≡ blame_in rules text (a.0 + b.0) e item position =
    ap (λ k. blame_in rules text k e item position) (add_comm b.0 a.0) in
    cc
