-- Records are monotone in the depth, and so two records of one expression at one position are equal.
use Rattle.std.proofs.Common.{◌≡◌, ℕ, zero, suc, ◌+◌, List, Option, None, Some, refl, ap, ◌∙◌, option_map, option_and_then, zero-add, suc-add, add_comm}
use Rattle.peg_semantics.specs.Form.{Form, Forms, Literal, Class, Any, Name, Seq, Choice, Optional, Star, Plus, Counted, And, Not, End, Then, terminals}
use Rattle.peg_semantics.specs.Rules.{Rule, Meaning, meaning_of}
use Rattle.peg_semantics.specs.Record.{Recognition, Failed, Matched, Record, Recognizer, IsRecord, after_both, prepend_trees, then_result, then_at, choice_result, or_else, star_result, matched_at, as_call, if_matched, if_failed, with_result, recognize_seq, recognize_choice, recognize_repeat, table, record_in}

-- every result of the first is a result of the second
abbrev pub Extends : {A : Type 0} → Option A → Option A → Type 0
Extends {A} first second = (x : A) → first ≡ Some x → second ≡ Some x

pub Extends-refl : {A : Type 0} (a : Option A) → Extends a a
Extends-refl a x e = e

pub Extends-none : {A : Type 0} (b : Option A) → Extends None b
Extends-none b x e = cc

pub Extends-map : {A B : Type 0} (f : A → B) (a b : Option A) → Extends a b → Extends (option_map f a) (option_map f b)
Extends-map f None b h y e = cc
Extends-map f (Some x) b h y e = ap (option_map f) (h x refl) ∙ e

pub Extends-and_then : {A B : Type 0} (f g : A → Option B) (a b : Option A) → ((x : A) → Extends (f x) (g x)) → Extends a b → Extends (option_and_then f a) (option_and_then g b)
Extends-and_then f g None b k h y e = cc
Extends-and_then f g (Some x) b k h y e = ap (option_and_then g) (h x refl) ∙ k x y e

pub Extends-then_result : (result : Recognition) (part : Record) (next more : ℕ → Option Record) → ((end : ℕ) → Extends (next end) (more end)) → Extends (then_result result part next) (then_result result part more)
Extends-then_result Failed part next more h = Extends-refl (Some part)
Extends-then_result (Matched end trees) part next more h =
    Extends-map (λ r. after_both part r (prepend_trees trees r.result)) (next end) (more end) (h end)

pub Extends-then_at : (a b : Option Record) (next more : ℕ → Option Record) → Extends a b → ((end : ℕ) → Extends (next end) (more end)) → Extends (then_at a next) (then_at b more)
Extends-then_at a b next more h k =
    Extends-and_then (λ part. then_result part.result part next) (λ part. then_result part.result part more) a b (λ part. Extends-then_result part.result part next more k) h

pub Extends-choice_result : (result : Recognition) (part : Record) (other more : Option Record) → Extends other more → Extends (choice_result result part other) (choice_result result part more)
Extends-choice_result Failed part other more h = Extends-map (λ r. after_both part r r.result) other more h
Extends-choice_result (Matched end trees) part other more h = Extends-refl (Some part)

pub Extends-or_else : (a b other more : Option Record) → Extends a b → Extends other more → Extends (or_else a other) (or_else b more)
Extends-or_else a b other more h k =
    Extends-and_then (λ part. choice_result part.result part other) (λ part. choice_result part.result part more) a b (λ part. Extends-choice_result part.result part other more k) h

pub Extends-star_result : (result : Recognition) (position : ℕ) (part : Record) (next more : ℕ → Option Record) → ((end : ℕ) → Extends (next end) (more end)) → Extends (star_result result position part next) (star_result result position part more)
Extends-star_result Failed position part next more h = Extends-refl (choice_result Failed part (Some (matched_at position)))
Extends-star_result (Matched end trees) position part next more h = Extends-then_result (Matched end trees) part next more h

-- monotonicity passes from a part to its repetitions
pub Extends-recognize_repeat : (one other : ℕ → Option Record) → ((position : ℕ) → Extends (one position) (other position)) → (min max position : ℕ) → Extends (recognize_repeat one min max position) (recognize_repeat other min max position)
Extends-recognize_repeat one other h min zero position = Extends-refl (Some (matched_at position))
Extends-recognize_repeat one other h zero (suc max) position =
    Extends-and_then (λ (round : Record). star_result round.result position round (λ end. recognize_repeat one zero max end)) (λ (round : Record). star_result round.result position round (λ end. recognize_repeat other zero max end)) (one position) (other position) (λ round. Extends-star_result round.result position round (λ end. recognize_repeat one zero max end) (λ end. recognize_repeat other zero max end) (λ end. Extends-recognize_repeat one other h zero max end)) (h position)
Extends-recognize_repeat one other h (suc min) (suc max) position =
    Extends-then_at (one position) (other position) (λ end. recognize_repeat one min max end) (λ end. recognize_repeat other min max end) (h position) (λ end. Extends-recognize_repeat one other h min max end)

-- monotonicity passes from recognizers to the tables over them
module _ (take more : Recognizer) (h : (e : Form) (terminal position : ℕ) → Extends (take e terminal position) (more e terminal position)) where
  pub Extends-recognize_seq : (items : Forms) (terminal position : ℕ) → Extends (recognize_seq take items terminal position) (recognize_seq more items terminal position)
  Extends-recognize_seq End terminal position = Extends-refl (Some (matched_at position))
  Extends-recognize_seq (Then e rest) terminal position =
      Extends-then_at (take e terminal position) (more e terminal position) (λ end. recognize_seq take rest (terminal + terminals e) end) (λ end. recognize_seq more rest (terminal + terminals e) end) (h e terminal position) (λ end. Extends-recognize_seq rest (terminal + terminals e) end)

  pub Extends-recognize_choice : (e : Form) (rest : Forms) (terminal position : ℕ) → Extends (recognize_choice take e rest terminal position) (recognize_choice more e rest terminal position)
  Extends-recognize_choice e End terminal position = h e terminal position
  Extends-recognize_choice e (Then next rest) terminal position =
      Extends-or_else (take e terminal position) (more e terminal position) (recognize_choice take next rest (terminal + terminals e) position) (recognize_choice more next rest (terminal + terminals e) position) (h e terminal position) (Extends-recognize_choice next rest (terminal + terminals e) position)

  pub Extends-table : (rules : List Rule) (text : List ℕ) (e : Form) (terminal position : ℕ) → Extends (table rules text take e terminal position) (table rules text more e terminal position)
  Extends-table rules text (Literal bytes span) terminal position = Extends-refl (table rules text take (Literal bytes span) terminal position)
  Extends-table rules text (Class set span) terminal position = Extends-refl (table rules text take (Class set span) terminal position)
  Extends-table rules text (Any span) terminal position = Extends-refl (table rules text take (Any span) terminal position)
  Extends-table rules text (Name name span) terminal position =
      Extends-and_then (λ (m : Meaning). option_map (as_call m.rule position) (take m.body m.terminal position)) (λ (m : Meaning). option_map (as_call m.rule position) (more m.body m.terminal position)) (meaning_of rules name) (meaning_of rules name) (λ m. Extends-map (as_call m.rule position) (take m.body m.terminal position) (more m.body m.terminal position) (h m.body m.terminal position)) (Extends-refl (meaning_of rules name))
  Extends-table rules text (Seq items span) terminal position = Extends-recognize_seq items terminal position
  Extends-table rules text (Choice first rest span) terminal position = Extends-recognize_choice first rest terminal position
  Extends-table rules text (Optional part span) terminal position =
      Extends-or_else (take part terminal position) (more part terminal position) (Some (matched_at position)) (Some (matched_at position)) (h part terminal position) (Extends-refl (Some (matched_at position)))
  Extends-table rules text (Star part span) terminal position =
      Extends-and_then (λ (round : Record). star_result round.result position round (λ end. take (Star part span) terminal end)) (λ (round : Record). star_result round.result position round (λ end. more (Star part span) terminal end)) (take part terminal position) (more part terminal position) (λ round. Extends-star_result round.result position round (λ end. take (Star part span) terminal end) (λ end. more (Star part span) terminal end) (λ end. h (Star part span) terminal end)) (h part terminal position)
  Extends-table rules text (Plus part span) terminal position =
      Extends-then_at (take part terminal position) (more part terminal position) (λ end. take (Star part span) terminal end) (λ end. more (Star part span) terminal end) (h part terminal position) (λ end. h (Star part span) terminal end)
  Extends-table rules text (Counted part min max span) terminal position =
      Extends-recognize_repeat (λ at. take part terminal at) (λ at. more part terminal at) (λ at. h part terminal at) min max position
  Extends-table rules text (And part span) terminal position =
      Extends-map (λ (r : Record). with_result r (if_matched r.result position)) (take part terminal position) (more part terminal position) (h part terminal position)
  Extends-table rules text (Not part span) terminal position =
      Extends-map (λ (r : Record). with_result r (if_failed r.result position)) (take part terminal position) (more part terminal position) (h part terminal position)

-- a record in depth n is a record in depth n + 1
pub record_in-more : (rules : List Rule) (text : List ℕ) (n : ℕ) (e : Form) (terminal position : ℕ) → Extends (record_in rules text n e terminal position) (record_in rules text (suc n) e terminal position)
unfolding record_in
record_in-more rules text zero e terminal position = Extends-none (record_in rules text (suc zero) e terminal position)
record_in-more rules text (suc n) e terminal position =
    Extends-table (record_in rules text n) (record_in rules text (suc n)) (record_in-more rules text n) rules text e terminal position

-- a record in depth n is a record in every greater depth
pub record_in-later : (rules : List Rule) (text : List ℕ) (more n : ℕ) (e : Form) (terminal position : ℕ) → Extends (record_in rules text n e terminal position) (record_in rules text (more + n) e terminal position)
record_in-later rules text zero n e terminal position r h = rw zero-add h
record_in-later rules text (suc more) n e terminal position r h =
    rw suc-add (record_in-more rules text (more + n) e terminal position r (record_in-later rules text more n e terminal position r h))

-- two records of one expression at one position are equal
pub one_record : (rules : List Rule) (text : List ℕ) (e : Form) (terminal position : ℕ) (r s : Record) → IsRecord rules text e terminal position r → IsRecord rules text e terminal position s → r ≡ s
one_record rules text e terminal position r s a b =
    let first = record_in-later rules text b.0 a.0 e terminal position r a.1 in
    let second = record_in-later rules text a.0 b.0 e terminal position s b.1 in
    let same : b.0 + a.0 ≡ a.0 + b.0 = add_comm b.0 a.0 in
    let meet : record_in rules text (b.0 + a.0) e terminal position ≡ record_in rules text (a.0 + b.0) e terminal position = ap (λ k. record_in rules text k e terminal position) same in
    cc
