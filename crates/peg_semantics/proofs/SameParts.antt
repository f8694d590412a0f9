-- The recognition table for an expression depends only on the parts that the expression's case evaluates.
use Rattle.std.proofs.Common.{◌≡◌, ℕ, zero, suc, ◌+◌, ◌≤◌, List, Contains, Option, None, Some, refl, ap, ◌∙◌}
use Rattle.std.proofs.Common.{option_map, option_and_then}
use Rattle.peg_tree.specs.Trees.{Trees}
use Rattle.peg_semantics.specs.Form.{Form, Forms, Literal, Class, Any, Name, Seq, Choice, Optional, Star, Plus, Counted, And, Not}
use Rattle.peg_semantics.specs.Form.{End, Then, terminals}
use Rattle.peg_semantics.specs.Record.{Recognition, Failed, Matched, Record, Recognizer, after_both, prepend_trees, then_result}
use Rattle.peg_semantics.specs.Record.{then_at, or_else, star_result, matched_at, as_call, if_matched, if_failed, with_result}
use Rattle.peg_semantics.specs.Record.{recognize_seq, recognize_choice, recognize_repeat, table}
use Rattle.peg_semantics.specs.Rules.{Rule, Meaning, meaning_of}
use Rattle.peg_semantics.proofs.States.{Part, part_of, AreAmong, AsksAmong}

-- what comes next agrees wherever the match of a part ends
same-then_result : (result : Recognition) (part : Record) (next more : ℕ → Option Record)
    → ((end : ℕ) (trees : Trees) → result ≡ Matched end trees → next end ≡ more end)
    → then_result result part next ≡ then_result result part more
same-then_result Failed part next more same = refl
same-then_result (Matched end trees) part next more same =
    ap (option_map (λ r. after_both part r (prepend_trees trees r.result))) (same end trees refl)

-- what comes next agrees wherever the match ends, if there is one
abbrev SameNext : Option Record → (next more : ℕ → Option Record) → Type 0
SameNext tried next more =
    (r : Record) (end : ℕ) (trees : Trees) → tried ≡ Some r → r.result ≡ Matched end trees → next end ≡ more end

same-then_at : (tried : Option Record) (next more : ℕ → Option Record) → SameNext tried next more
    → then_at tried next ≡ then_at tried more
same-then_at None next more same = refl
same-then_at (Some part) next more same =
    same-then_result part.result part next more (λ end trees is. same part end trees refl is)

same-star_result : (result : Recognition) (position : ℕ) (part : Record) (next more : ℕ → Option Record)
    → ((end : ℕ) (trees : Trees) → result ≡ Matched end trees → next end ≡ more end)
    → star_result result position part next ≡ star_result result position part more
same-star_result Failed position part next more same = refl
same-star_result (Matched end trees) position part next more same =
    same-then_result (Matched end trees) part next more same

-- the result of a star from its first iteration
abbrev rounds : (position : ℕ) → Option Record → (ℕ → Option Record) → Option Record
rounds position tried next = option_and_then (λ (round : Record). star_result round.result position round next) tried

same-rounds : (tried : Option Record) (position : ℕ) (next more : ℕ → Option Record) → SameNext tried next more
    → rounds position tried next ≡ rounds position tried more
same-rounds None position next more same = refl
same-rounds (Some round) position next more same =
    same-star_result round.result position round next more (λ end trees is. same round end trees refl is)

-- Two recognizers that agree on the known parts at positions in a text, and whose matches end within the text.
module _ (known : List Part) (len : ℕ) (take more : Recognizer)
    (agree : (e : Form) (terminal position : ℕ) → Contains known (part_of terminal e) → position ≤ len
    → take e terminal position ≡ more e terminal position)
    (ends : (e : Form) (terminal position end : ℕ) (trees : Trees) (r : Record) → position ≤ len
    → take e terminal position ≡ Some r → r.result ≡ Matched end trees → end ≤ len) where
  same-items : (items : Forms) (terminal position : ℕ) → AreAmong known terminal items → position ≤ len
      → recognize_seq take items terminal position ≡ recognize_seq more items terminal position
  same-items End terminal position among here = refl
  same-items (Then e rest) terminal position among here =
      let next = λ (end : ℕ). recognize_seq take rest (terminal + terminals e) end in
      let others = λ (end : ℕ). recognize_seq more rest (terminal + terminals e) end in
      same-then_at (take e terminal position) next others
      (λ r end trees is matched.
      same-items rest (terminal + terminals e) end among.1 (ends e terminal position end trees r here is matched))
      ∙ ap (λ tried. then_at tried others) (agree e terminal position among.0 here)

  same-first : (e : Form) (rest : Forms) (terminal position : ℕ) → AreAmong known terminal (Then e rest) → position ≤ len
      → recognize_choice take e rest terminal position ≡ recognize_choice more e rest terminal position
  same-first e End terminal position among here = agree e terminal position among.0 here
  same-first e (Then next rest) terminal position among here =
      ap (or_else (take e terminal position)) (same-first next rest (terminal + terminals e) position among.1 here)
      ∙ ap (λ tried. or_else tried (recognize_choice more next rest (terminal + terminals e) position))
      (agree e terminal position among.0 here)

  same-times : (part : Form) (terminal min max position : ℕ) → Contains known (part_of terminal part) → position ≤ len
      → recognize_repeat (λ at. take part terminal at) min max position ≡ recognize_repeat (λ at. more part terminal at) min max position
  same-times part terminal min zero position there here = refl
  same-times part terminal zero (suc max) position there here =
      let next = λ (end : ℕ). recognize_repeat (λ at. take part terminal at) zero max end in
      let others = λ (end : ℕ). recognize_repeat (λ at. more part terminal at) zero max end in
      same-rounds (take part terminal position) position next others
      (λ r end trees is matched.
      same-times part terminal zero max end there (ends part terminal position end trees r here is matched))
      ∙ ap (λ tried. rounds position tried others) (agree part terminal position there here)
  same-times part terminal (suc min) (suc max) position there here =
      let next = λ (end : ℕ). recognize_repeat (λ at. take part terminal at) min max end in
      let others = λ (end : ℕ). recognize_repeat (λ at. more part terminal at) min max end in
      same-then_at (take part terminal position) next others
      (λ r end trees is matched.
      same-times part terminal min max end there (ends part terminal position end trees r here is matched))
      ∙ ap (λ tried. then_at tried others) (agree part terminal position there here)

  same-meaning : (position : ℕ) (meaning : Option Meaning)
      → ((m : Meaning) → meaning ≡ Some m → Contains known (part_of m.terminal m.body)) → position ≤ len
      → option_and_then (λ (m : Meaning). option_map (as_call m.rule position) (take m.body m.terminal position)) meaning
      ≡ option_and_then (λ (m : Meaning). option_map (as_call m.rule position) (more m.body m.terminal position)) meaning
  same-meaning position None among here = refl
  same-meaning position (Some m) among here =
      ap (option_map (as_call m.rule position)) (agree m.body m.terminal position (among m refl) here)

  -- the tables over the two recognizers agree
  pub same-table : (rules : List Rule) (text : List ℕ)
      → ((name : List ℕ) (m : Meaning) → meaning_of rules name ≡ Some m → Contains known (part_of m.terminal m.body))
      → (e : Form) (terminal position : ℕ) → Contains known (part_of terminal e) → AsksAmong known terminal e → position ≤ len
      → table rules text take e terminal position ≡ table rules text more e terminal position
  same-table rules text means (Literal bytes span) terminal position there among here = refl
  same-table rules text means (Class set span) terminal position there among here = refl
  same-table rules text means (Any span) terminal position there among here = refl
  same-table rules text means (Name name span) terminal position there among here =
      same-meaning position (meaning_of rules name) (means name) here
  same-table rules text means (Seq items span) terminal position there among here =
      same-items items terminal position among here
  same-table rules text means (Choice first rest span) terminal position there among here =
      same-first first rest terminal position among here
  same-table rules text means (Optional part span) terminal position there among here =
      ap (λ tried. or_else tried (Some (matched_at position))) (agree part terminal position among here)
  same-table rules text means (Star part span) terminal position there among here =
      let next = λ (end : ℕ). take (Star part span) terminal end in
      let others = λ (end : ℕ). more (Star part span) terminal end in
      same-rounds (take part terminal position) position next others
      (λ r end trees is matched.
      agree (Star part span) terminal end there (ends part terminal position end trees r here is matched))
      ∙ ap (λ tried. rounds position tried others) (agree part terminal position among here)
  same-table rules text means (Plus part span) terminal position there among here =
      let next = λ (end : ℕ). take (Star part span) terminal end in
      let others = λ (end : ℕ). more (Star part span) terminal end in
      same-then_at (take part terminal position) next others
      (λ r end trees is matched.
      agree (Star part span) terminal end among.0 (ends part terminal position end trees r here is matched))
      ∙ ap (λ tried. then_at tried others) (agree part terminal position among.1 here)
  same-table rules text means (Counted part min max span) terminal position there among here =
      same-times part terminal min max position among here
  same-table rules text means (And part span) terminal position there among here =
      ap (option_map (λ (r : Record). with_result r (if_matched r.result position))) (agree part terminal position among here)
  same-table rules text means (Not part span) terminal position there among here =
      ap (option_map (λ (r : Record). with_result r (if_failed r.result position))) (agree part terminal position among here)
