-- Expressions that differ in their extents alone have the same records.
use Rattle.std.proofs.Common.{◌≡◌, ℕ, zero, suc, ◌+◌, List, Some, option_map, option_and_then, refl, sym, ap, ◌∙◌}
use Rattle.peg_semantics.specs.Form.{Form, Forms, Literal, Class, Any, Name, Seq, Choice, Optional, Star, Plus, Counted, And, Not, End, Then}
use Rattle.peg_semantics.specs.Form.{terminals, terminals_of_all}
use Rattle.peg_semantics.specs.Record.{Record, Recognizer, matched_at, then_at, or_else, star_result, if_matched, if_failed, with_result}
use Rattle.peg_semantics.specs.Record.{recognize_seq, recognize_choice, recognize_repeat, table, record_in}
use Rattle.peg_semantics.specs.Rules.{Rule}
use Rattle.peg_semantics.proofs.Derivations.{derived, one_result}
use Rattle.peg_lint.specs.Never.{HaveSameResults}
use Rattle.peg_lint.specs.WithoutExtents.{without_extents, all_without_extents}

mutual
  terminals-without : (e : Form) → terminals (without_extents e) ≡ terminals e
  terminals-without (Literal bytes span) = refl
  terminals-without (Class set span) = refl
  terminals-without (Any span) = refl
  terminals-without (Name name span) = refl
  terminals-without (Seq items span) = terminals_of_all-without items
  terminals-without (Choice first rest span) = λ i. terminals-without first i + terminals_of_all-without rest i
  terminals-without (Optional part span) = terminals-without part
  terminals-without (Star part span) = terminals-without part
  terminals-without (Plus part span) = terminals-without part
  terminals-without (Counted part min max span) = terminals-without part
  terminals-without (And part span) = terminals-without part
  terminals-without (Not part span) = terminals-without part

  terminals_of_all-without : (items : Forms) → terminals_of_all (all_without_extents items) ≡ terminals_of_all items
  terminals_of_all-without End = refl
  terminals_of_all-without (Then e rest) = λ i. terminals-without e i + terminals_of_all-without rest i

-- a recognizer that does not look at extents
abbrev IgnoresExtents : Recognizer → Type 0
IgnoresExtents take = (e : Form) (terminal position : ℕ) → take e terminal position ≡ take (without_extents e) terminal position

module _ (take : Recognizer) (same : IgnoresExtents take) where
  seq-same : (items : Forms) (terminal position : ℕ)
      → recognize_seq take items terminal position ≡ recognize_seq take (all_without_extents items) terminal position
  seq-same End terminal position = refl
  seq-same (Then e rest) terminal position =
      λ i. then_at (same e terminal position i)
      (λ end. (seq-same rest (terminal + terminals e) end
      ∙ ap (λ n. recognize_seq take (all_without_extents rest) (terminal + n) end) (sym (terminals-without e))) i)

  choice-same : (e : Form) (rest : Forms) (terminal position : ℕ)
      → recognize_choice take e rest terminal position
      ≡ recognize_choice take (without_extents e) (all_without_extents rest) terminal position
  choice-same e End terminal position = same e terminal position
  choice-same e (Then next rest) terminal position =
      λ i. or_else (same e terminal position i)
      ((choice-same next rest (terminal + terminals e) position
      ∙ ap (λ n. recognize_choice take (without_extents next) (all_without_extents rest) (terminal + n) position)
      (sym (terminals-without e))) i)

  table-same : (rules : List Rule) (text : List ℕ) → IgnoresExtents (table rules text take)
  table-same rules text (Literal bytes span) terminal position = refl
  table-same rules text (Class set span) terminal position = refl
  table-same rules text (Any span) terminal position = refl
  table-same rules text (Name name span) terminal position = refl
  table-same rules text (Seq items span) terminal position = seq-same items terminal position
  table-same rules text (Choice first rest span) terminal position = choice-same first rest terminal position
  table-same rules text (Optional part span) terminal position =
      λ i. or_else (same part terminal position i) (Some (matched_at position))
  table-same rules text (Star part span) terminal position =
      λ i. option_and_then (λ (round : Record). star_result round.result position round
      (λ end. same (Star part span) terminal end i))
      (same part terminal position i)
  table-same rules text (Plus part span) terminal position =
      λ i. then_at (same part terminal position i) (λ end. same (Star part span) terminal end i)
  table-same rules text (Counted part min max span) terminal position =
      λ i. recognize_repeat (λ at. same part terminal at i) min max position
  table-same rules text (And part span) terminal position =
      λ i. option_map (λ (r : Record). with_result r (if_matched r.result position)) (same part terminal position i)
  table-same rules text (Not part span) terminal position =
      λ i. option_map (λ (r : Record). with_result r (if_failed r.result position)) (same part terminal position i)

record_in-same : (rules : List Rule) (text : List ℕ) (n : ℕ) → IgnoresExtents (record_in rules text n)
unfolding record_in
record_in-same rules text zero = λ e terminal position. refl
record_in-same rules text (suc n) = table-same (record_in rules text n) (record_in-same rules text n) rules text

-- the records of two expressions at one number of the first terminal
same-records : (rules : List Rule) (text : List ℕ) (n : ℕ) (e other : Form) (terminal position : ℕ)
    → without_extents e ≡ without_extents other
    → record_in rules text n e terminal position ≡ record_in rules text n other terminal position
same-records rules text n e other terminal position same =
    record_in-same rules text n e terminal position
    ∙ (ap (λ (f : Form). record_in rules text n f terminal position) same
    ∙ sym (record_in-same rules text n other terminal position))

-- two such expressions have the same results, whatever the numbers of their first terminals
pub same-results : (rules : List Rule) (e other : Form) → without_extents e ≡ without_extents other
    → HaveSameResults rules e other
same-results rules e other same text terminal number position r s first second =
    let of_e = derived rules text first.0 e terminal position r first.1 in
    let of_other = derived rules text second.0 e number position s
    (same-records rules text second.0 e other number position same ∙ second.1) in
    one_result of_e of_other
