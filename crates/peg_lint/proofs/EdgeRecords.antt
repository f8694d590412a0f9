-- What the edges of an expression say is true of its records.
use Rattle.std.proofs.Common.{◌≡◌, ℕ, zero, suc, ◌+◌, ◌≤◌, true, ◌||◌, ◌==◌, List, drop}
use Rattle.std.proofs.Common.{Option, None, Some, option_map, option_and_then, refl, ap, subst}
use Rattle.peg_bytes.specs.ByteSet.{has}
use Rattle.peg_bytes.specs.Extent.{Extent}
use Rattle.peg_tree.specs.Trees.{Trees}
use Rattle.peg_semantics.specs.Form.{Form, Forms, Literal, Class, Any, Name, Seq, Choice, Optional, Star, Plus, Counted, And, Not}
use Rattle.peg_semantics.specs.Form.{End, Then, terminals}
use Rattle.peg_semantics.specs.Record.{Recognition, Failed, Matched, Record, IsRecord, as_call, byte_at, if_failed, if_matched, literal_at}
use Rattle.peg_semantics.specs.Record.{matched_at, recognize_choice, recognize_repeat, recognize_seq, record_in, with_result}
use Rattle.peg_semantics.specs.Rules.{Rule, Meaning, meaning_of}
use Rattle.peg_semantics.proofs.ResultSteps.{map_cases, or_cases, passes_any, rounds_cases, some_case, then_cases}
use Rattle.peg_semantics.proofs.RoundsLemmas.{or_right}
use Rattle.peg_lint.specs.Edges.{Edges, alternatives_edges, and_edges, any_edges, byte_edges, choice_edges, count_edges, edges_by, edges_in}
use Rattle.peg_lint.specs.Edges.{empty_edges, items_edges, literal_edges, meaning_edges, not_edges, optional_edges}
use Rattle.peg_lint.specs.Edges.{plus_edges, seq_edges, star_edges, fail_edges, unknown_edges}
use Rattle.peg_lint.proofs.EdgeLemmas.{Fails-count, Fails-seq, Fits, Fits-and, Fits-any, Fits-as_tree, Fits-byte, Fits-choice}
use Rattle.peg_lint.proofs.EdgeLemmas.{Fits-count, Fits-empty, Fits-literal, Fits-not, Fits-plus, Fits-seq, Fits-star}
use Rattle.peg_lint.proofs.EdgeLemmas.{Matches-choice, Matches-count, Matches-none, Matches-optional, Matches-star, front-none}

-- what is known of an expression is true of its records
abbrev pub Holds : List Rule → Form → Edges → Type 0
Holds rules e edges = (text : List ℕ) (terminal position : ℕ) (r : Record) → IsRecord rules text e terminal position r
    → Fits edges text position r.result

-- a part with a known result
known : (edges : Edges) (text : List ℕ) (position : ℕ) (x y : Recognition) → x ≡ y → Fits edges text position x
    → Fits edges text position y
known edges text position x y same is = subst (Fits edges text position) same is

-- the last alternative
alone : (a : Edges) (text : List ℕ) (position : ℕ) (x : Recognition) → Fits a text position x
    → Fits (choice_edges a fail_edges) text position x
alone a text position Failed is = Fits-choice a fail_edges text position Failed is (refl, front-none (drop position text))
alone a text position (Matched end trees) is = Matches-choice a fail_edges text position end is

module _ (rules : List Rule) (judge : Form → Edges) (judged : (e : Form) → Holds rules e (judge e)) where
  star-holds : (part : Form) (span : Extent) (p : Edges) → Holds rules part p → (text : List ℕ) (n terminal position : ℕ)
      (r : Record) → record_in rules text n (Star part span) terminal position ≡ Some r
      → Fits (star_edges p) text position r.result
  unfolding record_in
  star-holds part span p holds text zero terminal position r at = absurd cc
  star-holds part span p holds text (suc n) terminal position r at =
      rounds_cases (Fits (star_edges p) text position) (record_in rules text n part terminal position) position
      (λ end. record_in rules text n (Star part span) terminal end) r
      (λ one tried failed. Matches-star p text position
      (known p text position one.result Failed failed (holds text terminal position one (n, tried))))
      (λ one more end trees tried matched next. Fits-star p text position end trees
      (known p text position one.result (Matched end trees) matched (holds text terminal position one (n, tried)))
      more.result (star-holds part span p holds text n terminal end more next)) at

  count-holds : (part : Form) (p : Edges) → Holds rules part p → (text : List ℕ) (n terminal min max position : ℕ)
      (r : Record) → recognize_repeat (λ at. record_in rules text n part terminal at) min max position ≡ Some r
      → Fits (count_edges p min max) text position r.result
  count-holds part p holds text n terminal min zero position r at =
      some_case (Fits (count_edges p min 0) text position) (matched_at position) r
      (Matches-count p text position min 0
      (or_right p.nothing (min == 0 || true) (or_right (min == 0) true refl))) at
  count-holds part p holds text n terminal zero (suc max) position r at =
      rounds_cases (Fits (count_edges p 0 (suc max)) text position) (record_in rules text n part terminal position) position
      (λ end. recognize_repeat (λ at. record_in rules text n part terminal at) 0 max end) r
      (λ one tried failed. Matches-count p text position 0 (suc max) (or_right p.nothing true refl))
      (λ one more end trees tried matched next. Fits-count p text position end trees
      (known p text position one.result (Matched end trees) matched (holds text terminal position one (n, tried)))
      0 (suc max) 0 max more.result (λ same. or_right p.nothing true refl)
      (count-holds part p holds text n terminal 0 max end more next)) at
  count-holds part p holds text n terminal (suc min) (suc max) position r at =
      then_cases (Fits (count_edges p (suc min) (suc max)) text position) (record_in rules text n part terminal position)
      (λ end. recognize_repeat (λ at. record_in rules text n part terminal at) min max end) r
      (λ one tried failed. Fails-count p text position (suc min) (suc max)
      (known p text position one.result Failed failed (holds text terminal position one (n, tried))))
      (λ one more end trees tried matched next.
      let here = known p text position one.result (Matched end trees) matched (holds text terminal position one (n, tried)) in
      Fits-count p text position end trees here (suc min) (suc max) min max more.result
      (λ same. ap (λ x. x || ((suc min) == 0 || (suc max) == 0)) (here.nothing same))
      (count-holds part p holds text n terminal min max end more next)) at

  name-holds : (text : List ℕ) (n position : ℕ) (r : Record) (meaning : Option Meaning)
      → option_and_then (λ (m : Meaning). option_map (as_call m.rule position) (record_in rules text n m.body m.terminal position))
      meaning ≡ Some r → Fits (meaning_edges judge meaning) text position r.result
  name-holds text n position r None at = absurd cc
  name-holds text n position r (Some m) at =
      map_cases (Fits (judge m.body) text position) (record_in rules text n m.body m.terminal position)
      (as_call m.rule position) r
      (λ part tried. Fits-as_tree (judge m.body) text position m.rule part.result
      (judged m.body text m.terminal position part (n, tried))) at

  mutual
    unfolding record_in

    holds : (e : Form) → Holds rules e (edges_by rules judge e)
    holds e text terminal position r (zero, at) = absurd cc
    holds (Literal bytes span) text terminal position r (suc n, at) =
        some_case (Fits (literal_edges bytes) text position) (literal_at terminal position bytes (drop position text)) r
        (Fits-literal bytes text terminal position) at
    holds (Class set span) text terminal position r (suc n, at) =
        some_case (Fits (byte_edges (has set)) text position) (byte_at (has set) terminal position (drop position text)) r
        (Fits-byte (has set) text terminal position) at
    holds (Any span) text terminal position r (suc n, at) =
        some_case (Fits any_edges text position) (byte_at passes_any terminal position (drop position text)) r
        (Fits-any text terminal position) at
    holds (Name name span) text terminal position r (suc n, at) =
        name-holds text n position r (meaning_of rules name) at
    holds (Seq items span) text terminal position r (suc n, at) = items-hold items text n terminal position r at
    holds (Choice first rest span) text terminal position r (suc n, at) =
        choice-holds first (holds first) rest text n terminal position r at
    holds (Optional part span) text terminal position r (suc n, at) =
        let p = edges_by rules judge part in
        or_cases (Fits (optional_edges p) text position) (record_in rules text n part terminal position)
        (Some (matched_at position)) r
        (λ one end trees tried matched. Matches-optional p text position end
        (known p text position one.result (Matched end trees) matched (holds part text terminal position one (n, tried))))
        (λ one more tried failed other. some_case (Fits (optional_edges p) text position) (matched_at position) more
        (Matches-none p text position) other) at
    holds (Star part span) text terminal position r (suc n, at) =
        star-holds part span (edges_by rules judge part) (holds part) text (suc n) terminal position r at
    holds (Plus part span) text terminal position r (suc n, at) =
        let p = edges_by rules judge part in
        then_cases (Fits (plus_edges p) text position) (record_in rules text n part terminal position)
        (λ end. record_in rules text n (Star part span) terminal end) r
        (λ one tried failed. known p text position one.result Failed failed (holds part text terminal position one (n, tried)))
        (λ one more end trees tried matched next. Fits-plus p text position end trees
        (known p text position one.result (Matched end trees) matched (holds part text terminal position one (n, tried)))
        more.result (star-holds part span p (holds part) text n terminal end more next)) at
    holds (Counted part min max span) text terminal position r (suc n, at) =
        count-holds part (edges_by rules judge part) (holds part) text n terminal min max position r at
    holds (And part span) text terminal position r (suc n, at) =
        let p = edges_by rules judge part in
        map_cases (Fits (and_edges p) text position) (record_in rules text n part terminal position)
        (λ (r : Record). with_result r (if_matched r.result position)) r
        (λ one tried. Fits-and p text position one.result (holds part text terminal position one (n, tried))) at
    holds (Not part span) text terminal position r (suc n, at) =
        let p = edges_by rules judge part in
        map_cases (Fits (not_edges p) text position) (record_in rules text n part terminal position)
        (λ (r : Record). with_result r (if_failed r.result position)) r
        (λ one tried. Fits-not p text position one.result (holds part text terminal position one (n, tried))) at

    items-hold : (items : Forms) (text : List ℕ) (n terminal position : ℕ) (r : Record)
        → recognize_seq (record_in rules text n) items terminal position ≡ Some r
        → Fits (items_edges rules judge items) text position r.result
    items-hold End text n terminal position r at =
        some_case (Fits empty_edges text position) (matched_at position) r (Fits-empty text position) at
    items-hold (Then e rest) text n terminal position r at =
        let a = edges_by rules judge e in
        let b = items_edges rules judge rest in
        then_cases (Fits (seq_edges a b) text position) (record_in rules text n e terminal position)
        (λ end. recognize_seq (record_in rules text n) rest (terminal + terminals e) end) r
        (λ one tried failed. Fails-seq a b text position
        (known a text position one.result Failed failed (holds e text terminal position one (n, tried))))
        (λ one more end trees tried matched next. Fits-seq a b text position end
        (known a text position one.result (Matched end trees) matched (holds e text terminal position one (n, tried)))
        trees more.result (items-hold rest text n (terminal + terminals e) end more next)) at

    choice-holds : (first : Form) → Holds rules first (edges_by rules judge first) → (rest : Forms) (text : List ℕ)
        (n terminal position : ℕ) (r : Record)
        → recognize_choice (record_in rules text n) first rest terminal position ≡ Some r
        → Fits (choice_edges (edges_by rules judge first) (alternatives_edges rules judge rest)) text position r.result
    choice-holds first here End text n terminal position r at =
        alone (edges_by rules judge first) text position r.result (here text terminal position r (n, at))
    choice-holds first here (Then next rest) text n terminal position r at =
        let a = edges_by rules judge first in
        let b = alternatives_edges rules judge (Then next rest) in
        or_cases (Fits (choice_edges a b) text position) (record_in rules text n first terminal position)
        (recognize_choice (record_in rules text n) next rest (terminal + terminals first) position) r
        (λ one end trees tried matched. Matches-choice a b text position end
        (known a text position one.result (Matched end trees) matched (here text terminal position one (n, tried))))
        (λ one more tried failed other. Fits-choice a b text position more.result
        (known a text position one.result Failed failed (here text terminal position one (n, tried)))
        (choice-holds next (holds next) rest text n (terminal + terminals first) position more other)) at

-- a match ends where it begins or later
abbrev pub Onward : List Rule → Type 0
Onward rules = (text : List ℕ) (n : ℕ) (e : Form) (terminal position end : ℕ) (trees : Trees) (r : Record)
    → record_in rules text n e terminal position ≡ Some r → r.result ≡ Matched end trees → position ≤ end

-- where nothing is known, nothing false is
unknown-holds : (rules : List Rule) → Onward rules → (e : Form) → Holds rules e unknown_edges
unknown-holds rules onward e text terminal position r at = by r.result refl
  where
    by : (x : Recognition) → r.result ≡ x → Fits unknown_edges text position x
    by Failed is = (refl, front-none (drop position text))
    by (Matched end trees) is = record {
      onward = onward text at.0 e terminal position end trees r at.1 is;
      nothing = λ same. refl;
      something = λ less. refl;
      begins = λ less. refl;
      stops = front-none (drop end text);
    }

-- what is known of an expression is true of it, through however many rules names are followed
pub edges-hold : (rules : List Rule) → Onward rules → (n : ℕ) (e : Form) → Holds rules e (edges_in rules n e)
unfolding edges_in
edges-hold rules onward zero e = unknown-holds rules onward e
edges-hold rules onward (suc n) e = holds rules (edges_in rules n) (edges-hold rules onward n) e
