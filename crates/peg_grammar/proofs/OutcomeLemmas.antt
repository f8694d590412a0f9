-- The evaluator's final state gives the outcome of the record.
use Rattle.std.proofs.Common.{◌≡◌, ℕ, zero, suc, List, [], Option, None, Some, Ok, option_map, option_and_then, sym, ap, ◌∙◌, subst}
use Rattle.peg_tree.specs.Rows.{rows_of, IsOneTree}
use Rattle.peg_tree.specs.Trees.{Trees, NoTrees, Tree}
use Rattle.peg_tree.specs.TreesOfRows.{trees_of}
use Rattle.peg_tree.specs.TreesCode.{trees_of-rows_of}
use Rattle.peg_tree.specs.declared.outcome.Parsed.{Parsed}
use Rattle.peg_tree.specs.declared.outcome.Parsed.TheVariants as parsed
use Rattle.peg_semantics.specs.Furthest.{IsFurthest}
use Rattle.peg_semantics.specs.FurthestPass.{furthest_of}
use Rattle.peg_grammar.specs.Outcomes.{parsed_of}
use Rattle.peg_semantics.specs.Record.{Recognition, Record, as_tree, as_call, record_in, start_record}
use Rattle.peg_semantics.specs.Record as recognition
use Rattle.peg_semantics.specs.Rules.{Rule, Meaning, meaning_of}
use Rattle.peg_grammar.specs.Seen.{Evaluation, trees_left, Evaluates, LeavesTree, IsParsed}
use Rattle.peg_grammar.specs.declared.found.MatchResult.{MatchResult}
use Rattle.peg_grammar.specs.declared.found.MatchResult.TheVariants.{EndsAt, Fails}
use Rattle.peg_semantics.proofs.FurthestLemmas.{furthest_of-is}
use Rattle.peg_grammar.proofs.SeenLemmas.{result_of_failed, result_of_matched, seen}

-- the trees of a rule are one tree
as_tree-one : (rule position end : ℕ) (result : Recognition) (trees : Trees) → as_tree rule position result ≡ recognition.Matched end trees → IsOneTree (rows_of trees)
as_tree-one rule position end recognition.Failed trees e = cc
as_tree-one rule position end (recognition.Matched there children) trees e =
    let same : Tree rule position there children NoTrees ≡ trees = cc in
    record { rule = rule; start = position; end = there; children = children; spelled = ap rows_of (sym same) }

used-one : (rule position end : ℕ) (tried : Option Record) (r : Record) (trees : Trees) → option_map (as_call rule position) tried ≡ Some r → r.result ≡ recognition.Matched end trees → IsOneTree (rows_of trees)
used-one rule position end None r trees e is = cc
used-one rule position end (Some part) r trees e is =
    let same : as_call rule position part ≡ r = cc in
    as_tree-one rule position end part.result trees (ap (λ r. r.result) same ∙ is)

named-one : (take : Meaning → Option Record) (position end : ℕ) (meaning : Option Meaning) (r : Record) (trees : Trees) → option_and_then (λ (m : Meaning). option_map (as_call m.rule position) (take m)) meaning ≡ Some r → r.result ≡ recognition.Matched end trees → IsOneTree (rows_of trees)
named-one take position end None r trees e is = cc
named-one take position end (Some m) r trees e is = used-one m.rule position end (take m) r trees e is

start-one : (rules : List Rule) (text : List ℕ) (n : ℕ) (name : List ℕ) (r : Record) (end : ℕ) (trees : Trees) → start_record rules text n name ≡ Some r → r.result ≡ recognition.Matched end trees → IsOneTree (rows_of trees)
unfolding record_in
start-one rules text zero name r end trees e is = cc
start-one rules text (suc n) name r end trees e is =
    named-one (λ m. record_in rules text n m.body m.terminal 0) 0 end (meaning_of rules name) r trees e is

-- the initial state
abbrev pub nothing_seen : Evaluation
nothing_seen = seen (record { far = 0; expected = [] }) []

-- a match leaves one tree
pub start-leaves : (rules : List Rule) (text : List ℕ) (n : ℕ) (name : List ℕ) (match_result : MatchResult) (now : Evaluation) → Evaluates (start_record rules text n name) nothing_seen (Ok match_result) now → LeavesTree match_result now.rows
start-leaves rules text n name Fails now h = tt
start-leaves rules text n name (EndsAt end) now h =
    let m = result_of_matched h.0.result end h.2 in
    subst IsOneTree (sym ((λ i. (h.3 i).rows) ∙ ap (λ x. rows_of (trees_left x)) m.1)) (start-one rules text n name h.0 end m.0 h.1 m.1)

-- the result of the outcome is that of the record
pub start-parsed : (tried : Option Record) (match_result : MatchResult) (now : Evaluation) (result : Parsed) → (h : Evaluates tried nothing_seen (Ok match_result) now) → IsParsed match_result now.rows result → result ≡ parsed_of h.0.result
start-parsed tried Fails now result h e = e ∙ sym (ap parsed_of (result_of_failed h.0.result h.2))
start-parsed tried (EndsAt end) now result h e =
    let m = result_of_matched h.0.result end h.2 in
    e ∙ (ap (λ l. parsed.Matched end (trees_of l)) ((λ i. (h.3 i).rows) ∙ ap (λ x. rows_of (trees_left x)) m.1) ∙ (ap (parsed.Matched end) (trees_of-rows_of m.0) ∙ sym (ap parsed_of m.1)))

-- the stored furthest failure is that of the record's tests
pub start-furthest : (tried : Option Record) (match_result : MatchResult) (now : Evaluation) → (h : Evaluates tried nothing_seen (Ok match_result) now) → IsFurthest h.0.tests now.furthest.far now.furthest.expected
start-furthest tried match_result now h =
    let same : now.furthest ≡ furthest_of h.0.tests = λ i. (h.3 i).furthest in
    subst (λ f. IsFurthest h.0.tests f.far f.expected) (sym same) (furthest_of-is h.0.tests)
