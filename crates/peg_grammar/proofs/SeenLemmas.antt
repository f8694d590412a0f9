-- How the evaluator's state changes along Ford's rules.
use Rattle.std.proofs.Common.{◌≡◌, ◌≢◌, ℕ, zero, suc, ◌+◌, ◌-◌, List, [], ◌∷◌, ◌++◌, length, fold, Option, None, Some, Ok, Err, option_map, option_and_then, refl, sym, ap, ◌∙◌, append_assoc, append-nil, length-append, arith}
use Rattle.std.proofs.lemmas.List.Sums.{fold-append}
use Rattle.peg_tree.specs.Rows.{Row, rows_of}
use Rattle.peg_tree.specs.Trees.{Trees, NoTrees, Tree, followed_by, nodes}
use Rattle.peg_semantics.specs.Form.{Form}
use Rattle.peg_semantics.specs.FurthestPass.{Furthest, note_test}
use Rattle.peg_semantics.specs.Record.{Recognition, Record, Test, RuleCall, Recognizer, matched_at, after_both, prepend_trees, then_result, then_at, choice_result, or_else, star_result, if_matched, if_failed, with_result, as_tree, as_call, recognize_seq, recognize_choice, table, record_in}
use Rattle.peg_semantics.specs.Record as recognition
use Rattle.peg_semantics.specs.Rules.{Rule}
use Rattle.peg_grammar.specs.Seen.{Evaluation, trees_left, match_result_of, with_record, Evaluates}
use Rattle.peg_grammar.specs.declared.found.Abort.{Abort}
use Rattle.peg_grammar.specs.declared.found.Abort.TheVariants.{AtDepth, OutOfMemory}
use Rattle.peg_grammar.specs.declared.found.MatchResult.{MatchResult}
use Rattle.peg_grammar.specs.declared.found.MatchResult.TheVariants.{EndsAt, Fails}

-- ---- nodes and tests

pub rows_of-followed_by : (a b : Trees) → rows_of (followed_by a b) ≡ rows_of a ++ rows_of b
rows_of-followed_by NoTrees b = refl
rows_of-followed_by (Tree rule start end children rest) b =
    ap (λ l. record { rule = rule; start = start; end = end; size = 1 + nodes children } ∷ l) (ap (λ l. rows_of children ++ l) (rows_of-followed_by rest b) ∙ sym (append_assoc (rows_of children) (rows_of rest) (rows_of b)))

pub length-rows_of : (t : Trees) → length (rows_of t) ≡ nodes t
length-rows_of NoTrees = refl
length-rows_of (Tree rule start end children rest) =
    omega (arith, length-append (rows_of children) (rows_of rest), length-rows_of children, length-rows_of rest)

-- a state, by its two fields
abbrev pub seen : Furthest → List Row → Evaluation
seen furthest rows = record { furthest = furthest; rows = rows }

-- the furthest failure after more tests
abbrev after_tests : Evaluation → List Test → Furthest
after_tests s tests = fold note_test s.furthest tests

-- ---- the two verdicts

pub result_of_failed : (result : Recognition) → match_result_of result ≡ Fails → result ≡ recognition.Failed
result_of_failed recognition.Failed e = refl
result_of_failed (recognition.Matched end trees) e = cc

pub result_of_matched : (result : Recognition) (end : ℕ) → match_result_of result ≡ EndsAt end → (trees : Trees) × (result ≡ recognition.Matched end trees)
result_of_matched recognition.Failed end e = cc
result_of_matched (recognition.Matched there trees) end e =
    let same : there ≡ end = cc in (trees, ap (λ n. recognition.Matched n trees) same)

-- ---- a part that stops early stops the whole

module _ {A : Type 0} (f : Record → Option A) where
  pub and_then-none : (tried : Option Record) → tried ≡ None → option_and_then f tried ≡ None
  and_then-none None e = refl
  and_then-none (Some r) e = cc

pub stopped-and_then : (f : Record → Option Record) (tried : Option Record) (s t u : Evaluation) (stop : Abort) → Evaluates tried s (Err stop) t → Evaluates (option_and_then f tried) s (Err stop) u
stopped-and_then f tried s t u AtDepth h = and_then-none f tried h
stopped-and_then f tried s t u OutOfMemory h = tt

pub stopped-map : (f : Record → Record) (tried : Option Record) (s t u : Evaluation) (stop : Abort) → Evaluates tried s (Err stop) t → Evaluates (option_map f tried) s (Err stop) u
stopped-map f None s t u AtDepth h = refl
stopped-map f (Some r) s t u AtDepth h = cc
stopped-map f None s t u OutOfMemory h = tt
stopped-map f (Some r) s t u OutOfMemory h = tt

-- ---- optional expressions and predicates

pub optional-matched : (tried : Option Record) (position end : ℕ) (s t : Evaluation) → Evaluates tried s (Ok (EndsAt end)) t → Evaluates (or_else tried (Some (matched_at position))) s (Ok (EndsAt end)) t
optional-matched tried position end s t h =
    let m = result_of_matched h.0.result end h.2 in
    (h.0, ap (λ o. or_else o (Some (matched_at position))) h.1 ∙ ap (λ x. choice_result x h.0 (Some (matched_at position))) m.1, h.2, h.3)

-- a failed part followed by nothing: its tests stay noted
pub after_failed : (r : Record) (s t : Evaluation) (position : ℕ) → r.result ≡ recognition.Failed → t ≡ with_record s r → t ≡ with_record s (after_both r (matched_at position) (recognition.Matched position NoTrees))
after_failed r s t position is e =
    e ∙ (λ i. seen (ap (after_tests s) (sym (append-nil r.tests)) i) (ap (λ x. s.rows ++ rows_of (trees_left x)) is i))

pub optional-failed : (tried : Option Record) (position : ℕ) (s t : Evaluation) → Evaluates tried s (Ok Fails) t → Evaluates (or_else tried (Some (matched_at position))) s (Ok (EndsAt position)) t
optional-failed tried position s t h =
    let is = result_of_failed h.0.result h.2 in
    (after_both h.0 (matched_at position) (recognition.Matched position NoTrees), ap (λ o. or_else o (Some (matched_at position))) h.1 ∙ ap (λ x. choice_result x h.0 (Some (matched_at position))) is, refl, after_failed h.0 s t position is h.3)

-- the nodes of a part are dropped: the node list is as before
dropped : (r : Record) (s t : Evaluation) (result : Recognition) → trees_left result ≡ NoTrees → t ≡ with_record s r → (u : Evaluation) → u ≡ seen t.furthest s.rows → u ≡ with_record s (with_result r result)
dropped r s t result none e u cut =
    cut ∙ (λ i. seen ((e i).furthest) (sym (append-nil s.rows) i)) ∙ ap (λ l. seen (fold note_test s.furthest r.tests) (s.rows ++ rows_of l)) (sym none)

pub and-matched : (tried : Option Record) (position end : ℕ) (s t u : Evaluation) → u ≡ seen t.furthest s.rows → Evaluates tried s (Ok (EndsAt end)) t → Evaluates (option_map (λ r. with_result r (if_matched r.result position)) tried) s (Ok (EndsAt position)) u
and-matched tried position end s t u cut h =
    let m = result_of_matched h.0.result end h.2 in
    (with_result h.0 (recognition.Matched position NoTrees), ap (option_map (λ r. with_result r (if_matched r.result position))) h.1 ∙ ap (λ x. Some (with_result h.0 (if_matched x position))) m.1, refl, dropped h.0 s t (recognition.Matched position NoTrees) refl h.3 u cut)

pub and-failed : (tried : Option Record) (position : ℕ) (s t : Evaluation) → Evaluates tried s (Ok Fails) t → Evaluates (option_map (λ r. with_result r (if_matched r.result position)) tried) s (Ok Fails) t
and-failed tried position s t h =
    let is = result_of_failed h.0.result h.2 in
    (with_result h.0 recognition.Failed, ap (option_map (λ r. with_result r (if_matched r.result position))) h.1 ∙ ap (λ x. Some (with_result h.0 (if_matched x position))) is, refl, h.3 ∙ ap (λ x. seen (fold note_test s.furthest h.0.tests) (s.rows ++ rows_of (trees_left x))) is)

pub not-matched : (tried : Option Record) (position end : ℕ) (s t u : Evaluation) → u ≡ seen t.furthest s.rows → Evaluates tried s (Ok (EndsAt end)) t → Evaluates (option_map (λ r. with_result r (if_failed r.result position)) tried) s (Ok Fails) u
not-matched tried position end s t u cut h =
    let m = result_of_matched h.0.result end h.2 in
    (with_result h.0 recognition.Failed, ap (option_map (λ r. with_result r (if_failed r.result position))) h.1 ∙ ap (λ x. Some (with_result h.0 (if_failed x position))) m.1, refl, dropped h.0 s t recognition.Failed refl h.3 u cut)

pub not-failed : (tried : Option Record) (position : ℕ) (s t : Evaluation) → Evaluates tried s (Ok Fails) t → Evaluates (option_map (λ r. with_result r (if_failed r.result position)) tried) s (Ok (EndsAt position)) t
not-failed tried position s t h =
    let is = result_of_failed h.0.result h.2 in
    (with_result h.0 (recognition.Matched position NoTrees), ap (option_map (λ r. with_result r (if_failed r.result position))) h.1 ∙ ap (λ x. Some (with_result h.0 (if_failed x position))) is, refl, h.3 ∙ ap (λ x. seen (fold note_test s.furthest h.0.tests) (s.rows ++ rows_of (trees_left x))) is)

-- ---- one part after another

-- a record after earlier tests, calls and trees
abbrev pub prefixed : List Test → List RuleCall → Trees → Option Record → Option Record
prefixed tests calls trees tried =
    option_map (λ (more : Record). record { result = prepend_trees trees more.result; tests = tests ++ more.tests; calls = calls ++ more.calls }) tried

prepend_trees-followed_by : (a b : Trees) (result : Recognition) → prepend_trees a (prepend_trees b result) ≡ prepend_trees (followed_by a b) result
prepend_trees-followed_by a b recognition.Failed = refl
prepend_trees-followed_by a b (recognition.Matched end more) = ap (recognition.Matched end) (assoc a)
  where
    assoc : (a : Trees) → followed_by a (followed_by b more) ≡ followed_by (followed_by a b) more
    assoc NoTrees = refl
    assoc (Tree rule start end children rest) = ap (Tree rule start end children) (assoc rest)

pub prefixed-prefixed : (tests more_tests : List Test) (calls more_uses : List RuleCall) (trees more_trees : Trees) (tried : Option Record)
    → prefixed tests calls trees (prefixed more_tests more_uses more_trees tried) ≡ prefixed (tests ++ more_tests) (calls ++ more_uses) (followed_by trees more_trees) tried
prefixed-prefixed tests more_tests calls more_uses trees more_trees None = refl
prefixed-prefixed tests more_tests calls more_uses trees more_trees (Some r) =
    λ i. Some (record { result = prepend_trees-followed_by trees more_trees r.result i; tests = sym (append_assoc tests more_tests r.tests) i; calls = sym (append_assoc calls more_uses r.calls) i })

following-none : (result : Recognition) → prepend_trees NoTrees result ≡ result
following-none recognition.Failed = refl
following-none (recognition.Matched end trees) = refl

pub prefixed-none : (tried : Option Record) → prefixed [] [] NoTrees tried ≡ tried
prefixed-none None = refl
prefixed-none (Some r) = λ i. Some (record { result = following-none r.result i; tests = r.tests; calls = r.calls })

-- a part that matched, followed by the next
pub then_result-evaluates : (tried : Option Record) (next : ℕ → Option Record) (end : ℕ) (s t u : Evaluation) (match_result : MatchResult) → Evaluates tried s (Ok (EndsAt end)) t → Evaluates (next end) t (Ok match_result) u → (match_result ≡ Fails → ⊥) → Evaluates (then_at tried next) s (Ok match_result) u
then_result-evaluates tried next end s t u Fails h k other = absurd (other refl)
then_result-evaluates tried next end s t u (EndsAt far) h k other =
    let m = result_of_matched h.0.result end h.2 in
    let n = result_of_matched k.0.result far k.2 in
    (after_both h.0 k.0 (prepend_trees m.0 k.0.result), ap (λ o. then_at o next) h.1 ∙ (ap (λ x. then_result x h.0 next) m.1 ∙ ap (option_map (λ more. after_both h.0 more (prepend_trees m.0 more.result))) k.1), ap (λ x. match_result_of (prepend_trees m.0 x)) n.1, k.3 ∙ (λ i. seen (fold note_test ((h.3 i).furthest) k.0.tests) ((h.3 i).rows ++ rows_of (trees_left k.0.result))) ∙ (λ i. seen (sym (fold-append note_test s.furthest h.0.tests k.0.tests) i) (rows_joined i)))
  where
    rows_joined : (s.rows ++ rows_of (trees_left h.0.result)) ++ rows_of (trees_left k.0.result) ≡ s.rows ++ rows_of (trees_left (prepend_trees (result_of_matched h.0.result end h.2).0 k.0.result))
    rows_joined =
        let m = result_of_matched h.0.result end h.2 in
        let n = result_of_matched k.0.result far k.2 in
        append_assoc s.rows (rows_of (trees_left h.0.result)) (rows_of (trees_left k.0.result)) ∙ ap (λ l. s.rows ++ l) (ap (λ x. rows_of (trees_left x) ++ rows_of (trees_left k.0.result)) m.1 ∙ (ap (λ x. rows_of m.0 ++ rows_of (trees_left x)) n.1 ∙ (sym (rows_of-followed_by m.0 n.0) ∙ ap (λ x. rows_of (trees_left (prepend_trees m.0 x))) (sym n.1))))

-- the first part of a sequence of two fails
pub then_result-failed : (tried : Option Record) (next : ℕ → Option Record) (s t : Evaluation) → Evaluates tried s (Ok Fails) t → Evaluates (then_at tried next) s (Ok Fails) t
then_result-failed tried next s t h =
    let is = result_of_failed h.0.result h.2 in
    (h.0, ap (λ o. then_at o next) h.1 ∙ ap (λ x. then_result x h.0 next) is, h.2, h.3)

pub then_result-stopped : (tried : Option Record) (next : ℕ → Option Record) (end : ℕ) (s t u : Evaluation) (stop : Abort) → Evaluates tried s (Ok (EndsAt end)) t → Evaluates (next end) t (Err stop) u → Evaluates (then_at tried next) s (Err stop) u
then_result-stopped tried next end s t u AtDepth h k =
    let m = result_of_matched h.0.result end h.2 in
    ap (λ o. then_at o next) h.1 ∙ (ap (λ x. then_result x h.0 next) m.1 ∙ ap (option_map (λ more. after_both h.0 more (prepend_trees m.0 more.result))) k)
then_result-stopped tried next end s t u OutOfMemory h k = tt

-- ---- the depths of a record

pub record_in-positive : (rules : List Rule) (text : List ℕ) (depth : ℕ) (e : Form) (terminal position : ℕ) → depth ≢ 0 → record_in rules text depth e terminal position ≡ table rules text (record_in rules text (depth - 1)) e terminal position
unfolding record_in
record_in-positive rules text zero e terminal position h = absurd (h refl)
record_in-positive rules text (suc n) e terminal position h =
    let same : n ≡ suc n - 1 = omega arith in ap (λ k. table rules text (record_in rules text k) e terminal position) same

pub record_in-none : (rules : List Rule) (text : List ℕ) (depth : ℕ) (e : Form) (terminal position : ℕ) → depth ≡ 0 → record_in rules text depth e terminal position ≡ None
unfolding record_in
record_in-none rules text zero e terminal position h = refl
record_in-none rules text (suc n) e terminal position h = cc
