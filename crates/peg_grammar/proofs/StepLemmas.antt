-- Steps of the evaluator that truncate the node list or set a node: predicates, iterations of a star, rules.
use Rattle.std.proofs.Common.{◌≡◌, ◌≢◌, ℕ, zero, suc, ◌+◌, ◌-◌, List, [], ◌∷◌, ◌++◌, map, length, take, Option, None, Some, Result, Ok, Err, option_map, option_and_then, refl, sym, ap, ◌∙◌, subst, append_assoc, append-nil, length-append, arith}
use Rattle.std.proofs.Math.ListN.{set}
use Rattle.std.proofs.Math.Seq.{take-append_seam, set-append_seam}
use Rattle.std.proofs.lemmas.List.{length-map, map-append, map-set, take-map}
use Rattle.std.specs.declared.alloc.Global.{Global}
use Rattle.std.specs.declared.vec.Vec.{Vec}
use Rattle.peg_tree.specs.Rows.{Row, row_of, rows_of}
use Rattle.peg_tree.specs.Trees.{Trees, NoTrees, nodes}
use Rattle.peg_tree.specs.declared.row.TreeNode.{TreeNode}
use Rattle.peg_semantics.specs.Form.{Form, Star}
use Rattle.peg_grammar.specs.Found.{furthest_in, seen_in}
use Rattle.peg_semantics.specs.Record.{Recognition, Record, Recognizer, matched_at, after_both, prepend_trees, then_result, then_at, choice_result, star_result, as_tree, as_call, table, record_in}
use Rattle.peg_semantics.specs.Record as recognition
use Rattle.peg_semantics.specs.Rules.{Rule}
use Rattle.peg_grammar.specs.Seen.{Evaluation, trees_left, match_result_of, Evaluates}
use Rattle.peg_grammar.specs.declared.found.Found.{Found}
use Rattle.peg_grammar.specs.declared.found.Abort.{Abort}
use Rattle.peg_grammar.specs.declared.found.MatchResult.{MatchResult}
use Rattle.peg_grammar.specs.declared.found.MatchResult.TheVariants.{EndsAt, Fails}
use Rattle.peg_grammar.proofs.SeenLemmas.{seen, result_of_failed, result_of_matched, after_failed, then_result-evaluates, then_result-stopped, length-rows_of}

-- the node list truncated to an earlier length
pub cut_back : (s t : Found) (kept : Vec TreeNode Global) (from : ℕ) (more : List Row) → from ≡ length s.rows.items → kept.items ≡ take from t.rows.items → map row_of t.rows.items ≡ map row_of s.rows.items ++ more → seen_in (record { furthest = t.furthest; rows = kept }) ≡ seen (furthest_in t.furthest) (map row_of s.rows.items)
cut_back s t kept from more is_from is_kept grown =
    ap (seen (furthest_in t.furthest)) (ap (map row_of) is_kept ∙ (sym (take-map row_of from t.rows.items) ∙ (ap (take from) grown ∙ (ap (λ n. take n (map row_of s.rows.items ++ more)) (is_from ∙ sym (length-map s.rows.items row_of)) ∙ take-append_seam (map row_of s.rows.items) more))))

-- ---- a star

-- one iteration of a star, and what comes next
abbrev pub round_at : Option Record → ℕ → (ℕ → Option Record) → Option Record
round_at tried position next = option_and_then (λ round. star_result round.result position round next) tried

pub rounds-failed : (tried : Option Record) (position : ℕ) (next : ℕ → Option Record) (s t : Evaluation) → Evaluates tried s (Ok Fails) t → Evaluates (round_at tried position next) s (Ok (EndsAt position)) t
rounds-failed tried position next s t h =
    let is = result_of_failed h.0.result h.2 in
    (after_both h.0 (matched_at position) (recognition.Matched position NoTrees), ap (λ o. round_at o position next) h.1 ∙ ap (λ x. star_result x position h.0 next) is, refl, after_failed h.0 s t position is h.3)

-- an iteration never fails if what comes next never fails
star_result-matches : (tried : Option Record) (position : ℕ) (next : ℕ → Option Record) → ((end : ℕ) (r : Record) → next end ≡ Some r → match_result_of r.result ≢ Fails) → (r : Record) → round_at tried position next ≡ Some r → match_result_of r.result ≢ Fails
star_result-matches None position next h r e = cc
star_result-matches (Some round) position next h r e = by round.result e
  where
    some : (more : Option Record) (trees : Trees) → ((m : Record) → more ≡ Some m → match_result_of m.result ≢ Fails) → option_map (λ more. after_both round more (prepend_trees trees more.result)) more ≡ Some r → match_result_of r.result ≢ Fails
    some None trees k e f = cc
    some (Some m) trees k e f = fails m.result (k m refl) (let same : after_both round m (prepend_trees trees m.result) ≡ r = cc in ap (λ r. match_result_of r.result) same ∙ f)
      where
        fails : (x : Recognition) → match_result_of x ≢ Fails → match_result_of (prepend_trees trees x) ≡ Fails → ⊥
        fails recognition.Failed other e = other refl
        fails (recognition.Matched end more) other e = cc

    by : (x : Recognition) → star_result x position round next ≡ Some r → match_result_of r.result ≢ Fails
    by recognition.Failed e f =
        let same : after_both round (matched_at position) (recognition.Matched position NoTrees) ≡ r = cc in
        let bad : EndsAt position ≡ Fails = ap (λ r. match_result_of r.result) same ∙ f in cc
    by (recognition.Matched end trees) e f = some (next end) trees (h end) e f

pub star-matches : (rules : List Rule) (text : List ℕ) (n : ℕ) (part : Form) (span : Rattle.peg_bytes.specs.Extent.Extent) (terminal position : ℕ) (r : Record) → record_in rules text n (Star part span) terminal position ≡ Some r → match_result_of r.result ≢ Fails
unfolding record_in
star-matches rules text zero part span terminal position r e = cc
star-matches rules text (suc n) part span terminal position r e =
    star_result-matches (record_in rules text n part terminal position) position (λ end. record_in rules text n (Star part span) terminal end) (λ end. star-matches rules text n part span terminal end) r e

-- the part, followed by something that never fails
pub then-evaluates : (tried : Option Record) (next : ℕ → Option Record) (end : ℕ) (s t u : Evaluation) (result : Result MatchResult Abort) → ((r : Record) → next end ≡ Some r → match_result_of r.result ≢ Fails) → Evaluates tried s (Ok (EndsAt end)) t → Evaluates (next end) t result u → Evaluates (then_at tried next) s result u
then-evaluates tried next end s t u (Ok Fails) never h k = absurd (never k.0 k.1 k.2)
then-evaluates tried next end s t u (Ok (EndsAt far)) never h k =
    then_result-evaluates tried next end s t u (EndsAt far) h k (λ e. cc)
then-evaluates tried next end s t u (Err stop) never h k = then_result-stopped tried next end s t u stop h k

pub rounds-evaluates : (tried : Option Record) (position : ℕ) (next : ℕ → Option Record) (end : ℕ) (s t u : Evaluation) (result : Result MatchResult Abort) → ((r : Record) → next end ≡ Some r → match_result_of r.result ≢ Fails) → Evaluates tried s (Ok (EndsAt end)) t → Evaluates (next end) t result u → Evaluates (round_at tried position next) s result u
rounds-evaluates tried position next end s t u result never h k =
    let m = result_of_matched h.0.result end h.2 in
    let same : round_at tried position next ≡ then_at tried next = ap (λ o. round_at o position next) h.1 ∙ (ap (λ x. star_result x position h.0 next) m.1 ∙ (sym (ap (λ x. then_result x h.0 next) m.1) ∙ sym (ap (λ o. then_at o next) h.1))) in
    subst (λ o. Evaluates o s result u) (sym same) (then-evaluates tried next end s t u result never h k)

-- ---- a rule

-- a call of the rule with this expression
pub used-is : (take : Recognizer) (first rule position : ℕ) (found : Option Rule) (e : Form) → option_map (λ (r : Rule). r.body) found ≡ Some e → option_and_then (λ (r : Rule). option_map (as_call rule position) (take r.body first position)) found ≡ option_map (as_call rule position) (take e first position)
used-is take first rule position None e h = cc
used-is take first rule position (Some r) e h =
    let same : r.body ≡ e = cc in ap (λ b. option_map (as_call rule position) (take b first position)) same

-- the node list after one node was pushed
grown : (s t : Found) (pushed : Vec TreeNode Global) (node : TreeNode) (rows : List Row) → pushed.items ≡ s.rows.items ++ (node ∷ []) → map row_of t.rows.items ≡ map row_of pushed.items ++ rows → map row_of t.rows.items ≡ map row_of s.rows.items ++ (row_of node ∷ rows)
grown s t pushed node rows push e =
    e ∙ (ap (λ l. map row_of l ++ rows) push ∙ (ap (λ l. l ++ rows) (map-append row_of s.rows.items (node ∷ [])) ∙ append_assoc (map row_of s.rows.items) (row_of node ∷ []) rows))

module _ (tried : Option Record) (rule position : ℕ) (s t : Found) (pushed : Vec TreeNode Global) (node : TreeNode) (push : pushed.items ≡ s.rows.items ++ (node ∷ [])) (from : ℕ) (is_from : from ≡ length s.rows.items) where
  pub rule-failed : (kept : Vec TreeNode Global) → kept.items ≡ take from t.rows.items → Evaluates tried (seen_in (record { furthest = s.furthest; rows = pushed })) (Ok Fails) (seen_in t) → Evaluates (option_map (as_call rule position) tried) (seen_in s) (Ok Fails) (seen_in (record { furthest = t.furthest; rows = kept }))
  rule-failed kept is_kept h =
      let is = result_of_failed h.0.result h.2 in
      (as_call rule position h.0, ap (option_map (as_call rule position)) h.1, ap (λ x. match_result_of (as_tree rule position x)) is, cut_back s t kept from (row_of node ∷ rows_of (trees_left h.0.result)) is_from is_kept (grown s t pushed node (rows_of (trees_left h.0.result)) push (λ i. (h.3 i).rows)) ∙ (λ i. seen ((h.3 i).furthest) ((sym (append-nil (map row_of s.rows.items)) ∙ sym (ap (λ x. map row_of s.rows.items ++ rows_of (trees_left (as_tree rule position x))) is)) i)))

  pub rule-matched : (end : ℕ) (now : TreeNode) (size : ℕ) → row_of now ≡ record { rule = rule; start = position; end = end; size = size } → size ≡ length t.rows.items - from → (set_rows : Vec TreeNode Global) → set_rows.items ≡ set t.rows.items from now → Evaluates tried (seen_in (record { furthest = s.furthest; rows = pushed })) (Ok (EndsAt end)) (seen_in t) → Evaluates (option_map (as_call rule position) tried) (seen_in s) (Ok (EndsAt end)) (seen_in (record { furthest = t.furthest; rows = set_rows }))
  rule-matched end now size is_row is_size set_rows is_set h =
      (as_call rule position h.0, ap (option_map (as_call rule position)) h.1, ap (λ x. match_result_of (as_tree rule position x)) m.1, λ i. seen ((h.3 i).furthest) (rows i))
    where
      m : (trees : Trees) × (h.0.result ≡ recognition.Matched end trees)
      m = result_of_matched h.0.result end h.2

      start : List Row
      start = map row_of s.rows.items

      all : map row_of t.rows.items ≡ start ++ (row_of node ∷ rows_of m.0)
      all = grown s t pushed node (rows_of m.0) push ((λ i. (h.3 i).rows) ∙ ap (λ x. map row_of pushed.items ++ rows_of (trees_left x)) m.1)

      counted : size ≡ 1 + nodes m.0
      counted =
          let lengths : length t.rows.items ≡ length (start ++ (row_of node ∷ rows_of m.0)) = sym (length-map t.rows.items row_of) ∙ ap length all in
          omega (arith, is_size, is_from, lengths, length-append start (row_of node ∷ rows_of m.0), length-map s.rows.items row_of, length-rows_of m.0)

      rows : map row_of set_rows.items ≡ start ++ rows_of (trees_left (as_tree rule position h.0.result))
      rows =
          ap (map row_of) is_set ∙ (map-set row_of t.rows.items from now ∙ (ap (λ l. set l from (row_of now)) all ∙ (ap (λ n. set (start ++ (row_of node ∷ rows_of m.0)) n (row_of now)) (is_from ∙ sym (length-map s.rows.items row_of)) ∙ (set-append_seam start (row_of node) (rows_of m.0) (row_of now) ∙ (ap (λ l. start ++ l) ((λ i. is_row i ∷ rows_of m.0) ∙ ((λ i. record { rule = rule; start = position; end = end; size = counted i } ∷ sym (append-nil (rows_of m.0)) i))) ∙ sym (ap (λ x. start ++ rows_of (trees_left (as_tree rule position x))) m.1))))))
