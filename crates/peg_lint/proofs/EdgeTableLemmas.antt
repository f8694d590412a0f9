-- What is known of the rules of a grammar, in tables and loops.
use Rattle.std.proofs.Common.{◌≡◌, ℕ, zero, suc, ◌+◌, ◌<◌, ◌≤◌, List, [], ◌∷◌, ◌++◌, length, map, get_or, drop, slice_get, slice_index_or}
use Rattle.std.proofs.Common.{position, bytes_eq, Option, None, Some, option_map, refl, sym, ap, ◌∙◌, arith, append_assoc, append-nil}
use Rattle.std.proofs.Math.ListN.{drop_of_length-le}
use Rattle.std.proofs.lemmas.List.{length-map, map-append}
use Rattle.std.proofs.lemmas.Option.{slice_get-map, slice_get-get_or}
use Rattle.peg_grammar.specs.declared.expr.Expr.{Expr}
use Rattle.peg_grammar.specs.Written.{form_of}
use Rattle.peg_grammar.proofs.LoopLemmas.{forms-drop, forms-drop_all}
use Rattle.peg_semantics.specs.Form.{Form, forms}
use Rattle.peg_semantics.specs.Numbers.{first_from}
use Rattle.peg_semantics.specs.Rules.{Rule, meaning_of, names}
use Rattle.peg_semantics.proofs.RulesLemmas.{meaning, meant-no_position, meant-position, position-within}
use Rattle.peg_lint.specs.Edges.{Edges, alternatives_edges, choice_edges, edges_by, edges_in, empty_edges, fail_edges, items_edges, meaning_edges, seq_edges, unknown_edges}
use Rattle.peg_lint.specs.Known.{AreKnown, known_in, known_of}
use Rattle.peg_lint.specs.declared.edges.Edges as code
use Rattle.peg_lint.proofs.OutcomeLemmas.{rule_at}

-- the expression of a rule of which something is known
abbrev of-rule : List Rule → ℕ → Rule → Edges
of-rule rules n rule = edges_in rules n rule.body

-- the count of what is known
pub length-known : (rules : List Rule) (n : ℕ) (table : List code.Edges) → AreKnown rules n table
    → length table ≡ length rules
length-known rules n table known =
    sym (length-map table known_of) ∙ (ap length known ∙ length-map rules (of-rule rules n))

-- what is known of the rule that a name refers to
pub known-name : (rules : List Rule) (n : ℕ) (table : List code.Edges) (name : List ℕ) (k : ℕ) (d : code.Edges)
    → AreKnown rules n table → position (bytes_eq name) (names rules) ≡ Some k → k < length table
    → known_of (slice_index_or table k d) ≡ meaning_edges (edges_in rules n) (meaning_of rules name)
known-name rules n table name k d known there inside =
    let found = rule_at rules k (position-within rules name k there) in
    let one : slice_get (map known_of table) k ≡ Some (known_of (slice_index_or table k d)) =
    slice_get-map known_of table k ∙ ap (option_map known_of) (slice_get-get_or table k d inside) in
    let two : slice_get (known_in rules n) k ≡ Some (edges_in rules n found.0.body) =
    slice_get-map (of-rule rules n) rules k ∙ ap (option_map (of-rule rules n)) found.1 in
    let same : Some (known_of (slice_index_or table k d)) ≡ Some (edges_in rules n found.0.body) =
    sym one ∙ (ap (λ (l : List Edges). slice_get l k) known ∙ two) in
    let here : known_of (slice_index_or table k d) ≡ edges_in rules n found.0.body = cc in
    let meant : meaning_of rules name ≡ Some (meaning (0 + k) (get_or (first_from 0 rules) k 0) found.0) =
    meant-position rules name k there ∙ ap (option_map (meaning (0 + k) (get_or (first_from 0 rules) k 0))) found.1 in
    here ∙ sym (ap (meaning_edges (edges_in rules n)) meant)

pub unknown-name : (rules : List Rule) (n : ℕ) (name : List ℕ) → position (bytes_eq name) (names rules) ≡ None
    → unknown_edges ≡ meaning_edges (edges_in rules n) (meaning_of rules name)
unknown-name rules n name none = sym (ap (meaning_edges (edges_in rules n)) (meant-no_position rules name none))

-- ---- a table in a loop

-- what is known so far and what is left is all
abbrev pub SoFar : List Edges → List code.Edges → (index : ℕ) → Type 0
SoFar all table index = map known_of table ++ drop index all ≡ all

drop-at : (all : List Edges) (i : ℕ) (one : Edges) → slice_get all i ≡ Some one → drop i all ≡ one ∷ drop (i + 1) all
drop-at [] i one at = cc
drop-at (x ∷ xs) zero one at = let same : x ≡ one = cc in ap (λ e. e ∷ xs) same
drop-at (x ∷ xs) (suc i) one at =
    let next : suc (i + 1) ≡ suc i + 1 = omega arith in
    drop-at xs i one at ∙ ap (λ k. one ∷ drop k (x ∷ xs)) next

pub SoFar-more : (all : List Edges) (table next : List code.Edges) (i : ℕ) (one : code.Edges) → SoFar all table i
    → slice_get all i ≡ Some (known_of one) → next ≡ table ++ one ∷ [] → SoFar all next (i + 1)
SoFar-more all table next i one so_far at pushed =
    ap (λ (l : List code.Edges). map known_of l ++ drop (i + 1) all) pushed
    ∙ (ap (λ l. l ++ drop (i + 1) all) (map-append known_of table (one ∷ []))
    ∙ (append_assoc (map known_of table) (known_of one ∷ []) (drop (i + 1) all)
    ∙ (ap (λ l. map known_of table ++ l) (sym (drop-at all i (known_of one) at)) ∙ so_far)))

pub SoFar-all : (all : List Edges) (table : List code.Edges) (i : ℕ) → SoFar all table i → length all ≤ i
    → map known_of table ≡ all
SoFar-all all table i so_far ends =
    sym (append-nil (map known_of table))
    ∙ (ap (λ l. map known_of table ++ l) (sym (drop_of_length-le all ends)) ∙ so_far)

-- what is known of the rule with a number
pub known-at : (rules : List Rule) (n k : ℕ) (e : Form) → option_map (λ (r : Rule). r.body) (slice_get rules k) ≡ Some e
    → slice_get (known_in rules n) k ≡ Some (edges_in rules n e)
known-at rules n k e is = slice_get-map (of-rule rules n) rules k ∙ by (slice_get rules k) is
  where
    by : (found : Option Rule) → option_map (λ (r : Rule). r.body) found ≡ Some e
        → option_map (of-rule rules n) found ≡ Some (edges_in rules n e)
    by None none = cc
    by (Some rule) some = let same : rule.body ≡ e = cc in ap (λ b. Some (edges_in rules n b)) same

-- ---- expressions

pub known-zero : (rules : List Rule) (e : Form) → edges_in rules 0 e ≡ unknown_edges
unfolding edges_in
known-zero rules e = refl

pub known-suc : (rules : List Rule) (n : ℕ) (e : Form) → edges_in rules (suc n) e ≡ edges_by rules (edges_in rules n) e
unfolding edges_in
known-suc rules n e = refl

-- the items from an index on
pub items-from : (rules : List Rule) (n : ℕ) (items : List Expr) (i : ℕ) (item : Expr) → i < length items
    → item ≡ get_or items i item
    → items_edges rules (edges_in rules n) (forms (drop i (map form_of items)))
    ≡ seq_edges (edges_in rules (suc n) (form_of item))
    (items_edges rules (edges_in rules n) (forms (drop (i + 1) (map form_of items))))
items-from rules n items i item within at =
    ap (items_edges rules (edges_in rules n)) (forms-drop form_of items i item within at)
    ∙ ap (λ e. seq_edges e (items_edges rules (edges_in rules n) (forms (drop (i + 1) (map form_of items)))))
    (sym (known-suc rules n (form_of item)))

pub alternatives-from : (rules : List Rule) (n : ℕ) (items : List Expr) (i : ℕ) (item : Expr) → i < length items
    → item ≡ get_or items i item
    → alternatives_edges rules (edges_in rules n) (forms (drop i (map form_of items)))
    ≡ choice_edges (edges_in rules (suc n) (form_of item))
    (alternatives_edges rules (edges_in rules n) (forms (drop (i + 1) (map form_of items))))
alternatives-from rules n items i item within at =
    ap (alternatives_edges rules (edges_in rules n)) (forms-drop form_of items i item within at)
    ∙ ap (λ e. choice_edges e (alternatives_edges rules (edges_in rules n) (forms (drop (i + 1) (map form_of items)))))
    (sym (known-suc rules n (form_of item)))

pub items-end : (rules : List Rule) (n : ℕ) (items : List Expr) (i : ℕ) → length items ≤ i
    → items_edges rules (edges_in rules n) (forms (drop i (map form_of items))) ≡ empty_edges
items-end rules n items i past = ap (items_edges rules (edges_in rules n)) (forms-drop_all form_of items i past)

pub alternatives-end : (rules : List Rule) (n : ℕ) (items : List Expr) (i : ℕ) → length items ≤ i
    → alternatives_edges rules (edges_in rules n) (forms (drop i (map form_of items))) ≡ fail_edges
alternatives-end rules n items i past =
    ap (alternatives_edges rules (edges_in rules n)) (forms-drop_all form_of items i past)

-- nothing is known of a rule at the start
pub known-start : (rules : List Rule) (k : ℕ) (one : code.Edges) → k < length rules → known_of one ≡ unknown_edges
    → slice_get (known_in rules 0) k ≡ Some (known_of one)
known-start rules k one below is =
    let found = rule_at rules k below in
    slice_get-map (of-rule rules 0) rules k
    ∙ (ap (option_map (of-rule rules 0)) found.1 ∙ ap Some (known-zero rules found.0.body ∙ sym is))

pub length-known_in : (rules : List Rule) (n : ℕ) → length (known_in rules n) ≡ length rules
length-known_in rules n = length-map rules (of-rule rules n)

-- what is known of an expression, by its form
pub by-form : (rules : List Rule) (n : ℕ) (e f : Form) (k : Edges) → e ≡ f → k ≡ edges_by rules (edges_in rules n) f
    → k ≡ edges_in rules (suc n) e
by-form rules n e f k same is = is ∙ (sym (known-suc rules n f) ∙ ap (edges_in rules (suc n)) (sym same))

-- what is known of a part
pub of-part : (rules : List Rule) (n : ℕ) (now part : Form) (k : Edges) → now ≡ part → k ≡ edges_in rules (suc n) now
    → k ≡ edges_by rules (edges_in rules n) part
of-part rules n now part k same is = is ∙ (ap (edges_in rules (suc n)) same ∙ known-suc rules n part)
