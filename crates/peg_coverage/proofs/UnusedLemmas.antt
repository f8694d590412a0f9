-- The rules and alternatives that don't match.
use Rattle.std.proofs.Common.{◌≡◌, ◌∙◌, ℕ, suc, ◌+◌, ◌*◌, ◌<◌, ◌++◌, Bool, true, false, not, List, [], ◌∷◌, cond, filter}
use Rattle.std.proofs.Common.{get_or, length, map, slice_index_or, refl, sym, ap, arith}
use Rattle.std.proofs.lemmas.List.{append-nil, get_or-map, length-append, map-append, map-id}
use Rattle.std.proofs.lemmas.List.FromFn.{filter_of_map_range_with_len_more}
use Rattle.std.specs.List.{range_with_len}
use Rattle.peg_bytes.specs.Extent.{Extent, between, extent}
use Rattle.peg_bytes.specs.declared.span.Span.{Span}
use Rattle.peg_diagnostics.specs.Marked.{alternatives, alternatives_of_rules, mark_rules, marked_rules, marker_extents}
use Rattle.peg_diagnostics.specs.Marked.{marker_rules, markers_of_rules}
use Rattle.peg_diagnostics.proofs.MarkBounds.{length-marker_extents}
use Rattle.peg_semantics.specs.Rules.{Rule}
use Rattle.peg_tree.specs.Selected.{has_rule}
use Rattle.peg_coverage.specs.Unused.{AlternativeUse, alternative_use, unmatched}
use Rattle.peg_coverage.specs.declared.coverage.UnusedAlternative.{UnusedAlternative}

-- one more number, which may match
more-numbers : (matches : ℕ → Bool) (count : ℕ)
    → unmatched matches (count + 1) ≡ unmatched matches count ++ cond (not (matches count)) (count ∷ []) []
more-numbers matches count =
    let test = λ (n : ℕ). not (matches n) in
    ap (filter test) (sym (map-id (range_with_len 0 (count + 1))))
    ∙ filter_of_map_range_with_len_more test (λ n. n) 0 count count (let at : 0 + count ≡ count = omega arith in at)
    ∙ ap (λ (l : List ℕ). filter test l ++ cond (test count) (count ∷ []) []) (map-id (range_with_len 0 count))

-- it doesn't match
pub one-unmatched : {X : Type 0} (entry : ℕ → X) (matches : ℕ → Bool) (count : ℕ) → matches count ≡ false
    → map entry (unmatched matches (count + 1)) ≡ map entry (unmatched matches count) ++ entry count ∷ []
one-unmatched entry matches count is =
    ap (map entry) (more-numbers matches count
    ∙ ap (λ (b : Bool). unmatched matches count ++ cond (not b) (count ∷ []) []) is)
    ∙ map-append entry (unmatched matches count) (count ∷ [])

-- it matches
pub none-unmatched : {X : Type 0} (entry : ℕ → X) (matches : ℕ → Bool) (count : ℕ) → matches count ≡ true
    → map entry (unmatched matches (count + 1)) ≡ map entry (unmatched matches count)
none-unmatched entry matches count is =
    ap (map entry) (more-numbers matches count
    ∙ ap (λ (b : Bool). unmatched matches count ++ cond (not b) (count ∷ []) []) is
    ∙ append-nil (unmatched matches count))

-- ---- the number of marked rules

length-mark : (number marker : ℕ) (rules : List Rule) → length (mark_rules number marker rules) ≡ length rules
length-mark number marker [] = refl
length-mark number marker (rule ∷ more) =
    ap suc (length-mark (number + alternatives rule.body) (marker + 1) more)

length-markers : (marker : ℕ) (spans : List Extent) → length (marker_rules marker spans) ≡ length spans
length-markers marker [] = refl
length-markers marker (span ∷ more) = ap suc (length-markers (marker + 1) more)

pub length-marked : (rules : List Rule) → length (marked_rules rules) ≡ length rules + markers_of_rules rules
length-marked rules =
    let total = alternatives_of_rules rules in
    let extents = marker_extents rules in
    length-append (mark_rules 0 (2 * total) rules) (marker_rules 0 extents)
    ∙ (λ i. length-mark 0 (2 * total) rules i + (length-markers 0 extents ∙ length-marker_extents rules) i)

-- ---- the alternatives

-- the alternatives before a number that don't match, where the first marker has the number `own`
abbrev pub uses_so_far : List Extent → (own : ℕ) → (used : List Bool) → (count : ℕ) → List AlternativeUse
uses_so_far extents own used count =
    map (λ n. (slice_index_or extents n (between 0 0), has_rule used (own + 2 * n)))
    (unmatched (λ n. has_rule used (own + (2 * n + 1))) count)

-- one more alternative doesn't match
pub one-unused : (spans : List Span) (own : ℕ) (used : List Bool) (count : ℕ) (span : Span) (tried : Bool)
    (so_far : List UnusedAlternative) → count < length spans → get_or spans count span ≡ span
    → has_rule used (own + (2 * count + 1)) ≡ false → tried ≡ has_rule used (own + 2 * count)
    → map alternative_use so_far ≡ uses_so_far (map extent spans) own used count
    → map alternative_use (so_far ++ record { span = span; tried = tried } ∷ [])
    ≡ uses_so_far (map extent spans) own used (count + 1)
one-unused spans own used count span tried so_far within at unmatched_is tried_is is =
    let entry : ℕ → AlternativeUse =
    λ n. (slice_index_or (map extent spans) n (between 0 0), has_rule used (own + 2 * n)) in
    let here : slice_index_or (map extent spans) count (between 0 0) ≡ extent span =
    get_or-map extent spans count span (between 0 0) within ∙ ap extent at in
    map-append alternative_use so_far (record { span = span; tried = tried } ∷ [])
    ∙ (λ i. is i ++ (sym here i, tried_is i) ∷ [])
    ∙ sym (one-unmatched entry (λ n. has_rule used (own + (2 * n + 1))) count unmatched_is)

-- one more alternative matches
pub none-unused : (extents : List Extent) (own : ℕ) (used : List Bool) (count : ℕ)
    → has_rule used (own + (2 * count + 1)) ≡ true
    → uses_so_far extents own used (count + 1) ≡ uses_so_far extents own used count
none-unused extents own used count is =
    let entry : ℕ → AlternativeUse =
    λ n. (slice_index_or extents n (between 0 0), has_rule used (own + 2 * n)) in
    none-unmatched entry (λ n. has_rule used (own + (2 * n + 1))) count is
