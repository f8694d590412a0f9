-- The spans of terminals.
use Rattle.std.proofs.Common.{◌≡◌, ℕ, ◌+◌, ◌<◌, List, [], ◌∷◌, ◌++◌, Some, length, get_or, map, take, slice_get}
use Rattle.std.proofs.Common.{sym, ap, ◌∙◌}
use Rattle.std.proofs.lemmas.List.{map-append, take_more}
use Rattle.std.proofs.lemmas.Option.{get_or_from_slice_get}
use Rattle.std.proofs.Math.ListN.{get_or-map}
use Rattle.peg_bytes.specs.Extent.{Extent, between}
use Rattle.peg_json.specs.Parses.{extents_at}
use Rattle.peg_semantics.specs.Rules.{Rule}
use Rattle.peg_semantics.specs.Terminals.{extents_of_terminals}
use Rattle.peg_handle.specs.FileSpans.{file_span}
use Rattle.peg_handle.specs.declared.content.FileSpan.{FileSpan}

-- the span of one more terminal
pub spans_more : (rules : List Rule) (terminals : List ℕ) (i : ℕ) (place : Extent) (spans : List FileSpan)
    → i < length terminals → slice_get (extents_of_terminals rules) (get_or terminals i 0) ≡ Some place
    → spans ≡ map file_span (extents_at rules (take i terminals))
    → spans ++ file_span place ∷ [] ≡ map file_span (extents_at rules (take (i + 1) terminals))
spans_more rules terminals i place spans within at so_far =
    let terminal = get_or terminals i 0 in
    let extent_at = λ (t : ℕ). get_or (extents_of_terminals rules) t (between 0 0) in
    let before = take i terminals in
    let here : place ≡ extent_at terminal =
    sym (get_or_from_slice_get (extents_of_terminals rules) terminal place (between 0 0) at) in
    ap (λ (l : List FileSpan). l ++ file_span place ∷ []) so_far
    ∙ ap (λ (e : Extent). map file_span (extents_at rules before) ++ file_span e ∷ []) here
    ∙ sym (map-append file_span (extents_at rules before) (extent_at terminal ∷ []))
    ∙ ap (map file_span) (sym (map-append extent_at before (terminal ∷ [])))
    ∙ ap (λ (l : List ℕ). map file_span (extents_at rules l)) (sym (take_more terminals i 0 within))

-- one more span, copied from those of all terminals
pub copied_more : (rules : List Rule) (terminals : List FileSpan) (numbers : List ℕ) (i : ℕ) (spans : List FileSpan)
    → terminals ≡ map file_span (extents_of_terminals rules) → i < length numbers
    → spans ≡ map file_span (extents_at rules (take i numbers))
    → spans ++ get_or terminals (get_or numbers i 0) (file_span (between 0 0)) ∷ []
    ≡ map file_span (extents_at rules (take (i + 1) numbers))
copied_more rules terminals numbers i spans are within so_far =
    let number = get_or numbers i 0 in
    let extent_at = λ (t : ℕ). get_or (extents_of_terminals rules) t (between 0 0) in
    let before = take i numbers in
    let here : get_or terminals number (file_span (between 0 0)) ≡ file_span (extent_at number) =
    ap (λ (l : List FileSpan). get_or l number (file_span (between 0 0))) are
    ∙ get_or-map file_span (extents_of_terminals rules) number (between 0 0) in
    ap (λ (l : List FileSpan). l ++ get_or terminals number (file_span (between 0 0)) ∷ []) so_far
    ∙ ap (λ (span : FileSpan). map file_span (extents_at rules before) ++ span ∷ []) here
    ∙ sym (map-append file_span (extents_at rules before) (extent_at number ∷ []))
    ∙ ap (map file_span) (sym (map-append extent_at before (number ∷ [])))
    ∙ ap (λ (l : List ℕ). map file_span (extents_at rules l)) (sym (take_more numbers i 0 within))

-- the span of one more terminal, in order
pub spans_next : (places : List Extent) (terminal : ℕ) (place : Extent) (spans : List FileSpan)
    → terminal < length places → slice_get places terminal ≡ Some place
    → spans ≡ map file_span (take terminal places)
    → spans ++ file_span place ∷ [] ≡ map file_span (take (terminal + 1) places)
spans_next places terminal place spans within at so_far =
    ap (λ (l : List FileSpan). l ++ file_span place ∷ []) so_far
    ∙ sym (map-append file_span (take terminal places) (place ∷ []))
    ∙ ap (λ (e : Extent). map file_span (take terminal places ++ e ∷ []))
    (sym (get_or_from_slice_get places terminal place (between 0 0) at))
    ∙ ap (map file_span) (sym (take_more places terminal (between 0 0) within))
