-- The entries of the printed table, in order; no entry contains a float.
use Rattle.std.proofs.Common.{◌≡◌, ℕ, ◌<◌, List, [], ◌∷◌, length, map, Bool, false, ◌||◌}
use Rattle.std.proofs.Common.{Option, Some, unwrap_or, slice_get, slice_index_or, get_or, refl, sym, ap, ◌∙◌, arith}
use Rattle.std.specs.List.{zip}
use Rattle.std.proofs.lemmas.List.{length-map, get_or-map}
use Rattle.std.proofs.lemmas.Option.{get_or_from_slice_get, slice_get_within, slice_get-map, unwrap_or-slice_get}
use Rattle.std.proofs.lemmas.Slice.Zip.{get_or-zip, length-zip}
use Rattle.serde_json.specs.View.{items_of}
use Rattle.serde_json.specs.Written.{has_float, items_have_float}
use Rattle.peg_semantics.specs.AbstractOutcomes.{Can, no_outcome}
use Rattle.peg_semantics.specs.Rules.{Rule, names, name_of}
use Rattle.peg_check.specs.Exact.{cans_of}
use Rattle.peg_listings.specs.TableText.{entry_data, entries_data, table_data}

-- no entry contains a float
entries-without_floats : (entries : List (List ℕ × Can)) → items_have_float
    (items_of (map (λ entry. entry_data entry.0 entry.1) entries)) ≡ false
entries-without_floats [] = refl
entries-without_floats (entry ∷ entries) = entries-without_floats entries

pub table-without_floats : (names : List (List ℕ)) (cans : List Can) → has_float (table_data names cans) ≡ false
table-without_floats names cans = ap (λ (b : Bool). b || false) (entries-without_floats (zip names cans))

-- the entry of a rule
pub entry_at : (rules : List Rule) (bodies : List ℕ) (table : List Can) (rule body : ℕ) (name : List ℕ) (can : Can)
    → rule < length rules → name ≡ name_of rules rule → slice_get bodies rule ≡ Some body
    → slice_get table body ≡ Some can → (rule < length (entries_data (names rules) (cans_of bodies table)))
    × (get_or (entries_data (names rules) (cans_of bodies table)) rule (entry_data [] no_outcome) ≡ entry_data name can)
entry_at rules bodies table rule body name can inside named laid reported =
    let cans = cans_of bodies table in
    let pairs = zip (names rules) cans in
    let within : rule < length bodies = slice_get_within bodies rule body laid in
    let count : length (names rules) ≡ length rules = length-map rules (λ r. r.name) in
    let cans_count : length cans ≡ length bodies = length-map bodies (λ b. slice_index_or table b no_outcome) in
    let here : get_or cans rule no_outcome ≡ can =
    get_or-map (λ b. slice_index_or table b no_outcome) bodies rule 0 no_outcome within
    ∙ (ap (λ b. slice_index_or table b no_outcome) (get_or_from_slice_get bodies rule body 0 laid)
    ∙ get_or_from_slice_get table body can no_outcome reported) in
    let its_name : get_or (names rules) rule [] ≡ name =
    sym (unwrap_or-slice_get (names rules) rule [])
    ∙ (ap (λ (o : Option (List ℕ)). unwrap_or o []) (slice_get-map (λ r. r.name) rules rule) ∙ sym named) in
    let in_names : rule < length (names rules) = omega (arith, count, inside) in
    let in_cans : rule < length cans = omega (arith, cans_count, within) in
    let in_pairs : rule < length pairs = omega (arith, length-zip (names rules) cans, in_names, in_cans) in
    let entry = λ (pair : List ℕ × Can). entry_data pair.0 pair.1 in
    let pair : get_or pairs rule ([], no_outcome) ≡ (name, can) =
    get_or-zip (names rules) cans rule ([], no_outcome) in_names in_cans ∙ (λ i. (its_name i, here i)) in (
      omega (arith, length-map pairs entry, in_pairs),
      get_or-map entry pairs rule ([], no_outcome) (entry_data [] no_outcome) in_pairs ∙ ap entry pair,
    )

-- there are as many entries as rules, if there are as many bodies
pub length-entries : (rules : List Rule) (bodies : List ℕ) (table : List Can) → length bodies ≡ length rules
    → length (entries_data (names rules) (cans_of bodies table)) ≡ length rules
length-entries rules bodies table same =
    let cans = cans_of bodies table in
    let entry = λ (pair : List ℕ × Can). entry_data pair.0 pair.1 in
    omega (
      arith,
      length-map (zip (names rules) cans) entry,
      length-zip (names rules) cans,
      length-map rules (λ r. r.name),
      length-map bodies (λ b. slice_index_or table b no_outcome),
      same,
    )
