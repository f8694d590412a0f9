-- The number of alternatives of rules, and where the rules from an index on have theirs.
use Rattle.std.proofs.Common.{◌≡◌, ℕ, zero, suc, ◌+◌, ◌*◌, ◌<◌, ◌≤◌, List, [], ◌∷◌, length, drop, map, slice_get, Some, option_map, sum_by}
use Rattle.std.proofs.Common.{refl, sym, ap, ◌∙◌, arith}
use Rattle.std.proofs.lemmas.List.{length-append, length-map}
use Rattle.std.proofs.lemmas.List.Sums.{sum_by-cons}
use Rattle.peg_bytes.specs.Extent.{Extent}
use Rattle.peg_semantics.specs.Form.{Form, Forms, Literal, Class, Any, Name, Seq, Choice, Optional, Star, Plus, Counted}
use Rattle.peg_semantics.specs.Form.{And, Not, End, Then, form_weight, forms_weight}
use Rattle.peg_semantics.specs.Rules.{Rule, weight_of}
use Rattle.peg_diagnostics.specs.Marked.{alternatives, alternatives_of_all, alternatives_of_each, alternatives_of_rules}
use Rattle.peg_diagnostics.specs.Marked.{alternative_extents, alternative_extents_of_all, alternative_extents_of_each}
use Rattle.peg_diagnostics.specs.Marked.{doubled, extents_of_alternatives, marker_extents, markers_of_rules}

-- an expression has fewer alternatives than its weight
mutual
  alternatives-weight : (e : Form) → alternatives e < form_weight e
  alternatives-weight (Literal bytes span) = omega arith
  alternatives-weight (Class set span) = omega arith
  alternatives-weight (Any span) = omega arith
  alternatives-weight (Name name span) = omega arith
  alternatives-weight (Seq items span) = omega (arith, all_alternatives-weight items)
  alternatives-weight (Choice first rest span) =
      omega (arith, alternatives-weight first, each_alternative-weight rest)
  alternatives-weight (Optional part span) = omega (arith, alternatives-weight part)
  alternatives-weight (Star part span) = omega (arith, alternatives-weight part)
  alternatives-weight (Plus part span) = omega (arith, alternatives-weight part)
  alternatives-weight (Counted part min max span) = omega (arith, alternatives-weight part)
  alternatives-weight (And part span) = omega (arith, alternatives-weight part)
  alternatives-weight (Not part span) = omega (arith, alternatives-weight part)

  all_alternatives-weight : (items : Forms) → alternatives_of_all items ≤ forms_weight items
  all_alternatives-weight End = omega arith
  all_alternatives-weight (Then e rest) = omega (arith, alternatives-weight e, all_alternatives-weight rest)

  each_alternative-weight : (items : Forms) → alternatives_of_each items ≤ forms_weight items
  each_alternative-weight End = omega arith
  each_alternative-weight (Then e rest) = omega (arith, alternatives-weight e, each_alternative-weight rest)

abbrev weight_of_body : Rule → ℕ
weight_of_body rule = form_weight rule.body

alternatives-bodies : (rules : List Rule) → alternatives_of_rules rules ≤ sum_by weight_of_body rules
alternatives-bodies [] = omega arith
alternatives-bodies (r ∷ rs) =
    let sum = sum_by-cons weight_of_body r rs in omega (arith, sum, alternatives-weight r.body, alternatives-bodies rs)

-- rules have no more alternatives than their weight
pub alternatives-rules : (rules : List Rule) → alternatives_of_rules rules ≤ weight_of rules
alternatives-rules rules = omega (arith, alternatives-bodies rules)

-- an expression has a weight, so rules have no more markers than twice their weight
rules-weight : (rules : List Rule) → 2 * alternatives_of_rules rules + length rules ≤ 2 * weight_of rules
rules-weight rules = omega (arith, alternatives-bodies rules)

pub markers-weight : (rules : List Rule) → markers_of_rules rules ≤ 2 * weight_of rules
markers-weight rules = rules-weight rules

-- each alternative has an extent
mutual
  length-extents : (e : Form) → length (alternative_extents e) ≡ alternatives e
  length-extents (Literal bytes span) = refl
  length-extents (Class set span) = refl
  length-extents (Any span) = refl
  length-extents (Name name span) = refl
  length-extents (Seq items span) = length-all_extents items
  length-extents (Choice first rest span) =
      let both = length-append (alternative_extents first) (alternative_extents_of_each rest) in
      omega (arith, both, length-extents first, length-each_extent rest)
  length-extents (Optional part span) = length-extents part
  length-extents (Star part span) = length-extents part
  length-extents (Plus part span) = length-extents part
  length-extents (Counted part min max span) = length-extents part
  length-extents (And part span) = length-extents part
  length-extents (Not part span) = length-extents part

  length-all_extents : (items : Forms) → length (alternative_extents_of_all items) ≡ alternatives_of_all items
  length-all_extents End = refl
  length-all_extents (Then e rest) =
      let both = length-append (alternative_extents e) (alternative_extents_of_all rest) in
      omega (arith, both, length-extents e, length-all_extents rest)

  length-each_extent : (items : Forms) → length (alternative_extents_of_each items) ≡ alternatives_of_each items
  length-each_extent End = refl
  length-each_extent (Then e rest) =
      let both = length-append (alternative_extents e) (alternative_extents_of_each rest) in
      omega (arith, both, length-extents e, length-each_extent rest)

pub length-extents_of_rules : (rules : List Rule)
    → length (extents_of_alternatives rules) ≡ alternatives_of_rules rules
length-extents_of_rules [] = refl
length-extents_of_rules (r ∷ rs) =
    let both = length-append (alternative_extents r.body) (extents_of_alternatives rs) in
    omega (arith, both, length-extents r.body, length-extents_of_rules rs)

length-doubled : (spans : List Extent) → length (doubled spans) ≡ 2 * length spans
length-doubled [] = refl
length-doubled (span ∷ spans) = omega (arith, length-doubled spans)

-- each marker has an extent
pub length-marker_extents : (rules : List Rule) → length (marker_extents rules) ≡ markers_of_rules rules
length-marker_extents rules =
    let spans = map (λ (rule : Rule). rule.span) rules in
    let both = length-append (doubled (extents_of_alternatives rules)) spans in
    let own = length-map rules (λ (rule : Rule). rule.span) in
    omega (arith, both, own, length-doubled (extents_of_alternatives rules), length-extents_of_rules rules)

-- the rules from an index on begin with the rule of that index
pub dropped_rule : (rules : List Rule) (i : ℕ) → i < length rules
    → (r : Rule) × (slice_get rules i ≡ Some r) × (drop i rules ≡ r ∷ drop (i + 1) rules)
dropped_rule [] i within = absurd (omega (arith, within))
dropped_rule (r ∷ rs) zero within = (r, refl, refl)
dropped_rule (r ∷ rs) (suc i) within =
    let later = dropped_rule rs i (omega (arith, within)) in (
      later.0,
      later.1,
      later.2
          ∙ ap (λ l. later.0 ∷ l) (ap (λ n. drop n (r ∷ rs)) (let at : suc (i + 1) ≡ suc i + 1 = omega arith in at)),
    )

-- a list has one rule at an index
pub same_rule : (rules : List Rule) (i : ℕ) (r other : Rule) → slice_get rules i ≡ Some r → slice_get rules i ≡ Some other
    → r ≡ other
same_rule rules i r other is there = let both : Some r ≡ Some other = sym is ∙ there in cc

-- the span of a rule
pub span_at : (rules : List Rule) (i : ℕ) (r : Rule) (span : Extent) → slice_get rules i ≡ Some r
    → option_map (λ (one : Rule). one.span) (slice_get rules i) ≡ Some span → r.span ≡ span
span_at rules i r span is found =
    let both : Some r.span ≡ Some span = ap (option_map (λ (one : Rule). one.span)) (sym is) ∙ found in cc

-- the expression of a rule
pub body_of : (rules : List Rule) (i : ℕ) (r : Rule) (body : Form) → slice_get rules i ≡ Some r
    → option_map (λ (one : Rule). one.body) (slice_get rules i) ≡ Some body → r.body ≡ body
body_of rules i r body is found =
    let both : Some r.body ≡ Some body = ap (option_map (λ (one : Rule). one.body)) (sym is) ∙ found in cc
