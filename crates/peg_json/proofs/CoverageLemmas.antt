-- What texts use of a grammar, printed.
use Rattle.std.proofs.Common.{◌≡◌, ◌∙◌, ℕ, ◌+◌, ◌-◌, ◌<◌, List, [], ◌∷◌, Bool, false, ◌||◌, Option, Some, length, map, option_map, slice_get}
use Rattle.std.proofs.Common.{ap, arith, get_or, refl, sym, unwrap_or}
use Rattle.std.proofs.lemmas.List.{get_or-map, length-map}
use Rattle.serde_json.specs.Data.{Members}
use Rattle.serde_json.specs.View.{items_of}
use Rattle.serde_json.specs.Written.{has_float, items_have_float, members_have_float}
use Rattle.peg_bytes.specs.Extent.{Extent, between, extent}
use Rattle.peg_bytes.specs.Place.{line_at, column_at}
use Rattle.peg_bytes.specs.declared.span.Span.{Span}
use Rattle.peg_coverage.specs.Unused.{AlternativeUse}
use Rattle.peg_semantics.specs.Rules.{Rule, name_of}
use Rattle.peg_json.specs.CoverageText.{alternative_data, coverage_data, placed_alternative, placed_rule}
use Rattle.peg_json.specs.CoverageText.{NamedUse, coverage_members, named_use, reference_at, unused_rule_data, with_stopped}
use Rattle.peg_listings.specs.Positions.{IsPositionIn}
use Rattle.peg_listings.specs.declared.positions.Position.{Position}

-- an alternative printed at the position of its start
pub alternative-is : (file : List ℕ) (span : Span) (tried : Bool) (position : Position) → IsPositionIn file position
    → position.at ≡ span.start
    → placed_alternative position.line (1 + (position.at - position.start)) position.at span.end tried
    ≡ alternative_data file (extent span, tried)
alternative-is file span tried position placed at =
    let line : position.line ≡ line_at file span.start = placed.line ∙ ap (line_at file) at in
    let column : 1 + (position.at - position.start) ≡ column_at file span.start =
    ap (λ (n : ℕ). 1 + (position.at - n)) placed.start ∙ ap (column_at file) at in
    λ i. placed_alternative (line i) (column i) (at i) span.end tried

-- a rule printed at the position of its name
pub rule-is : (file : List ℕ) (rules : List Rule) (nth : ℕ) (tried : Bool) (span : Span) (position : Position)
    (name : List ℕ) → IsPositionIn file position → position.at ≡ span.start → name ≡ name_of rules nth
    → option_map (λ r. r.span) (slice_get rules nth) ≡ Some (extent span)
    → placed_rule position.line (1 + (position.at - position.start)) name position.at span.end tried
    ≡ unused_rule_data file (named_use rules (nth, tried))
rule-is file rules nth tried span position name placed at named defined =
    let line : position.line ≡ line_at file span.start = placed.line ∙ ap (line_at file) at in
    let column : 1 + (position.at - position.start) ≡ column_at file span.start =
    ap (λ (n : ℕ). 1 + (position.at - n)) placed.start ∙ ap (column_at file) at in
    let whole : extent span ≡ (reference_at rules nth).span =
    sym (ap (λ (e : Option Extent). unwrap_or e (between 0 0)) defined) in
    let reference : Extent → NamedUse = λ e. (record { name = name_of rules nth; span = e }, tried) in
    (λ i. placed_rule (line i) (column i) (named i) (at i) span.end tried)
    ∙ ap (λ (e : Extent). unused_rule_data file (reference e)) whole

-- an item of a list that is mapped twice
pub twice-mapped : {X Y Z : Type 0} (f : Y → Z) (g : X → Y) (xs : List X) (i : ℕ) (x d : X) → i < length xs
    → x ≡ get_or xs i d → get_or (map f (map g xs)) i (f (g x)) ≡ f (g x)
twice-mapped f g xs i x d within is =
    get_or-map f (map g xs) i (g x) (f (g x)) (omega (arith, within, length-map xs g))
    ∙ ap f (get_or-map g xs i d (g x) within ∙ ap g (sym is))

pub length-twice_mapped : {X Y Z : Type 0} (f : Y → Z) (g : X → Y) (xs : List X) → length (map f (map g xs)) ≡ length xs
length-twice_mapped f g xs = length-map (map g xs) f ∙ length-map xs g

-- an item of a list that is mapped three times
pub thrice-mapped : {W X Y Z : Type 0} (f : Y → Z) (g : X → Y) (h : W → X) (ws : List W) (i : ℕ) (w d : W)
    → i < length ws → w ≡ get_or ws i d → get_or (map f (map g (map h ws))) i (f (g (h w))) ≡ f (g (h w))
thrice-mapped f g h ws i w d within is =
    twice-mapped f g (map h ws) i (h w) (h w) (omega (arith, within, length-map ws h))
    (sym (get_or-map h ws i d (h w) within ∙ ap h (sym is)))

-- ---- no floats

alternatives-without_floats : (file : List ℕ) (alternatives : List AlternativeUse)
    → items_have_float (items_of (map (alternative_data file) alternatives)) ≡ false
alternatives-without_floats file [] = refl
alternatives-without_floats file (alternative ∷ alternatives) = alternatives-without_floats file alternatives

rules-without_floats : (file : List ℕ) (rules : List NamedUse)
    → items_have_float (items_of (map (unused_rule_data file) rules)) ≡ false
rules-without_floats file [] = refl
rules-without_floats file (rule ∷ rules) = rules-without_floats file rules

members-without_floats : (file : List ℕ) (texts : ℕ) (rules : List NamedUse) (alternatives : List AlternativeUse)
    → members_have_float (coverage_members file texts rules alternatives) ≡ false
members-without_floats file texts rules alternatives =
    ap (λ (b : Bool). b || (items_have_float (items_of (map (unused_rule_data file) rules)) || false))
    (alternatives-without_floats file alternatives)
    ∙ ap (λ (b : Bool). b || false) (rules-without_floats file rules)

stopped-without_floats : (stopped : List ℕ) (others : Members) → members_have_float others ≡ false
    → members_have_float (with_stopped stopped others) ≡ false
stopped-without_floats [] others clear = clear
stopped-without_floats (first ∷ more) others clear = clear

pub coverage-without_floats : (file : List ℕ) (texts matched : ℕ) (stopped : List ℕ) (rules : List NamedUse)
    (alternatives : List AlternativeUse) → has_float (coverage_data file texts matched stopped rules alternatives) ≡ false
coverage-without_floats file texts matched stopped rules alternatives =
    stopped-without_floats stopped (coverage_members file texts rules alternatives)
    (members-without_floats file texts rules alternatives)
