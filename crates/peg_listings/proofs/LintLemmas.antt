-- The printed warnings, in order; none contains a float.
use Rattle.std.proofs.Common.{◌≡◌, ℕ, ◌+◌, ◌-◌, Bool, false, ◌||◌, List, [], ◌∷◌, map, Option, None, Some, unwrap_or}
use Rattle.std.proofs.Common.{codes, refl, subst, suc, sym, ap, ◌∙◌}
use Rattle.std.proofs.lemmas.Option.{slice_get-map, unwrap_or-slice_get}
use Rattle.serde.specs.Event.{Log, Logs}
use Rattle.serde.specs.Event as event
use Rattle.serde.specs.declared.name.Case.TheVariants.{AsIs}
use Rattle.serde_json.specs.Data.{Members, object}
use Rattle.serde_json.specs.Events.{SendsMembers, SendsValue, members_len}
use Rattle.serde_json.specs.View.{items_of}
use Rattle.serde_json.specs.Written.{has_float, items_have_float, members_have_float}
use Rattle.peg_bytes.specs.Place.{line_at, column_at}
use Rattle.peg_bytes.specs.Extent.{extent}
use Rattle.peg_bytes.specs.declared.span.Span.{Span}
use Rattle.peg_semantics.specs.Rules.{Rule, names, name_of}
use Rattle.peg_tree.specs.Names.{name_at}
use Rattle.peg_lint.specs.declared.warning.Warning.{Warning}
use Rattle.peg_listings.specs.LintText.{lint_data, placed_data, placed_members, warning_data, with_cause}
use Rattle.peg_listings.specs.Positions.{IsPositionIn}
use Rattle.peg_listings.specs.Extents.{extent_data}
use Rattle.peg_listings.specs.declared.positions.Position.{Position}

-- the name of a rule, by its number
name-numbered : (rules : List Rule) (k : ℕ) → name_at (names rules) k ≡ name_of rules k
name-numbered rules k =
    sym (unwrap_or-slice_get (names rules) k [])
    ∙ ap (λ (o : Option (List ℕ)). unwrap_or o []) (slice_get-map (λ r. r.name) rules k)

-- a warning printed at the position of its start, with the name of its rule
pub placed-is : (file : List ℕ) (rules : List Rule) (warning : Warning) (position : Position) (rule : List ℕ)
    → IsPositionIn file position → position.at ≡ warning.span.start → rule ≡ name_of rules warning.rule
    → placed_data position.line (1 + (position.at - position.start)) rule warning
    ≡ warning_data file (names rules) warning
placed-is file rules warning position rule placed at named =
    let line : position.line ≡ line_at file warning.span.start = placed.line ∙ ap (line_at file) at in
    let column : 1 + (position.at - position.start) ≡ column_at file warning.span.start =
    ap (λ (n : ℕ). 1 + (position.at - n)) placed.start ∙ ap (column_at file) at in
    let name : rule ≡ name_at (names rules) warning.rule = named ∙ sym (name-numbered rules warning.rule) in
    λ i. placed_data (line i) (column i) (name i) warning

-- the beginning of a warning without a cause
pub bare-begun : (by : Option Span) (rest : Members) (old mid last : Log) → by ≡ None
    → Logs old mid (event.map_begins (Some 7)) → members_len rest ≡ 7 → SendsMembers rest mid last
    → SendsValue (object (with_cause by rest)) old last
bare-begun by rest old mid last is begins count sent =
    subst (λ (b : Option Span). SendsValue (object (with_cause b rest)) old last) (sym is)
    (mid, subst (λ (n : ℕ). Logs old mid (event.map_begins (Some n))) (sym count) begins, sent)

-- the beginning of a warning with a cause
pub caused-begun : (by : Option Span) (span : Span) (rest : Members) (old mid named inner last : Log) → by ≡ Some span
    → Logs old mid (event.map_begins (Some 8)) → members_len rest ≡ 7
    → Logs mid named (event.field_key (codes "by") AsIs) → SendsValue (extent_data (extent span)) named inner
    → SendsMembers rest inner last → SendsValue (object (with_cause by rest)) old last
caused-begun by span rest old mid named inner last is begins count key place sent =
    subst (λ (b : Option Span). SendsValue (object (with_cause b rest)) old last) (sym is) (
      mid,
      subst (λ (n : ℕ). Logs old mid (event.map_begins (Some (suc n)))) (sym count) begins,
      (named, inner, key, place, sent),
    )

-- ---- no floats

cause-without_floats : (by : Option Span) (others : Members) → members_have_float others ≡ false
    → members_have_float (with_cause by others) ≡ false
cause-without_floats None others clear = clear
cause-without_floats (Some span) others clear = clear

placed-without_floats : (line column : ℕ) (rule : List ℕ) (warning : Warning)
    → has_float (placed_data line column rule warning) ≡ false
placed-without_floats line column rule warning =
    cause-without_floats warning.by (placed_members line column rule warning) refl

warnings-without_floats : (file : List ℕ) (names : List (List ℕ)) (warnings : List Warning)
    → items_have_float (items_of (map (warning_data file names) warnings)) ≡ false
warnings-without_floats file names [] = refl
warnings-without_floats file names (warning ∷ warnings) =
    ap (λ (b : Bool). b || items_have_float (items_of (map (warning_data file names) warnings)))
    (placed-without_floats (line_at file warning.span.start) (column_at file warning.span.start)
    (name_at names warning.rule) warning)
    ∙ warnings-without_floats file names warnings

pub lint-without_floats : (file : List ℕ) (names : List (List ℕ)) (warnings : List Warning)
    → has_float (lint_data file names warnings) ≡ false
lint-without_floats file names warnings =
    ap (λ (b : Bool). b || false) (warnings-without_floats file names warnings)
