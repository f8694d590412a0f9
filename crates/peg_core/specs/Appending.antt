-- Describes code: how a flat list of core forms grows.
use Rattle.std.specs.Prelude.{◌≡◌, ℕ, ◌<◌, List, ◌++◌, All, length, map}
use Rattle.peg_bytes.specs.Extent.{Extent}
use Rattle.peg_semantics.specs.Form.{Form, Forms}
use Rattle.peg_semantics.specs.Rules.{Rule}
use Rattle.peg_semantics.specs.Terminals.{terminal_extents, terminal_extents_of_all}
use Rattle.peg_core.specs.CoreForm.{CoreForm, core_form, core_forms}
use Rattle.peg_core.specs.CoreParts.{core_parts, core_parts_of_all}
use Rattle.peg_core.specs.Layout.{Layout, form_at}

-- these forms and terminals were appended, and this number is the number of this form
pub record Appends (old : Layout) (parts : List CoreForm) (extents : List Extent) (form : CoreForm) (number : ℕ)
    (new : Layout) : Type 0 where
  pub forms : new.forms ≡ old.forms ++ parts
  pub spans : new.spans ≡ old.spans ++ extents
  pub rules : new.rules ≡ old.rules
  pub within : number < length new.forms
  pub last : form_at new.forms number ≡ form

-- these forms and terminals were appended, and these numbers are the numbers of these forms
pub record AppendsAll (old : Layout) (parts : List CoreForm) (extents : List Extent) (some : List CoreForm)
    (numbers : List ℕ) (new : Layout) : Type 0 where
  pub forms : new.forms ≡ old.forms ++ parts
  pub spans : new.spans ≡ old.spans ++ extents
  pub rules : new.rules ≡ old.rules
  pub within : All (λ number. number < length new.forms) numbers
  pub each : map (form_at new.forms) numbers ≡ some

-- the core forms of an expression were appended
abbrev pub AppendsForm : List Rule → Form → Layout → ℕ → Layout → Type 0
AppendsForm rules e old number new =
    let terminal = length old.spans in
    Appends old (core_parts rules terminal e) (terminal_extents e) (core_form rules terminal e) number new

-- the core forms of items or alternatives were appended
abbrev pub AppendsForms : List Rule → Forms → Layout → List ℕ → Layout → Type 0
AppendsForms rules items old numbers new =
    let terminal = length old.spans in
    AppendsAll old (core_parts_of_all rules terminal items) (terminal_extents_of_all items)
    (core_forms rules terminal items) numbers new
