-- Core forms among numbered ones. If each is the form of a node, their parts are among them too, and so are the rules'
-- bodies.
use Rattle.std.proofs.Common.{◌≡◌, ℕ, ◌<◌, List, All, length, get_or, slice_get, Some, option_map}
use Rattle.std.proofs.Common.{refl, sym, ap, ◌∙◌, subst, arith}
use Rattle.std.proofs.lemmas.List.{length-map}
use Rattle.std.proofs.lemmas.Option.{slice_get-get_or, slice_get-map, slice_get_within}
use Rattle.peg_bytes.specs.Extent.{Extent}
use Rattle.peg_core.specs.CoreForm.{CoreForm, Empty, Test, Rule, Seq, Choice, Star, Not}
use Rattle.peg_core.specs.CoreNodes.{NodeFits, shape}
use Rattle.peg_core.specs.Layout.{Desugared, bodies_of, form_at}
use Rattle.peg_core.specs.FormsOfNodes.{AreFormsOfNodes}
use Rattle.peg_core.specs.declared.node.Node.{Node}
use Rattle.peg_core.specs.declared.node.Node.TheVariants as node

-- a form has a number among these
abbrev pub IsAmong : List CoreForm → CoreForm → Type 0
IsAmong forms form = (number : ℕ) × (number < length forms) × (form_at forms number ≡ form)

-- the parts of a form have the property
abbrev pub PartsAre : (CoreForm → Type 0) → CoreForm → Type 0
PartsAre Is Empty = Unit {0}
PartsAre Is (Test set terminal) = Unit {0}
PartsAre Is (Rule rule) = Unit {0}
PartsAre Is (Seq first rest) = Is first × Is rest
PartsAre Is (Choice first rest) = Is first × Is rest
PartsAre Is (Star part origin) = Is part
PartsAre Is (Not part) = Is part

-- a form with a smaller number than an existing one
below-among : (forms : List CoreForm) (number part : ℕ) → number < length forms → part < number
    → IsAmong forms (form_at forms part)
below-among forms number part within less = (part, omega (arith, within, less), refl)

-- the parts of the form of a node that fits
shape-among : (forms : List CoreForm) (origin : Extent) (number rules terminals : ℕ) (n : Node) → number < length forms
    → NodeFits number rules terminals n → PartsAre (IsAmong forms) (shape forms origin n)
shape-among forms origin number rules terminals node.Empty within fits = tt
shape-among forms origin number rules terminals (node.Test set terminal) within fits = tt
shape-among forms origin number rules terminals (node.Rule rule) within fits = tt
shape-among forms origin number rules terminals (node.Seq first rest) within fits =
    (below-among forms number first within fits.0, below-among forms number rest within fits.1)
shape-among forms origin number rules terminals (node.Choice first rest) within fits =
    (below-among forms number first within fits.0, below-among forms number rest within fits.1)
shape-among forms origin number rules terminals (node.Star part) within fits =
    below-among forms number part within fits
shape-among forms origin number rules terminals (node.Not part) within fits =
    below-among forms number part within fits

-- so the parts of a form among these are among them
pub parts-among : (forms : List CoreForm) (rules terminals : ℕ) → AreFormsOfNodes forms rules terminals → (form : CoreForm)
    → IsAmong forms form → PartsAre (IsAmong forms) form
parts-among forms rules terminals spelled form among =
    let spells = spelled among.0 among.1 in
    subst (PartsAre (IsAmong forms)) (sym spells.1.1 ∙ among.2)
    (shape-among forms spells.1.0 among.0 rules terminals spells.0 among.1 spells.2)

-- a property of all these forms is a property of one among them
pub held-among : (P : CoreForm → Type 0) (forms : List CoreForm) → All P forms → (form : CoreForm)
    → IsAmong forms form → P form
held-among P forms all form among = subst P among.2 (all among.0 Empty among.1)

-- a rule's body, by its number
pub body-known : (core : Desugared) (rule : ℕ) → rule < length core.bodies
    → slice_get (bodies_of core) rule ≡ Some (form_at core.forms (get_or core.bodies rule 0))
body-known core rule less =
    slice_get-map (form_at core.forms) core.bodies rule
    ∙ ap (option_map (form_at core.forms)) (slice_get-get_or core.bodies rule 0 less)

-- it is among the forms
pub body-among : (core : Desugared) → All (λ body. body < length core.forms) core.bodies
    → (rule : ℕ) (body : CoreForm) → slice_get (bodies_of core) rule ≡ Some body → IsAmong core.forms body
body-among core within rule body is =
    let counted = length-map core.bodies (form_at core.forms) in
    let there = slice_get_within (bodies_of core) rule body is in
    let less : rule < length core.bodies = omega (arith, there, counted) in
    let known = body-known core rule less in
    (get_or core.bodies rule 0, within rule 0 less, (cc))
