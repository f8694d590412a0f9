-- The form that a node denotes among numbered core forms.
use Rattle.std.specs.Prelude.{◌≡◌, ℕ, ◌<◌, List}
use Rattle.peg_bytes.specs.ByteSet.{bytes_of}
use Rattle.peg_bytes.specs.Extent.{Extent}
use Rattle.peg_core.specs.CoreForm.{CoreForm, Empty, Test, Rule, Seq, Choice, Star, Not}
use Rattle.peg_core.specs.Layout.{form_at}
use Rattle.peg_core.specs.declared.node.Node.{Node}
use Rattle.peg_core.specs.declared.node.Node.TheVariants as node

-- the form of a node whose parts are among these, written at this span
abbrev pub shape : List CoreForm → Extent → Node → CoreForm
shape forms origin node.Empty = Empty
shape forms origin (node.Test set terminal) = Test (bytes_of set) terminal
shape forms origin (node.Rule rule) = Rule rule
shape forms origin (node.Seq first rest) = Seq (form_at forms first) (form_at forms rest)
shape forms origin (node.Choice first rest) = Choice (form_at forms first) (form_at forms rest)
shape forms origin (node.Star part) = Star (form_at forms part) origin
shape forms origin (node.Not part) = Not (form_at forms part)

-- the parts of a node have smaller numbers than `number`, its rule is one of `rules`, and its terminal one of
-- `terminals`
abbrev pub NodeFits : (number rules terminals : ℕ) → Node → Type 0
NodeFits number rules terminals node.Empty = Unit {0}
NodeFits number rules terminals (node.Test set terminal) = terminal < terminals
NodeFits number rules terminals (node.Rule rule) = rule < rules
NodeFits number rules terminals (node.Seq first rest) = (first < number) × (rest < number)
NodeFits number rules terminals (node.Choice first rest) = (first < number) × (rest < number)
NodeFits number rules terminals (node.Star part) = part < number
NodeFits number rules terminals (node.Not part) = part < number

-- the form with a number is the form of the node
abbrev pub IsFormOfNode : List CoreForm → ℕ → Node → Type 0
IsFormOfNode forms number node = (origin : Extent) × (form_at forms number ≡ shape forms origin node)

-- the form with a number is a star written at this span
abbrev pub IsStarFrom : List CoreForm → ℕ → Extent → Type 0
IsStarFrom forms number origin = (part : CoreForm) × (form_at forms number ≡ Star part origin)
