-- What items are: literals, tests of one byte, or predicates.
use Rattle.std.specs.Prelude.{List, map}
use Rattle.peg_semantics.specs.Form.{Any, Class, Form}
use Rattle.peg_semantics.specs.Form as form
use Rattle.peg_semantics.specs.Rules.{Rule}
use Rattle.peg_diagnostics.specs.Items.{forms_of_items}
use Rattle.peg_diagnostics.specs.declared.kinds.ItemKind.{ItemKind}
use Rattle.peg_diagnostics.specs.declared.kinds.ItemKind.TheVariants.{Byte, Literal, Predicate}

-- The kind of an expression that is an item. A class and a dot test one byte. What isn't a literal either is a
-- predicate.
abbrev pub kind_of : Form → ItemKind
kind_of (form.Literal bytes span) = Literal
kind_of (Class set span) = Byte
kind_of (Any span) = Byte
kind_of other = Predicate

-- the kinds of the rules' items, by item number
abbrev pub kinds_of_items : List Rule → List ItemKind
kinds_of_items rules = map kind_of (forms_of_items rules)
