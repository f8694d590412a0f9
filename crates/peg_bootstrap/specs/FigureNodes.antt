-- Describes code: nodes of a metagrammar tree over a file.
use Rattle.std.specs.Prelude.{ℕ, List, if◌then◌else◌, ◌==◌}
use Rattle.peg_bytes.specs.Extent.{Extent}
use Rattle.peg_metagrammar.specs.FigureRules.{and_sign_rule, not_sign_rule, question_rule, star_rule}
use Rattle.peg_metagrammar.specs.Notation.{Matches, IsFirstBadCount}
use Rattle.peg_semantics.specs.Form.{Form, And, Not, Optional, Star, Plus}
use Rattle.peg_tree.specs.Branches.{tree_of_branch}
use Rattle.peg_tree.specs.Trees.{Trees, NoTrees, Tree}
use Rattle.peg_tree.specs.declared.forest.Branch.{Branch}
use Rattle.peg_bootstrap.specs.declared.fault.DefinitionsFault.{DefinitionsFault}
use Rattle.peg_bootstrap.specs.declared.fault.DefinitionsFault.TheVariants.{TooNested, BadCount, Memory}

-- a node is a match of the metagrammar rule with this name
abbrev pub IsNode : List ℕ → (name : List ℕ) → Branch → Type 0
IsNode file name node = Matches file name node.span.start node.span.end (tree_of_branch node)

-- the start of the last of the trees; `position` if there are none
abbrev pub last_start : (position : ℕ) → Trees → ℕ
last_start position NoTrees = position
last_start position (Tree rule start end children rest) = last_start start rest

-- the expression that the operator of this rule makes of another one
abbrev pub sign_form : (rule : ℕ) → Form → Extent → Form
sign_form rule =
    if rule == and_sign_rule then And
    else (if rule == not_sign_rule then Not
    else (if rule == question_rule then Optional
    else (if rule == star_rule then Star else Plus)))

-- a fault that names a count names the first one of the trees that is out of range
abbrev pub HasBadCount : List ℕ → Trees → DefinitionsFault → Type 0
HasBadCount file trees TooNested = Unit {0}
HasBadCount file trees (BadCount at) = IsFirstBadCount file trees at
HasBadCount file trees Memory = Unit {0}
