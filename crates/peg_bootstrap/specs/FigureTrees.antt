-- The metagrammar trees of whole files, and the faults of their counts.
use Rattle.std.specs.Prelude.{ℕ, ◌≤◌, List, codes}
use Rattle.peg_metagrammar.specs.Nesting.{nesting, max_open}
use Rattle.peg_metagrammar.specs.Notation.{Matches, IsFirstBadCount}
use Rattle.peg_bootstrap.specs.declared.fault.DefinitionsFault.{DefinitionsFault}
use Rattle.peg_bootstrap.specs.declared.fault.DefinitionsFault.TheVariants.{TooNested, BadCount, Memory}
use Rattle.peg_tree.specs.Trees.{Trees}

-- the tree that the metagrammar gives for a file
abbrev pub IsTreeOf : List ℕ → Trees → Type 0
IsTreeOf file tree = (end : ℕ) × Matches file (codes "Grammar") 0 end tree

-- a fault that names a count comes from a tree within the nesting limit, and names its first count that is out of range
abbrev pub HasNestingOrBadCount : List ℕ → Trees → DefinitionsFault → Type 0
HasNestingOrBadCount file tree TooNested = Unit {0}
HasNestingOrBadCount file tree (BadCount at) = (nesting tree ≤ max_open) × IsFirstBadCount file tree at
HasNestingOrBadCount file tree Memory = Unit {0}
