-- Which files are in the notation, and which grammar each denotes. A file is in the notation if the metagrammar matches
-- it, by Ford's recognition relation (Ford 2004, sections 2.1 and 3.3), and its counts are in range.
use Rattle.std.specs.Prelude.{◌≡◌, ℕ, List, [], ◌∷◌, codes}
use Rattle.peg_bytes.specs.Extent.{between}
use Rattle.peg_tree.specs.Trees.{Trees}
use Rattle.peg_semantics.specs.Form.{Name}
use Rattle.peg_semantics.specs.Record.{Record, Failed, Matched, IsRecord}
use Rattle.peg_semantics.specs.Rules.{Rule}
use Rattle.peg_metagrammar.specs.Figure.{figure}
use Rattle.peg_metagrammar.specs.Denotation.{bad_counts, rules_spelled}

-- the maximum length of a grammar file, in bytes
abbrev pub max_file_bytes : ℕ
max_file_bytes = 1048576

-- the metagrammar's rule of this name matches the file from `position` to `end` and leaves these trees
abbrev pub Matches : List ℕ → (name : List ℕ) → (position end : ℕ) → Trees → Type 0
Matches file name position end trees =
    (r : Record) × (IsRecord figure file (Name name (between 0 0)) 0 position r) × (r.result ≡ Matched end trees)

-- the metagrammar's rule of this name fails at offset `position` of the file
abbrev pub FailsAt : List ℕ → (name : List ℕ) → (position : ℕ) → Type 0
FailsAt file name position = (r : Record) × (IsRecord figure file (Name name (between 0 0)) 0 position r)
    × (r.result ≡ Failed)

-- the metagrammar matches the file
abbrev pub FigureMatches : List ℕ → Type 0
FigureMatches file = (end : ℕ) × (trees : Trees) × Matches file (codes "Grammar") 0 end trees

-- a file is in the notation if the metagrammar matches it and every count is in range
abbrev pub IsInNotation : List ℕ → Type 0
IsInNotation file =
    (end : ℕ) × (trees : Trees) × Matches file (codes "Grammar") 0 end trees × (bad_counts file trees ≡ [])

-- the reading of a file in the notation: the rules that the metagrammar's tree of the file denotes
abbrev pub IsReading : List ℕ → List Rule → Type 0
IsReading file rules =
    (end : ℕ) × (trees : Trees) × Matches file (codes "Grammar") 0 end trees × (bad_counts file trees ≡ [])
    × (rules ≡ rules_spelled file trees)

-- in the metagrammar's tree of a file, the first count that is out of range starts at offset `at`
abbrev pub IsFirstBadCount : List ℕ → Trees → (at : ℕ) → Type 0
IsFirstBadCount file trees at = (more : List ℕ) × (bad_counts file trees ≡ at ∷ more)
