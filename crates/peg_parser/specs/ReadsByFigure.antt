-- What reading a grammar file by the metagrammar returns.
use Rattle.std.specs.Prelude.{◌≡◌, ◌≢◌, ℕ, ◌<◌, ◌≤◌, List, codes, length, Result, Ok, Err, IsOkAnd}
use Rattle.std.specs.declared.alloc.Global.{Global}
use Rattle.std.specs.declared.vec.Vec.{Vec}
use Rattle.peg_metagrammar.specs.Nesting.{max_open}
use Rattle.peg_metagrammar.specs.Notation.{FigureMatches, IsFirstBadCount, Matches, max_file_bytes}
use Rattle.peg_grammar.specs.Written.{rules_of}
use Rattle.peg_grammar.specs.declared.expr.Definition.{Definition}
use Rattle.peg_notation.specs.Reads.{IsReadingWithin, NestsDeeper, NestsWithin, Reads}
use Rattle.peg_tree.specs.Trees.{Trees}
use Rattle.peg_bootstrap.specs.declared.fault.DefinitionsFault.{DefinitionsFault}
use Rattle.peg_bootstrap.specs.declared.fault.DefinitionsFault.TheVariants as definitions
use Rattle.peg_parser.specs.declared.meta_reader.FigureFault.{FigureFault}
use Rattle.peg_parser.specs.declared.meta_reader.FigureFault.TheVariants.{FileTooLong, NotInFigure, TooNested, BadCount}
use Rattle.peg_parser.specs.declared.meta_reader.FigureFault.TheVariants.{Memory}

-- the metagrammar matches the file, and its first count out of range starts at this offset
abbrev pub HasFirstBadCount : List ℕ → (at : ℕ) → Type 0
HasFirstBadCount file at =
    (end : ℕ) × (trees : Trees) × Matches file (codes "Grammar") 0 end trees × IsFirstBadCount file trees at

-- The definitions are the reading of a file of the notation within the nesting limit. Each fault is true of the file,
-- except out of memory, which says nothing. No two of the cases are true of one file.
abbrev pub ReadsByFigure : List ℕ → Result (Vec Definition Global) FigureFault → Type 0
ReadsByFigure file (Ok read) =
    (length file ≤ max_file_bytes) × IsReadingWithin max_open file (rules_of read.items)
ReadsByFigure file (Err FileTooLong) = max_file_bytes < length file
ReadsByFigure file (Err NotInFigure) = (length file ≤ max_file_bytes) × (¬ FigureMatches file)
ReadsByFigure file (Err TooNested) =
    (length file ≤ max_file_bytes) × FigureMatches file × NestsDeeper max_open file
ReadsByFigure file (Err (BadCount at)) =
    (length file ≤ max_file_bytes) × NestsWithin max_open file × HasFirstBadCount file at
ReadsByFigure file (Err Memory) = Unit {0}

-- if the hand-written reader returns definitions, reading by the metagrammar returns the same rules, unless an
-- allocation fails
abbrev pub AgreesWithRead : Type 0
AgreesWithRead =
    (file : List ℕ) (read : Vec Definition Global) (other : Result (Vec Definition Global) FigureFault)
    → Reads file (Ok read) → ReadsByFigure file other → other ≢ Err Memory
    → IsOkAnd other (λ definitions. rules_of definitions.items ≡ rules_of read.items)

-- Describes code: the fault that a fault of the definitions becomes
abbrev pub of_definitions : DefinitionsFault → FigureFault
of_definitions definitions.TooNested = TooNested
of_definitions (definitions.BadCount at) = BadCount at
of_definitions definitions.Memory = Memory
