use Rattle.std.proofs.Common.{◌≡◌, ℕ, All, Bool, List, [], Some, length, map, string_bytes, take}
use Rattle.peg_coverage.specs.CoverageParser.{IsCoverageParserOf}
use Rattle.peg_coverage.specs.Covered.{settings_of}
use Rattle.peg_coverage_files.specs.CoveredTexts.{AreCovered}
use Rattle.peg_coverage_files.specs.CoveringFaults.{IsParsable}
use Rattle.peg_coverage_files.specs.NamedTexts.{files_named, texts_in}
use Rattle.peg_io.specs.NamedFile.{NamedFile, IsMissing}
use Rattle.peg_parser.specs.Parser.{start_named}
use Rattle.peg_semantics.specs.Rules.{Rule}
use Rattle.peg_semantics.specs.Starts.{start_name}
use Rattle.peg_coverage_files.proofs.covering.cover_texts.Given as goal

-- the first texts are covered, and can all be opened
abbrev pub invariant-names : goal.invariant-names
invariant-names g l =
    let files = files_named (g.O.Opener.file_at l.files) (take l.name-index l.names) in
    record {
      size : length l.covered.used ≡ length l.initial.covered.used;
      covered : (rules : List Rule) (start : List ℕ) (before : List Bool) → IsCoverageParserOf rules l.parser
          → start_name rules (start_named l.options) ≡ Some start
          → AreCovered rules start (settings_of l.options) l.needed [] before l.initial.covered
          → AreCovered rules start (settings_of l.options) l.needed (texts_in files) before l.covered;
      present : All (λ (file : NamedFile). ¬ IsMissing file) files;
      parsable : (rules : List Rule) → IsCoverageParserOf rules l.parser
          → All (λ (name : List ℕ). IsParsable (g.O.Opener.file_at l.files name))
          (map string_bytes (take l.name-index l.names));
    }
