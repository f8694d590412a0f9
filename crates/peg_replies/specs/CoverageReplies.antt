-- The reply that says what texts use of an accepted grammar.
use Rattle.std.specs.Prelude.{◌≡◌, ◌≢◌, ℕ, All, List, None, Option, Some, length, map}
use Rattle.peg_coverage.specs.Covered.{AreParsed, ParsedText, is_made}
use Rattle.peg_coverage.specs.CoverageFaults.{IsCoverageRefusal}
use Rattle.peg_coverage.specs.Unused.{unused_alternatives, unused_rules}
use Rattle.peg_coverage.specs.declared.fault.CoverageFault.{CoverageFault}
use Rattle.peg_coverage.specs.declared.fault.CoverageFault.TheVariants as coverage
use Rattle.peg_coverage.specs.declared.text_match.RequiredMatch.{RequiredMatch}
use Rattle.peg_coverage_files.specs.CoveringFaults.{IsFirst, IsParsable, IsTooLong}
use Rattle.peg_coverage_files.specs.NamedTexts.{texts_in}
use Rattle.peg_io.specs.NamedFile.{NamedFile, IsMissing}
use Rattle.peg_json.specs.CoverageText.{named_use}
use Rattle.peg_json.specs.Reply.{Reply, Refused, Covered, NoCoverage}
use Rattle.peg_parser.specs.Cause.{NoSuchStart, TextTooLong}
use Rattle.peg_semantics.specs.Rules.{Rule}
use Rattle.peg_semantics.specs.Starts.{start_name}

-- The reply to a request for what the texts in files use of a grammar from a start, with a memo of this capacity and an
-- optional step limit. `needed` says how much of a text has to match, for it to count as a match. A rule or an
-- alternative is unused if it matches nowhere on the way to the record of a text by Ford's relation for the grammar as
-- written, predicates included. Each unused one is listed with whether it is tried. A text whose parse by the marked
-- grammar takes more steps than the limit may be stopped, and is without a memo. It has no attempts. If a text isn't
-- there, there is no reply about a text after it.
pub data CoversTo (rules : List Rule) (files : List NamedFile) (start : Option (List ℕ)) (memo : ℕ) (steps : Option ℕ)
    (needed : RequiredMatch) : Reply → Type 0 where
  marked_over_limit : (why : CoverageFault) → why ≢ coverage.Memory → IsCoverageRefusal rules why
      → CoversTo rules files start memo steps needed NoCoverage
  start_unknown : (name : List ℕ) → start ≡ Some name → start_name rules start ≡ None
      → CoversTo rules files start memo steps needed (Refused (NoSuchStart name))
  a_text_over_limit : IsFirst IsParsable IsTooLong files
      → CoversTo rules files start memo steps needed (Refused TextTooLong)
  has_coverage : {from : List ℕ} {parsed : List ParsedText} {matched : ℕ} {stopped : List ℕ}
      → start_name rules start ≡ Some from → All (λ (file : NamedFile). ¬ IsMissing file) files
      → AreParsed rules from record { start = start; memo = memo; steps = steps } needed (texts_in files) parsed matched
      stopped
      → CoversTo rules files start memo steps needed (Covered (length files) matched stopped
      (map (named_use rules) (unused_rules rules (is_made parsed))) (unused_alternatives rules (is_made parsed)))
