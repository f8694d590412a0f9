-- Describes code: what is read of a text, and what texts use so far.
use Rattle.std.specs.Prelude.{◌≡◌, ℕ, ◌+◌, ◌<◌, ◌≤◌, ◌++◌, All, Bool, false, ◌||◌, IfSome, List, [], Option, length}
use Rattle.std.specs.declared.io.ErrorKind.{ErrorKind}
use Rattle.peg_coverage.specs.Covered.{HaveCovered, IsAttemptIn, IsParsed, ParsedText, ParseSettings, has_noted, makes}
use Rattle.peg_coverage.specs.declared.coverage.Coverage.{Coverage}
use Rattle.peg_coverage.specs.declared.coverage.UnusedRule.{UnusedRule}
use Rattle.peg_coverage.specs.declared.text_match.RequiredMatch.{RequiredMatch}
use Rattle.peg_diagnostics.specs.Attempts.{Attempt}
use Rattle.peg_grammar.specs.Limits.{max_text_bytes}
use Rattle.peg_semantics.specs.Rules.{Rule}
use Rattle.peg_tree.specs.Selected.{has_rule}
use Rattle.peg_coverage_files.specs.TextEnds.{end_of, matches_of, stops_of}
use Rattle.peg_coverage_files.specs.declared.counts.TextEnd.{TextEnd}
use Rattle.peg_coverage_files.specs.declared.covered.CoveredTexts.{CoveredTexts}
use Rattle.peg_coverage_files.specs.declared.fault.CoveringFault.{CoveringFault}
use Rattle.peg_coverage_files.specs.declared.fault.CoveringFault.TheVariants.{File, Input, NoSuchStart, TextTooLong, Memory}

-- what is read of a file, if its bytes are specified: all of them, or more than a text may have
pub record IsReadOf (known : Option (List ℕ)) (text : List ℕ) : Type 0 where
  pub longer : max_text_bytes < length text → IfSome known (λ bytes. max_text_bytes < length bytes)
  pub whole : length text ≤ max_text_bytes → IfSome known (λ bytes. bytes ≡ text)

-- Why nothing is read of a file with a name. Reads of a reliable file don't fail. The kind of the error of opening it
-- may be known.
abbrev pub IsReadFault : (name : List ℕ) → (reliable : Bool) → (known : Option ErrorKind) → CoveringFault → Type 0
IsReadFault name reliable known (File unread kind) =
    (unread.now ≡ name) × (reliable ≡ false) × IfSome known (λ error. kind ≡ error)
IsReadFault name reliable known Input = ⊥
IsReadFault name reliable known NoSuchStart = ⊥
IsReadFault name reliable known TextTooLong = ⊥
IsReadFault name reliable known Memory = Unit {0}

-- The set gets the attempts of a text, and keeps those it had.
abbrev pub HasCoveredText : List Rule → (start : List ℕ) → ParseSettings → RequiredMatch → (text : Option (List ℕ))
    → (before after : List Bool) → TextEnd → Type 0
HasCoveredText rules start settings needed text before after end = (item : ParsedText) × (item.text ≡ text)
    × IsParsed rules start settings item × (end ≡ end_of needed item.outcome)
    × ((attempt : Attempt) → IsAttemptIn rules attempt
    → has_noted rules after attempt ≡ (makes attempt item.outcome || has_noted rules before attempt))

-- a text is covered: the set gets its attempts, and it is counted by how its parse ends
pub record AddsText (rules : List Rule) (start : List ℕ) (settings : ParseSettings) (needed : RequiredMatch)
    (text : Option (List ℕ)) (before after : CoveredTexts) : Type 0 where
  pub end : TextEnd
  pub covered : HasCoveredText rules start settings needed text before.used after.used end
  pub texts : after.counts.texts ≡ before.counts.texts + 1
  pub matched : after.counts.matched ≡ before.counts.matched + matches_of end
  pub stopped : after.counts.stopped.items ≡ before.counts.stopped.items ++ stops_of before.counts.texts end

-- These texts are covered, and counted. The set has their attempts, and what it had before them.
pub record AreCovered (rules : List Rule) (start : List ℕ) (settings : ParseSettings) (needed : RequiredMatch)
    (texts : List (Option (List ℕ))) (before : List Bool) (covered : CoveredTexts) : Type 0 where
  pub have : HaveCovered rules start settings needed texts before covered.used covered.counts.matched
      covered.counts.stopped.items
  pub count : covered.counts.texts ≡ length texts

-- no text is covered
pub record IsFresh (covered : CoveredTexts) : Type 0 where
  pub empty : (rule : ℕ) → has_rule covered.used rule ≡ false
  pub none : (rules : List Rule) (start : List ℕ) (settings : ParseSettings) (needed : RequiredMatch)
      → AreCovered rules start settings needed [] covered.used covered

-- the unused rules are rules of the grammar, and the stopped texts are among the texts
pub record ListsWithin (rules : List Rule) (coverage : Coverage) : Type 0 where
  pub rules_within : All (λ (unused : UnusedRule). unused.rule < length rules) coverage.unused_rules.items
  pub texts_within : All (λ (number : ℕ). number < coverage.texts) coverage.stopped.items
