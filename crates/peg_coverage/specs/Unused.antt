-- The rules and alternatives that match in no text, and whether they are tried.
use Rattle.std.specs.Prelude.{◌≡◌, ℕ, Bool, List, Option, filter, length, map, not, slice_index_or}
use Rattle.std.specs.List.{range_with_len}
use Rattle.peg_bytes.specs.Extent.{Extent, between, extent}
use Rattle.peg_diagnostics.specs.Attempts.{Attempt, TriedRule, MatchedRule, TriedAlternative, MatchedAlternative}
use Rattle.peg_diagnostics.specs.Marked.{extents_of_alternatives}
use Rattle.peg_semantics.specs.Rules.{Rule}
use Rattle.peg_coverage.specs.Covered.{AreParsed, ParsedText, ParseSettings, is_made}
use Rattle.peg_coverage.specs.declared.coverage.Coverage.{Coverage}
use Rattle.peg_coverage.specs.declared.coverage.UnusedAlternative.{UnusedAlternative}
use Rattle.peg_coverage.specs.declared.coverage.UnusedRule.{UnusedRule}
use Rattle.peg_coverage.specs.declared.text_match.RequiredMatch.{RequiredMatch}

-- the numbers below `count` that don't match
abbrev pub unmatched : (matches : ℕ → Bool) → (count : ℕ) → List ℕ
unmatched matches count = filter (λ number. not (matches number)) (range_with_len 0 count)

-- a rule by its number, and whether it is tried
abbrev pub RuleUse : Type 0
RuleUse = ℕ × Bool

-- an alternative by its extent, and whether it is tried
abbrev pub AlternativeUse : Type 0
AlternativeUse = Extent × Bool

-- The rules that don't match, in ascending order, if `made` says which attempts are made.
abbrev pub unused_rules : List Rule → (made : Attempt → Bool) → List RuleUse
unused_rules rules made =
    map (λ rule. (rule, made (TriedRule rule))) (unmatched (λ rule. made (MatchedRule rule)) (length rules))

-- The alternatives that don't match, in written order.
abbrev pub unused_alternatives : List Rule → (made : Attempt → Bool) → List AlternativeUse
unused_alternatives rules made =
    let extents = extents_of_alternatives rules in
    map (λ number. (slice_index_or extents number (between 0 0), made (TriedAlternative number)))
    (unmatched (λ number. made (MatchedAlternative number)) (length extents))

abbrev pub rule_use : UnusedRule → RuleUse
rule_use unused = (unused.rule, unused.tried)

abbrev pub alternative_use : UnusedAlternative → AlternativeUse
alternative_use unused = (extent unused.span, unused.tried)

-- What texts use of a grammar from a start: how many texts there are, how many match and which are stopped. The listed
-- rules and alternatives are those that match in no text's record by Ford's relation for the grammar as written,
-- predicates included. Each is listed with whether it is tried there.
pub record IsCoverageOf (rules : List Rule) (start : List ℕ) (settings : ParseSettings) (needed : RequiredMatch)
    (texts : List (Option (List ℕ))) (coverage : Coverage) : Type 0 where
  pub parsed : List ParsedText
  pub are : AreParsed rules start settings needed texts parsed coverage.matched coverage.stopped.items
  pub count : coverage.texts ≡ length texts
  pub rules_unused : map rule_use coverage.unused_rules.items ≡ unused_rules rules (is_made parsed)
  pub alternatives_unused :
      map alternative_use coverage.unused_alternatives.items ≡ unused_alternatives rules (is_made parsed)
