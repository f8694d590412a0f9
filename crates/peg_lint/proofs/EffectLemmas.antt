-- The records of an operator, where its part never matches or never fails.
use Rattle.std.proofs.Common.{◌≡◌, ◌≢◌, ℕ, zero, suc, List, Option, None, Some, refl, sym, ap, ◌∙◌}
use Rattle.peg_bytes.specs.Extent.{Extent}
use Rattle.peg_tree.specs.Trees.{Trees, NoTrees}
use Rattle.peg_semantics.specs.Form.{Form, Optional, Star, And, Not}
use Rattle.peg_semantics.specs.Record.{Recognition, Failed, Matched, Record, matched_at, choice_result, or_else, if_matched}
use Rattle.peg_semantics.specs.Record.{if_failed, with_result, record_in, IsRecord}
use Rattle.peg_semantics.specs.Rules.{Rule}
use Rattle.peg_semantics.proofs.ResultSteps.{map_cases, or_cases, rounds_cases}
use Rattle.peg_lint.specs.Never.{NeverFails, NeverMatches, MatchesNothing, HasRecordsOf}

-- no result is both a failure and a match
not_both : (x : Recognition) (end : ℕ) (trees : Trees) → x ≡ Failed → x ≡ Matched end trees → ⊥
not_both x end trees failed matched = let bad : Failed ≡ Matched end trees = sym failed ∙ matched in cc

matched_at-result : (position : ℕ) (r : Record) → Some (matched_at position) ≡ Some r
    → r.result ≡ Matched position NoTrees
matched_at-result position r is =
    let same : matched_at position ≡ r = cc in ap (λ (r : Record). r.result) (sym same)

if_matched-some : (position : ℕ) (x : Recognition) → x ≢ Failed → if_matched x position ≡ Matched position NoTrees
if_matched-some position Failed matched = absurd (matched refl)
if_matched-some position (Matched end trees) matched = refl

if_failed-none : (position : ℕ) (x : Recognition) → x ≢ Failed → if_failed x position ≡ Failed
if_failed-none position Failed matched = absurd (matched refl)
if_failed-none position (Matched end trees) matched = refl

module _ (rules : List Rule) (part : Form) (span : Extent) where
  pub optional-nothing : NeverMatches rules part → MatchesNothing rules (Optional part span)
  unfolding record_in
  optional-nothing never text terminal position r (zero, at) = cc
  optional-nothing never text terminal position r (suc n, at) =
      or_cases (λ x. x ≡ Matched position NoTrees) (record_in rules text n part terminal position)
      (Some (matched_at position)) r
      (λ one end trees tried matched. absurd
      (not_both one.result end trees (never text terminal position one (n, tried)) matched))
      (λ one more tried failed other. matched_at-result position more other) at

  pub optional-same : NeverFails rules part → HasRecordsOf rules (Optional part span) part
  unfolding record_in
  optional-same never text terminal position r (zero, at) = absurd cc
  optional-same never text terminal position r (suc n, at) = by (record_in rules text n part terminal position) refl at
    where
      by : (tried : Option Record) → record_in rules text n part terminal position ≡ tried
          → or_else tried (Some (matched_at position)) ≡ Some r → IsRecord rules text part terminal position r
      by None is whole = absurd cc
      by (Some one) is whole = here one.result refl whole
        where
          here : (x : Recognition) → one.result ≡ x → choice_result x one (Some (matched_at position)) ≡ Some r
              → IsRecord rules text part terminal position r
          here Failed failed same = absurd (never text terminal position one (n, is) failed)
          here (Matched end trees) matched same = (n, is ∙ same)

  pub star-nothing : NeverMatches rules part → MatchesNothing rules (Star part span)
  unfolding record_in
  star-nothing never text terminal position r (zero, at) = cc
  star-nothing never text terminal position r (suc n, at) =
      rounds_cases (λ x. x ≡ Matched position NoTrees) (record_in rules text n part terminal position) position
      (λ end. record_in rules text n (Star part span) terminal end) r (λ one tried failed. refl)
      (λ one more end trees tried matched next. absurd
      (not_both one.result end trees (never text terminal position one (n, tried)) matched)) at

  pub and-fails : NeverMatches rules part → NeverMatches rules (And part span)
  unfolding record_in
  and-fails never text terminal position r (zero, at) = cc
  and-fails never text terminal position r (suc n, at) =
      map_cases (λ x. x ≡ Failed) (record_in rules text n part terminal position)
      (λ (r : Record). with_result r (if_matched r.result position)) r
      (λ one tried. ap (λ x. if_matched x position) (never text terminal position one (n, tried))) at

  pub and-nothing : NeverFails rules part → MatchesNothing rules (And part span)
  unfolding record_in
  and-nothing never text terminal position r (zero, at) = cc
  and-nothing never text terminal position r (suc n, at) =
      map_cases (λ x. x ≡ Matched position NoTrees) (record_in rules text n part terminal position)
      (λ (r : Record). with_result r (if_matched r.result position)) r
      (λ one tried. if_matched-some position one.result (never text terminal position one (n, tried))) at

  pub not-fails : NeverFails rules part → NeverMatches rules (Not part span)
  unfolding record_in
  not-fails never text terminal position r (zero, at) = cc
  not-fails never text terminal position r (suc n, at) =
      map_cases (λ x. x ≡ Failed) (record_in rules text n part terminal position)
      (λ (r : Record). with_result r (if_failed r.result position)) r
      (λ one tried. if_failed-none position one.result (never text terminal position one (n, tried))) at

  pub not-nothing : NeverMatches rules part → MatchesNothing rules (Not part span)
  unfolding record_in
  not-nothing never text terminal position r (zero, at) = cc
  not-nothing never text terminal position r (suc n, at) =
      map_cases (λ x. x ≡ Matched position NoTrees) (record_in rules text n part terminal position)
      (λ (r : Record). with_result r (if_failed r.result position)) r
      (λ one tried. ap (λ x. if_failed x position) (never text terminal position one (n, tried))) at
