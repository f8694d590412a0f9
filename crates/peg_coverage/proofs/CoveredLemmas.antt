-- What a parse by the marked grammar covers: the attempts of the grammar as written.
use Rattle.std.proofs.Common.{◌≡◌, ◌≢◌, ◌↔◌, ℕ, zero, suc, ◌+◌, ◌*◌, ◌^◌, ◌<◌, ◌≤◌, ◌==◌, ◌++◌, Bool, true, false, ◌||◌, List, [], ◌∷◌}
use Rattle.std.proofs.Common.{Contains, length, slice_index_or, Option, None, Some, refl, sym, ap, ◌∙◌, subst, arith}
use Rattle.std.proofs.Common.{le_refl}
use Rattle.std.proofs.Math.Logic.{∥∥₁_elim}
use Rattle.std.specs.List.{list_any}
use Rattle.std.proofs.lemmas.Bool.{eqb-true, eq-eqb}
use Rattle.std.proofs.lemmas.List.Elements.{Contains-append_right}
use Rattle.std.proofs.lemmas.List.Folds.{list_any-append}
use Rattle.peg_bytes.specs.Extent.{between}
use Rattle.peg_diagnostics.specs.Attempts.{Attempt, TriedRule, MatchedRule, TriedAlternative, MatchedAlternative}
use Rattle.peg_diagnostics.specs.Attempts.{IsWithin, attempts_in, has_call, shown_by}
use Rattle.peg_diagnostics.specs.Marked.{alternatives_of_rules, marked_rules, markers_of_rules}
use Rattle.peg_diagnostics.specs.MarkedResults.{IsMarkedResult}
use Rattle.peg_diagnostics.proofs.AttemptLemmas.{has_attempt-shown}
use Rattle.peg_diagnostics.proofs.Lookups.{Distinct, Contains-first}
use Rattle.peg_diagnostics.proofs.MarkedKept.{marked-record}
use Rattle.peg_semantics.specs.Depth.{max_cases}
use Rattle.peg_semantics.specs.Form.{Name}
use Rattle.peg_semantics.specs.Record.{Recognition, Failed, Matched, Record, RuleCall, start_record}
use Rattle.peg_semantics.specs.Rules.{Rule, name_of, names}
use Rattle.peg_semantics.specs.Starts.{Recognizes}
use Rattle.peg_semantics.specs.WellFormed.{IsWellFormedGrammar}
use Rattle.peg_semantics.proofs.EnoughDepth.{start-within}
use Rattle.peg_semantics.proofs.RecordLemmas.{one_record}
use Rattle.peg_tree.specs.Selected.{has_rule}
use Rattle.peg_coverage.specs.Covered.{HasCovered, has_noted, match_of}
use Rattle.peg_coverage.specs.declared.text_match.TextMatch.{TextMatch}

-- ---- tests of some element

-- two tests agree if each gives the other
pub same-test : (a b : Bool) → (a ≡ true → b ≡ true) → (b ≡ true → a ≡ true) → a ≡ b
same-test true b to from = sym (to refl)
same-test false true to from = from refl
same-test false false to from = refl

or-true : (b : Bool) → (b || true) ≡ true
or-true true = refl
or-true false = refl

module _ {X : Type 0} (p : X → Bool) where
  any-contains : (xs : List X) → list_any p xs ≡ true → (x : X) × Contains xs x × (p x ≡ true)
  any-contains [] some = cc
  any-contains (x ∷ xs) some = by (p x) refl (any-contains xs) some
    where
      by : (b : Bool) → p x ≡ b → (list_any p xs ≡ true → (y : X) × Contains xs y × (p y ≡ true))
          → (b || list_any p xs) ≡ true → (y : X) × Contains (x ∷ xs) y × (p y ≡ true)
      by true is later more = (x, Contains-first x xs, is)
      by false is later more = let at = later more in (at.0, Contains-append_right (x ∷ []) xs at.0 at.1, at.2)

  any-at : (xs : List X) (x : X) (k : ℕ) → k < length xs → slice_index_or xs k x ≡ x → p x ≡ true
      → list_any p xs ≡ true
  any-at [] x k less is holds = absurd (omega (arith, less))
  any-at (y ∷ ys) x zero less is holds = ap (λ b. b || list_any p ys) (ap p is ∙ holds)
  any-at (y ∷ ys) x (suc k) less is holds =
      ap (λ b. p y || b) (any-at ys x k (omega (arith, less)) is holds) ∙ or-true (p y)

  any-more : (xs ys : List X) → ((x : X) → Contains xs x → Contains ys x) → list_any p xs ≡ true
      → list_any p ys ≡ true
  any-more xs ys more some =
      let at = any-contains xs some in
      let there = more at.0 at.1 in
      any-at ys at.0 there.0 there.1 there.2 at.2

  -- lists of the same elements have the same tests
  pub same-any : (xs ys : List X) → ((x : X) → (Contains xs x ↔ Contains ys x)) → list_any p xs ≡ list_any p ys
  same-any xs ys same =
      same-test (list_any p xs) (list_any p ys) (any-more xs ys (λ x. (same x).0)) (any-more ys xs (λ x. (same x).1))

-- calls that are the same as a set are of the same rules
pub same-calls : (calls more : List RuleCall) → ((call : RuleCall) → (Contains calls call ↔ Contains more call))
    → (rule : ℕ) → has_call rule calls ≡ has_call rule more
same-calls calls more same rule = same-any (λ (call : RuleCall). call.rule == rule) calls more same

-- ---- one more call

last-or : (a b : Bool) → (a || (b || false)) ≡ (b || a)
last-or true true = refl
last-or true false = refl
last-or false true = refl
last-or false false = refl

-- equality of numbers is symmetric
flip-test : (a b : ℕ) → (a == b) ≡ (b == a)
flip-test a b =
    same-test (a == b) (b == a) (λ is. eq-eqb b a (sym (eqb-true a b is))) (λ is. eq-eqb a b (sym (eqb-true b a is)))

-- a set of the rules of calls, and of one more call
pub one-more-call : (calls : List RuleCall) (call : RuleCall) (before after : ℕ → Bool)
    → ((rule : ℕ) → before rule ≡ has_call rule calls)
    → ((rule : ℕ) → after rule ≡ ((rule == call.rule) || before rule))
    → (rule : ℕ) → after rule ≡ has_call rule (calls ++ call ∷ [])
one-more-call calls call before after has added rule =
    added rule
    ∙ ap (λ b. (rule == call.rule) || b) (has rule)
    ∙ ap (λ b. b || has_call rule calls) (flip-test rule call.rule)
    ∙ sym (last-or (has_call rule calls) (call.rule == rule))
    ∙ sym (list_any-append (λ (other : RuleCall). other.rule == rule) calls (call ∷ []))

-- ---- records

-- a start rule of a well-formed grammar has a record
has_record : (rules : List Rule) (text : List ℕ) (start : ℕ) → start < length rules → ∥ IsWellFormedGrammar rules ∥₁
    → start_record rules text (max_cases rules text) (name_of rules start) ≢ None
has_record rules text start less formed =
    ∥∥₁_elim formed (hlevel)
    (λ is. start-within rules text start (max_cases rules text) less is (le_refl (max_cases rules text)))

-- the same match as of the marked grammar
same-match : (count bytes : ℕ) (result marked : Recognition) → IsMarkedResult count result marked
    → match_of bytes marked ≡ match_of bytes result
same-match count bytes Failed Failed same = refl
same-match count bytes Failed (Matched end trees) same = absurd same
same-match count bytes (Matched end trees) Failed same = absurd same
same-match count bytes (Matched end trees) (Matched other more) same =
    ap (λ e. match_of bytes (Matched e trees)) (sym same.0)

-- the rule that shows an attempt is one of the marked grammar
shown-below : (count total : ℕ) (attempt : Attempt) → IsWithin count total attempt
    → shown_by count total attempt < count + (2 * total + count)
shown-below count total (TriedRule rule) within = omega (arith, within)
shown-below count total (MatchedRule rule) within = omega (arith, within)
shown-below count total (TriedAlternative number) within = omega (arith, within)
shown-below count total (MatchedAlternative number) within = omega (arith, within)

module _ (rules : List Rule) (distinct : Distinct (names (marked_rules rules))) (few : markers_of_rules rules ≤ 2 ^ 64)
    (text start : List ℕ) (marked : Record) (recognized : Recognizes (marked_rules rules) text start marked)
    (before after : List Bool) (found : TextMatch) (is : found ≡ match_of (length text) marked.result)
    (added : (rule : ℕ) → rule < length rules + markers_of_rules rules
    → has_rule after rule ≡ (has_call rule marked.calls || has_rule before rule)) where
  of_record : (n : ℕ) (r : Record) → start_record rules text n start ≡ Some r
      → HasCovered rules text start before after found
  of_record n r at =
      let count = length rules in
      let total = alternatives_of_rules rules in
      let name = Name start (between 0 0) in
      let attempts = attempts_in rules text n name 0 0 0 in
      let kept = marked-record rules distinct few text n name 0 0 0 0 r (omega arith) at in
      let same : kept.0 ≡ marked = one_record (marked_rules rules) text name 0 0 kept.0 marked kept.1 recognized in (
        r,
        attempts,
        (n, at, refl),
        is
            ∙ ap (λ (m : Record). match_of (length text) m.result) (sym same)
            ∙ same-match count (length text) r.result (kept.0).result kept.2,
        λ attempt within.
            added (shown_by count total attempt) (shown-below count total attempt within)
            ∙ ap (λ b. b || has_noted rules before attempt)
            (ap (λ (m : Record). has_call (shown_by count total attempt) m.calls) (sym same)
            ∙ sym (has_attempt-shown rules attempts (kept.0).calls kept.3 attempt within)),
      )

  pub text-covered : (k : ℕ) → k < length rules → name_of rules k ≡ start → ∥ IsWellFormedGrammar rules ∥₁
      → HasCovered rules text start before after found
  text-covered k less named formed =
      by (start_record rules text (max_cases rules text) start) refl
      (subst (λ (name : List ℕ). start_record rules text (max_cases rules text) name ≢ None) named
      (has_record rules text k less formed))
    where
      by : (tried : Option Record) → start_record rules text (max_cases rules text) start ≡ tried → tried ≢ None
          → HasCovered rules text start before after found
      by None at some = absurd (some refl)
      by (Some r) at some = of_record (max_cases rules text) r at
