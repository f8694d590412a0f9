-- Which calls of the marked grammar show an attempt.
use Rattle.std.proofs.Common.{◌≡◌, ℕ, ◌+◌, ◌*◌, Bool, true, false, ◌==◌, ◌||◌, List, [], ◌∷◌, All, length, map}
use Rattle.std.proofs.Common.{refl, sym, ap, ap₂, ◌∙◌, arith}
use Rattle.std.specs.List.{list_any}
use Rattle.std.proofs.lemmas.Bool.{eqb-true, eq-eqb, ne_eqb, false≢true}
use Rattle.std.proofs.lemmas.List.Elements.{All-head, All-tail}
use Rattle.peg_semantics.specs.Record.{RuleCall}
use Rattle.peg_semantics.specs.Rules.{Rule}
use Rattle.peg_diagnostics.specs.Attempts.{Attempt, TriedRule, MatchedRule, TriedAlternative, MatchedAlternative}
use Rattle.peg_diagnostics.specs.Attempts.{IsWithin, ShowAttempts, has_attempt, has_call, is_attempt, shown_by}
use Rattle.peg_diagnostics.specs.Marked.{alternatives_of_rules}

-- two tests of equality agree if each equation gives the other
same_test : (x y u v : ℕ) → (x ≡ y → u ≡ v) → (u ≡ v → x ≡ y) → (x == y) ≡ (u == v)
same_test x y u v to from = by (x == y) refl
  where
    by : (b : Bool) → (x == y) ≡ b → b ≡ (u == v)
    by true is = sym (eq-eqb u v (to (eqb-true x y is)))
    by false is = sym (ne_eqb u v (λ same. false≢true (sym is ∙ eq-eqb x y (from same))))

-- an attempt is the same as another one if both are shown by calls of the same rule
module _ (count total : ℕ) where
  same_attempt : (a b : Attempt) → IsWithin count total a → IsWithin count total b
      → is_attempt a b ≡ (shown_by count total b == shown_by count total a)
  same_attempt (TriedRule a) (TriedRule b) first second = refl
  same_attempt (TriedRule a) (MatchedRule b) first second =
      sym (ne_eqb (count + (2 * total + b)) a (λ same. omega (arith, same, first)))
  same_attempt (TriedRule a) (TriedAlternative b) first second =
      sym (ne_eqb (count + 2 * b) a (λ same. omega (arith, same, first)))
  same_attempt (TriedRule a) (MatchedAlternative b) first second =
      sym (ne_eqb (count + (2 * b + 1)) a (λ same. omega (arith, same, first)))
  same_attempt (MatchedRule a) (TriedRule b) first second =
      sym (ne_eqb b (count + (2 * total + a)) (λ same. omega (arith, same, second)))
  same_attempt (MatchedRule a) (MatchedRule b) first second =
      same_test b a (count + (2 * total + b)) (count + (2 * total + a)) (λ same. omega (arith, same))
      (λ same. omega (arith, same))
  same_attempt (MatchedRule a) (TriedAlternative b) first second =
      sym (ne_eqb (count + 2 * b) (count + (2 * total + a)) (λ same. omega (arith, same, second)))
  same_attempt (MatchedRule a) (MatchedAlternative b) first second =
      sym (ne_eqb (count + (2 * b + 1)) (count + (2 * total + a)) (λ same. omega (arith, same, second)))
  same_attempt (TriedAlternative a) (TriedRule b) first second =
      sym (ne_eqb b (count + 2 * a) (λ same. omega (arith, same, second)))
  same_attempt (TriedAlternative a) (MatchedRule b) first second =
      sym (ne_eqb (count + (2 * total + b)) (count + 2 * a) (λ same. omega (arith, same, first)))
  same_attempt (TriedAlternative a) (TriedAlternative b) first second =
      same_test b a (count + 2 * b) (count + 2 * a) (λ same. omega (arith, same)) (λ same. omega (arith, same))
  same_attempt (TriedAlternative a) (MatchedAlternative b) first second =
      sym (ne_eqb (count + (2 * b + 1)) (count + 2 * a) (λ same. omega (arith, same)))
  same_attempt (MatchedAlternative a) (TriedRule b) first second =
      sym (ne_eqb b (count + (2 * a + 1)) (λ same. omega (arith, same, second)))
  same_attempt (MatchedAlternative a) (MatchedRule b) first second =
      sym (ne_eqb (count + (2 * total + b)) (count + (2 * a + 1)) (λ same. omega (arith, same, first)))
  same_attempt (MatchedAlternative a) (TriedAlternative b) first second =
      sym (ne_eqb (count + 2 * b) (count + (2 * a + 1)) (λ same. omega (arith, same)))
  same_attempt (MatchedAlternative a) (MatchedAlternative b) first second =
      same_test b a (count + (2 * b + 1)) (count + (2 * a + 1)) (λ same. omega (arith, same))
      (λ same. omega (arith, same))

  -- the attempt is among attempts if the rule that shows it is among theirs
  among_shown : (a : Attempt) → IsWithin count total a → (attempts : List Attempt)
      → All (IsWithin count total) attempts
      → has_attempt a attempts
      ≡ list_any (λ (rule : ℕ). rule == shown_by count total a) (map (shown_by count total) attempts)
  among_shown a fits [] within = refl
  among_shown a fits (b ∷ bs) within =
      ap₂ ◌||◌ (same_attempt a b fits (All-head (IsWithin count total) b bs within))
      (among_shown a fits bs (All-tail (IsWithin count total) b bs within))

among_called : (rule : ℕ) (calls : List RuleCall)
    → list_any (λ (other : ℕ). other == rule) (map (λ (call : RuleCall). call.rule) calls) ≡ has_call rule calls
among_called rule [] = refl
among_called rule (call ∷ calls) = ap (λ b. (call.rule == rule) || b) (among_called rule calls)

-- an attempt is made if the rule that shows it is called
pub has_attempt-shown : (rules : List Rule) (attempts : List Attempt) (calls : List RuleCall)
    → ShowAttempts rules attempts calls → (attempt : Attempt)
    → IsWithin (length rules) (alternatives_of_rules rules) attempt
    → has_attempt attempt attempts
    ≡ has_call (shown_by (length rules) (alternatives_of_rules rules) attempt) calls
has_attempt-shown rules attempts calls shows attempt fits =
    let rule = shown_by (length rules) (alternatives_of_rules rules) attempt in
    among_shown (length rules) (alternatives_of_rules rules) attempt fits attempts shows.within
    ∙ ap (list_any (λ (other : ℕ). other == rule)) (sym shows.order)
    ∙ among_called rule calls
