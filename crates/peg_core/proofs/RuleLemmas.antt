-- The core forms of rules, one rule after the other.
use Rattle.std.proofs.Common.{◌≡◌, ℕ, zero, suc, ◌+◌, ◌*◌, ◌<◌, ◌≤◌, Bool, true, false, ◌&&◌, not, cond, List, [], ◌∷◌, ◌++◌, All, length, map, drop, find, sum_by, slice_get, None, Some, option_map, refl, ap, ◌∙◌, suc-add, arith, length-append, append_assoc}
use Rattle.std.specs.List.{list_all}
use Rattle.std.proofs.lemmas.List.{map-append}
use Rattle.std.proofs.lemmas.List.Elements.{All-nil, All-push}
use Rattle.std.proofs.lemmas.List.Sums.{sum_by-cons}
use Rattle.peg_semantics.specs.Form.{Form, Reference, counts_written, terminals, form_weight}
use Rattle.peg_semantics.specs.Grammar.{IsGrammar, is_in_range}
use Rattle.peg_semantics.specs.Rules.{Rule, counts, references, is_defined, weight_of}
use Rattle.peg_semantics.specs.Terminals.{terminal_extents, extents_of_terminals}
use Rattle.peg_semantics.proofs.GrammarLemmas.{searches_from_IsGrammar}
use Rattle.peg_core.specs.CoreForm.{core_form, core_bodies_from, core_bodies}
use Rattle.peg_core.specs.CoreParts.{core_parts, core_parts_from, all_core_parts, are_defined, are_in_range}
use Rattle.peg_core.specs.Appending.{AppendsForm}
use Rattle.peg_core.specs.Layout.{Layout, form_at, max_forms_each}
use Rattle.peg_core.proofs.AddLemmas.{AppendsForm-spans, length-core_parts, are_in_range-left, are_in_range-right}
use Rattle.peg_core.proofs.LaidLemmas.{forms-kept, all_within-grown}

-- the weight of the rules' expressions
abbrev pub body_weights : List Rule → ℕ
body_weights rules = sum_by (λ (rule : Rule). form_weight rule.body) rules

-- the rule with a number, which has this expression, and those after it
pub rules-drop : (rules : List Rule) (i : ℕ) (e : Form) → option_map (λ (r : Rule). r.body) (slice_get rules i) ≡ Some e
    → (r : Rule) × (drop i rules ≡ r ∷ drop (i + 1) rules) × (r.body ≡ e)
rules-drop [] i e is = cc
rules-drop (r ∷ rs) zero e is = (r, refl, let same : r.body ≡ e = cc in same)
rules-drop (r ∷ rs) (suc i) e is =
    let later = rules-drop rs i e is in (later.0, rw suc-add later.1, later.2)

-- ---- names

-- if none fails a test, all pass it
all_pass : {X : Type 0} (p : X → Bool) (some : List X) → find (λ (x : X). not (p x)) some ≡ None
    → list_all p some ≡ true
all_pass p [] none = refl
all_pass {X} p (r ∷ rs) none = by (p r) refl none (all_pass p rs)
  where
    by : (b : Bool) → p r ≡ b → cond (not b) (Some r) (find (λ (x : X). not (p x)) rs) ≡ None
        → (find (λ (x : X). not (p x)) rs ≡ None → list_all p rs ≡ true)
        → list_all p (r ∷ rs) ≡ true
    by true is none later = ap (λ b. b && list_all p rs) is ∙ later none
    by false is none later = cc

-- a grammar defines all names that it uses
pub grammar-defined : (rules : List Rule) → IsGrammar rules → are_defined rules (references rules) ≡ true
grammar-defined rules grammar =
    all_pass (λ (r : Reference). is_defined rules r.name) (references rules) (searches_from_IsGrammar rules grammar).2

-- and its counts are in range
pub grammar-ranged : (rules : List Rule) → IsGrammar rules → are_in_range (counts rules) ≡ true
grammar-ranged rules grammar = all_pass is_in_range (counts rules) (searches_from_IsGrammar rules grammar).3

-- ---- the number of core forms

length-core_parts_from : (rules : List Rule) (terminal : ℕ) (some : List Rule) → are_in_range (counts some) ≡ true
    → length (core_parts_from rules terminal some) ≤ max_forms_each * body_weights some
length-core_parts_from rules terminal [] ranged = omega arith
length-core_parts_from rules terminal (r ∷ rs) ranged =
    let later = terminal + terminals r.body in
    let here = are_in_range-left (counts_written r.body) (counts rs) ranged in
    let following = are_in_range-right (counts_written r.body) (counts rs) ranged in
    omega (arith, length-core_parts rules r.body terminal here, length-core_parts_from rules later rs following, length-append (core_parts rules terminal r.body) (core_parts_from rules later rs), sum_by-cons (λ (rule : Rule). form_weight rule.body) r rs)

pub length-all_core_parts : (rules : List Rule) → are_in_range (counts rules) ≡ true
    → length (all_core_parts rules) ≤ max_forms_each * weight_of rules
length-all_core_parts rules ranged = omega (arith, length-core_parts_from rules 0 rules ranged)

-- ---- rule by rule

module _ (rules : List Rule) where
  -- the forms of the rules so far, before the rest
  pub record RulesSoFar (rest : List Rule) (bodies : List ℕ) (now : Layout) : Type 0 where
    pub forms : now.forms ++ core_parts_from rules (length now.spans) rest ≡ all_core_parts rules
    pub spans : now.spans ++ extents_of_terminals rest ≡ extents_of_terminals rules
    pub within : All (λ number. number < length now.forms) bodies
    pub each : map (form_at now.forms) bodies ++ core_bodies_from rules (length now.spans) rest ≡ core_bodies rules

  pub RulesSoFar-start : (now : Layout) → now ≡ record { rules = length rules; forms = []; spans = [] }
      → RulesSoFar rules [] now
  RulesSoFar-start now is =
      record {
        forms = ap (λ (l : Layout). l.forms ++ core_parts_from rules (length l.spans) rules) is;
        spans = ap (λ (l : Layout). l.spans ++ extents_of_terminals rules) is;
        within = All-nil (λ number. number < length now.forms);
        each = ap (λ (l : Layout). core_bodies_from rules (length l.spans) rules) is;
      }

  pub RulesSoFar-more : (rule : Rule) (rest : List Rule) (bodies : List ℕ) (now new : Layout) (body : ℕ)
      → RulesSoFar (rule ∷ rest) bodies now → AppendsForm rules rule.body now body new
      → RulesSoFar rest (bodies ++ body ∷ []) new
  RulesSoFar-more rule rest bodies now new body so_far lays =
      let e = rule.body in
      let t = length now.spans in
      let next = t + terminals e in
      let counted : length new.spans ≡ next = AppendsForm-spans rules e now new body lays in
      record {
        forms =
            ap (λ n. new.forms ++ core_parts_from rules n rest) counted
            ∙ (ap (λ f. f ++ core_parts_from rules next rest) lays.forms
            ∙ (append_assoc now.forms (core_parts rules t e) (core_parts_from rules next rest) ∙ so_far.forms));
        spans =
            ap (λ s. s ++ extents_of_terminals rest) lays.spans
            ∙ (append_assoc now.spans (terminal_extents e) (extents_of_terminals rest) ∙ so_far.spans);
        within = All-push (λ n. n < length new.forms) bodies body
            (all_within-grown now new (core_parts rules t e) lays.forms bodies so_far.within) lays.within;
        each =
            ap (λ n. map (form_at new.forms) (bodies ++ body ∷ []) ++ core_bodies_from rules n rest) counted
            ∙ (ap (λ f. f ++ core_bodies_from rules next rest)
            (map-append (form_at new.forms) bodies (body ∷ [])
            ∙ (λ i. forms-kept now new (core_parts rules t e) lays.forms bodies so_far.within i ++ lays.last i ∷ []))
            ∙ (append_assoc (map (form_at now.forms) bodies) (core_form rules t e ∷ []) (core_bodies_from rules next rest)
            ∙ so_far.each));
      }
