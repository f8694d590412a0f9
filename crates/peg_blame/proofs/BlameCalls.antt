-- The calls of the loud rules are those of the blame.
use Rattle.std.proofs.Common.{◌≡◌, ◌≢◌, ◌↔◌, ◌∙◌, ℕ, Bool, true, false, ◌&&◌, ◌||◌, if◌then◌else◌, List, [], ◌∷◌}
use Rattle.std.proofs.Common.{Contains, Option, None, Some, ap, filter, get_or, length, nat_lt, refl, subst, sym}
use Rattle.std.proofs.Common.{◌<◌, ◌==◌}
use Rattle.std.proofs.lemmas.List.Elements.{Contains-get_or}
use Rattle.std.proofs.lemmas.List.Folds.{list_any-from_Any}
use Rattle.std.specs.List.{list_any}
use Rattle.peg_bytes.specs.Extent.{between}
use Rattle.peg_diagnostics.specs.Diagnostic.{diagnostic_rules}
use Rattle.peg_diagnostics.specs.LoudCalls.{calls_of_first}
use Rattle.peg_diagnostics.proofs.BlameLemmas.{one_blame}
use Rattle.peg_diagnostics.proofs.DiagnosisLemmas.{name_diagnosis}
use Rattle.peg_diagnostics.proofs.Lookups.{Distinct}
use Rattle.peg_parser.specs.Calls.{AreCallsOf}
use Rattle.peg_semantics.specs.Depth.{max_cases}
use Rattle.peg_semantics.specs.Form.{Name}
use Rattle.peg_semantics.specs.Record.{Record, RuleCall, start_record}
use Rattle.peg_semantics.specs.Rules.{Rule, name_of, names}
use Rattle.peg_semantics.specs.WellFormed.{IsWellFormedGrammar}
use Rattle.peg_semantics.proofs.RecordLemmas.{one_record}
use Rattle.peg_tree.specs.Selected.{has_rule}
use Rattle.peg_blame.specs.BlameCalls.{HasCalledRules, is_called}
use Rattle.peg_blame.proofs.BlameOutcomes.{has_record}
use Rattle.peg_blame.proofs.BlameStarts.{any-at}

-- a test of calls
module _ (p : RuleCall → Bool) where
  -- a list that passes has a call that passes
  passing-call : (calls : List RuleCall) → list_any p calls ≡ true
      → (call : RuleCall) × Contains calls call × (p call ≡ true)
  passing-call calls some =
      let none : RuleCall = record { rule = 0; position = 0 } in
      let at = any-at p none calls some in
      (get_or calls at.0 none, Contains-get_or calls at.0 none at.1, at.2)

  -- a list that has a call that passes passes
  call-passes : (calls : List RuleCall) (call : RuleCall) → Contains calls call → p call ≡ true
      → list_any p calls ≡ true
  call-passes calls call has is =
      list_any-from_Any p calls (has.0, call, has.1, has.2, is)

  -- lists of the same calls pass alike
  pass-alike : (calls others : List RuleCall) → ((call : RuleCall) → (Contains calls call ↔ Contains others call))
      → list_any p calls ≡ list_any p others
  pass-alike calls others same = by (list_any p calls) (list_any p others) refl refl
    where
      by : (a b : Bool) → list_any p calls ≡ a → list_any p others ≡ b → a ≡ b
      by true true first second = refl
      by false false first second = refl
      by true false first second =
          let found = passing-call calls first in
          let passes = call-passes others found.0 ((same found.0).0 found.1) found.2 in
          let bad : true ≡ false = sym passes ∙ second in cc
      by false true first second =
          let found = passing-call others second in
          let passes = call-passes calls found.0 ((same found.0).1 found.1) found.2 in
          let bad : true ≡ false = sym passes ∙ first in cc

-- a search among the calls that pass a first test
search-filtered : (f p : RuleCall → Bool) (calls : List RuleCall)
    → list_any p (filter f calls) ≡ list_any (λ (call : RuleCall). f call && p call) calls
search-filtered f p [] = refl
search-filtered f p (call ∷ calls) = by (f call) (search-filtered f p calls)
  where
    by : (b : Bool) → list_any p (filter f calls) ≡ list_any (λ (call : RuleCall). f call && p call) calls
        → list_any p (if b then call ∷ filter f calls else filter f calls)
        ≡ ((b && p call) || list_any (λ (call : RuleCall). f call && p call) calls)
    by true later = ap (λ rest. p call || rest) later
    by false later = later

-- lists of the same calls call the same loud rules
pub called-alike : (count : ℕ) (calls others : List RuleCall)
    → ((call : RuleCall) → (Contains calls call ↔ Contains others call)) → (rule at : ℕ)
    → is_called (calls_of_first count calls) rule at ≡ is_called (calls_of_first count others) rule at
called-alike count calls others same rule at =
    let first = λ (call : RuleCall). nat_lt call.rule count in
    let here = λ (call : RuleCall). call.rule == rule && call.position == at in
    search-filtered first here calls
    ∙ pass-alike (λ (call : RuleCall). first call && here call) calls others same
    ∙ sym (search-filtered first here others)

module _ (rules : List Rule) (distinct : Distinct (names (diagnostic_rules rules))) (text start : List ℕ)
    (at : ℕ) (set : List Bool) (calls : List RuleCall) where
  by_record : (n : ℕ) (r : Record) → start_record rules text n start ≡ Some r
      → AreCallsOf (diagnostic_rules rules) text start calls
      → ((rule : ℕ) → has_rule set rule ≡ is_called (calls_of_first (length rules) calls) rule at)
      → HasCalledRules rules text start at set
  by_record n r found are is blame of_blame rule =
      let d = name_diagnosis rules text distinct n start (between 0 0) 0 0 0 0 r found in
      let same : are.0 ≡ d.shown =
      one_record (diagnostic_rules rules) text (Name start (between 0 0)) 0 0 are.0 d.shown are.1 d.is_record in
      let blamed : d.blame ≡ blame =
      one_blame rules text (Name start (between 0 0)) 0 0 d.blame blame d.is_blame of_blame in
      is rule ∙ called-alike (length rules) calls (are.0).calls are.2 rule at
      ∙ ap (λ (s : Record). is_called (calls_of_first (length rules) s.calls) rule at) same
      ∙ ap (λ (l : List RuleCall). is_called l rule at) d.calls
      ∙ ap (λ (b : Record). is_called b.calls rule at) blamed

  -- the calls of a parse by the diagnostic grammar
  pub called-rules : (k : ℕ) → k < length rules → name_of rules k ≡ start → ∥ IsWellFormedGrammar rules ∥₁
      → AreCallsOf (diagnostic_rules rules) text start calls
      → ((rule : ℕ) → has_rule set rule ≡ is_called (calls_of_first (length rules) calls) rule at)
      → HasCalledRules rules text start at set
  called-rules k less named formed are is =
      let n = max_cases rules text in
      by (start_record rules text n start) refl
      (subst (λ (name : List ℕ). start_record rules text n name ≢ None) named (has_record rules text k less formed))
    where
      by : (tried : Option Record) → start_record rules text (max_cases rules text) start ≡ tried → tried ≢ None
          → HasCalledRules rules text start at set
      by None found some = absurd (some refl)
      by (Some r) found some = by_record (max_cases rules text) r found are is
