-- Calls of rules within a text that are pairwise distinct are at most the number of rules times that of positions.
use Rattle.std.proofs.Common.{◌≡◌, ◌≢◌, ℕ, ◌+◌, ◌*◌, ◌/◌, ◌%◌, ◌<◌, ◌≤◌, Bool, false, List, map, length, get_or, Contains}
use Rattle.std.proofs.Common.{Result, Ok, Err, OnOk, Option, AllPairs, ap, sym, subst, ◌∙◌, arith}
use Rattle.std.proofs.lemmas.Bool.Decides.{Decides-eqb}
use Rattle.std.proofs.lemmas.Nat.{div-mul-add, mod-mul-add, mul-add-lt}
use Rattle.std.proofs.lemmas.List.{get_or-map, length-map}
use Rattle.std.proofs.lemmas.List.Elements.{All-contains, Contains-get_or}
use Rattle.std.proofs.lemmas.Map.Made.{IsDistinct-from_AllPairs}
use Rattle.std.proofs.lemmas.Map.Steps.{length-le_from_distinct_below}
use Rattle.std.proofs.lemmas.Map.Views.{Contains-from_any}
use Rattle.peg_semantics.specs.Record.{RuleCall}
use Rattle.peg_core.specs.CoreForm.{CoreForm, Rule}
use Rattle.peg_core.proofs.CoreWithin.{core_record_in-uses_in_text}
use Rattle.peg_machine.specs.PackratRun.{RanOnce}
use Rattle.peg_machine.specs.Traced.{IsFullCapacity, IsVisited, Traces}
use Rattle.peg_machine.specs.declared.answer.Answer.{Answer}
use Rattle.peg_machine.specs.declared.fault.RunFault.{RunFault}
use Rattle.peg_machine.proofs.CallRules.{core_record_in-of_rules}

-- the call is of one of this number of rules, at a position of a text of this length
abbrev IsCallIn : (rules long : ℕ) → RuleCall → Type 0
IsCallIn rules long call = (call.rule < rules) × (call.position ≤ long)

-- calls as numbers
abbrev number : (rules : ℕ) → RuleCall → ℕ
number rules call = call.position * rules + call.rule

abbrev none : RuleCall
none = record { rule = 0; position = 0 }

abbrev call_at : (rule position : ℕ) → RuleCall
call_at rule position = record { rule = rule; position = position }

-- different calls have different numbers
number-differs : (rules : ℕ) (a b : RuleCall) → a.rule < rules → b.rule < rules → a ≢ b → number rules a ≢ number rules b
number-differs rules a b less other apart = λ same.
    let position : a.position ≡ b.position =
    sym (div-mul-add a.position rules a.rule less) ∙ ap (λ (n : ℕ). n / rules) same
    ∙ div-mul-add b.position rules b.rule other in
    let rule : a.rule ≡ b.rule =
    sym (mod-mul-add a.position rules a.rule less) ∙ ap (λ (n : ℕ). n % rules) same
    ∙ mod-mul-add b.position rules b.rule other in
    let first : call_at a.rule a.position ≡ call_at b.rule a.position = ap (λ (n : ℕ). call_at n a.position) rule in
    let second : call_at b.rule a.position ≡ call_at b.rule b.position = ap (call_at b.rule) position in
    apart (first ∙ second)

module _ (rules long : ℕ) (pairs : List RuleCall)
    (below : (pair : RuleCall) → Contains pairs pair → IsCallIn rules long pair)
    (once : AllPairs (λ a b. a ≢ b) pairs) where
  numbers_differ : AllPairs (λ (a b : ℕ). a ≢ b) (map (number rules) pairs)
  numbers_differ i j d before within =
      let short : j < length pairs = omega (arith, within, length-map pairs (number rules)) in
      let early : i < length pairs = omega (arith, before, short) in
      let a : RuleCall = get_or pairs i none in
      let b : RuleCall = get_or pairs j none in
      let in_a = below a (Contains-get_or pairs i none early) in
      let in_b = below b (Contains-get_or pairs j none short) in
      let at_i = get_or-map (number rules) pairs i none d early in
      let at_j = get_or-map (number rules) pairs j none d short in
      λ same. number-differs rules a b in_a.0 in_b.0 (once i j none before short) (sym at_i ∙ same ∙ at_j)

  numbers_below : (q : ℕ) → Contains (map (number rules) pairs) q → q < rules * (long + 1)
  numbers_below q has =
      let short : has.0 < length pairs = omega (arith, has.1, length-map pairs (number rules)) in
      let call : RuleCall = get_or pairs has.0 none in
      let inside = below call (Contains-get_or pairs has.0 none short) in
      let same : number rules call ≡ q = sym (get_or-map (number rules) pairs has.0 none q short) ∙ has.2 in
      let less : call.position < long + 1 = omega (arith, inside.1) in
      subst (λ (n : ℕ). n < rules * (long + 1)) same (mul-add-lt call.position rules call.rule (long + 1) less inside.0)

  calls_at_most : length pairs ≤ rules * (long + 1)
  calls_at_most =
      let distinct = IsDistinct-from_AllPairs Decides-eqb (map (number rules) pairs) numbers_differ in
      let all = length-le_from_distinct_below (map (number rules) pairs) (rules * (long + 1)) distinct
      (λ q has. numbers_below q (Contains-from_any (λ x y. (Decides-eqb x y).0) q (map (number rules) pairs) has)) in
      subst (λ (n : ℕ). n ≤ rules * (long + 1)) (length-map pairs (number rules)) all

-- a call visited is of a rule that has a body, at a position of the text
visited-in : (bodies : List CoreForm) (text : List ℕ) (start : ℕ) (pair : RuleCall) → IsVisited bodies text start pair
    → IsCallIn (length bodies) (length text) pair
visited-in bodies text start pair is =
    let least : 0 ≤ length text = omega arith in (
      All-contains (λ (call : RuleCall). call.rule < length bodies) is.1.calls pair
          (core_record_in-of_rules bodies text is.0 (Rule start) 0 is.1 is.2) is.3,
      All-contains (λ (call : RuleCall). call.position ≤ length text) is.1.calls pair
          (core_record_in-uses_in_text bodies text is.0 (Rule start) 0 is.1 least is.2) is.3,
    )

-- the calls traced by a run with an answer, with full capacity and no failed allocation
pub RanOnce-from_traces : (bodies : List CoreForm) (text : List ℕ) (start capacity : ℕ) (failed : Bool)
    (max_steps : Option ℕ) (result : Result Answer RunFault) (pairs : List RuleCall)
    → Traces bodies text start capacity failed max_steps result pairs → IsFullCapacity bodies text capacity
    → failed ≡ false → OnOk result (RanOnce bodies text start pairs)
RanOnce-from_traces bodies text start capacity failed max_steps (Ok answer) pairs traced full given =
    let once = traced.once full given in record {
      visited = traced.visited;
      once = once;
      bounded = calls_at_most (length bodies) (length text) pairs
          (λ pair has. visited-in bodies text start pair ((traced.visited pair).0 has)) once;
    }
RanOnce-from_traces bodies text start capacity failed max_steps (Err fault) pairs traced full given = tt
