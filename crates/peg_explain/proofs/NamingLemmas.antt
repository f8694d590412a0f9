-- Which rules a message names.
use Rattle.std.proofs.Common.{◌≡◌, ◌∙◌, ℕ, zero, suc, ◌<◌, Bool, true, false, not, ◌&&◌, ◌||◌, ◌⊎◌, inl, inr, List, []}
use Rattle.std.proofs.Common.{◌∷◌, Option, None, Some, if◌then◌else◌, All, ap, arith, bytes_eq, length, map, refl, subst, sym, take, ◌≤◌}
use Rattle.std.proofs.lemmas.List.{length-map}
use Rattle.std.proofs.lemmas.Slice.Eq.{bytes_eq-Decides}
use Rattle.std.specs.List.{list_any}
use Rattle.std.specs.Prelude.{Err, IfErr, IfOk, IsErrAnd, IsErrOf, Ok, Result}
use Rattle.std.specs.declared.alloc.Global.{Global}
use Rattle.std.specs.declared.vec.Vec.{Vec}
use Rattle.peg_diagnostics.specs.Diagnostic.{diagnostic_rules}
use Rattle.peg_grammar.specs.Limits.{max_text_bytes}
use Rattle.peg_parser.specs.StepLimits.{TakesMoreSteps}
use Rattle.peg_parser.specs.declared.parser.ParseFault.{ParseFault}
use Rattle.peg_parser.specs.declared.parser.ParseFault.TheVariants as fault
use Rattle.peg_semantics.specs.Record.{RuleCall}
use Rattle.peg_semantics.specs.Rules.{Rule, is_defined, name_of, names}
use Rattle.peg_semantics.specs.Starts.{start_name}
use Rattle.peg_tree.specs.declared.outcome.Outcome.{Outcome}
use Rattle.peg_explain.specs.Explanations.{AreRestsBy, names_rules}
use Rattle.peg_explain.specs.Names.{AreRests, IsRest, max_named, rules_called_at}
use Rattle.peg_explain.specs.Reports.{are_items_expected, is_whole_match}
use Rattle.peg_explain.specs.declared.names.Rest.{Rest}
use Rattle.peg_explain.specs.declared.style.ItemStyle.{ItemStyle}

-- ---- when rules are named

pub most : max_named ≡ 64
unfolding max_named
most = refl

module _ (style : ItemStyle) (bytes : ℕ) (outcome : Outcome) where
  -- the style decides, if items are expected
  pub named-by_style : is_whole_match outcome.result bytes ≡ false
      → true ≡ are_items_expected outcome.result outcome.far → style.uses_names ≡ names_rules style bytes outcome
  named-by_style differs asked =
      sym (and-true (style.uses_names && true) ∙ and-true style.uses_names) ∙ (λ i. style.uses_names && not (sym differs i) && asked i)
    where
      and-true : (b : Bool) → (b && true) ≡ b
      and-true true = refl
      and-true false = refl

  -- no rules are named, if the text matches as a whole or no items are expected
  pub none-named : (is_whole_match outcome.result bytes ≡ true) ⊎ (are_items_expected outcome.result outcome.far ≡ false)
      → names_rules style bytes outcome ≡ false
  none-named (inl whole) =
      ap (λ (b : Bool). style.uses_names && not b && are_items_expected outcome.result outcome.far) whole
      ∙ both style.uses_names (are_items_expected outcome.result outcome.far)
    where
      both : (a b : Bool) → (a && false && b) ≡ false
      both true b = refl
      both false b = refl
  none-named (inr unasked) =
      ap (λ (b : Bool). style.uses_names && not (is_whole_match outcome.result bytes) && b) unasked
      ∙ and-false (style.uses_names && not (is_whole_match outcome.result bytes))
    where
      and-false : (b : Bool) → (b && false) ≡ false
      and-false true = refl
      and-false false = refl

module _ (rules : List Rule) (spacing : List Bool) (text start : List ℕ) (calls : List RuleCall) where
  -- no rests, if no rules are named
  pub no-rests : (named : Bool) (at : ℕ) → named ≡ false → AreRestsBy named rules spacing text start calls at []
  no-rests false at none = refl
  no-rests true at none = absurd (let bad : true ≡ false = none in cc)

  -- the rests by which rules are named, if they are
  pub rests-by : (named : Bool) (at there : ℕ) (rests : List Rest) → named ≡ true → at ≡ there
      → AreRests rules spacing text start calls at rests → AreRestsBy named rules spacing text start calls there rests
  rests-by false at there rests used place are = absurd (let bad : false ≡ true = used in cc)
  rests-by true at there rests used place are =
      subst (λ (p : ℕ). AreRests rules spacing text start calls p rests) place are

-- ---- the name of the start

-- a given start is the start
pub given-start : (rules : List Rule) (name start : List ℕ) → start_name rules (Some name) ≡ Some start → name ≡ start
given-start rules name start is = by (is_defined rules name) is
  where
    by : (b : Bool) → (if b then Some name else None) ≡ Some start → name ≡ start
    by true same = cc
    by false same = absurd (let bad : None ≡ Some start = same in cc)

or-true : (b : Bool) → (b || true) ≡ true
or-true true = refl
or-true false = refl

-- ---- the name of a rule

defined : (rules : List Rule) (rule : ℕ) → rule < length rules
    → list_any (bytes_eq (name_of rules rule)) (names rules) ≡ true
defined [] rule within = absurd (omega arith)
defined (first ∷ rules) zero within =
    ap (λ (b : Bool). b || list_any (bytes_eq first.name) (names rules)) ((bytes_eq-Decides first.name first.name).1 refl)
defined (first ∷ rules) (suc rule) within =
    ap (λ (b : Bool). bytes_eq (name_of rules rule) first.name || b) (defined rules rule (omega arith))
    ∙ or-true (bytes_eq (name_of rules rule) first.name)

-- a rule is a start by its name
pub start-of_rule : (rules : List Rule) (rule : ℕ) → rule < length rules
    → start_name rules (Some (name_of rules rule)) ≡ Some (name_of rules rule)
start-of_rule rules rule within =
    ap (λ (b : Bool). if b then Some (name_of rules rule) else None) (defined rules rule within)

-- ---- the faults of a parse of the rest

-- a parse without a limit, of a text that isn't too long, from a start that has a rule, fails for memory alone
pub memory-alone : {V : Type 0} (rules : List Rule) (from text : List ℕ) (named : Option (List ℕ)) (why : ParseFault)
    → start_name rules named ≡ Some from → length text ≤ max_text_bytes
    → (IsErrOf {T = V} (Err why) fault.NoSuchStart → start_name rules named ≡ None)
    → (IsErrOf {T = V} (Err why) fault.TextTooLong → max_text_bytes < length text)
    → (IsErrOf {T = V} (Err why) fault.StepLimit → TakesMoreSteps (diagnostic_rules rules) text named None)
    → why ≡ fault.Memory
memory-alone rules from text named fault.NoSuchStart is within none long limited =
    absurd (let no : None ≡ Some from = sym (none refl) ∙ is in cc)
memory-alone rules from text named fault.TextTooLong is within none long limited =
    absurd (let over : max_text_bytes < length text = long refl in omega (arith, over, within))
memory-alone rules from text named fault.StepLimit is within none long limited =
    let more = limited refl in
    let exceeds = more.2 in
    absurd (let no : None ≡ Some exceeds.0 = exceeds.2 in cc)
memory-alone rules from text named fault.Memory is within none long limited = refl

-- an error that is passed on has the property of the error
pub passed-on : {V : Type 0} (P : ParseFault → Type 0) (result : Result V ParseFault) (why : ParseFault)
    → IsErrAnd result (λ stated. stated ≡ why) → P why → IfErr result P
passed-on P (Ok x) why is holds = tt
passed-on P (Err other) why is holds = subst P (sym is) holds

-- a fault that is memory alone is no other
pub not-memory : {V : Type 0} (result : Result V ParseFault) (why : ParseFault)
    → IfErr result (λ stated. stated ≡ fault.Memory) → IsErrOf result why → why ≡ fault.Memory
not-memory {V} result why alone is =
    subst (λ (r : Result V ParseFault). IfErr r (λ stated. stated ≡ fault.Memory)) is alone

-- ---- the rests that are parsed

-- the rests from the first rules that are called
pub are-rests : (rules : List Rule) (spacing : List Bool) (text start : List ℕ) (calls : List RuleCall) (at : ℕ) (numbers : List ℕ)
    (result : Result (Vec Rest Global) ParseFault) → numbers ≡ take 64 (rules_called_at rules spacing start calls at)
    → IfOk result (λ rests. map (λ (rest : Rest). rest.rule) rests.items ≡ numbers)
    → IfOk result (λ rests. All (IsRest rules text at) rests.items)
    → IfOk result (λ rests. AreRests rules spacing text start calls at rests.items)
are-rests rules spacing text start calls at numbers (Err why) first from each = tt
are-rests rules spacing text start calls at numbers (Ok rests) first from each = record {
  from = from ∙ first ∙ ap (λ (n : ℕ). take n (rules_called_at rules spacing start calls at)) (sym most);
  each = each;
}

-- there are as many rests as rules
pub few-rests : (numbers : List ℕ) (result : Result (Vec Rest Global) ParseFault) → length numbers ≤ 64
    → IfOk result (λ rests. map (λ (rest : Rest). rest.rule) rests.items ≡ numbers)
    → IfOk result (λ rests. length rests.items ≤ 64)
few-rests numbers (Err why) few from = tt
few-rests numbers (Ok rests) few from =
    let count = length-map rests.items (λ (rest : Rest). rest.rule) in
    let same = ap length from in
    omega (arith, few, count, same)
