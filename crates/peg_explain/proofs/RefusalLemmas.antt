-- Messages for refusals, by their causes.
use Rattle.std.proofs.Common.{◌≡◌, ◌≢◌, ℕ, List, IfOk, IfSome, Option, None, Some, Result, Ok, Err, is_some, true, length}
use Rattle.std.proofs.Common.{◌∙◌, ◌≤◌, [], ◌∷◌, Contains, ap, arith, get_or, map, min, option_map, refl, slice_get, subst, sym}
use Rattle.std.proofs.Common.{unwrap_or}
use Rattle.std.proofs.lemmas.Option.{get_or_from_slice_get, slice_get-map, slice_get_within, unwrap_or-slice_get}
use Rattle.std.specs.declared.alloc.AllocError.{AllocError}
use Rattle.std.specs.declared.alloc.Global.{Global}
use Rattle.std.specs.declared.vec.Vec.{Vec}
use Rattle.peg_bytes.specs.Extent.{Extent}
use Rattle.peg_messages.specs.declared.reason.Reason.{Reason}
use Rattle.peg_parser.specs.Cause.{Cause}
use Rattle.peg_parser.specs.Faults.{HasCause, IsTrueRefusal, out_of_memory, of_cause, RefusalNames, StartsIn, cause_of, refusal_names}
use Rattle.peg_parser.specs.declared.refusal.Refusal.{Refusal}
use Rattle.peg_parser.specs.declared.refusal.Refusal.TheVariants as refusal
use Rattle.peg_semantics.specs.Form.{Reference}
use Rattle.peg_semantics.specs.Rules.{Rule, defined_at, name_of, names}
use Rattle.peg_tree.specs.Names.{name_at}
use Rattle.peg_explain.specs.RefusalMessages.{IsCycleOffset, IsReasonMessage, IsReasonOf, IsRefusalMessage, refusal_definitions}

-- a refusal with a cause of some kind is one that a file of that length can have
pub true_refusal : (Kind : Cause → Type 0) (size : ℕ) (why : Refusal) → HasCause Kind size why → IsTrueRefusal size why
true_refusal Kind size why (out_of_memory is) = out_of_memory is
true_refusal Kind size why (of_cause cause cause_is kind starts named) = of_cause cause cause_is tt starts named

-- the facts about a refusal other than `Memory`
pub record HasPlace (size : ℕ) (why : Refusal) : Type 0 where
  pub known : is_some (cause_of why) ≡ true
  pub places : IfSome (cause_of why) (StartsIn size)
  pub rules : RefusalNames (length (refusal_names why)) why

pub placed : (size : ℕ) (why : Refusal) → why ≢ refusal.Memory → IsTrueRefusal size why → HasPlace size why
placed size why other (out_of_memory is) = absurd (other is)
placed size why other (of_cause cause cause_is kind starts named) = record {
  known = ap is_some cause_is;
  places = subst (λ (found : Option Cause). IfSome found (StartsIn size)) (sym cause_is) starts;
  rules = named;
}

-- the message for the reason of a cause is the message for the cause
pub by_reason : (name file : List ℕ) (definitions : List Reference) (cause : Cause) (why : Reason) (message : List ℕ)
    → IsReasonOf file definitions cause why → IsReasonMessage name file why message
    → IsRefusalMessage name file definitions cause message
by_reason name file definitions cause why message is (rejection, named, of_file, has, same) = (
  rejection,
  record {
    named = named;
    has_file = of_file;
    has_reason = subst (λ (w : Reason). IsReasonOf file definitions cause w) (sym has) is;
  },
  same,
)

-- a message for a cause that is known
pub known-cause : (result : Result (Vec ℕ Global) AllocError) (name file : List ℕ) (definitions : List Reference)
    (found : Option Cause) → is_some found ≡ true
    → IfOk result (λ message. IfSome found (λ cause. IsRefusalMessage name file definitions cause message.items))
    → IfOk result (λ message. (cause : Cause) × (found ≡ Some cause)
    × IsRefusalMessage name file definitions cause message.items)
known-cause (Ok message) name file definitions None some is = cc
known-cause (Ok message) name file definitions (Some cause) some is = (cause, refl, is)
known-cause (Err fault) name file definitions found some is = tt

-- the same by a reason
pub known-reason : (result : Result (Vec ℕ Global) AllocError) (name file : List ℕ) (definitions : List Reference)
    (found : Option Cause) (why : Reason) → is_some found ≡ true
    → IfSome found (λ cause. IsReasonOf file definitions cause why)
    → IfOk result (λ message. IsReasonMessage name file why message.items)
    → IfOk result (λ message. (cause : Cause) × (found ≡ Some cause)
    × IsRefusalMessage name file definitions cause message.items)
known-reason (Ok message) name file definitions None why some is written = cc
known-reason (Ok message) name file definitions (Some cause) why some is written =
    (cause, refl, by_reason name file definitions cause why message.items is written)
known-reason (Err fault) name file definitions found why some is written = tt

-- the message for a cause, if there is one, by its reason
pub some-reason : (result : Result (Vec ℕ Global) AllocError) (name file : List ℕ) (definitions : List Reference)
    (found : Option Cause) (why : Reason) → IfSome found (λ cause. IsReasonOf file definitions cause why)
    → IfOk result (λ message. IsReasonMessage name file why message.items)
    → IfOk result (λ message. IfSome found (λ cause. IsRefusalMessage name file definitions cause message.items))
some-reason (Ok message) name file definitions None why is written = tt
some-reason (Ok message) name file definitions (Some cause) why is written =
    by_reason name file definitions cause why message.items is written
some-reason (Err fault) name file definitions found why is written = tt

-- the definition with a number has the name and the span of that number
pub definition-numbered : (rules : List Rule) (k : ℕ) (span : Extent)
    → option_map (λ r. r.span) (slice_get rules k) ≡ Some span
    → (definition : Reference) × Contains (map defined_at rules) definition
    × (definition.name ≡ name_at (names rules) k) × (definition.span ≡ span)
definition-numbered rules k span is = by (slice_get rules k) refl is
  where
    by : (found : Option Rule) → slice_get rules k ≡ found → option_map (λ (r : Rule). r.span) found ≡ Some span
        → (definition : Reference) × Contains (map defined_at rules) definition
        × (definition.name ≡ name_at (names rules) k) × (definition.span ≡ span)
    by None has same = cc
    by (Some rule) has same =
        let named : slice_get (names rules) k ≡ Some rule.name =
        slice_get-map (λ (r : Rule). r.name) rules k ∙ ap (option_map (λ (r : Rule). r.name)) has in
        let defined : slice_get (map defined_at rules) k ≡ Some (defined_at rule) =
        slice_get-map defined_at rules k ∙ ap (option_map defined_at) has in (
          defined_at rule,
          (
            k,
            slice_get_within (map defined_at rules) k (defined_at rule) defined,
            get_or_from_slice_get (map defined_at rules) k (defined_at rule) (defined_at rule) defined,
          ),
          sym (get_or_from_slice_get (names rules) k rule.name [] named),
          cc,
        )

-- the offset of a left cycle is that of the rule with the first number
pub cycle-offset : (rules : List Rule) (path : List ℕ) (size at : ℕ) (span : Extent) → 1 ≤ length path
    → option_map (λ r. r.span) (slice_get rules (get_or path 0 0)) ≡ Some span → at ≡ min span.start size
    → IsCycleOffset (map defined_at rules) size (map (name_at (names rules)) path) at
cycle-offset rules [] size at span some is same = absurd (omega arith)
cycle-offset rules (first ∷ rest) size at span some is same =
    let found = definition-numbered rules first span is in
    (found.0, found.1, found.2, same ∙ ap (λ (s : Extent). min s.start size) (sym found.3))

-- the name of a rule by its number
pub name-numbered : (rules : List Rule) (k : ℕ) → name_of rules k ≡ name_at (names rules) k
name-numbered rules k =
    ap (λ (found : Option (List ℕ)). unwrap_or found []) (sym (slice_get-map (λ (r : Rule). r.name) rules k))
    ∙ unwrap_or-slice_get (names rules) k []

-- the message for a refusal
abbrev pub IsAnswer : Result (Vec ℕ Global) AllocError → (name file : List ℕ) → Refusal → Type 0
IsAnswer result name file why = IfOk result (λ message. (cause : Cause) × (cause_of why ≡ Some cause)
    × IsRefusalMessage name file (refusal_definitions why) cause message.items)
