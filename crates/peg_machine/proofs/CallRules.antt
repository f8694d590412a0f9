-- The calls in the record of a core form are calls of rules that have bodies.
use Rattle.std.proofs.Common.{◌≡◌, ℕ, zero, suc, ◌+◌, ◌<◌, Bool, true, false, List, [], ◌∷◌, length, drop, All, refl}
use Rattle.std.proofs.Common.{if◌then◌else◌, Option, None, Some, IfSome, option_map, option_and_then, slice_get, subst}
use Rattle.std.proofs.lemmas.List.Elements.{All-nil, All-cons, All-append}
use Rattle.std.proofs.lemmas.Option.{slice_get_within}
use Rattle.peg_bytes.specs.ByteSet.{has}
use Rattle.peg_semantics.specs.Record.{Recognition, Failed, Matched, RuleCall, Record, matched_at, failed_at}
use Rattle.peg_semantics.specs.Record.{after_both, prepend_trees, then_result, then_at, choice_result, or_else, star_result}
use Rattle.peg_semantics.specs.Record.{if_failed, with_result, byte_at, as_call}
use Rattle.peg_core.specs.CoreForm.{CoreForm, Empty, Test, Rule, Seq, Choice, Star, Not}
use Rattle.peg_core.specs.CoreRecord.{CoreRecognizer, core_table, core_record_in}

-- each combinator of the recognition table makes such records from such records; there are this many rules
module _ (many : ℕ) where
  abbrev IsOfRule : RuleCall → Type 0
  IsOfRule call = call.rule < many

  abbrev Keeps : Option Record → Type 0
  Keeps tried = IfSome tried (λ r. All IsOfRule r.calls)

  abbrev KeepsNext : (ℕ → Option Record) → Type 0
  KeepsNext next = (end : ℕ) → Keeps (next end)

  abbrev KeepsAll : CoreRecognizer → Type 0
  KeepsAll take = (form : CoreForm) (position : ℕ) → Keeps (take form position)

  Keeps-then_result : (result : Recognition) (part : Record) (next : ℕ → Option Record) → All IsOfRule part.calls
      → KeepsNext next → Keeps (then_result result part next)
  Keeps-then_result Failed part next h k = h
  Keeps-then_result (Matched end trees) part next h k = by (next end) (k end)
    where
      by : (tried : Option Record) → Keeps tried
          → Keeps (option_map (λ more. after_both part more (prepend_trees trees more.result)) tried)
      by None kept = tt
      by (Some more) kept = All-append IsOfRule part.calls more.calls h kept

  Keeps-then_at : (tried : Option Record) (next : ℕ → Option Record) → Keeps tried → KeepsNext next
      → Keeps (then_at tried next)
  Keeps-then_at None next h k = tt
  Keeps-then_at (Some part) next h k = Keeps-then_result part.result part next h k

  Keeps-choice_result : (result : Recognition) (part : Record) (other : Option Record) → All IsOfRule part.calls
      → Keeps other → Keeps (choice_result result part other)
  Keeps-choice_result Failed part None h k = tt
  Keeps-choice_result Failed part (Some more) h k = All-append IsOfRule part.calls more.calls h k
  Keeps-choice_result (Matched end trees) part other h k = h

  Keeps-or_else : (tried other : Option Record) → Keeps tried → Keeps other → Keeps (or_else tried other)
  Keeps-or_else None other h k = tt
  Keeps-or_else (Some part) other h k = Keeps-choice_result part.result part other h k

  Keeps-star_result : (result : Recognition) (position : ℕ) (part : Record) (next : ℕ → Option Record)
      → All IsOfRule part.calls → KeepsNext next → Keeps (star_result result position part next)
  Keeps-star_result Failed position part next h k =
      Keeps-choice_result Failed part (Some (matched_at position)) h (All-nil IsOfRule)
  Keeps-star_result (Matched end trees) position part next h k = Keeps-then_result (Matched end trees) part next h k

  Keeps-rounds : (tried : Option Record) (position : ℕ) (next : ℕ → Option Record) → Keeps tried → KeepsNext next
      → Keeps (option_and_then (λ (round : Record). star_result round.result position round next) tried)
  Keeps-rounds None position next h k = tt
  Keeps-rounds (Some round) position next h k = Keeps-star_result round.result position round next h k

  Keeps-not : (position : ℕ) (tried : Option Record) → Keeps tried
      → Keeps (option_map (λ (r : Record). with_result r (if_failed r.result position)) tried)
  Keeps-not position None h = tt
  Keeps-not position (Some r) h = h

  Keeps-as_call : (rule position : ℕ) (tried : Option Record) → rule < many → Keeps tried
      → Keeps (option_map (as_call rule position) tried)
  Keeps-as_call rule position None less h = tt
  Keeps-as_call rule position (Some r) less h =
      All-cons IsOfRule (record { rule = rule; position = position }) r.calls less h

  Keeps-byte_at : (test : ℕ → Bool) (terminal position : ℕ) (rest : List ℕ)
      → All IsOfRule (byte_at test terminal position rest).calls
  Keeps-byte_at test terminal position [] = All-nil IsOfRule
  Keeps-byte_at test terminal position (c ∷ rest) = by (test c)
    where
      by : (passes : Bool)
          → All IsOfRule (if passes then matched_at (position + 1) else failed_at terminal position).calls
      by true = All-nil IsOfRule
      by false = All-nil IsOfRule

-- the table over such records has such records
module _ (bodies : List CoreForm) (take : CoreRecognizer) (h : KeepsAll (length bodies) take) where
  Keeps-body : (rule position : ℕ) (body : Option CoreForm) → slice_get bodies rule ≡ body
      → Keeps (length bodies)
      (option_and_then (λ (body : CoreForm). option_map (as_call rule position) (take body position)) body)
  Keeps-body rule position None is = tt
  Keeps-body rule position (Some body) is =
      Keeps-as_call (length bodies) rule position (take body position) (slice_get_within bodies rule body is)
      (h body position)

  Keeps-table : (text : List ℕ) → KeepsAll (length bodies) (core_table bodies text take)
  Keeps-table text Empty position = All-nil (IsOfRule (length bodies))
  Keeps-table text (Test set terminal) position =
      Keeps-byte_at (length bodies) (has set) terminal position (drop position text)
  Keeps-table text (Rule rule) position = Keeps-body rule position (slice_get bodies rule) refl
  Keeps-table text (Seq first rest) position =
      Keeps-then_at (length bodies) (take first position) (λ end. take rest end) (h first position) (h rest)
  Keeps-table text (Choice first rest) position =
      Keeps-or_else (length bodies) (take first position) (take rest position) (h first position) (h rest position)
  Keeps-table text (Star part origin) position =
      Keeps-rounds (length bodies) (take part position) position (λ end. take (Star part origin) end) (h part position)
      (h (Star part origin))
  Keeps-table text (Not part) position = Keeps-not (length bodies) position (take part position) (h part position)

Keeps-core_record_in : (bodies : List CoreForm) (text : List ℕ) (n : ℕ)
    → KeepsAll (length bodies) (core_record_in bodies text n)
unfolding core_record_in
Keeps-core_record_in bodies text zero = λ form position. tt
Keeps-core_record_in bodies text (suc n) =
    Keeps-table bodies (core_record_in bodies text n) (Keeps-core_record_in bodies text n) text

-- each call in a record is a call of a rule that has a body
pub core_record_in-of_rules : (bodies : List CoreForm) (text : List ℕ) (n : ℕ) (form : CoreForm) (position : ℕ)
    (r : Record) → core_record_in bodies text n form position ≡ Some r
    → All (λ (call : RuleCall). call.rule < length bodies) r.calls
core_record_in-of_rules bodies text n form position r is =
    subst (λ (tried : Option Record). Keeps (length bodies) tried) is (Keeps-core_record_in bodies text n form position)
