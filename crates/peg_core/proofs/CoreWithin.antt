-- The record of a core form at a position of the text has its failed tests and calls at positions of the text. A match
-- ends within the text.
use Rattle.std.proofs.Common.{◌≡◌, ℕ, zero, suc, ◌+◌, ◌≤◌, Bool, true, false, List, [], ◌∷◌, length, drop, All}
use Rattle.std.proofs.Common.{if◌then◌else◌, Option, None, Some, IfSome, option_map, option_and_then, slice_get}
use Rattle.std.proofs.Common.{subst, le_refl, arith}
use Rattle.std.proofs.lemmas.List.{length-drop}
use Rattle.std.proofs.lemmas.List.Elements.{All-nil, All-cons, All-append}
use Rattle.peg_bytes.specs.ByteSet.{has}
use Rattle.peg_tree.specs.Trees.{Trees}
use Rattle.peg_semantics.specs.Record.{Recognition, Failed, Matched, Test as FailedTest, RuleCall, Record}
use Rattle.peg_semantics.specs.Record.{matched_at, test_of, failed_at, after_both, prepend_trees, then_result, then_at, choice_result}
use Rattle.peg_semantics.specs.Record.{or_else, star_result, if_failed, with_result, byte_at, as_tree, as_call}
use Rattle.peg_core.specs.CoreForm.{CoreForm, Empty, Test, Rule, Seq, Choice, Star, Not}
use Rattle.peg_core.specs.CoreRecord.{CoreRecognizer, core_table, core_record_in}

-- a match ends within this length
abbrev EndsBy : ℕ → Recognition → Type 0
EndsBy long Failed = Unit {0}
EndsBy long (Matched end trees) = end ≤ long

-- A record within a text of this length: its failed tests and calls are at positions of the text, and its match ends
-- within it.
record IsWithin (long : ℕ) (r : Record) : Type 0 where
  tests : All (λ (test : FailedTest). test.position ≤ long) r.tests
  calls : All (λ (used : RuleCall). used.position ≤ long) r.calls
  ends : EndsBy long r.result

-- Each combinator of the recognition table makes records within the text from records within the text.
module _ (long : ℕ) where
  abbrev InText : FailedTest → Type 0
  InText test = test.position ≤ long

  abbrev IsUsedInText : RuleCall → Type 0
  IsUsedInText used = used.position ≤ long

  -- the record is within the text, if there is one
  abbrev Keeps : Option Record → Type 0
  Keeps tried = IfSome tried (IsWithin long)

  -- the next expression at each position of the text
  abbrev KeepsNext : (ℕ → Option Record) → Type 0
  KeepsNext next = (end : ℕ) → end ≤ long → Keeps (next end)

  -- every form at each position of the text
  abbrev KeepsAll : CoreRecognizer → Type 0
  KeepsAll take = (form : CoreForm) (position : ℕ) → position ≤ long → Keeps (take form position)

  IsWithin-matched_at : (position : ℕ) → position ≤ long → IsWithin long (matched_at position)
  IsWithin-matched_at position here = record { tests = All-nil InText; calls = All-nil IsUsedInText; ends = here }

  IsWithin-failed_at : (terminal position : ℕ) → position ≤ long → IsWithin long (failed_at terminal position)
  IsWithin-failed_at terminal position here = record {
    tests = All-cons InText (test_of terminal position) [] here (All-nil InText);
    calls = All-nil IsUsedInText;
    ends = tt;
  }

  IsWithin-after_both : (part next : Record) (result : Recognition) → IsWithin long part → IsWithin long next
      → EndsBy long result → IsWithin long (after_both part next result)
  IsWithin-after_both part next result h k ends = record {
    tests = All-append InText part.tests next.tests h.tests k.tests;
    calls = All-append IsUsedInText part.calls next.calls h.calls k.calls;
    ends = ends;
  }

  EndsBy-prepend_trees : (trees : Trees) (result : Recognition) → EndsBy long result → EndsBy long (prepend_trees trees result)
  EndsBy-prepend_trees trees Failed ends = tt
  EndsBy-prepend_trees trees (Matched end more) ends = ends

  Keeps-then_result : (result : Recognition) (part : Record) (next : ℕ → Option Record) → EndsBy long result
      → IsWithin long part → KeepsNext next → Keeps (then_result result part next)
  Keeps-then_result Failed part next ends h k = h
  Keeps-then_result (Matched end trees) part next ends h k = by (next end) (k end ends)
    where
      by : (tried : Option Record) → Keeps tried
          → Keeps (option_map (λ more. after_both part more (prepend_trees trees more.result)) tried)
      by None kept = tt
      by (Some more) kept =
          IsWithin-after_both part more (prepend_trees trees more.result) h kept (EndsBy-prepend_trees trees more.result kept.ends)

  Keeps-then_at : (tried : Option Record) (next : ℕ → Option Record) → Keeps tried → KeepsNext next
      → Keeps (then_at tried next)
  Keeps-then_at None next h k = tt
  Keeps-then_at (Some part) next h k = Keeps-then_result part.result part next h.ends h k

  Keeps-choice_result : (result : Recognition) (part : Record) (other : Option Record) → IsWithin long part → Keeps other
      → Keeps (choice_result result part other)
  Keeps-choice_result Failed part None h k = tt
  Keeps-choice_result Failed part (Some more) h k = IsWithin-after_both part more more.result h k k.ends
  Keeps-choice_result (Matched end trees) part other h k = h

  Keeps-or_else : (tried other : Option Record) → Keeps tried → Keeps other → Keeps (or_else tried other)
  Keeps-or_else None other h k = tt
  Keeps-or_else (Some part) other h k = Keeps-choice_result part.result part other h k

  Keeps-star_result : (result : Recognition) (position : ℕ) (part : Record) (next : ℕ → Option Record) → position ≤ long
      → EndsBy long result → IsWithin long part → KeepsNext next → Keeps (star_result result position part next)
  Keeps-star_result Failed position part next here ends h k =
      Keeps-choice_result Failed part (Some (matched_at position)) h (IsWithin-matched_at position here)
  Keeps-star_result (Matched end trees) position part next here ends h k =
      Keeps-then_result (Matched end trees) part next ends h k

  Keeps-rounds : (tried : Option Record) (position : ℕ) (next : ℕ → Option Record) → position ≤ long → Keeps tried
      → KeepsNext next → Keeps (option_and_then (λ (round : Record). star_result round.result position round next) tried)
  Keeps-rounds None position next here h k = tt
  Keeps-rounds (Some round) position next here h k = Keeps-star_result round.result position round next here h.ends h k

  EndsBy-if_failed : (position : ℕ) → position ≤ long → (result : Recognition) → EndsBy long (if_failed result position)
  EndsBy-if_failed position here Failed = here
  EndsBy-if_failed position here (Matched end trees) = tt

  Keeps-not : (position : ℕ) (tried : Option Record) → position ≤ long → Keeps tried
      → Keeps (option_map (λ (r : Record). with_result r (if_failed r.result position)) tried)
  Keeps-not position None here h = tt
  Keeps-not position (Some r) here h =
      record { tests = h.tests; calls = h.calls; ends = EndsBy-if_failed position here r.result }

  EndsBy-as_tree : (rule position : ℕ) (result : Recognition) → EndsBy long result
      → EndsBy long (as_tree rule position result)
  EndsBy-as_tree rule position Failed ends = tt
  EndsBy-as_tree rule position (Matched end trees) ends = ends

  Keeps-as_call : (rule position : ℕ) (tried : Option Record) → position ≤ long → Keeps tried
      → Keeps (option_map (as_call rule position) tried)
  Keeps-as_call rule position None here h = tt
  Keeps-as_call rule position (Some r) here h = record {
    tests = h.tests;
    calls = All-cons IsUsedInText (record { rule = rule; position = position }) r.calls here h.calls;
    ends = EndsBy-as_tree rule position r.result h.ends;
  }

  -- bytes from a position on, at most as many as the text has there
  IsWithin-byte_at : (test : ℕ → Bool) (terminal position : ℕ) (rest : List ℕ) → position + length rest ≤ long
      → IsWithin long (byte_at test terminal position rest)
  IsWithin-byte_at test terminal position [] fits = IsWithin-failed_at terminal position (omega arith)
  IsWithin-byte_at test terminal position (c ∷ rest) fits = by (test c)
    where
      by : (passes : Bool) → IsWithin long (if passes then matched_at (position + 1) else failed_at terminal position)
      by true = IsWithin-matched_at (position + 1) (omega arith)
      by false = IsWithin-failed_at terminal position (omega arith)

  -- if all records of a function are within the text, so are those of the table over it
  module _ (take : CoreRecognizer) (h : KeepsAll take) where
    Keeps-body : (rule position : ℕ) (body : Option CoreForm) → position ≤ long
        → Keeps (option_and_then (λ (body : CoreForm). option_map (as_call rule position) (take body position)) body)
    Keeps-body rule position None here = tt
    Keeps-body rule position (Some body) here = Keeps-as_call rule position (take body position) here (h body position here)

    Keeps-table : (bodies : List CoreForm) (text : List ℕ) → length text ≤ long
        → KeepsAll (core_table bodies text take)
    Keeps-table bodies text short Empty position here = IsWithin-matched_at position here
    Keeps-table bodies text short (Test set terminal) position here =
        IsWithin-byte_at (has set) terminal position (drop position text) (omega (arith, length-drop position text))
    Keeps-table bodies text short (Rule rule) position here = Keeps-body rule position (slice_get bodies rule) here
    Keeps-table bodies text short (Seq first rest) position here =
        Keeps-then_at (take first position) (λ end. take rest end) (h first position here) (λ end within. h rest end within)
    Keeps-table bodies text short (Choice first rest) position here =
        Keeps-or_else (take first position) (take rest position) (h first position here) (h rest position here)
    Keeps-table bodies text short (Star part origin) position here =
        Keeps-rounds (take part position) position (λ end. take (Star part origin) end) here (h part position here)
        (λ end within. h (Star part origin) end within)
    Keeps-table bodies text short (Not part) position here = Keeps-not position (take part position) here (h part position here)

-- the records in n at a position of the text
Keeps-core_record_in : (bodies : List CoreForm) (text : List ℕ) (n : ℕ)
    → KeepsAll (length text) (core_record_in bodies text n)
unfolding core_record_in
Keeps-core_record_in bodies text zero = λ form position here. tt
Keeps-core_record_in bodies text (suc n) =
    Keeps-table (length text) (core_record_in bodies text n) (Keeps-core_record_in bodies text n) bodies text
    (le_refl (length text))

IsWithin-core_record_in : (bodies : List CoreForm) (text : List ℕ) (n : ℕ) (form : CoreForm) (position : ℕ) (r : Record)
    → position ≤ length text → core_record_in bodies text n form position ≡ Some r → IsWithin (length text) r
IsWithin-core_record_in bodies text n form position r here is =
    subst (λ (tried : Option Record). IfSome tried (IsWithin (length text))) is
    (Keeps-core_record_in bodies text n form position here)

-- at a position of the text, the failed tests are at positions of the text
pub core_record_in-in_text : (bodies : List CoreForm) (text : List ℕ) (n : ℕ) (form : CoreForm) (position : ℕ)
    (r : Record) → position ≤ length text → core_record_in bodies text n form position ≡ Some r
    → All (λ (test : FailedTest). test.position ≤ length text) r.tests
core_record_in-in_text bodies text n form position r here is =
    (IsWithin-core_record_in bodies text n form position r here is).tests

-- and so are the calls
pub core_record_in-uses_in_text : (bodies : List CoreForm) (text : List ℕ) (n : ℕ) (form : CoreForm) (position : ℕ)
    (r : Record) → position ≤ length text → core_record_in bodies text n form position ≡ Some r
    → All (λ (used : RuleCall). used.position ≤ length text) r.calls
core_record_in-uses_in_text bodies text n form position r here is =
    (IsWithin-core_record_in bodies text n form position r here is).calls

-- and a match ends within the text
pub core_record_in-ends : (bodies : List CoreForm) (text : List ℕ) (n : ℕ) (form : CoreForm) (position end : ℕ)
    (trees : Trees) (r : Record) → position ≤ length text → core_record_in bodies text n form position ≡ Some r
    → r.result ≡ Matched end trees → end ≤ length text
core_record_in-ends bodies text n form position end trees r here is matched =
    subst (EndsBy (length text)) matched (IsWithin-core_record_in bodies text n form position r here is).ends
