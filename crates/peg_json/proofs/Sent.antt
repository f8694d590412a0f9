-- The texts of serialized answers.
use Rattle.std.proofs.Common.{◌≡◌, ℕ, Bool, false, List, [], IfOk, Result, Ok, Err, Some, String, string_bytes, slice_index_or, sym, ap, subst}
use Rattle.serde.specs.Event.{Log}
use Rattle.serde_json.specs.Data.{Data, member, no_members, null}
use Rattle.serde_json.specs.Events.{SendsValue}
use Rattle.serde_json.specs.Written.{compact_text, has_float}
use Rattle.serde_json.proofs.FreeTexts.{text_of_value}
use Rattle.std.specs.declared.alloc.AllocError.{AllocError}
use Rattle.std.specs.declared.alloc.Global.{Global}
use Rattle.peg_bytes.specs.Extent.{Extent}
use Rattle.peg_tree.specs.Events.{SendsNested, SendsNestedText}
use Rattle.peg_tree.specs.Trees.{Trees}
use Rattle.peg_listings.proofs.SentText.{IsTextSentBy}
use Rattle.peg_json.specs.Reply.{matched_data, text_tree_data, tree_data}
use Rattle.peg_json.specs.Sending.{SendsMatch}

-- a match serializes its object, if its last member serializes a value
match-sent : (partial : Bool) (end far : ℕ) (expected : List Extent) (key : List ℕ) (value : Data) (old new : Log)
    → SendsMatch partial end far expected key (SendsValue value) old new
    → SendsValue (matched_data partial end far expected (member key value no_members)) old new
match-sent partial end far expected key value old new s = (
  s.0,
  s.6,
  (
    s.7.0,
    s.1,
    s.7.1,
    s.7.2,
    (
      s.8.0,
      s.2,
      s.8.1,
      s.8.2,
      (
        s.9.0,
        s.3,
        s.9.1,
        s.9.2,
        (s.10.0, s.4, s.10.1, s.10.2, (s.11.0, s.5, s.11.1, s.11.2, s.12)),
      ),
    ),
  ),
)

-- a nested tree serializes its value
nested-sent : (names : List (List ℕ)) (tree : Trees) (old new : Log) → SendsNested names tree old new
    → SendsValue (tree_data names tree) old new
nested-sent names tree old new s =
    subst (λ d. SendsValue d old new) (sym (ap (λ (l : List Data). slice_index_or l 0 null) s.1)) s.2

nested_match-sent : (partial : Bool) (end far : ℕ) (expected : List Extent) (key : List ℕ) (names : List (List ℕ))
    (tree : Trees) (old new : Log) → SendsMatch partial end far expected key (SendsNested names tree) old new
    → SendsMatch partial end far expected key (SendsValue (tree_data names tree)) old new
nested_match-sent partial end far expected key names tree old new s = (
  s.0,
  s.1,
  s.2,
  s.3,
  s.4,
  s.5,
  s.6,
  s.7,
  s.8,
  s.9,
  s.10,
  (s.11.0, s.11.1, nested-sent names tree s.11.0 s.5 s.11.2),
  s.12,
)

pub match-text : (result : Result (String Global) AllocError) (partial : Bool) (end far : ℕ) (expected : List Extent)
    (key : List ℕ) (value : Data) → has_float (matched_data partial end far expected (member key value no_members)) ≡ false
    → IsTextSentBy (SendsMatch partial end far expected key (SendsValue value)) result
    → IfOk result (λ text. string_bytes text ≡ compact_text (matched_data partial end far expected (member key value no_members)))
match-text (Ok text) partial end far expected key value whole sent =
    text_of_value (matched_data partial end far expected (member key value no_members)) sent.0 (string_bytes text)
    (match-sent partial end far expected key value (Some []) sent.0 sent.1) sent.2 whole
match-text (Err why) partial end far expected key value whole sent = tt

pub nested-text : (result : Result (String Global) AllocError) (partial : Bool) (end far : ℕ) (expected : List Extent)
    (key : List ℕ) (names : List (List ℕ)) (tree : Trees)
    → has_float (matched_data partial end far expected (member key (tree_data names tree) no_members)) ≡ false
    → IsTextSentBy (SendsMatch partial end far expected key (SendsNested names tree)) result
    → IfOk result (λ text. string_bytes text
    ≡ compact_text (matched_data partial end far expected (member key (tree_data names tree) no_members)))
nested-text (Ok text) partial end far expected key names tree whole sent =
    match-text (Ok text) partial end far expected key (tree_data names tree) whole
    (sent.0, nested_match-sent partial end far expected key names tree (Some []) sent.0 sent.1, sent.2)
nested-text (Err why) partial end far expected key names tree whole sent = tt

nested_text-sent : (names : List (List ℕ)) (text : List ℕ) (tree : Trees) (old new : Log)
    → SendsNestedText names text tree old new → SendsValue (text_tree_data names text tree) old new
nested_text-sent names text tree old new s =
    subst (λ d. SendsValue d old new) (sym (ap (λ (l : List Data). slice_index_or l 0 null) s.1)) s.2

nested_text_match-sent : (partial : Bool) (end far : ℕ) (expected : List Extent) (key : List ℕ) (names : List (List ℕ))
    (text : List ℕ) (tree : Trees) (old new : Log)
    → SendsMatch partial end far expected key (SendsNestedText names text tree) old new
    → SendsMatch partial end far expected key (SendsValue (text_tree_data names text tree)) old new
nested_text_match-sent partial end far expected key names text tree old new s = (
  s.0,
  s.1,
  s.2,
  s.3,
  s.4,
  s.5,
  s.6,
  s.7,
  s.8,
  s.9,
  s.10,
  (s.11.0, s.11.1, nested_text-sent names text tree s.11.0 s.5 s.11.2),
  s.12,
)

-- the same of a nested tree with text
pub nested_text-text : (result : Result (String Global) AllocError) (partial : Bool) (end far : ℕ) (expected : List Extent)
    (key : List ℕ) (names : List (List ℕ)) (text : List ℕ) (tree : Trees)
    → has_float (matched_data partial end far expected (member key (text_tree_data names text tree) no_members)) ≡ false
    → IsTextSentBy (SendsMatch partial end far expected key (SendsNestedText names text tree)) result
    → IfOk result (λ json. string_bytes json
    ≡ compact_text (matched_data partial end far expected (member key (text_tree_data names text tree) no_members)))
nested_text-text (Ok json) partial end far expected key names text tree whole sent =
    match-text (Ok json) partial end far expected key (text_tree_data names text tree) whole
    (sent.0, nested_text_match-sent partial end far expected key names text tree (Some []) sent.0 sent.1, sent.2)
nested_text-text (Err why) partial end far expected key names text tree whole sent = tt
