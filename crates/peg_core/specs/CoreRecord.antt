-- Ford's recognition relation on core forms (Ford 2004, section 3.3), with the same records as on written expressions.
use Rattle.std.specs.Prelude.{◌≡◌, ℕ, zero, suc, ◌<◌, List, All, drop, slice_get}
use Rattle.std.specs.Prelude.{Option, None, Some, option_map, option_and_then}
use Rattle.peg_bytes.specs.ByteSet.{has}
use Rattle.peg_semantics.specs.Record.{Record, matched_at, then_at, or_else, star_result, if_failed, with_result}
use Rattle.peg_semantics.specs.Record.{byte_at, as_call}
use Rattle.peg_core.specs.CoreForm.{CoreForm, Empty, Test, Rule, Seq, Choice, Star, Not}

-- each number of the text is a byte
abbrev pub AreBytes : List ℕ → Type 0
AreBytes text = All (λ byte. byte < 256) text

-- a function from forms and positions to records, where there are any
abbrev pub CoreRecognizer : Type 0
CoreRecognizer = CoreForm → (position : ℕ) → Option Record

-- The recognition table: the record of each form, from the rules' bodies and the records of its parts.
abbrev pub core_table : List CoreForm → List ℕ → CoreRecognizer → CoreRecognizer
core_table bodies text take Empty position = Some (matched_at position)
core_table bodies text take (Test set terminal) position = Some (byte_at (has set) terminal position
    (drop position text))
core_table bodies text take (Rule rule) position =
    option_and_then (λ (body : CoreForm). option_map (as_call rule position) (take body position))
    (slice_get bodies rule)
core_table bodies text take (Seq first rest) position = then_at (take first position) (λ end. take rest end)
core_table bodies text take (Choice first rest) position = or_else (take first position) (take rest position)
core_table bodies text take (Star part origin) position =
    option_and_then (λ (round : Record). star_result round.result position round (λ end. take (Star part origin) end))
    (take part position)
core_table bodies text take (Not part) position =
    option_map (λ (r : Record). with_result r (if_failed r.result position)) (take part position)

-- The record of a form at a position in n. In 0 there is none. Above 0 it follows by the table from the records of the
-- parts in n - 1.
unfoldable pub core_record_in : List CoreForm → List ℕ → ℕ → CoreRecognizer
core_record_in bodies text zero form position = None
core_record_in bodies text (suc n) form position = core_table bodies text (core_record_in bodies text n) form position

-- Ford's record of a form at a position: its record in some n.
abbrev pub IsCoreRecord : List CoreForm → List ℕ → CoreForm → (position : ℕ) → Record → Type 0
IsCoreRecord bodies text form position r = (n : ℕ) × (core_record_in bodies text n form position ≡ Some r)
