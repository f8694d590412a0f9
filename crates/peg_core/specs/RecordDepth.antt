-- The depth of the records of well-formed core forms.
use Rattle.std.specs.Prelude.{◌≢◌, ℕ, ◌+◌, ◌*◌, ◌<◌, ◌≤◌, List, length, None}
use Rattle.peg_core.specs.CoreForm.{Rule}
use Rattle.peg_core.specs.CoreRecord.{core_record_in}
use Rattle.peg_core.specs.Layout.{Desugared, bodies_of, form_at}

-- A bound on the depth of a record, if all forms are well-formed in this number of rounds. For each position of the
-- text and its end, it adds one more than the rounds.
abbrev pub max_rounds : (rounds : ℕ) → List ℕ → ℕ
max_rounds rounds text = (1 + length text) * (1 + rounds)

-- each form has a record in n at each position of a text
abbrev pub FormsHaveRecords : Desugared → List ℕ → (n : ℕ) → Type 0
FormsHaveRecords core text n =
    (number position : ℕ) → number < length core.forms → position ≤ length text
    → core_record_in (bodies_of core) text n (form_at core.forms number) position ≢ None

-- each call of a rule has a record in n at each position of a text
abbrev pub CallsHaveRecords : Desugared → List ℕ → (n : ℕ) → Type 0
CallsHaveRecords core text n =
    (rule position : ℕ) → rule < length core.bodies → position ≤ length text
    → core_record_in (bodies_of core) text n (Rule rule) position ≢ None
