-- What is tried on the way to the record of an expression as written, and what of it matches (Ford 2004, section 3.3):
-- rules and alternatives of choices. Attempts in predicates and in abandoned alternatives are included.
use Rattle.std.specs.Prelude.{◌≡◌, ◌==◌, ◌+◌, ◌*◌, ◌<◌, ℕ, zero, suc, Bool, false, if◌then◌else◌, bytes_eq}
use Rattle.std.specs.Prelude.{List, [], ◌∷◌, ◌++◌, All, Option, None, Some, length, map}
use Rattle.std.specs.List.{list_any}
use Rattle.peg_bytes.specs.Extent.{between}
use Rattle.peg_semantics.specs.Form.{Form, Forms, Literal, Class, Any, Name, Seq, Choice, Optional, Star, Plus, Counted}
use Rattle.peg_semantics.specs.Form.{And, Not, End, Then, terminals}
use Rattle.peg_semantics.specs.Record.{Recognition, Failed, Matched, Record, Recognizer, RuleCall, record_in}
use Rattle.peg_semantics.specs.Record.{start_record}
use Rattle.peg_semantics.specs.Rules.{Rule, Meaning, meaning_of}
use Rattle.peg_diagnostics.specs.Marked.{alternatives, alternatives_of_rules}

-- A rule or an alternative is tried at a position, or has matched. Both have numbers, in written order. An alternative
-- is before those inside it.
pub data Attempt : Type 0 where
  TriedRule : (rule : ℕ) → Attempt
  MatchedRule : (rule : ℕ) → Attempt
  TriedAlternative : (number : ℕ) → Attempt
  MatchedAlternative : (number : ℕ) → Attempt

-- The attempts of an expression at a position, in order. `number` and `terminal` are those of its first alternative and
-- of its first terminal.
abbrev pub AttemptsOf : Type 0
AttemptsOf = Form → (number terminal position : ℕ) → List Attempt

-- the attempts that follow a match at its end; none follow a failure
abbrev pub after_matching : Recognition → (ℕ → List Attempt) → List Attempt
after_matching Failed next = []
after_matching (Matched end trees) next = next end

abbrev pub after_match : Option Record → (ℕ → List Attempt) → List Attempt
after_match None next = []
after_match (Some r) next = after_matching r.result next

-- the attempts that follow a failure; none follow a match
abbrev pub after_failing : Recognition → List Attempt → List Attempt
after_failing Failed other = other
after_failing (Matched end trees) other = []

abbrev pub after_failure : Option Record → List Attempt → List Attempt
after_failure None other = []
after_failure (Some r) other = after_failing r.result other

-- the attempts of an alternative: it is tried, then those inside it, and it has matched if its record is a match
abbrev pub attempts_of_alternative : (number : ℕ) → Option Record → (inside : List Attempt) → List Attempt
attempts_of_alternative number tried inside =
    TriedAlternative number ∷ (inside ++ after_match tried (λ end. MatchedAlternative number ∷ []))

-- the attempts of a call of a rule, in the same way
abbrev pub attempts_of_call : (rule : ℕ) → Option Record → (inside : List Attempt) → List Attempt
attempts_of_call rule tried inside = TriedRule rule ∷ (inside ++ after_match tried (λ end. MatchedRule rule ∷ []))

-- the items of a sequence, each from the end of the item before
abbrev pub attempts_of_items : Recognizer → AttemptsOf → Forms → (number terminal position : ℕ) → List Attempt
attempts_of_items take parts End number terminal position = []
attempts_of_items take parts (Then e rest) number terminal position =
    parts e number terminal position
    ++ after_match (take e terminal position)
    (λ end. attempts_of_items take parts rest (number + alternatives e) (terminal + terminals e) end)

-- the alternatives of a choice, each after the failure of the one before, all at the same position
abbrev pub attempts_of_choice : Recognizer → AttemptsOf → Form → Forms → (number terminal position : ℕ) → List Attempt
attempts_of_choice take parts e End number terminal position =
    attempts_of_alternative number (take e terminal position) (parts e (number + 1) terminal position)
attempts_of_choice take parts e (Then next rest) number terminal position =
    attempts_of_alternative number (take e terminal position) (parts e (number + 1) terminal position)
    ++ after_failure (take e terminal position)
    (attempts_of_choice take parts next rest (number + 1 + alternatives e) (terminal + terminals e) position)

-- at most `max` repetitions of a part, each from the end of the one before, up to the first failure
abbrev pub attempts_of_repeat : (ℕ → Option Record) → (ℕ → List Attempt) → (max position : ℕ) → List Attempt
attempts_of_repeat take parts zero position = []
attempts_of_repeat take parts (suc max) position =
    parts position ++ after_match (take position) (λ end. attempts_of_repeat take parts max end)

-- one iteration of a star, and then the others
abbrev pub attempts_of_star : Option Record → List Attempt → (ℕ → List Attempt) → List Attempt
attempts_of_star round inside others = inside ++ after_match round others

-- the rule that a name refers to
abbrev pub attempts_of_meaning : Recognizer → AttemptsOf → (number position : ℕ) → Option Meaning → List Attempt
attempts_of_meaning take parts number position None = []
attempts_of_meaning take parts number position (Some m) =
    attempts_of_call m.rule (take m.body m.terminal position) (parts m.body number m.terminal position)

-- the number of the first alternative in the rule with a name; those of the rules are numbered from `number` on
abbrev pub first_alternative_from : (number : ℕ) → List Rule → (name : List ℕ) → ℕ
first_alternative_from number [] name = 0
first_alternative_from number (rule ∷ more) name =
    if bytes_eq name rule.name then number else first_alternative_from (number + alternatives rule.body) more name

-- The attempts of each form of expression, given the records and the attempts of its parts.
abbrev pub attempts_table : List Rule → Recognizer → AttemptsOf → AttemptsOf
attempts_table rules take parts (Literal bytes span) number terminal position = []
attempts_table rules take parts (Class set span) number terminal position = []
attempts_table rules take parts (Any span) number terminal position = []
attempts_table rules take parts (Name name span) number terminal position =
    attempts_of_meaning take parts (first_alternative_from 0 rules name) position (meaning_of rules name)
attempts_table rules take parts (Seq items span) number terminal position =
    attempts_of_items take parts items number terminal position
attempts_table rules take parts (Choice first rest span) number terminal position =
    attempts_of_choice take parts first rest number terminal position
attempts_table rules take parts (Optional part span) number terminal position = parts part number terminal position
attempts_table rules take parts (Star part span) number terminal position =
    attempts_of_star (take part terminal position) (parts part number terminal position)
    (λ end. parts (Star part span) number terminal end)
attempts_table rules take parts (Plus part span) number terminal position =
    attempts_of_star (take part terminal position) (parts part number terminal position)
    (λ end. parts (Star part span) number terminal end)
attempts_table rules take parts (Counted part min max span) number terminal position =
    attempts_of_repeat (λ at. take part terminal at) (λ at. parts part number terminal at) max position
attempts_table rules take parts (And part span) number terminal position = parts part number terminal position
attempts_table rules take parts (Not part span) number terminal position = parts part number terminal position

-- The attempts of an expression at a position in depth n. They follow from the records and the attempts of its parts in
-- depth n - 1. They are complete if the expression has a record in this depth.
unfoldable pub attempts_in : List Rule → List ℕ → ℕ → AttemptsOf
attempts_in rules text zero e number terminal position = []
attempts_in rules text (suc n) e number terminal position =
    attempts_table rules (record_in rules text n) (attempts_in rules text n) e number terminal position

-- The attempts of a text from the rule with a name: those on the way to its record.
abbrev pub AreAttempts : List Rule → (text start : List ℕ) → Record → List Attempt → Type 0
AreAttempts rules text start r attempts =
    (n : ℕ) × (start_record rules text n start ≡ Some r)
    × (attempts ≡ attempts_in rules text n (Name start (between 0 0)) 0 0 0)

-- whether two attempts are the same
abbrev pub is_attempt : (a b : Attempt) → Bool
is_attempt (TriedRule a) (TriedRule b) = b == a
is_attempt (TriedRule a) other = false
is_attempt (MatchedRule a) (MatchedRule b) = b == a
is_attempt (MatchedRule a) other = false
is_attempt (TriedAlternative a) (TriedAlternative b) = b == a
is_attempt (TriedAlternative a) other = false
is_attempt (MatchedAlternative a) (MatchedAlternative b) = b == a
is_attempt (MatchedAlternative a) other = false

abbrev pub has_attempt : Attempt → List Attempt → Bool
has_attempt attempt attempts = list_any (is_attempt attempt) attempts

-- ---- the calls that show attempts

-- the number of the rule of the marked grammar whose calls show an attempt, for these numbers of rules and alternatives
abbrev pub shown_by : (rules alternatives : ℕ) → Attempt → ℕ
shown_by rules alternatives (TriedRule rule) = rule
shown_by rules alternatives (MatchedRule rule) = rules + (2 * alternatives + rule)
shown_by rules alternatives (TriedAlternative number) = rules + 2 * number
shown_by rules alternatives (MatchedAlternative number) = rules + (2 * number + 1)

-- an attempt of a rule or an alternative that there is
abbrev pub IsWithin : (rules alternatives : ℕ) → Attempt → Type 0
IsWithin rules alternatives (TriedRule rule) = rule < rules
IsWithin rules alternatives (MatchedRule rule) = rule < rules
IsWithin rules alternatives (TriedAlternative number) = number < alternatives
IsWithin rules alternatives (MatchedAlternative number) = number < alternatives

-- Calls show attempts: they are of the rules of the marked grammar that show these, in order. The attempts are of rules
-- and alternatives that there are.
pub record ShowAttempts (rules : List Rule) (attempts : List Attempt) (calls : List RuleCall) : Type 0 where
  pub order : map (λ (call : RuleCall). call.rule) calls
      ≡ map (shown_by (length rules) (alternatives_of_rules rules)) attempts
  pub within : All (IsWithin (length rules) (alternatives_of_rules rules)) attempts

-- whether one of the calls is of a rule
abbrev pub has_call : (rule : ℕ) → List RuleCall → Bool
has_call rule calls = list_any (λ (call : RuleCall). call.rule == rule) calls
