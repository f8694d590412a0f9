-- Describes code: what the steps of the linter need and keep.
use Rattle.std.specs.Prelude.{◌≡◌, ◌⊎◌, ◌<◌, ◌≤◌, ℕ, Bool, true, false, IsTrue, List, [], ◌∷◌, All, Contains, None, Some}
use Rattle.std.specs.Prelude.{Option, length, slice_get}
use Rattle.std.specs.Prelude.{nat_lt, slice_index_or}
use Rattle.peg_metagrammar.specs.Ranges.{Range, holds}
use Rattle.peg_bytes.specs.ByteSet.{Bytes, has}
use Rattle.peg_bytes.specs.Extent.{Extent}
use Rattle.peg_bytes.specs.declared.span.Span.{Span}
use Rattle.peg_semantics.specs.AbstractOutcomes.{Can, no_outcome}
use Rattle.peg_semantics.specs.Form.{Form, Forms, Literal, Class, Any, Name, Seq, Choice, Optional, Star, Plus, Counted}
use Rattle.peg_semantics.specs.Form.{And, Not, End}
use Rattle.peg_semantics.specs.RuleOutcomes.{IsAbstractOutcome}
use Rattle.peg_semantics.specs.Rules.{Rule}
use Rattle.peg_semantics.specs.WellFormed.{subexpressions, below_all}
use Rattle.peg_lint.specs.FileWarnings.{IsDotAtEnd, IsRangeText, IsTrueWarningIn}
use Rattle.peg_lint.specs.Habits.{IsWithin, begins_with_caret, ends_in_bracket, goes_over_signs, has_blanks_around}
use Rattle.peg_lint.specs.Habits.{holds_high_byte, holds_line_end, text_in}
use Rattle.peg_lint.specs.Never.{FailsWhere}
use Rattle.peg_lint.specs.Outcomes.{AreOutcomes}
use Rattle.peg_lint.specs.Spelling.{IsRangeOfClass, IsRepeatedRange, IsReversedRange, RangesBetween}
use Rattle.peg_lint.specs.Excluded.{CannotMatch}
use Rattle.peg_lint.specs.Warnings.{HasWarning, IsAmong, IsClassOrPredicate, IsFailingPredicate, IsWithoutUse, IsItemOf}
use Rattle.peg_lint.specs.Warnings.{IsLaterAlternative, IsRepeatOf}
use Rattle.peg_lint.specs.Warnings.{IsPartOfRule, IsPlaced, IsTrueWarning, IsUnreached, IsUntriedIn, extent_of, rank_of}
use Rattle.peg_lint.specs.declared.warning.Warning.{Warning}
use Rattle.peg_lint.specs.declared.warning.WarningKind.{WarningKind}
use Rattle.peg_lint.specs.declared.warning.WarningKind.TheVariants as kind

-- the expression and its parts are parts of a rule
abbrev pub ArePartsOfRule : List Rule → (number : ℕ) → Form → Type 0
ArePartsOfRule rules number e = (x : Form) → Contains (subexpressions e) x → IsPartOfRule rules number x

-- all of the expressions and their parts are parts of a rule
abbrev pub AllArePartsOfRule : List Rule → (number : ℕ) → Forms → Type 0
AllArePartsOfRule rules number items = (x : Form) → Contains (below_all items) x → IsPartOfRule rules number x

-- all of the expressions are items or alternatives in a rule
abbrev pub AreAllPlaced : List Rule → (number : ℕ) → Forms → Type 0
AreAllPlaced rules number items = (item : Form) → IsAmong items item → IsPlaced rules number item

-- what is in the earlier list is in the later one
abbrev pub Keeps : (earlier later : List Warning) → Type 0
Keeps earlier later = (warning : Warning) → Contains earlier warning → Contains later warning

-- two lists have the same warnings
abbrev pub HaveSameWarnings : (earlier later : List Warning) → Type 0
HaveSameWarnings earlier later = Keeps earlier later × Keeps later earlier

-- the numbers of a cause by which warnings are sorted
abbrev pub cause_key : Option Span → List ℕ
cause_key None = 0 ∷ 0 ∷ 0 ∷ []
cause_key (Some span) = 1 ∷ span.start ∷ span.end ∷ []

-- The numbers by which warnings are sorted, the first before the second and so on. No two warnings have the same.
abbrev pub key_of : Warning → List ℕ
key_of warning =
    warning.span.start ∷ rank_of warning.kind ∷ warning.span.end ∷ warning.rule ∷ cause_key warning.by

-- A step adds warnings that are true, whatever the start rule, and leaves the earlier ones. In the later list is what
-- the step has to find.
pub record AddsTrue (Is : (start : ℕ) → Warning → Type 0) (Finds : List Warning → Type 0)
    (earlier later : List Warning) : Type 0 where
  pub truth : (start : ℕ) → All (Is start) earlier → All (Is start) later
  pub kept : Keeps earlier later
  pub found : Finds later

-- such a step, for warnings that are true of the rules
abbrev pub Adds : List Rule → (Finds : List Warning → Type 0) → (earlier later : List Warning) → Type 0
Adds rules Finds earlier later = AddsTrue (IsTrueWarning rules) Finds earlier later

-- the same with nothing to find
abbrev pub KeepsTrue : List Rule → (earlier later : List Warning) → Type 0
KeepsTrue rules earlier later = Adds rules (λ found. Unit {0}) earlier later

-- such a step, for warnings that are true of a file
abbrev pub AddsIn : (file : List ℕ) → List Rule → (Finds : List Warning → Type 0) → (earlier later : List Warning)
    → Type 0
AddsIn file rules Finds earlier later = AddsTrue (IsTrueWarningIn file rules) Finds earlier later

-- a warning that names no cause is found if a test passes
abbrev pub FindsIf : Bool → WarningKind → (number : ℕ) → Extent → List Warning → Type 0
FindsIf holds kind number span found = IsTrue holds → HasWarning found kind number span None

-- the warnings about the text of a class as a whole are found
pub record FindsWhole (text : List ℕ) (number : ℕ) (span : Extent) (found : List Warning) : Type 0 where
  pub caret : FindsIf (begins_with_caret text) kind.ClassBeginsWithCaret number span found
  pub line_end : FindsIf (holds_line_end text) kind.HoldsLineEnd number span found
  pub high : FindsIf (holds_high_byte text) kind.HighBytesInClass number span found
  pub blanks : FindsIf (has_blanks_around text) kind.BlanksInClass number span found

-- the warnings about a range of a class are found
pub record FindsRange (file : List ℕ) (number : ℕ) (span : Extent) (bytes : Range) (found : List Warning) : Type 0 where
  pub reversed : FindsIf (nat_lt bytes.high bytes.low) kind.ReversedRange number span found
  pub to_bracket : FindsIf (ends_in_bracket (text_in file span)) kind.ClassEndsInRange number span found
  pub over_signs : FindsIf (goes_over_signs (text_in file span)) kind.RangeOverSigns number span found

-- a byte is in a range of the class that ends at an offset or before
abbrev pub IsInEarlier : (file : List ℕ) → (class : Extent) → (at byte : ℕ) → Type 0
IsInEarlier file class at byte =
    (span : Extent) × (bytes : Range) × IsRangeOfClass file class span bytes × (span.end ≤ at) × IsTrue (holds byte bytes)

-- a set has the bytes of the ranges of a class up to an offset
pub record AreSeen (file : List ℕ) (class : Extent) (at : ℕ) (set : Bytes) : Type 0 where
  pub sound : (byte : ℕ) → IsTrue (has set byte) → IsInEarlier file class at byte
  pub complete : (span : Extent) (bytes : Range) (byte : ℕ) → IsRangeOfClass file class span bytes
      → IsTrue (holds byte bytes) → IsTrue (has set byte) ⊎ RangesBetween file at span.start

-- a set and a range have a byte in common
abbrev pub HaveCommonByte : Bytes → Range → Type 0
HaveCommonByte set bytes = (byte : ℕ) × IsTrue (has set byte) × IsTrue (holds byte bytes)

-- the warning about a range with a byte of an earlier one is found
abbrev pub FindsRepeat : (file : List ℕ) → (number : ℕ) → (class span : Extent) → List Warning → Type 0
FindsRepeat file number class span found =
    IsRepeatedRange file class span → HasWarning found kind.RepeatedByte number span None

-- the warnings about the ranges of a class are found
pub record FindsRanges (file : List ℕ) (number : ℕ) (class : Extent) (found : List Warning) : Type 0 where
  pub reversed : (span : Extent) → IsReversedRange file class span
      → HasWarning found kind.ReversedRange number span None
  pub to_bracket : (span : Extent) → IsRangeText ends_in_bracket file class span
      → HasWarning found kind.ClassEndsInRange number span None
  pub over_signs : (span : Extent) → IsRangeText goes_over_signs file class span
      → HasWarning found kind.RangeOverSigns number span None
  pub repeats : (span : Extent) → FindsRepeat file number class span found

-- the warnings about the ranges of a class are found, but for those that an offset leads to
pub record FindsRangesBefore (file : List ℕ) (number : ℕ) (class : Extent) (at : ℕ) (found : List Warning) : Type 0
  where
    pub reversed : (span : Extent) → IsReversedRange file class span
        → HasWarning found kind.ReversedRange number span None ⊎ RangesBetween file at span.start
    pub to_bracket : (span : Extent) → IsRangeText ends_in_bracket file class span
        → HasWarning found kind.ClassEndsInRange number span None ⊎ RangesBetween file at span.start
    pub over_signs : (span : Extent) → IsRangeText goes_over_signs file class span
        → HasWarning found kind.RangeOverSigns number span None ⊎ RangesBetween file at span.start
    pub repeats : (span : Extent) → IsRepeatedRange file class span
        → HasWarning found kind.RepeatedByte number span None ⊎ RangesBetween file at span.start

-- the warnings about a class within the file are found
abbrev pub FindsClass : (file : List ℕ) → (number : ℕ) → Extent → List Warning → Type 0
FindsClass file number span found = IsWithin file span
    → FindsWhole (text_in file span) number span found × FindsRanges file number span found

-- the warning about the text of a literal within the file is found
abbrev pub FindsLineEnd : (file : List ℕ) → (number : ℕ) → Extent → List Warning → Type 0
FindsLineEnd file number span found =
    IsWithin file span → FindsIf (holds_line_end (text_in file span)) kind.HoldsLineEnd number span found

-- the warnings about empty alternatives of a choice are found
abbrev pub FindsEmpty : (number : ℕ) → Form → List Warning → Type 0
FindsEmpty number e found = (span : Extent) (later : Form) → IsLaterAlternative e (Seq End span) later
    → HasWarning found kind.EmptyAlternative number span None

-- the warnings about empty alternatives are found, of those before an index
abbrev pub FindsEmptyBefore : (number : ℕ) → (first : Form) → (rest : List Form) → (index : ℕ) → List Warning → Type 0
FindsEmptyBefore number first rest index found = (k : ℕ) (span : Extent) → k < index
    → slice_get (first ∷ rest) k ≡ Some (Seq End span) → HasWarning found kind.EmptyAlternative number span None

-- the warnings about the text of an expression are found, without those about its parts
pub record FindsText (file : List ℕ) (number : ℕ) (found : List Warning) (e : Form) : Type 0 where
  pub literal : (bytes : List ℕ) (span : Extent) → e ≡ Literal bytes span → FindsLineEnd file number span found
  pub class : (set : Bytes) (span : Extent) → e ≡ Class set span → FindsClass file number span found
  pub empty : FindsEmpty number e found

-- the warnings about the texts of expressions are found
abbrev pub FindsTexts : (file : List ℕ) → (number : ℕ) → List Form → List Warning → Type 0
FindsTexts file number expressions found = All (FindsText file number found) expressions

-- wherever the warnings about the texts of the remaining expressions are found, those of all expressions are
abbrev pub FindsBut : (file : List ℕ) → (number : ℕ) → (remaining all : List Form) → List Warning → Type 0
FindsBut file number remaining all found = (later : List Warning) → Keeps found later
    → FindsTexts file number remaining later → FindsTexts file number all later

-- the warning about a dot at the end of a rule is found
abbrev pub FindsDot : (file : List ℕ) → List Rule → (number : ℕ) → List Warning → Type 0
FindsDot file rules number found =
    (span : Extent) → IsDotAtEnd file rules number span → HasWarning found kind.AnyAtEnd number span None

-- the warnings about the text of a rule are found
pub record FindsRuleText (file : List ℕ) (rules : List Rule) (number : ℕ) (found : List Warning) : Type 0 where
  pub parts : (rule : Rule) → slice_get rules number ≡ Some rule
      → FindsTexts file number (subexpressions rule.body) found
  pub dot : FindsDot file rules number found

-- the warnings about the texts of all rules are found
abbrev pub FindsInFile : (file : List ℕ) → List Rule → List Warning → Type 0
FindsInFile file rules found = (number : ℕ) → number < length rules → FindsRuleText file rules number found

-- the warning about an expression that cannot match is found
abbrev pub FindsExcluded : List Rule → (number : ℕ) → Form → List Warning → Type 0
FindsExcluded rules number e found = ¬ IsClassOrPredicate e → CannotMatch rules e
    → HasWarning found kind.NeverMatches number (extent_of e) None

-- the warnings about an operator are found
pub record FindsOperator (rules : List Rule) (number : ℕ) (e : Form) (found : List Warning) : Type 0 where
  pub failing : IsFailingPredicate rules e → HasWarning found kind.AlwaysFails number (extent_of e) None
  pub without_use : IsWithoutUse rules e → HasWarning found kind.NoEffect number (extent_of e) None

-- the warnings about alternatives of a choice that are never tried are found
abbrev pub FindsUntried : List Rule → (number : ℕ) → Form → List Warning → Type 0
FindsUntried rules number e found = (earlier later : Form) → IsUntriedIn rules e earlier later
    → HasWarning found kind.NeverTried number (extent_of later) (Some (extent_of earlier))

-- the warnings about the items or alternatives of an expression are found
abbrev pub FindsItems : List Rule → (number : ℕ) → Forms → List Warning → Type 0
FindsItems rules number items found = (item : Form) → IsAmong items item → FindsExcluded rules number item found

-- the warnings about an expression are found, without those about its parts
pub record FindsOf (rules : List Rule) (number : ℕ) (found : List Warning) (e : Form) : Type 0 where
  pub items : (item : Form) → IsItemOf e item → FindsExcluded rules number item found
  pub untried : FindsUntried rules number e found
  pub operator : FindsOperator rules number e found

-- the warnings about expressions are found
abbrev pub FindsOfAll : List Rule → (number : ℕ) → List Form → List Warning → Type 0
FindsOfAll rules number expressions found = All (FindsOf rules number found) expressions

-- the warnings about items or alternatives and about their parts are found
pub record FindsBelow (rules : List Rule) (number : ℕ) (items : Forms) (found : List Warning) : Type 0 where
  pub excluded : FindsItems rules number items found
  pub parts : FindsOfAll rules number (below_all items) found

-- wherever the warnings about the remaining items are found, those about all items are
abbrev pub FindsBelowBut : List Rule → (number : ℕ) → (remaining all : Forms) → List Warning → Type 0
FindsBelowBut rules number remaining all found = (later : List Warning) → Keeps found later
    → FindsBelow rules number remaining later → FindsBelow rules number all later

-- the warnings about a rule's expression are found
pub record FindsRule (rules : List Rule) (number : ℕ) (found : List Warning) : Type 0 where
  pub body : (rule : Rule) → slice_get rules number ≡ Some rule → FindsExcluded rules number rule.body found
  pub parts : (rule : Rule) → slice_get rules number ≡ Some rule
      → FindsOfAll rules number (subexpressions rule.body) found

-- the warnings about the expressions of all rules are found
abbrev pub FindsRules : List Rule → List Warning → Type 0
FindsRules rules found = (number : ℕ) → number < length rules → FindsRule rules number found

-- the warnings about unused rules are found
abbrev pub FindsUnused : List Rule → (start : ℕ) → List Warning → Type 0
FindsUnused rules start found = (number : ℕ) (span : Extent) → IsUnreached rules start number span
    → HasWarning found kind.UnusedRule number span None

-- an operator and its part
abbrev pub IsOperatorOn : Form → (part : Form) → Type 0
IsOperatorOn (Literal bytes span) part = ⊥
IsOperatorOn (Class set span) part = ⊥
IsOperatorOn (Any span) part = ⊥
IsOperatorOn (Name name span) part = ⊥
IsOperatorOn (Seq items span) part = ⊥
IsOperatorOn (Choice first rest span) part = ⊥
IsOperatorOn (Optional e span) part = e ≡ part
IsOperatorOn (Star e span) part = e ≡ part
IsOperatorOn (Plus e span) part = e ≡ part
IsOperatorOn (Counted e min max span) part = e ≡ part
IsOperatorOn (And e span) part = e ≡ part
IsOperatorOn (Not e span) part = e ≡ part

-- a choice in a rule, with the outcomes of its alternatives
pub record IsChoiceWith (rules : List Rule) (number : ℕ) (first : Form) (rest : Forms) (span : Extent) (can : Can)
    (cans : List Can) : Type 0 where
  pub part : IsPartOfRule rules number (Choice first rest span)
  pub first_outcome : IsAbstractOutcome rules first can
  pub outcomes : AreOutcomes rules rest cans

-- the outcomes at an index
abbrev pub can_at : List Can → ℕ → Can
can_at cans index = slice_index_or cans index no_outcome

-- the first of these outcomes without a failure are at an index
pub record AreFirstCertain (cans : List Can) (index : ℕ) : Type 0 where
  pub within : index < length cans
  pub certain : (can_at cans index).fails ≡ false
  pub before : (k : ℕ) → k < index → (can_at cans k).fails ≡ true

-- all of these outcomes have a failure
abbrev pub AllFail : List Can → Type 0
AllFail cans = (k : ℕ) → k < length cans → (can_at cans k).fails ≡ true

-- the warnings about alternatives after the first are found, from one index to another
abbrev pub FindsUntriedFrom : (number : ℕ) → (rest : List Form) → (low high : ℕ) → (by : Extent) → List Warning → Type 0
FindsUntriedFrom number rest low high by found = (k : ℕ) (later : Form) → low ≤ k → k < high
    → slice_get rest k ≡ Some later → HasWarning found kind.NeverTried number (extent_of later) (Some by)

-- an expression is a literal, a class or a dot
abbrev pub IsTerminal : Form → Type 0
IsTerminal (Literal bytes span) = Unit {0}
IsTerminal (Class set span) = Unit {0}
IsTerminal (Any span) = Unit {0}
IsTerminal (Name name span) = ⊥
IsTerminal (Seq items span) = ⊥
IsTerminal (Choice first rest span) = ⊥
IsTerminal (Optional part span) = ⊥
IsTerminal (Star part span) = ⊥
IsTerminal (Plus part span) = ⊥
IsTerminal (Counted part min max span) = ⊥
IsTerminal (And part span) = ⊥
IsTerminal (Not part span) = ⊥

-- a terminal that an expression begins with: where it fails, the expression fails
abbrev pub IsHeadOf : List Rule → (head e : Form) → Type 0
IsHeadOf rules head e = IsTerminal head × FailsWhere rules head e

-- an item that fails wherever the part of the repetition before it fails
abbrev pub IsStuck : List Rule → (repeat next : Form) → Type 0
IsStuck rules repeat next = (part : Form) × IsRepeatOf repeat part × FailsWhere rules part next
