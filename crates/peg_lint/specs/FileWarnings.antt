-- What a warning says of a grammar file. A kind of `Says` is a theorem about the grammar as written. The others say
-- what the file has in an extent.
use Rattle.std.specs.Prelude.{◌≡◌, ◌⊎◌, ℕ, ◌+◌, Bool, true, false, IsTrue, List, None, Some, slice_get}
use Rattle.peg_bytes.specs.ByteSet.{Bytes}
use Rattle.peg_bytes.specs.Extent.{Extent, between, extent}
use Rattle.peg_metagrammar.specs.Ranges.{Range}
use Rattle.peg_semantics.specs.Form.{Form, Forms, Literal, Class, Any, Name, Seq, Choice, Optional, Star, Plus, Counted}
use Rattle.peg_semantics.specs.Form.{And, Not, End, Then}
use Rattle.peg_semantics.specs.Rules.{Rule}
use Rattle.peg_lint.specs.Habits.{text_in, begins_with_caret, ends_in_bracket, goes_over_signs, has_blanks_around}
use Rattle.peg_lint.specs.Habits.{EndsRule, IsWithin, holds_high_byte, holds_line_end}
use Rattle.peg_lint.specs.Spelling.{IsRangeOfClass, IsRepeatedRange, IsReversedRange}
use Rattle.peg_lint.specs.Warnings.{FindsDecided, HasWarning, IsLaterAlternative, IsPartOfRule, IsTrueWarning}
use Rattle.peg_lint.specs.Warnings.{extent_of}
use Rattle.peg_lint.specs.declared.warning.Selection.{Selection}
use Rattle.peg_lint.specs.declared.warning.Selection.TheVariants as selection
use Rattle.peg_lint.specs.declared.warning.Warning.{Warning}
use Rattle.peg_lint.specs.declared.warning.WarningKind.{WarningKind}
use Rattle.peg_lint.specs.declared.warning.WarningKind.TheVariants as kind

-- a class of a rule, whose extent is within the file, has a property of this extent
abbrev pub IsClassWith : (file : List ℕ) → List Rule → (number : ℕ) → (Extent → Type 0) → Type 0
IsClassWith file rules number Has =
    (set : Bytes) × (class : Extent) × IsPartOfRule rules number (Class set class) × IsWithin file class × Has class

-- the text of a class of a rule passes a test
abbrev pub IsClassText : (List ℕ → Bool) → (file : List ℕ) → List Rule → (number : ℕ) → Extent → Type 0
IsClassText test file rules number span =
    IsClassWith file rules number (λ class. (class ≡ span) × IsTrue (test (text_in file span)))

-- a literal or a class of a rule goes over the end of a line
abbrev pub IsOverLineEnd : (file : List ℕ) → List Rule → (number : ℕ) → Extent → Type 0
IsOverLineEnd file rules number span =
    (((bytes : List ℕ) × IsPartOfRule rules number (Literal bytes span))
    ⊎ ((set : Bytes) × IsPartOfRule rules number (Class set span)))
    × IsWithin file span × IsTrue (holds_line_end (text_in file span))

-- the text of a range of a class passes a test
abbrev pub IsRangeText : (List ℕ → Bool) → (file : List ℕ) → (class span : Extent) → Type 0
IsRangeText test file class span =
    (bytes : Range) × IsRangeOfClass file class span bytes × IsTrue (test (text_in file span))

-- an empty alternative of a choice, before another one
abbrev pub IsEmptyAlternative : List Rule → (number : ℕ) → Extent → Type 0
IsEmptyAlternative rules number span =
    (choice later : Form) × IsPartOfRule rules number choice × IsLaterAlternative choice (Seq End span) later

-- an expression is the last of these
abbrev pub IsLastOf : Forms → Form → Type 0
IsLastOf End e = ⊥
IsLastOf (Then first End) e = first ≡ e
IsLastOf (Then first (Then next rest)) e = IsLastOf (Then next rest) e

-- two expressions are the last two of these
abbrev pub AreLastTwo : Forms → (before last : Form) → Type 0
AreLastTwo End before last = ⊥
AreLastTwo (Then first End) before last = ⊥
AreLastTwo (Then first (Then next End)) before last = (first ≡ before) × (next ≡ last)
AreLastTwo (Then first (Then next (Then other rest))) before last = AreLastTwo (Then next (Then other rest)) before last

-- the last alternative of a choice; another expression is its own
abbrev pub IsLastAlternative : Form → (alternative : Form) → Type 0
IsLastAlternative (Choice first rest span) alternative = IsLastOf (Then first rest) alternative
IsLastAlternative e alternative = e ≡ alternative

-- a dot after an expression is the usual way to read a byte: after a predicate or a dot
abbrev pub IsPredicateOrDot : Form → Type 0
IsPredicateOrDot (Literal bytes span) = ⊥
IsPredicateOrDot (Class set span) = ⊥
IsPredicateOrDot (Any span) = Unit {0}
IsPredicateOrDot (Name name span) = ⊥
IsPredicateOrDot (Seq items span) = ⊥
IsPredicateOrDot (Choice first rest span) = ⊥
IsPredicateOrDot (Optional part span) = ⊥
IsPredicateOrDot (Star part span) = ⊥
IsPredicateOrDot (Plus part span) = ⊥
IsPredicateOrDot (Counted part min max span) = ⊥
IsPredicateOrDot (And part span) = Unit {0}
IsPredicateOrDot (Not part span) = Unit {0}

-- the last of these is a dot, and before it is another expression, but no predicate and no dot
abbrev pub EndInDot : Forms → Extent → Type 0
EndInDot items span = (before : Form) × AreLastTwo items before (Any span) × ¬ IsPredicateOrDot before

-- the last alternative of an expression is a sequence that ends in such a dot, with which the expression ends
pub record EndsInDot (e : Form) (span : Extent) : Type 0 where
  pub items : Forms
  pub whole : Extent
  pub last : IsLastAlternative e (Seq items whole)
  pub dot : EndInDot items span
  pub ends : span.end ≡ (extent_of e).end

-- The expression of a rule ends in a dot, and another rule comes next. No parenthesis closes between the dot and that
-- rule's name.
pub record IsDotAtEnd (file : List ℕ) (rules : List Rule) (number : ℕ) (span : Extent) : Type 0 where
  pub rule : Rule
  pub at : slice_get rules number ≡ Some rule
  pub next : Rule
  pub after : slice_get rules (number + 1) ≡ Some next
  pub dot : EndsInDot rule.body span
  pub ends : EndsRule file (between span.end next.span.start)

-- what each kind of warning says of the file
abbrev pub SaysOfFile : WarningKind → (file : List ℕ) → List Rule → (number : ℕ) → Extent → Type 0
SaysOfFile kind.UnusedRule file rules number span = ⊥
SaysOfFile kind.NeverMatches file rules number span = ⊥
SaysOfFile kind.NeverTried file rules number span = ⊥
SaysOfFile kind.AlwaysFails file rules number span = ⊥
SaysOfFile kind.NoEffect file rules number span = ⊥
SaysOfFile kind.SameAlternative file rules number span = ⊥
SaysOfFile kind.Shadowed file rules number span = ⊥
SaysOfFile kind.NeverStops file rules number span = ⊥
SaysOfFile kind.NeverFollows file rules number span = ⊥
SaysOfFile kind.TakesNothing file rules number span = ⊥
SaysOfFile kind.ReversedRange file rules number span =
    IsClassWith file rules number (λ class. IsReversedRange file class span)
SaysOfFile kind.EmptyAlternative file rules number span = IsEmptyAlternative rules number span
SaysOfFile kind.AnyAtEnd file rules number span = IsDotAtEnd file rules number span
SaysOfFile kind.ClassBeginsWithCaret file rules number span = IsClassText begins_with_caret file rules number span
SaysOfFile kind.ClassEndsInRange file rules number span =
    IsClassWith file rules number (λ class. IsRangeText ends_in_bracket file class span)
SaysOfFile kind.RangeOverSigns file rules number span =
    IsClassWith file rules number (λ class. IsRangeText goes_over_signs file class span)
SaysOfFile kind.HoldsLineEnd file rules number span = IsOverLineEnd file rules number span
SaysOfFile kind.HighBytesInClass file rules number span = IsClassText holds_high_byte file rules number span
SaysOfFile kind.BlanksInClass file rules number span = IsClassText has_blanks_around file rules number span
SaysOfFile kind.RepeatedByte file rules number span =
    IsClassWith file rules number (λ class. IsRepeatedRange file class span)

-- a warning is true of the file, and names no cause
abbrev pub IsTrueOfFile : (file : List ℕ) → List Rule → Warning → Type 0
IsTrueOfFile file rules warning =
    SaysOfFile warning.kind file rules warning.rule (extent warning.span) × (warning.by ≡ None)

-- A warning is true of a grammar file with these rules, parsed from this start rule: by the rules, or by the bytes.
abbrev pub IsTrueWarningIn : (file : List ℕ) → List Rule → (start : ℕ) → Warning → Type 0
IsTrueWarningIn file rules start warning = IsTrueWarning rules start warning ⊎ IsTrueOfFile file rules warning

-- whether a kind is proved to be a mistake; the others are habits of other notations
abbrev pub is_proved : WarningKind → Bool
is_proved kind.UnusedRule = true
is_proved kind.NeverMatches = true
is_proved kind.NeverTried = true
is_proved kind.AlwaysFails = true
is_proved kind.NoEffect = true
is_proved kind.SameAlternative = true
is_proved kind.Shadowed = true
is_proved kind.NeverStops = true
is_proved kind.NeverFollows = true
is_proved kind.TakesNothing = true
is_proved kind.ReversedRange = true
is_proved kind.EmptyAlternative = false
is_proved kind.AnyAtEnd = false
is_proved kind.ClassBeginsWithCaret = false
is_proved kind.ClassEndsInRange = false
is_proved kind.RangeOverSigns = false
is_proved kind.HoldsLineEnd = false
is_proved kind.HighBytesInClass = false
is_proved kind.BlanksInClass = false
is_proved kind.RepeatedByte = false

-- whether warnings of a kind are reported
abbrev pub selects : Selection → WarningKind → Bool
selects selection.All kind = true
selects selection.Proved kind = is_proved kind

-- whether a warning is reported
abbrev pub is_selected : Selection → Warning → Bool
is_selected selection warning = selects selection warning.kind

-- the selection of the option for proved warnings
abbrev pub selection_of : (proved : Bool) → Selection
selection_of true = selection.Proved
selection_of false = selection.All

-- The warnings are found, of the kinds that are reported: all that are decided by names or by Ford's outcomes, and all
-- that the file has. So these kinds have exactly the warnings whose statement holds.
pub record FindsAll (file : List ℕ) (rules : List Rule) (start : ℕ) (selection : Selection) (found : List Warning) :
    Type 0 where
  pub decided : FindsDecided rules start found
  pub in_file : (kind : WarningKind) (number : ℕ) (span : Extent) → IsTrue (selects selection kind)
      → SaysOfFile kind file rules number span → HasWarning found kind number span None
