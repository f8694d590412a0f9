-- What a warning says of a grammar. Each kind is a theorem about Ford's recognition relation (Ford 2004, section 3.3),
-- for every text and every position.
use Rattle.std.specs.Prelude.{◌≡◌, ◌≢◌, ◌⊎◌, ℕ, ◌+◌, ◌<◌, ◌≤◌, List, All, AllPairs, Contains, Option, None, Some, length}
use Rattle.std.specs.Prelude.{slice_get, slice_index_or, option_map}
use Rattle.std.specs.List.Sorted.{IsNonDecreasingBy}
use Rattle.peg_bytes.specs.Extent.{Extent, extent}
use Rattle.peg_semantics.specs.Form.{Form, Forms, Literal, Class, Any, Name, Seq, Choice, Optional, Star, Plus, Counted}
use Rattle.peg_semantics.specs.Form.{And, Not, End, Then}
use Rattle.peg_semantics.specs.AbstractOutcomes.{CanFail}
use Rattle.peg_semantics.specs.Record.{Record, RuleCall, start_record}
use Rattle.peg_semantics.specs.Rules.{Rule, name_of}
use Rattle.peg_semantics.specs.WellFormed.{subexpressions}
use Rattle.peg_lint.specs.Excluded.{CannotFail, CannotMatch}
use Rattle.peg_lint.specs.Never.{NeverFails, NeverMatches, MatchesNothing, HasRecordsOf}
use Rattle.peg_lint.specs.Never.{FailsAfter, FailsWhere, HaveSameResults, MatchesNoByteAfter}
use Rattle.peg_lint.specs.Reaches.{Reaches}
use Rattle.peg_lint.specs.declared.warning.Warning.{Warning}
use Rattle.peg_lint.specs.declared.warning.WarningKind.{WarningKind}
use Rattle.peg_lint.specs.declared.warning.WarningKind.TheVariants as kind

-- the extent of an expression in the grammar file
abbrev pub extent_of : Form → Extent
extent_of (Literal bytes span) = span
extent_of (Class set span) = span
extent_of (Any span) = span
extent_of (Name name span) = span
extent_of (Seq items span) = span
extent_of (Choice first rest span) = span
extent_of (Optional part span) = span
extent_of (Star part span) = span
extent_of (Plus part span) = span
extent_of (Counted part min max span) = span
extent_of (And part span) = span
extent_of (Not part span) = span

-- an expression is that of the rule with this number, or a part of it
abbrev pub IsPartOfRule : List Rule → (number : ℕ) → Form → Type 0
IsPartOfRule rules number e =
    (rule : Rule) × (slice_get rules number ≡ Some rule) × Contains (subexpressions rule.body) e

-- an expression is one of these
abbrev pub IsAmong : Forms → Form → Type 0
IsAmong End e = ⊥
IsAmong (Then first rest) e = (first ≡ e) ⊎ IsAmong rest e

-- one expression comes before another in a list
abbrev pub ComesBefore : Forms → (earlier later : Form) → Type 0
ComesBefore End earlier later = ⊥
ComesBefore (Then first rest) earlier later =
    ((first ≡ earlier) × IsAmong rest later) ⊎ ComesBefore rest earlier later

-- one expression is an alternative of a choice after another
abbrev pub IsLaterAlternative : Form → (earlier later : Form) → Type 0
IsLaterAlternative (Literal bytes span) earlier later = ⊥
IsLaterAlternative (Class set span) earlier later = ⊥
IsLaterAlternative (Any span) earlier later = ⊥
IsLaterAlternative (Name name span) earlier later = ⊥
IsLaterAlternative (Seq items span) earlier later = ⊥
IsLaterAlternative (Choice first rest span) earlier later = ComesBefore (Then first rest) earlier later
IsLaterAlternative (Optional part span) earlier later = ⊥
IsLaterAlternative (Star part span) earlier later = ⊥
IsLaterAlternative (Plus part span) earlier later = ⊥
IsLaterAlternative (Counted part min max span) earlier later = ⊥
IsLaterAlternative (And part span) earlier later = ⊥
IsLaterAlternative (Not part span) earlier later = ⊥

-- an expression is `&e` or `!e`
abbrev pub IsPredicate : Form → Type 0
IsPredicate (Literal bytes span) = ⊥
IsPredicate (Class set span) = ⊥
IsPredicate (Any span) = ⊥
IsPredicate (Name name span) = ⊥
IsPredicate (Seq items span) = ⊥
IsPredicate (Choice first rest span) = ⊥
IsPredicate (Optional part span) = ⊥
IsPredicate (Star part span) = ⊥
IsPredicate (Plus part span) = ⊥
IsPredicate (Counted part min max span) = ⊥
IsPredicate (And part span) = Unit {0}
IsPredicate (Not part span) = Unit {0}

-- An operator is without effect: `e?`, `e*`, `&e` or `!e` always matches the empty string, or `e?` has the records of
-- `e`.
abbrev pub IsWithoutEffect : List Rule → Form → Type 0
IsWithoutEffect rules (Literal bytes span) = ⊥
IsWithoutEffect rules (Class set span) = ⊥
IsWithoutEffect rules (Any span) = ⊥
IsWithoutEffect rules (Name name span) = ⊥
IsWithoutEffect rules (Seq items span) = ⊥
IsWithoutEffect rules (Choice first rest span) = ⊥
IsWithoutEffect rules (Optional part span) =
    MatchesNothing rules (Optional part span) ⊎ HasRecordsOf rules (Optional part span) part
IsWithoutEffect rules (Star part span) = MatchesNothing rules (Star part span)
IsWithoutEffect rules (Plus part span) = ⊥
IsWithoutEffect rules (Counted part min max span) = ⊥
IsWithoutEffect rules (And part span) = MatchesNothing rules (And part span)
IsWithoutEffect rules (Not part span) = MatchesNothing rules (Not part span)

-- the start rule's record on any text has no call of this rule
abbrev pub IsNeverCalled : List Rule → (start number : ℕ) → Type 0
IsNeverCalled rules start number = (text : List ℕ) (n : ℕ) (r : Record)
    → start_record rules text n (name_of rules start) ≡ Some r → All (λ (call : RuleCall). call.rule ≢ number) r.calls

-- a rule that no path of names from the start leads to; the extent is that of its name, where it is defined
pub record IsUnreached (rules : List Rule) (start number : ℕ) (span : Extent) : Type 0 where
  pub rule : Rule
  pub at : slice_get rules number ≡ Some rule
  pub span_is : rule.span ≡ span
  pub unreached : ¬ Reaches rules start number

-- a rule that is never called; the extent is that of its name, where it is defined
abbrev pub IsUnusedRule : List Rule → (start number : ℕ) → Extent → Type 0
IsUnusedRule rules start number span =
    (rule : Rule) × (slice_get rules number ≡ Some rule) × (rule.span ≡ span)
    × IsNeverCalled rules start number

-- a part of a rule at an extent has a property
abbrev pub IsPartWith : List Rule → (number : ℕ) → Extent → (Form → Type 0) → Type 0
IsPartWith rules number span Has = (e : Form) × IsPartOfRule rules number e × (extent_of e ≡ span) × Has e

-- an alternative of a choice, after one that never fails; the other extent is that of the one that never fails
abbrev pub IsNeverTried : List Rule → (number : ℕ) → Extent → Option Extent → Type 0
IsNeverTried rules number span by =
    (choice earlier later : Form) × IsPartOfRule rules number choice × IsLaterAlternative choice earlier later
    × (extent_of later ≡ span) × (Some (extent_of earlier) ≡ by) × NeverFails rules earlier

-- An alternative of a choice that always has the result of an earlier one, so that its own is never taken. The other
-- extent is that of the earlier one.
abbrev pub IsSameAlternative : List Rule → (number : ℕ) → Extent → Option Extent → Type 0
IsSameAlternative rules number span by =
    (choice earlier later : Form) × IsPartOfRule rules number choice × IsLaterAlternative choice earlier later
    × (extent_of later ≡ span) × (Some (extent_of earlier) ≡ by) × HaveSameResults rules earlier later

-- An alternative of a choice that fails wherever an earlier one fails, so that its result is never taken. The other
-- extent is that of the earlier one.
abbrev pub IsShadowed : List Rule → (number : ℕ) → Extent → Option Extent → Type 0
IsShadowed rules number span by =
    (choice earlier later : Form) × IsPartOfRule rules number choice × IsLaterAlternative choice earlier later
    × (extent_of later ≡ span) × (Some (extent_of earlier) ≡ by) × FailsWhere rules earlier later

-- an expression is the first of these
abbrev pub IsFirstOf : Forms → Form → Type 0
IsFirstOf End e = ⊥
IsFirstOf (Then first rest) e = first ≡ e

-- one expression follows another in a list
abbrev pub FollowsIn : Forms → (earlier next : Form) → Type 0
FollowsIn End earlier next = ⊥
FollowsIn (Then first rest) earlier next =
    ((first ≡ earlier) × IsFirstOf rest next) ⊎ FollowsIn rest earlier next

-- a star or a plus, and its part
abbrev pub IsRepeatOf : Form → (part : Form) → Type 0
IsRepeatOf (Literal bytes span) part = ⊥
IsRepeatOf (Class set span) part = ⊥
IsRepeatOf (Any span) part = ⊥
IsRepeatOf (Name name span) part = ⊥
IsRepeatOf (Seq items span) part = ⊥
IsRepeatOf (Choice first rest span) part = ⊥
IsRepeatOf (Optional e span) part = ⊥
IsRepeatOf (Star e span) part = e ≡ part
IsRepeatOf (Plus e span) part = e ≡ part
IsRepeatOf (Counted e min max span) part = ⊥
IsRepeatOf (And e span) part = ⊥
IsRepeatOf (Not e span) part = ⊥

-- A sequence that never matches, since an item fails wherever the star or plus before it ends. The extents are those of
-- the item and of the star or plus.
pub record IsNeverStopping (rules : List Rule) (number : ℕ) (span : Extent) (by : Option Extent) : Type 0 where
  pub items : Forms
  pub whole : Extent
  pub repeat : Form
  pub part : Form
  pub next : Form
  pub in_rule : IsPartOfRule rules number (Seq items whole)
  pub follows : FollowsIn items repeat next
  pub repeats : IsRepeatOf repeat part
  pub span_is : extent_of next ≡ span
  pub by_is : Some (extent_of repeat) ≡ by
  pub fails : FailsAfter rules repeat next
  pub never : NeverMatches rules (Seq items whole)

-- an expression is a star or a plus
abbrev pub IsRepeat : Form → Type 0
IsRepeat (Literal bytes span) = ⊥
IsRepeat (Class set span) = ⊥
IsRepeat (Any span) = ⊥
IsRepeat (Name name span) = ⊥
IsRepeat (Seq items span) = ⊥
IsRepeat (Choice first rest span) = ⊥
IsRepeat (Optional part span) = ⊥
IsRepeat (Star part span) = Unit {0}
IsRepeat (Plus part span) = Unit {0}
IsRepeat (Counted part min max span) = ⊥
IsRepeat (And part span) = ⊥
IsRepeat (Not part span) = ⊥

-- A sequence that never matches, since an item fails wherever the item before it ends, which is no star and no plus. The
-- extents are those of the two items, the later one first.
pub record IsNeverFollowing (rules : List Rule) (number : ℕ) (span : Extent) (by : Option Extent) : Type 0 where
  pub items : Forms
  pub whole : Extent
  pub earlier : Form
  pub next : Form
  pub in_rule : IsPartOfRule rules number (Seq items whole)
  pub follows : FollowsIn items earlier next
  pub no_repeat : ¬ IsRepeat earlier
  pub span_is : extent_of next ≡ span
  pub by_is : Some (extent_of earlier) ≡ by
  pub fails : FailsAfter rules earlier next
  pub never : NeverMatches rules (Seq items whole)

-- An item of a sequence that matches no byte wherever the item before it ends. The extents are those of the two items,
-- the later one first.
pub record IsTakingNothing (rules : List Rule) (number : ℕ) (span : Extent) (by : Option Extent) : Type 0 where
  pub items : Forms
  pub whole : Extent
  pub earlier : Form
  pub next : Form
  pub in_rule : IsPartOfRule rules number (Seq items whole)
  pub follows : FollowsIn items earlier next
  pub span_is : extent_of next ≡ span
  pub by_is : Some (extent_of earlier) ≡ by
  pub takes_none : MatchesNoByteAfter rules earlier next

-- an expression is an item of a sequence, or an alternative of a choice
abbrev pub IsItemOf : Form → (item : Form) → Type 0
IsItemOf (Literal bytes span) item = ⊥
IsItemOf (Class set span) item = ⊥
IsItemOf (Any span) item = ⊥
IsItemOf (Name name span) item = ⊥
IsItemOf (Seq items span) item = IsAmong items item
IsItemOf (Choice first rest span) item = IsAmong (Then first rest) item
IsItemOf (Optional part span) item = ⊥
IsItemOf (Star part span) item = ⊥
IsItemOf (Plus part span) item = ⊥
IsItemOf (Counted part min max span) item = ⊥
IsItemOf (And part span) item = ⊥
IsItemOf (Not part span) item = ⊥

-- an expression is that of a rule, or an item or an alternative in it
abbrev pub IsPlaced : List Rule → (number : ℕ) → Form → Type 0
IsPlaced rules number e =
    ((rule : Rule) × (slice_get rules number ≡ Some rule) × (rule.body ≡ e))
    ⊎ ((whole : Form) × IsPartOfRule rules number whole × IsItemOf whole e)

-- an expression is a class or a predicate
abbrev pub IsClassOrPredicate : Form → Type 0
IsClassOrPredicate (Literal bytes span) = ⊥
IsClassOrPredicate (Class set span) = Unit {0}
IsClassOrPredicate (Any span) = ⊥
IsClassOrPredicate (Name name span) = ⊥
IsClassOrPredicate (Seq items span) = ⊥
IsClassOrPredicate (Choice first rest span) = ⊥
IsClassOrPredicate (Optional part span) = ⊥
IsClassOrPredicate (Star part span) = ⊥
IsClassOrPredicate (Plus part span) = ⊥
IsClassOrPredicate (Counted part min max span) = ⊥
IsClassOrPredicate (And part span) = Unit {0}
IsClassOrPredicate (Not part span) = Unit {0}

-- The expression of a rule, an item or an alternative cannot match by Ford's outcomes. It is no class, which may fail
-- on purpose, and no predicate, which has another kind of warning.
pub record IsExcludedAt (rules : List Rule) (number : ℕ) (span : Extent) : Type 0 where
  pub e : Form
  pub placed : IsPlaced rules number e
  pub span_is : extent_of e ≡ span
  pub matter : ¬ IsClassOrPredicate e
  pub excluded : CannotMatch rules e

-- one of these cannot fail by Ford's outcomes, those before it can, and the other one comes after it
abbrev pub IsUntried : List Rule → Forms → (earlier later : Form) → Type 0
IsUntried rules End earlier later = ⊥
IsUntried rules (Then e rest) earlier later =
    ((e ≡ earlier) × CannotFail rules e × IsAmong rest later) ⊎ (CanFail rules e × IsUntried rules rest earlier later)

-- the same of the alternatives of a choice
abbrev pub IsUntriedIn : List Rule → Form → (earlier later : Form) → Type 0
IsUntriedIn rules (Literal bytes span) earlier later = ⊥
IsUntriedIn rules (Class set span) earlier later = ⊥
IsUntriedIn rules (Any span) earlier later = ⊥
IsUntriedIn rules (Name name span) earlier later = ⊥
IsUntriedIn rules (Seq items span) earlier later = ⊥
IsUntriedIn rules (Choice first rest span) earlier later = IsUntried rules (Then first rest) earlier later
IsUntriedIn rules (Optional part span) earlier later = ⊥
IsUntriedIn rules (Star part span) earlier later = ⊥
IsUntriedIn rules (Plus part span) earlier later = ⊥
IsUntriedIn rules (Counted part min max span) earlier later = ⊥
IsUntriedIn rules (And part span) earlier later = ⊥
IsUntriedIn rules (Not part span) earlier later = ⊥

-- an alternative of a choice in a rule comes after the first one that cannot fail
pub record IsUntriedAt (rules : List Rule) (number : ℕ) (span : Extent) (by : Option Extent) : Type 0 where
  pub choice : Form
  pub earlier : Form
  pub later : Form
  pub part : IsPartOfRule rules number choice
  pub untried : IsUntriedIn rules choice earlier later
  pub span_is : extent_of later ≡ span
  pub by_is : Some (extent_of earlier) ≡ by

-- a predicate fails by the outcomes of its part
abbrev pub IsFailingPredicate : List Rule → Form → Type 0
IsFailingPredicate rules (Literal bytes span) = ⊥
IsFailingPredicate rules (Class set span) = ⊥
IsFailingPredicate rules (Any span) = ⊥
IsFailingPredicate rules (Name name span) = ⊥
IsFailingPredicate rules (Seq items span) = ⊥
IsFailingPredicate rules (Choice first rest span) = ⊥
IsFailingPredicate rules (Optional part span) = ⊥
IsFailingPredicate rules (Star part span) = ⊥
IsFailingPredicate rules (Plus part span) = ⊥
IsFailingPredicate rules (Counted part min max span) = ⊥
IsFailingPredicate rules (And part span) = CannotMatch rules part
IsFailingPredicate rules (Not part span) = CannotFail rules part

-- An operator has no effect by the outcomes of its part. A predicate that fails by them has another kind of warning.
abbrev pub IsWithoutUse : List Rule → Form → Type 0
IsWithoutUse rules (Literal bytes span) = ⊥
IsWithoutUse rules (Class set span) = ⊥
IsWithoutUse rules (Any span) = ⊥
IsWithoutUse rules (Name name span) = ⊥
IsWithoutUse rules (Seq items span) = ⊥
IsWithoutUse rules (Choice first rest span) = ⊥
IsWithoutUse rules (Optional part span) = CannotMatch rules part ⊎ CannotFail rules part
IsWithoutUse rules (Star part span) = CannotMatch rules part
IsWithoutUse rules (Plus part span) = ⊥
IsWithoutUse rules (Counted part min max span) = ⊥
IsWithoutUse rules (And part span) = CannotFail rules part × ¬ CannotMatch rules part
IsWithoutUse rules (Not part span) = CannotMatch rules part × ¬ CannotFail rules part

-- What the kinds say that are decided by the names in expressions, or by Ford's outcomes. The others are no such kinds.
abbrev pub Decides : WarningKind → List Rule → (start number : ℕ) → Extent → Option Extent → Type 0
Decides kind.UnusedRule rules start number span by = IsUnreached rules start number span × (by ≡ None)
Decides kind.NeverMatches rules start number span by = IsExcludedAt rules number span × (by ≡ None)
Decides kind.NeverTried rules start number span by = IsUntriedAt rules number span by
Decides kind.AlwaysFails rules start number span by = IsPartWith rules number span (IsFailingPredicate rules) × (by ≡ None)
Decides kind.NoEffect rules start number span by = IsPartWith rules number span (IsWithoutUse rules) × (by ≡ None)
Decides kind.SameAlternative rules start number span by = ⊥
Decides kind.Shadowed rules start number span by = ⊥
Decides kind.NeverStops rules start number span by = ⊥
Decides kind.NeverFollows rules start number span by = ⊥
Decides kind.TakesNothing rules start number span by = ⊥
Decides kind.ReversedRange rules start number span by = ⊥
Decides kind.EmptyAlternative rules start number span by = ⊥
Decides kind.AnyAtEnd rules start number span by = ⊥
Decides kind.ClassBeginsWithCaret rules start number span by = ⊥
Decides kind.ClassEndsInRange rules start number span by = ⊥
Decides kind.RangeOverSigns rules start number span by = ⊥
Decides kind.HoldsLineEnd rules start number span by = ⊥
Decides kind.HighBytesInClass rules start number span by = ⊥
Decides kind.BlanksInClass rules start number span by = ⊥
Decides kind.RepeatedByte rules start number span by = ⊥

-- What each kind of warning says of the rules, with what decides it. `SaysOfFile` has the kinds that say something of
-- the file's bytes.
abbrev pub Says : WarningKind → List Rule → (start number : ℕ) → Extent → Option Extent → Type 0
Says kind.UnusedRule rules start number span by =
    IsUnusedRule rules start number span × Decides kind.UnusedRule rules start number span by
Says kind.NeverMatches rules start number span by =
    IsPartWith rules number span (NeverMatches rules) × Decides kind.NeverMatches rules start number span by
Says kind.NeverTried rules start number span by =
    IsNeverTried rules number span by × Decides kind.NeverTried rules start number span by
Says kind.AlwaysFails rules start number span by =
    IsPartWith rules number span (λ e. IsPredicate e × NeverMatches rules e)
    × Decides kind.AlwaysFails rules start number span by
Says kind.NoEffect rules start number span by =
    IsPartWith rules number span (IsWithoutEffect rules) × Decides kind.NoEffect rules start number span by
Says kind.SameAlternative rules start number span by = IsSameAlternative rules number span by
Says kind.Shadowed rules start number span by = IsShadowed rules number span by
Says kind.NeverStops rules start number span by = IsNeverStopping rules number span by
Says kind.NeverFollows rules start number span by = IsNeverFollowing rules number span by
Says kind.TakesNothing rules start number span by = IsTakingNothing rules number span by
Says kind.ReversedRange rules start number span by = ⊥
Says kind.EmptyAlternative rules start number span by = ⊥
Says kind.AnyAtEnd rules start number span by = ⊥
Says kind.ClassBeginsWithCaret rules start number span by = ⊥
Says kind.ClassEndsInRange rules start number span by = ⊥
Says kind.RangeOverSigns rules start number span by = ⊥
Says kind.HoldsLineEnd rules start number span by = ⊥
Says kind.HighBytesInClass rules start number span by = ⊥
Says kind.BlanksInClass rules start number span by = ⊥
Says kind.RepeatedByte rules start number span by = ⊥

-- a warning is true of a grammar with these rules, parsed from this start rule
abbrev pub IsTrueWarning : List Rule → (start : ℕ) → Warning → Type 0
IsTrueWarning rules start warning =
    Says warning.kind rules start warning.rule (extent warning.span) (option_map extent warning.by)

-- a list has a warning of a kind about a rule, with these extents
pub record HasWarning (found : List Warning) (kind : WarningKind) (number : ℕ) (span : Extent) (by : Option Extent) :
    Type 0 where
  pub warning : Warning
  pub among : Contains found warning
  pub kind_is : warning.kind ≡ kind
  pub rule_is : warning.rule ≡ number
  pub span_is : extent warning.span ≡ span
  pub by_is : option_map extent warning.by ≡ by

-- A list has each warning of a kind that is decided so. By `Says` it has no other warning of these kinds.
abbrev pub FindsDecided : List Rule → (start : ℕ) → List Warning → Type 0
FindsDecided rules start found = (what : WarningKind) (number : ℕ) (span : Extent) (by : Option Extent)
    → Decides what rules start number span by → HasWarning found what number span by

-- the place of a kind among all kinds
abbrev pub rank_of : WarningKind → ℕ
rank_of kind.UnusedRule = 0
rank_of kind.NeverMatches = 1
rank_of kind.NeverTried = 2
rank_of kind.AlwaysFails = 3
rank_of kind.NoEffect = 4
rank_of kind.SameAlternative = 5
rank_of kind.Shadowed = 6
rank_of kind.NeverStops = 7
rank_of kind.NeverFollows = 8
rank_of kind.TakesNothing = 9
rank_of kind.ReversedRange = 10
rank_of kind.EmptyAlternative = 11
rank_of kind.AnyAtEnd = 12
rank_of kind.ClassBeginsWithCaret = 13
rank_of kind.ClassEndsInRange = 14
rank_of kind.RangeOverSigns = 15
rank_of kind.HoldsLineEnd = 16
rank_of kind.HighBytesInClass = 17
rank_of kind.BlanksInClass = 18
rank_of kind.RepeatedByte = 19

-- Warnings in the order of the starts of their extents. Those with the same start are in the order of their kinds, and
-- those of the same kind in the order of their ends.
pub record IsInWrittenOrder (warnings : List Warning) : Type 0 where
  pub starts : IsNonDecreasingBy (λ warning. warning.span.start) warnings
  pub kinds : (k : ℕ) (d : Warning) → k + 1 < length warnings
      → (slice_index_or warnings k d).span.start ≡ (slice_index_or warnings (k + 1) d).span.start
      → rank_of (slice_index_or warnings k d).kind ≤ rank_of (slice_index_or warnings (k + 1) d).kind
  pub ends : (k : ℕ) (d : Warning) → k + 1 < length warnings
      → (slice_index_or warnings k d).span.start ≡ (slice_index_or warnings (k + 1) d).span.start
      → (slice_index_or warnings k d).kind ≡ (slice_index_or warnings (k + 1) d).kind
      → (slice_index_or warnings k d).span.end ≤ (slice_index_or warnings (k + 1) d).span.end

-- no two warnings of a list are equal
abbrev pub AreDistinct : List Warning → Type 0
AreDistinct warnings = AllPairs (λ (a b : Warning). a ≢ b) warnings
