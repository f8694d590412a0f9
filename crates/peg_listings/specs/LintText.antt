-- The printed warnings about a grammar.
use Rattle.std.specs.Prelude.{ℕ, List, [], ◌∷◌, codes, map, Option, None, Some}
use Rattle.serde_json.specs.Data.{Data, Members, unsigned, number, boolean, string, array, object, no_members, member}
use Rattle.serde_json.specs.Data.{no_items, item}
use Rattle.serde_json.specs.View.{items_of}
use Rattle.peg_bytes.specs.Place.{line_at, column_at}
use Rattle.peg_bytes.specs.declared.span.Span.{Span}
use Rattle.peg_tree.specs.Names.{name_at}
use Rattle.peg_lint.specs.FileWarnings.{is_proved}
use Rattle.peg_lint.specs.declared.warning.Warning.{Warning}
use Rattle.peg_lint.specs.declared.warning.WarningKind.{WarningKind}
use Rattle.peg_lint.specs.declared.warning.WarningKind.TheVariants as kind

-- the printed name of a kind of warning
abbrev pub kind_name : WarningKind → List ℕ
kind_name kind.UnusedRule = codes "UnusedRule"
kind_name kind.NeverMatches = codes "NeverMatches"
kind_name kind.NeverTried = codes "NeverTried"
kind_name kind.AlwaysFails = codes "AlwaysFails"
kind_name kind.NoEffect = codes "NoEffect"
kind_name kind.SameAlternative = codes "SameAlternative"
kind_name kind.Shadowed = codes "Shadowed"
kind_name kind.NeverStops = codes "NeverStops"
kind_name kind.NeverFollows = codes "NeverFollows"
kind_name kind.TakesNothing = codes "TakesNothing"
kind_name kind.ReversedRange = codes "ReversedRange"
kind_name kind.EmptyAlternative = codes "EmptyAlternative"
kind_name kind.AnyAtEnd = codes "AnyAtEnd"
kind_name kind.ClassBeginsWithCaret = codes "ClassBeginsWithCaret"
kind_name kind.ClassEndsInRange = codes "ClassEndsInRange"
kind_name kind.RangeOverSigns = codes "RangeOverSigns"
kind_name kind.HoldsLineEnd = codes "HoldsLineEnd"
kind_name kind.HighBytesInClass = codes "HighBytesInClass"
kind_name kind.BlanksInClass = codes "BlanksInClass"
kind_name kind.RepeatedByte = codes "RepeatedByte"

-- the members of a warning, with the span of its cause first if it has one
abbrev pub with_cause : Option Span → Members → Members
with_cause None others = others
with_cause (Some span) others =
    member (codes "by") (array (item (number (unsigned span.start)) (item (number (unsigned span.end)) no_items))) others

-- the last members of a warning about a rule with this name
abbrev pub rule_members : (rule : List ℕ) → Warning → Members
rule_members rule warning =
    member (codes "proved") (boolean (is_proved warning.kind)) (member (codes "rule") (string rule)
    (member (codes "start") (number (unsigned warning.span.start)) no_members))

-- the members but the cause of a warning that starts at this line and column, about a rule with this name
abbrev pub placed_members : (line column : ℕ) → (rule : List ℕ) → Warning → Members
placed_members line column rule warning =
    member (codes "column") (number (unsigned column)) (member (codes "end") (number (unsigned warning.span.end))
    (member (codes "kind") (string (kind_name warning.kind)) (member (codes "line") (number (unsigned line))
    (rule_members rule warning))))

abbrev pub placed_data : (line column : ℕ) → (rule : List ℕ) → Warning → Data
placed_data line column rule warning = object (with_cause warning.by (placed_members line column rule warning))

-- the JSON of a warning about a grammar file whose rules have these names
abbrev pub warning_data : (file : List ℕ) → (names : List (List ℕ)) → Warning → Data
warning_data file names warning =
    placed_data (line_at file warning.span.start) (column_at file warning.span.start) (name_at names warning.rule)
    warning

-- the JSON of all warnings about a grammar file
abbrev pub lint_data : (file : List ℕ) → (names : List (List ℕ)) → List Warning → Data
lint_data file names warnings =
    object (member (codes "warnings") (array (items_of (map (warning_data file names) warnings))) no_members)

-- the exit status for warnings: 0 if there are none, and otherwise 1
abbrev pub status_of_warnings : List Warning → ℕ
status_of_warnings [] = 0
status_of_warnings (warning ∷ warnings) = 1
