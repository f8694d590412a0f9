-- The messages for warnings about a grammar file.
use Rattle.std.specs.Prelude.{ℕ, List, [], ◌∷◌, ◌++◌, Option, None, Some, codes, drop, filter, length, map, take}
use Rattle.std.specs.List.{flat_map, range_with_len}
use Rattle.peg_bytes.specs.declared.span.Span.{Span}
use Rattle.peg_lint.specs.declared.warning.Warning.{Warning}
use Rattle.peg_lint.specs.declared.warning.WarningKind.{WarningKind}
use Rattle.peg_messages.specs.Remarks.{remark_text}
use Rattle.peg_semantics.specs.Rules.{Rule, name_of}
use Rattle.peg_spacing.specs.Spacing.{has_flag, spacing_of}
use Rattle.peg_lint_files.specs.WarningSentences.{cause_sentence, kind_sentence}

-- ---- warnings

-- a note for the cause of a warning of a kind, if it has one
abbrev pub cause_message : (name file : List ℕ) → WarningKind → Option Span → List ℕ
cause_message name file kind None = []
cause_message name file kind (Some span) = remark_text name file span.start (codes "note") (cause_sentence kind)

-- a warning, and a note for its cause
abbrev pub warning_message : (name file : List ℕ) → Warning → List ℕ
warning_message name file warning =
    remark_text name file warning.span.start (codes "warning") (kind_sentence warning.kind)
    ++ cause_message name file warning.kind warning.by

-- ---- spacing

-- the names of the rules that are spacing, in order
abbrev pub spacing_names : List Rule → List (List ℕ)
spacing_names rules = map (name_of rules) (filter (has_flag (spacing_of rules)) (range_with_len 0 (length rules)))

-- a name after a comma
abbrev pub listed_name : List ℕ → List ℕ
listed_name name = codes ", " ++ name

-- names with commas between them, and a line end
abbrev pub listed_names : (first : List ℕ) → (rest : List (List ℕ)) → List ℕ
listed_names first rest = first ++ flat_map listed_name rest ++ codes "\n"

-- a note of rules with these names, if there are some
abbrev pub note_start : (name : List ℕ) → List ℕ
note_start name = name ++ codes ": note: rules that count as spacing: "

abbrev pub spacing_note : (name : List ℕ) → List (List ℕ) → List ℕ
spacing_note name [] = []
spacing_note name (first ∷ rest) = note_start name ++ listed_names first rest

abbrev pub spacing_message : (name : List ℕ) → List Rule → List ℕ
spacing_message name rules = spacing_note name (spacing_names rules)

-- ---- all

-- the greatest number of warnings with a message, since a place is found from the start of the file
abbrev pub max_messages : ℕ
max_messages = 1000

-- a note that warnings are left out, if there are some
abbrev pub left_out_note : (name : List ℕ) → (left_out : List Warning) → List ℕ
left_out_note name [] = []
left_out_note name (warning ∷ warnings) = name ++ codes ": note: there are more warnings\n"

-- the messages for the first warnings about a grammar file with these rules, in order, a note if there are more, and a note
-- of the rules that are spacing
abbrev pub lint_message : (name file : List ℕ) → List Rule → List Warning → List ℕ
lint_message name file rules warnings =
    flat_map (warning_message name file) (take max_messages warnings)
    ++ (left_out_note name (drop max_messages warnings) ++ spacing_message name rules)
