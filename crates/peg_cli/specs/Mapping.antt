-- Describes code: which argument of the command line goes to which field.
use Rattle.std.specs.Prelude.{◌≡◌, true, false, ℕ, Bool, List, [], ◌∷◌, Option, None, Some, map, unwrap_or, option_map, string_bytes, codes}
use Rattle.std.specs.Str.Parse.{digits_value, without_leading_plus}
use Rattle.clap.specs.Matches.{first_value, matched_of, one_text, raw_values}
use Rattle.clap.specs.declared.parser.matches.Found.{Found}
use Rattle.peg_cli.specs.Words.{default_coverage_memo, default_profile_memo}
use Rattle.peg_cli.specs.declared.words.Words.{Words}
use Rattle.peg_cli.specs.declared.words.Words.TheVariants.{Joined, Help, Table, Check, Code, Lint, LintMessages, Profile, Coverage, RecordCoverage, Explain, ExplainRecords, Test, Parse, Records}

-- all values of an argument, in the order of the command line; none if it is not given
abbrev pub all_values : Found → (id : List ℕ) → List (List ℕ)
all_values found id = unwrap_or (option_map raw_values (matched_of found id)) []

-- the first value of an argument, read as a decimal number; a plus may come first
abbrev pub number_at : Found → (id : List ℕ) → Option ℕ
number_at found id = option_map (λ text. digits_value 10 (without_leading_plus text)) (one_text found id)

-- the capacity of the memo, which has a default where none is given
abbrev pub memo_or : Found → (default : ℕ) → ℕ
memo_or found default = unwrap_or (number_at found (codes "memo")) default

-- A flag is false if its argument has no value, and otherwise what the value says.
abbrev pub IsFlagAt : Found → (id : List ℕ) → Bool → Type 0
IsFlagAt found id flag = (one_text found id ≡ None → flag ≡ false)
    × (one_text found id ≡ Some (codes "true") → flag ≡ true)
    × (one_text found id ≡ Some (codes "false") → flag ≡ false)

-- the fields of a command with this name are those of the arguments that were found
abbrev pub IsCommandOf : (name : List ℕ) → Found → Words → Type 0
IsCommandOf name found Joined = ⊥
IsCommandOf name found (Help text) = ⊥
IsCommandOf name found (Table g) = (name ≡ codes "table") × (first_value found (codes "G") ≡ Some (string_bytes g))
IsCommandOf name found (Check g) = (name ≡ codes "check") × (first_value found (codes "G") ≡ Some (string_bytes g))
IsCommandOf name found (Code g) = (name ≡ codes "code") × (first_value found (codes "G") ≡ Some (string_bytes g))
IsCommandOf name found (Lint g start proved) = (name ≡ codes "lint")
    × IsFlagAt found (codes "human") false
    × (first_value found (codes "G") ≡ Some (string_bytes g))
    × (first_value found (codes "start") ≡ option_map string_bytes start)
    × IsFlagAt found (codes "proved") proved
IsCommandOf name found (LintMessages g start proved) = (name ≡ codes "lint")
    × IsFlagAt found (codes "human") true
    × (first_value found (codes "G") ≡ Some (string_bytes g))
    × (first_value found (codes "start") ≡ option_map string_bytes start)
    × IsFlagAt found (codes "proved") proved
IsCommandOf name found (Profile g t start memo steps) = (name ≡ codes "profile")
    × IsFlagAt found (codes "coverage") false
    × (first_value found (codes "G") ≡ Some (string_bytes g))
    × (all_values found (codes "T") ≡ string_bytes t ∷ [])
    × (first_value found (codes "start") ≡ option_map string_bytes start)
    × (memo ≡ memo_or found default_profile_memo)
    × (number_at found (codes "steps") ≡ steps)
IsCommandOf name found (Coverage g texts start memo steps prefix) = (name ≡ codes "profile")
    × IsFlagAt found (codes "coverage") true
    × IsFlagAt found (codes "lines") false
    × (first_value found (codes "G") ≡ Some (string_bytes g))
    × (all_values found (codes "T") ≡ map string_bytes texts.items)
    × (first_value found (codes "start") ≡ option_map string_bytes start)
    × (memo ≡ memo_or found default_coverage_memo)
    × (number_at found (codes "steps") ≡ steps)
    × IsFlagAt found (codes "prefix") prefix
IsCommandOf name found (RecordCoverage g texts null crlf start memo steps prefix) = (name ≡ codes "profile")
    × IsFlagAt found (codes "coverage") true
    × IsFlagAt found (codes "lines") true
    × (first_value found (codes "G") ≡ Some (string_bytes g))
    × (all_values found (codes "T") ≡ map string_bytes texts.items)
    × IsFlagAt found (codes "null") null
    × IsFlagAt found (codes "crlf") crlf
    × (first_value found (codes "start") ≡ option_map string_bytes start)
    × (memo ≡ memo_or found default_coverage_memo)
    × (number_at found (codes "steps") ≡ steps)
    × IsFlagAt found (codes "prefix") prefix
IsCommandOf name found (Explain g texts files_from null start memo steps rules terminals quiet) = (name ≡ codes "explain")
    × IsFlagAt found (codes "lines") false
    × (first_value found (codes "G") ≡ Some (string_bytes g))
    × (all_values found (codes "T") ≡ map string_bytes texts.items)
    × (first_value found (codes "files-from") ≡ option_map string_bytes files_from)
    × IsFlagAt found (codes "null") null
    × (first_value found (codes "start") ≡ option_map string_bytes start)
    × (number_at found (codes "memo") ≡ Some memo)
    × (number_at found (codes "steps") ≡ steps)
    × IsFlagAt found (codes "rules") rules
    × IsFlagAt found (codes "terminals") terminals
    × IsFlagAt found (codes "quiet") quiet
IsCommandOf name found
    (ExplainRecords g texts null crlf start memo steps rules terminals quiet max_errors) = (name ≡ codes "explain")
    × IsFlagAt found (codes "lines") true
    × (first_value found (codes "G") ≡ Some (string_bytes g))
    × (all_values found (codes "T") ≡ map string_bytes texts.items)
    × IsFlagAt found (codes "null") null
    × IsFlagAt found (codes "crlf") crlf
    × (first_value found (codes "start") ≡ option_map string_bytes start)
    × (number_at found (codes "memo") ≡ Some memo)
    × (number_at found (codes "steps") ≡ steps)
    × IsFlagAt found (codes "rules") rules
    × IsFlagAt found (codes "terminals") terminals
    × IsFlagAt found (codes "quiet") quiet
    × (number_at found (codes "max-errors") ≡ max_errors)
IsCommandOf name found (Test g folders start memo steps) = (name ≡ codes "test")
    × (first_value found (codes "G") ≡ Some (string_bytes g))
    × (all_values found (codes "FOLDER") ≡ map string_bytes folders.items)
    × (first_value found (codes "start") ≡ option_map string_bytes start)
    × (number_at found (codes "memo") ≡ Some memo)
    × (number_at found (codes "steps") ≡ steps)
IsCommandOf name found (Parse g t start memo steps all rows no_tree show hide text) = (name ≡ codes "parse")
    × IsFlagAt found (codes "lines") false
    × (first_value found (codes "G") ≡ Some (string_bytes g))
    × (all_values found (codes "T") ≡ string_bytes t ∷ [])
    × (first_value found (codes "start") ≡ option_map string_bytes start)
    × (number_at found (codes "memo") ≡ Some memo)
    × (number_at found (codes "steps") ≡ steps)
    × IsFlagAt found (codes "all") all
    × IsFlagAt found (codes "rows") rows
    × IsFlagAt found (codes "no-tree") no_tree
    × (first_value found (codes "show") ≡ option_map string_bytes show)
    × (first_value found (codes "hide") ≡ option_map string_bytes hide)
    × IsFlagAt found (codes "text") text
IsCommandOf name found
    (Records g texts null crlf failed matched start memo steps all rows no_tree show hide text) = (name ≡ codes "parse")
    × IsFlagAt found (codes "lines") true
    × (first_value found (codes "G") ≡ Some (string_bytes g))
    × (all_values found (codes "T") ≡ map string_bytes texts.items)
    × IsFlagAt found (codes "null") null
    × IsFlagAt found (codes "crlf") crlf
    × IsFlagAt found (codes "failed") failed
    × IsFlagAt found (codes "matched") matched
    × (first_value found (codes "start") ≡ option_map string_bytes start)
    × (number_at found (codes "memo") ≡ Some memo)
    × (number_at found (codes "steps") ≡ steps)
    × IsFlagAt found (codes "all") all
    × IsFlagAt found (codes "rows") rows
    × IsFlagAt found (codes "no-tree") no_tree
    × (first_value found (codes "show") ≡ option_map string_bytes show)
    × (first_value found (codes "hide") ≡ option_map string_bytes hide)
    × IsFlagAt found (codes "text") text
