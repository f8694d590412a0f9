-- Why a grammar file is rejected, in the order of the tests.
use Rattle.std.specs.Prelude.{◌≡◌, ◌⊎◌, ℕ, ◌<◌, ◌≤◌, List, length, map, None, Some}
use Rattle.peg_bytes.specs.Extent.{Extent}
use Rattle.peg_semantics.specs.Form.{Reference}
use Rattle.peg_semantics.specs.Grammar.{IsGrammar, max_parts, first_duplicate, first_undefined}
use Rattle.peg_semantics.specs.Loops.{IsEmptyLoop, IsLeftCycle}
use Rattle.peg_semantics.specs.Rules.{Rule, name_of, weight_of}
use Rattle.peg_semantics.specs.WellFormed.{IsWellFormedGrammar}
use Rattle.peg_semantics.specs.WrittenLoops.{IsFirstEmptyLoop}
use Rattle.peg_check.specs.LeastCycles.{IsLeastCycle}
use Rattle.peg_check.specs.Verdicts.{AllDiffer}
use Rattle.peg_metagrammar.specs.Notation.{FigureMatches, IsInNotation, IsReading, max_file_bytes}
use Rattle.peg_lexer.specs.Tokens.{IsLexingFault}
use Rattle.peg_metagrammar.specs.Nesting.{max_open}
use Rattle.peg_notation.specs.Reads.{CountsOutOfRange, NestsDeeper}
use Rattle.peg_notation.specs.ViablePrefix.{EndsEarly, IsExcessParenthesis, IsOutOfRangeCount, IsUnexpectedToken}
use Rattle.peg_code.specs.Compiled.{max_instructions}
use Rattle.peg_parser.specs.Accepts.{IsRead, IsAcceptedGrammar, code_size}
use Rattle.peg_parser.specs.Cause.{Cause, FileTooLong, Syntax, TooNested, BadCount, Duplicate, Undefined, TooManyParts}
use Rattle.peg_parser.specs.Cause.{EmptyLoop, LeftRecursion, CodeTooLarge, reference}

-- The file can't be read, or it has definitions that aren't a grammar within the limits.
--
-- The offset of a fault is the first one in the order of the tokens, once the file is tokenized. That of a syntax error
-- is a lexical error, or the first token with which no file of the notation continues, or the end of the file. That of
-- `TooNested` is the first parenthesis that opens inside too many others, and that of `BadCount` the first count out of
-- range.
pub data IsNoGrammar (file : List ℕ) : Cause → Type 0 where
  file_too_long : max_file_bytes < length file → IsNoGrammar file FileTooLong
  not_in_the_notation : {at : ℕ} → length file ≤ max_file_bytes → ¬ FigureMatches file
      → IsLexingFault file at ⊎ IsUnexpectedToken max_open file at ⊎ EndsEarly max_open file at
      → IsNoGrammar file (Syntax at)
  too_nested : {at : ℕ} → length file ≤ max_file_bytes → NestsDeeper max_open file
      → IsExcessParenthesis max_open file at → IsNoGrammar file (TooNested at)
  count_out_of_range : {at : ℕ} → length file ≤ max_file_bytes → CountsOutOfRange file
      → IsOutOfRangeCount max_open file at → IsNoGrammar file (BadCount at)
  a_name_twice : {rules : List Rule} {name : Reference} → IsRead file rules → first_duplicate rules ≡ Some name
      → IsNoGrammar file (Duplicate name)
  a_name_missing : {rules : List Rule} {name : Reference} → IsRead file rules → first_duplicate rules ≡ None
      → first_undefined rules ≡ Some name → IsNoGrammar file (Undefined name)
  too_many_parts : {rules : List Rule} → IsRead file rules → IsGrammar rules → max_parts < weight_of rules
      → IsNoGrammar file TooManyParts

-- The grammar of the file isn't well-formed. An empty loop is the first one in written order. A left cycle is the least
-- of the shortest ones from the least rule on one, and its rules are distinct.
pub data IsIllFormed (file : List ℕ) : Cause → Type 0 where
  empty_loop : {rules : List Rule} (number : ℕ) (span : Extent) → IsRead file rules → IsAcceptedGrammar rules
      → ¬ IsWellFormedGrammar rules → IsEmptyLoop rules number span → IsFirstEmptyLoop rules number span
      → IsIllFormed file (EmptyLoop (reference (name_of rules number) span))
  left_recursion : {rules : List Rule} (path : List ℕ) → IsRead file rules → IsAcceptedGrammar rules
      → ¬ IsWellFormedGrammar rules → ((number : ℕ) (span : Extent) → ¬ IsEmptyLoop rules number span)
      → IsLeftCycle rules path → AllDiffer path → IsLeastCycle (IsLeftCycle rules) path
      → IsIllFormed file (LeftRecursion (map (name_of rules) path))

-- the grammar of the file is well-formed, but its code is too large
pub data HasTooMuchCode (file : List ℕ) : Cause → Type 0 where
  code_too_large : {rules : List Rule} → IsRead file rules → IsAcceptedGrammar rules → IsWellFormedGrammar rules
      → max_instructions < code_size rules → HasTooMuchCode file CodeTooLarge

-- why a file isn't accepted
abbrev pub IsRefusalOf : List ℕ → Cause → Type 0
IsRefusalOf file cause = IsNoGrammar file cause ⊎ (IsIllFormed file cause ⊎ HasTooMuchCode file cause)

-- ---- what a refusal implies

-- the file isn't in the notation; or its rules are no grammar, or no well-formed one
pub data NotAGrammar (file : List ℕ) : Type 0 where
  not_in_notation : ¬ IsInNotation file → NotAGrammar file
  not_a_grammar : (rules : List Rule) → IsReading file rules → ¬ IsGrammar rules → NotAGrammar file
  not_well_formed : (rules : List Rule) → IsReading file rules → ¬ IsWellFormedGrammar rules → NotAGrammar file

-- a refusal for a stated limit says nothing about the file's grammar; any other implies that it is wrong
abbrev pub RefusalImplies : List ℕ → Cause → Type 0
RefusalImplies file FileTooLong = Unit {0}
RefusalImplies file (TooNested at) = Unit {0}
RefusalImplies file TooManyParts = Unit {0}
RefusalImplies file CodeTooLarge = Unit {0}
RefusalImplies file other = NotAGrammar file
