-- Describes code: the causes that the faults of the stages denote, with names in place of rule numbers, and their
-- offsets.
use Rattle.std.specs.Prelude.{◌≡◌, ◌⊎◌, ℕ, ◌<◌, ◌≤◌, List, [], length, Option, None, Some, IfSome, map, string_bytes}
use Rattle.peg_bytes.specs.Extent.{extent}
use Rattle.peg_check.specs.Verdicts.{NamesRules}
use Rattle.peg_check.specs.declared.fault.CheckFault.{CheckFault}
use Rattle.peg_check.specs.declared.fault.CheckFault.TheVariants as check
use Rattle.peg_code.specs.declared.fault.CodeFault.{CodeFault}
use Rattle.peg_code.specs.declared.fault.CodeFault.TheVariants as code
use Rattle.peg_code.specs.Compiled.{max_instructions}
use Rattle.peg_semantics.specs.CutCounts.{cut_rules}
use Rattle.peg_semantics.specs.Rules.{Rule, names}
use Rattle.peg_grammar.specs.GrammarRules.{rules_in}
use Rattle.peg_grammar.specs.declared.fault.GrammarFault.{GrammarFault}
use Rattle.peg_grammar.specs.declared.fault.GrammarFault.TheVariants as grammar
use Rattle.peg_grammar.specs.declared.grammar.Grammar.{Grammar}
use Rattle.peg_notation.specs.declared.fault.NotationFault.{NotationFault}
use Rattle.peg_notation.specs.declared.fault.NotationFault.TheVariants as notation
use Rattle.peg_tree.specs.Names.{name_at}
use Rattle.peg_parser.specs.Cause.{Cause, FileTooLong, Syntax, TooNested, BadCount, NoRule, Duplicate, Undefined}
use Rattle.peg_parser.specs.Accepts.{IsRead, code_size}
use Rattle.peg_parser.specs.Cause.{TooManyParts, EmptyLoop, LeftRecursion, CodeTooLarge, reference}
use Rattle.peg_parser.specs.Refusals.{RefusalImplies}
use Rattle.peg_parser.specs.declared.refusal.Refusal.{Refusal}
use Rattle.peg_parser.specs.declared.refusal.Refusal.TheVariants as refusal

-- ---- the cause of a fault; out of memory has none

abbrev pub notation_cause : NotationFault → Option Cause
notation_cause notation.FileTooLong = Some FileTooLong
notation_cause (notation.Syntax at) = Some (Syntax at)
notation_cause (notation.TooNested at) = Some (TooNested at)
notation_cause (notation.BadCount at) = Some (BadCount at)
notation_cause notation.Memory = None

abbrev pub grammar_cause : GrammarFault → Option Cause
grammar_cause grammar.NoRule = Some NoRule
grammar_cause (grammar.Duplicate name span) = Some (Duplicate (reference (string_bytes name) (extent span)))
grammar_cause (grammar.Undefined name span) = Some (Undefined (reference (string_bytes name) (extent span)))
grammar_cause (grammar.BadCount span) = Some (BadCount (extent span).start)
grammar_cause grammar.TooManyParts = Some TooManyParts
grammar_cause grammar.Memory = None

abbrev pub check_cause : (names : List (List ℕ)) → CheckFault → Option Cause
check_cause names (check.EmptyLoop rule span) = Some (EmptyLoop (reference (name_at names rule) (extent span)))
check_cause names (check.LeftRecursion path) = Some (LeftRecursion (map (name_at names) path.items))
check_cause names check.Memory = None

-- the cause of a rejected grammar file, where the rules have these names
abbrev pub refusal_cause : (names : List (List ℕ)) → Refusal → Option Cause
refusal_cause names (refusal.Notation why) = notation_cause why
refusal_cause names (refusal.Grammar why) = grammar_cause why
refusal_cause names (refusal.NotWellFormed why grammar) = check_cause names why
refusal_cause names refusal.CodeTooLarge = Some CodeTooLarge
refusal_cause names refusal.Memory = None

-- the names that a refusal has for the rules that it refers to by number
abbrev pub refusal_names : Refusal → List (List ℕ)
refusal_names (refusal.NotWellFormed why grammar) = names (rules_in grammar)
refusal_names other = []

-- the cause of a refusal, by its own names
abbrev pub cause_of : Refusal → Option Cause
cause_of why = refusal_cause (refusal_names why) why

-- ---- the offsets of causes

-- the offsets and spans of a cause start within a file of this length
abbrev pub StartsIn : (size : ℕ) → Cause → Type 0
StartsIn size (Syntax at) = at ≤ size
StartsIn size (TooNested at) = at ≤ size
StartsIn size (BadCount at) = at ≤ size
StartsIn size (Duplicate name) = name.span.start ≤ size
StartsIn size (Undefined name) = name.span.start ≤ size
StartsIn size (EmptyLoop rule) = rule.span.start ≤ size
StartsIn size cause = Unit {0}

-- the rule numbers of a refusal are below `count`
abbrev pub RefusalNames : (count : ℕ) → Refusal → Type 0
RefusalNames count (refusal.NotWellFormed why grammar) = NamesRules count why
RefusalNames count other = Unit {0}

-- ---- how faults are converted

-- out of memory is `Memory` in every stage
abbrev pub of_notation : NotationFault → Refusal
of_notation notation.Memory = refusal.Memory
of_notation why = refusal.Notation why

abbrev pub of_grammar : GrammarFault → Refusal
of_grammar grammar.Memory = refusal.Memory
of_grammar why = refusal.Grammar why

abbrev pub from_check : CheckFault → Grammar → Refusal
from_check check.Memory grammar = refusal.Memory
from_check why grammar = refusal.NotWellFormed why grammar

abbrev pub of_code : CodeFault → Refusal
of_code code.CodeTooLarge = refusal.CodeTooLarge
of_code code.Memory = refusal.Memory

-- A refusal has a cause of this kind. The cause starts within a file of this length, and the refusal has names for the
-- rules that it refers to by number. Or an allocation failed.
pub data HasCause (Kind : Cause → Type 0) (size : ℕ) (why : Refusal) : Type 0 where
  out_of_memory : why ≡ refusal.Memory → HasCause Kind size why
  of_cause : (cause : Cause) → cause_of why ≡ Some cause → Kind cause → StartsIn size cause
      → RefusalNames (length (refusal_names why)) why → HasCause Kind size why

-- a refusal that a file of this length can have
abbrev pub IsTrueRefusal : (size : ℕ) → Refusal → Type 0
IsTrueRefusal size why = HasCause (λ cause. Unit {0}) size why

-- rules, or the same with cut counts if their code is too large
abbrev pub AreSameOrCut : (rules found : List Rule) → Type 0
AreSameOrCut rules found =
    (found ≡ rules) ⊎ ((max_instructions < code_size rules) × (found ≡ cut_rules rules))

-- The grammar of a refusal, if it has one, is the file's. If its code is too large, its counts are cut.
abbrev pub HasDefinitionsOf : List ℕ → Refusal → Type 0
HasDefinitionsOf file (refusal.NotWellFormed why grammar) = (rules : List Rule) × IsRead file rules
    × AreSameOrCut rules (rules_in grammar)
HasDefinitionsOf file other = Unit {0}

-- what a refusal implies about the file
abbrev pub RefusalMeaning : List ℕ → Refusal → Type 0
RefusalMeaning file why = IfSome (cause_of why) (RefusalImplies file)
