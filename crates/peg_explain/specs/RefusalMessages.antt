-- The message for a refused grammar file.
use Rattle.std.specs.Prelude.{◌≡◌, ℕ, List, [], ◌∷◌, Contains, Option, length, map, min, option_map, string_bytes}
use Rattle.peg_grammar.specs.GrammarRules.{rules_in}
use Rattle.peg_grammar.specs.declared.fault.GrammarFault.{GrammarFault}
use Rattle.peg_grammar.specs.declared.fault.GrammarFault.TheVariants as fault
use Rattle.peg_messages.specs.Rejections.{rejection_message}
use Rattle.peg_messages.specs.declared.reason.Reason.{Reason}
use Rattle.peg_messages.specs.declared.reason.Reason.TheVariants as reason
use Rattle.peg_messages.specs.declared.rejection.Rejection.{Rejection}
use Rattle.peg_parser.specs.Accepts.{IsRead}
use Rattle.peg_parser.specs.Cause.{Cause, FileTooLong, Syntax, TooNested, BadCount, NoRule, Duplicate, Undefined}
use Rattle.peg_parser.specs.Cause.{TooManyParts, EmptyLoop, LeftRecursion, CodeTooLarge}
use Rattle.peg_parser.specs.declared.refusal.Refusal.{Refusal}
use Rattle.peg_parser.specs.declared.refusal.Refusal.TheVariants.{NotWellFormed}
use Rattle.peg_semantics.specs.Form.{Reference}
use Rattle.peg_semantics.specs.Rules.{Rule, defined_at, names}
use Rattle.peg_explain.specs.NearNames.{meant_by}

-- where the rules of a refused grammar are defined, if the refusal has the grammar
abbrev pub refusal_definitions : Refusal → List Reference
refusal_definitions (NotWellFormed why grammar) = map defined_at (rules_in grammar)
refusal_definitions other = []

-- A rule with this name is defined at this offset of a file with `size` bytes. An offset after the end counts as the
-- end.
abbrev pub IsDefinedAt : (definitions : List Reference) → (size : ℕ) → (name : List ℕ) → (at : ℕ) → Type 0
IsDefinedAt definitions size name at = (definition : Reference) × Contains definitions definition
    × (definition.name ≡ name) × (at ≡ min definition.span.start size)

-- the offset of a left cycle: where its first rule is defined; no left cycle is empty
abbrev pub IsCycleOffset : (definitions : List Reference) → (size : ℕ) → (path : List (List ℕ)) → (at : ℕ) → Type 0
IsCycleOffset definitions size [] at = at ≡ 0
IsCycleOffset definitions size (first ∷ rest) at = IsDefinedAt definitions size first at

-- the rule of a file that is meant by a name that none of its rules has
abbrev pub IsMeantIn : (file name : List ℕ) → (meant : Option (List ℕ)) → Type 0
IsMeantIn file name meant = (rules : List Rule) → IsRead file rules → meant ≡ meant_by (names rules) name

-- The reason that a message gives for a cause, where the rules of the file are defined there. It has the names of the
-- cause, and its offset or the start of its span; a left cycle has the offset of its first rule. Beside a name that no
-- rule has it has the rule that is meant. No other cause is that of a grammar file.
abbrev pub IsReasonOf : (file : List ℕ) → (definitions : List Reference) → Cause → Reason → Type 0
IsReasonOf file definitions FileTooLong reason.FileTooLong = Unit {0}
IsReasonOf file definitions (Syntax offset) (reason.Syntax at) = at ≡ offset
IsReasonOf file definitions (TooNested offset) (reason.TooNested at) = at ≡ offset
IsReasonOf file definitions (BadCount offset) (reason.BadCount at) = at ≡ offset
IsReasonOf file definitions NoRule reason.NoRule = Unit {0}
IsReasonOf file definitions (Duplicate name) (reason.Duplicate written at) =
    (written.now ≡ name.name) × (at ≡ name.span.start)
IsReasonOf file definitions (Undefined name) (reason.Undefined written meant at) =
    (written.now ≡ name.name) × IsMeantIn file name.name (option_map (λ rule. rule.now) meant) × (at ≡ name.span.start)
IsReasonOf file definitions TooManyParts reason.TooManyParts = Unit {0}
IsReasonOf file definitions (EmptyLoop rule) (reason.EmptyLoop written at) =
    (written.now ≡ rule.name) × (at ≡ rule.span.start)
IsReasonOf file definitions (LeftRecursion path) (reason.LeftRecursion written at) =
    (map (λ name. name.now) written.now ≡ path) × IsCycleOffset definitions (length file) path at
IsReasonOf file definitions CodeTooLarge reason.CodeTooLarge = Unit {0}
IsReasonOf file definitions cause other = ⊥

-- a rejection is that of a file of this name, for the reason of a cause
pub record IsRejectionOf (name file : List ℕ) (definitions : List Reference) (cause : Cause) (rejection : Rejection) : Type 0 where
  pub named : rejection.name.now ≡ name
  pub has_file : rejection.file.now ≡ file
  pub has_reason : IsReasonOf file definitions cause rejection.reason

-- the message for a file of this name that is refused for a cause, where its rules are defined there
abbrev pub IsRefusalMessage : (name file : List ℕ) → (definitions : List Reference) → Cause → (message : List ℕ) → Type 0
IsRefusalMessage name file definitions cause message =
    (rejection : Rejection) × IsRejectionOf name file definitions cause rejection × (message ≡ rejection_message rejection)

-- if the cause names a left cycle, these are the rules of the file
abbrev pub AreRulesOfCycle : (file : List ℕ) → Cause → List Rule → Type 0
AreRulesOfCycle file cause rules = (path : List (List ℕ)) → cause ≡ LeftRecursion path → IsRead file rules

-- Describes code: if a name is undefined, these are the rules of the file, if it is in the notation.
abbrev pub KnowsRules : (file : List ℕ) → GrammarFault → List Rule → Type 0
KnowsRules file (fault.Undefined name span) known = (rules : List Rule) → IsRead file rules → rules ≡ known
KnowsRules file other known = Unit {0}

-- Describes code: if a name is undefined, this rule is meant by it.
abbrev pub IsMeantFor : (file : List ℕ) → GrammarFault → (meant : Option (List ℕ)) → Type 0
IsMeantFor file (fault.Undefined name span) meant = IsMeantIn file (string_bytes name) meant
IsMeantFor file other meant = Unit {0}

-- Describes code: the message for a file of this name and a reason
abbrev pub IsReasonMessage : (name file : List ℕ) → Reason → (message : List ℕ) → Type 0
IsReasonMessage name file why message =
    (rejection : Rejection) × (rejection.name.now ≡ name) × (rejection.file.now ≡ file) × (rejection.reason ≡ why)
    × (message ≡ rejection_message rejection)
