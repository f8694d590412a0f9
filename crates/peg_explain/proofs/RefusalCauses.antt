-- The rules that the message of a refusal is about.
use Rattle.std.proofs.Common.{◌≡◌, ◌∙◌, ℕ, List, [], Some, ap, map, refl}
use Rattle.peg_grammar.specs.declared.fault.GrammarFault.{GrammarFault}
use Rattle.peg_grammar.specs.declared.fault.GrammarFault.TheVariants as grammar
use Rattle.peg_notation.specs.declared.fault.NotationFault.{NotationFault}
use Rattle.peg_notation.specs.declared.fault.NotationFault.TheVariants as notation
use Rattle.peg_parser.specs.Cause.{Cause, LeftRecursion}
use Rattle.peg_parser.specs.Faults.{HasDefinitionsOf, cause_of, grammar_cause, notation_cause}
use Rattle.peg_parser.specs.declared.refusal.Refusal.{Refusal}
use Rattle.peg_parser.proofs.DefinitionLemmas.{defined-as}
use Rattle.peg_grammar.specs.GrammarRules.{rules_in}
use Rattle.peg_parser.specs.declared.refusal.Refusal.TheVariants as refusal
use Rattle.peg_semantics.specs.Rules.{Rule, defined_at}
use Rattle.peg_explain.specs.RefusalMessages.{AreRulesOfCycle, refusal_definitions}

-- no other refusal names a left cycle
no_cycle-notation : (why : NotationFault) (path : List (List ℕ)) → notation_cause why ≡ Some (LeftRecursion path) → ⊥
no_cycle-notation notation.FileTooLong path is = cc
no_cycle-notation (notation.Syntax at) path is = cc
no_cycle-notation (notation.TooNested at) path is = cc
no_cycle-notation (notation.BadCount at) path is = cc
no_cycle-notation notation.Memory path is = cc

no_cycle-grammar : (why : GrammarFault) (path : List (List ℕ)) → grammar_cause why ≡ Some (LeftRecursion path) → ⊥
no_cycle-grammar grammar.NoRule path is = cc
no_cycle-grammar (grammar.Duplicate name span) path is = cc
no_cycle-grammar (grammar.Undefined name span) path is = cc
no_cycle-grammar (grammar.BadCount span) path is = cc
no_cycle-grammar grammar.TooManyParts path is = cc
no_cycle-grammar grammar.Memory path is = cc

-- the rules of the file, for the cause of a refusal
pub record HasRules (file : List ℕ) (why : Refusal) (cause : Cause) : Type 0 where
  pub rules : List Rule
  pub of_cycle : AreRulesOfCycle file cause rules
  pub defined : refusal_definitions why ≡ map defined_at rules

pub cause-rules : (file : List ℕ) (why : Refusal) (cause : Cause) → cause_of why ≡ Some cause → HasDefinitionsOf file why
    → HasRules file why cause
cause-rules file (refusal.NotWellFormed why grammar) cause is has =
    record { rules = has.0; of_cycle = λ path cycle. has.1; defined = defined-as has.0 (rules_in grammar) has.2 }
cause-rules file (refusal.Notation why) cause is has =
    record { rules = []; of_cycle = λ path cycle. absurd (no_cycle-notation why path (is ∙ ap Some cycle)); defined = refl }
cause-rules file (refusal.Grammar why) cause is has =
    record { rules = []; of_cycle = λ path cycle. absurd (no_cycle-grammar why path (is ∙ ap Some cycle)); defined = refl }
cause-rules file refusal.CodeTooLarge cause is has =
    record { rules = []; of_cycle = λ path cycle. absurd (cc); defined = refl }
cause-rules file refusal.Memory cause is has =
    record { rules = []; of_cycle = λ path cycle. absurd (cc); defined = refl }
