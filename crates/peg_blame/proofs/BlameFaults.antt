-- Why a grammar has no parser of blame.
use Rattle.std.proofs.Common.{◌≡◌, ◌∙◌, List, Result, Ok, Err, ap, sym, subst}
use Rattle.std.specs.Prelude.{IfErr, IsErrAnd, IsErrOf}
use Rattle.std.proofs.Math.Logic.{∥∥₁_elim}
use Rattle.peg_diagnostics.specs.Diagnostic.{diagnostic_rules, HaveNoMark}
use Rattle.peg_diagnostics.specs.Refusal.{IsMemoryOrTooMany}
use Rattle.peg_diagnostics.proofs.DiagnosticWellFormed.{well_formed_shown, well_formed_unshown}
use Rattle.peg_diagnostics.proofs.Lookups.{Distinct}
use Rattle.peg_grammar.specs.Refusal.{IsRefusedBy}
use Rattle.peg_grammar.specs.declared.fault.GrammarFault.{GrammarFault}
use Rattle.peg_grammar.specs.declared.fault.GrammarFault.TheVariants as grammar
use Rattle.peg_semantics.specs.Grammar.{IsGrammar}
use Rattle.peg_semantics.specs.Rules.{Rule, names}
use Rattle.peg_semantics.specs.WellFormed.{IsWellFormedGrammar}
use Rattle.peg_blame.specs.Faults.{IsBlameRefusal, IsParserRefusal, of_grammar}
use Rattle.peg_blame.specs.declared.fault.BlameFault.{BlameFault}
use Rattle.peg_blame.specs.declared.fault.BlameFault.TheVariants as blame

-- names of a grammar are distinct
pub names-distinct : (rules : List Rule) → ∥ IsGrammar rules ∥₁ → Distinct (names rules)
names-distinct rules is = ∥∥₁_elim is (hlevel) (λ grammar. grammar.distinct)

-- a fault of the diagnostic grammar
pub refused-grammar : (rules : List Rule) (why : GrammarFault) → IsRefusedBy (diagnostic_rules rules) why
    → (HaveNoMark rules → IsMemoryOrTooMany why) → IsBlameRefusal rules (of_grammar why)
refused-grammar rules grammar.NoRule refused plain = plain
refused-grammar rules (grammar.Duplicate name span) refused plain = plain
refused-grammar rules (grammar.Undefined name span) refused plain = plain
refused-grammar rules (grammar.BadCount span) refused plain = plain
refused-grammar rules grammar.TooManyParts refused plain = refused.1
refused-grammar rules grammar.Memory refused plain = tt

-- a fault of its parser
pub refused-parser : (rules : List Rule) → ∥ IsGrammar rules ∥₁ → Distinct (names (diagnostic_rules rules))
    → (why : BlameFault) → IsParserRefusal (diagnostic_rules rules) why → IsBlameRefusal rules why
refused-parser rules is distinct blame.NotWellFormed refused =
    ∥∥₁_elim is (hlevel) (λ grammar formed. refused (well_formed_shown rules grammar.defined distinct formed))
refused-parser rules is distinct blame.MarkedName refused = absurd refused
refused-parser rules is distinct blame.TooManyParts refused = absurd refused
refused-parser rules is distinct blame.CodeTooLarge refused = refused
refused-parser rules is distinct blame.Memory refused = tt

-- the grammar as written is well-formed if the diagnostic grammar is
pub formed-too : (rules : List Rule) → ∥ IsGrammar rules ∥₁ → Distinct (names (diagnostic_rules rules))
    → IsWellFormedGrammar (diagnostic_rules rules) → ∥ IsWellFormedGrammar rules ∥₁
formed-too rules is distinct formed =
    ∥∥₁_elim is (hlevel) (λ grammar. ∣ well_formed_unshown rules grammar.defined distinct formed ∣₁)

-- an error that is a fault
pub refused-error : {X : Type 0} (rules : List Rule) (result : Result X BlameFault) (why : BlameFault)
    → IsErrAnd result (λ fault. fault ≡ why) → IsBlameRefusal rules why → IfErr result (IsBlameRefusal rules)
refused-error rules (Ok x) why is refused = tt
refused-error rules (Err fault) why is refused = subst (IsBlameRefusal rules) (sym is) refused

-- an error that is passed on is the error of the call
pub passed-error : {V W E : Type 0} (passed : Result V E) (why fault : E) → IsErrAnd passed (λ stated. stated ≡ why)
    → IsErrOf passed fault → IsErrOf {T = W} (Err why) fault
passed-error {V} {W} {E} passed why fault stated is =
    ap Err (sym (subst (λ (r : Result V E). IsErrAnd r (λ stated. stated ≡ why)) is stated))

-- the error of a call is the error that is passed on
pub error-passed : {V W E : Type 0} (passed : Result V E) (why fault : E) → IsErrAnd passed (λ stated. stated ≡ why)
    → IsErrOf {T = W} (Err why) fault → IsErrOf passed fault
error-passed (Ok x) why fault stated is = absurd stated
error-passed (Err other) why fault stated is = let same : why ≡ fault = cc in ap Err (stated ∙ same)
