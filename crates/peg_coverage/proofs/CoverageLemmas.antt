-- Why a grammar has no parser of coverage.
use Rattle.std.proofs.Common.{◌≡◌, ◌^◌, ◌≤◌, List, Result, Ok, Err, sym, subst}
use Rattle.std.specs.Prelude.{IfErr, IsErrAnd}
use Rattle.std.proofs.Math.Logic.{∥∥₁_elim}
use Rattle.peg_diagnostics.specs.Marked.{marked_rules, markers_of_rules}
use Rattle.peg_diagnostics.proofs.Lookups.{Distinct}
use Rattle.peg_diagnostics.proofs.MarkedWellFormed.{well_formed-marked}
use Rattle.peg_semantics.specs.Grammar.{IsGrammar}
use Rattle.peg_semantics.specs.Rules.{Rule, names}
use Rattle.peg_semantics.specs.WellFormed.{IsWellFormedGrammar}
use Rattle.peg_coverage.specs.CoverageFaults.{IsCoverageRefusal, IsParserRefusal}
use Rattle.peg_coverage.specs.declared.fault.CoverageFault.{CoverageFault}
use Rattle.peg_coverage.specs.declared.fault.CoverageFault.TheVariants as coverage

-- names of a grammar are distinct
pub names-distinct : (rules : List Rule) → ∥ IsGrammar rules ∥₁ → Distinct (names rules)
names-distinct rules is = ∥∥₁_elim is (hlevel) (λ grammar. grammar.distinct)

-- the marked grammar of a well-formed grammar is well-formed
pub formed-marked : (rules : List Rule) → ∥ IsGrammar rules ∥₁ → Distinct (names (marked_rules rules))
    → markers_of_rules rules ≤ 2 ^ 64 → ∥ IsWellFormedGrammar rules ∥₁ → ∥ IsWellFormedGrammar (marked_rules rules) ∥₁
formed-marked rules is distinct few formed =
    ∥∥₁_elim is (hlevel)
    (λ grammar. ∥∥₁_elim formed (hlevel) (λ well. ∣ well_formed-marked rules grammar.defined distinct few well ∣₁))

-- a fault of the parser of the marked grammar
pub refused-parser : (rules : List Rule) (why : CoverageFault) → IsParserRefusal (marked_rules rules) why
    → IsCoverageRefusal rules why
refused-parser rules coverage.MarkedName refused = absurd refused
refused-parser rules coverage.TooManyParts refused = absurd refused
refused-parser rules coverage.CodeTooLarge refused = refused
refused-parser rules coverage.Memory refused = tt

-- an error that is a fault
pub refused-error : {X : Type 0} (rules : List Rule) (result : Result X CoverageFault) (why : CoverageFault)
    → IsErrAnd result (λ fault. fault ≡ why) → IsCoverageRefusal rules why → IfErr result (IsCoverageRefusal rules)
refused-error rules (Ok x) why is refused = tt
refused-error rules (Err fault) why is refused = subst (IsCoverageRefusal rules) (sym is) refused
