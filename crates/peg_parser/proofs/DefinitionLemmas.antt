-- The definitions of a refused grammar are those of its file.
use Rattle.std.proofs.Common.{◌≡◌, ◌∙◌, inl, inr, ℕ, List, [], ◌∷◌, IfErr, IsErrAnd, Result, Ok, Err, ap, map, refl, subst, sym}
use Rattle.peg_check.specs.declared.fault.CheckFault.{CheckFault}
use Rattle.peg_check.specs.declared.fault.CheckFault.TheVariants as check
use Rattle.peg_code.specs.declared.fault.CodeFault.{CodeFault}
use Rattle.peg_code.specs.declared.fault.CodeFault.TheVariants as code
use Rattle.peg_grammar.specs.GrammarRules.{rules_in}
use Rattle.peg_grammar.specs.declared.fault.GrammarFault.{GrammarFault}
use Rattle.peg_grammar.specs.declared.fault.GrammarFault.TheVariants as grammar
use Rattle.peg_grammar.specs.declared.grammar.Grammar.{Grammar}
use Rattle.peg_notation.specs.declared.fault.NotationFault.{NotationFault}
use Rattle.peg_notation.specs.declared.fault.NotationFault.TheVariants as notation
use Rattle.peg_semantics.specs.CutCounts.{cut_rules}
use Rattle.peg_semantics.specs.Form.{Reference}
use Rattle.peg_semantics.specs.Rules.{Rule, defined_at}
use Rattle.peg_parser.specs.Accepts.{IsRead}
use Rattle.peg_parser.specs.Faults.{AreSameOrCut, HasDefinitionsOf, from_check, of_code, of_grammar, of_notation}
use Rattle.peg_parser.specs.declared.refusal.Refusal.{Refusal}
use Rattle.peg_parser.specs.declared.refusal.Refusal.TheVariants as refusal

-- rules with cut counts have the same definitions
pub definitions-cut : (rules : List Rule) → map defined_at (cut_rules rules) ≡ map defined_at rules
definitions-cut [] = refl
definitions-cut (rule ∷ rules) = ap (λ (l : List Reference). defined_at rule ∷ l) (definitions-cut rules)

-- the grammar of a refusal has the definitions of the file
pub defined-as : (rules found : List Rule) → AreSameOrCut rules found → map defined_at found ≡ map defined_at rules
defined-as rules found (inl same) = ap (map defined_at) same
defined-as rules found (inr cut) = ap (map defined_at) cut.1 ∙ definitions-cut rules

-- refusals of these kinds have no grammar
pub notation-defined : (file : List ℕ) (why : NotationFault) → HasDefinitionsOf file (of_notation why)
notation-defined file notation.FileTooLong = tt
notation-defined file (notation.Syntax at) = tt
notation-defined file (notation.TooNested at) = tt
notation-defined file (notation.BadCount at) = tt
notation-defined file notation.Memory = tt

pub grammar-defined : (file : List ℕ) (why : GrammarFault) → HasDefinitionsOf file (of_grammar why)
grammar-defined file grammar.NoRule = tt
grammar-defined file (grammar.Duplicate name span) = tt
grammar-defined file (grammar.Undefined name span) = tt
grammar-defined file (grammar.BadCount span) = tt
grammar-defined file grammar.TooManyParts = tt
grammar-defined file grammar.Memory = tt

pub code-defined : (file : List ℕ) (why : CodeFault) → HasDefinitionsOf file (of_code why)
code-defined file code.CodeTooLarge = tt
code-defined file code.Memory = tt

-- a fault of the check, for the grammar of a file
pub check-defined : (file : List ℕ) (rules : List Rule) (grammar : Grammar) (why : CheckFault) → IsRead file rules
    → AreSameOrCut rules (rules_in grammar) → HasDefinitionsOf file (from_check why grammar)
check-defined file rules grammar (check.EmptyLoop number span) read same = (rules, read, same)
check-defined file rules grammar (check.LeftRecursion path) read same = (rules, read, same)
check-defined file rules grammar check.Memory read same = tt

-- out of memory has no grammar
pub memory-defined : {X : Type 0} (file : List ℕ) (result : Result X Refusal) → IfErr result (λ why. why ≡ refusal.Memory)
    → IfErr result (HasDefinitionsOf file)
memory-defined file (Ok x) is = tt
memory-defined file (Err why) is = subst (HasDefinitionsOf file) (sym is) tt

-- an error equal to a refusal has its definitions
pub same-defined : {X : Type 0} (file : List ℕ) (result : Result X Refusal) (why : Refusal)
    → IsErrAnd result (λ other. other ≡ why) → HasDefinitionsOf file why → IfErr result (HasDefinitionsOf file)
same-defined file (Ok x) why is has = tt
same-defined file (Err other) why is has = subst (HasDefinitionsOf file) (sym is) has
