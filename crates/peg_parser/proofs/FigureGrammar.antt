-- The metagrammar's definitions are a grammar within the limits, so only an allocation can fail.
use Rattle.std.proofs.Common.{◌≡◌, [], None, Some, Result, Ok, Err, option_map, refl, sym, ap, ◌∙◌, arith}
use Rattle.std.specs.Prelude.{IfErr, IsErrAnd}
use Rattle.peg_check.specs.Verdicts.{IsIllFormedBy}
use Rattle.peg_check.specs.declared.fault.CheckFault.{CheckFault}
use Rattle.peg_check.specs.declared.fault.CheckFault.TheVariants as check
use Rattle.peg_code.specs.declared.fault.CodeFault.{CodeFault}
use Rattle.peg_code.specs.declared.fault.CodeFault.TheVariants as code
use Rattle.peg_metagrammar.specs.Figure.{figure, grammar_body, definition_body, expression_body, sequence_body, prefix_body, suffix_body, primary_body, identifier_body, ident_start_body, ident_cont_body, literal_body, class_body, range_body, char_body, count_body, number_body, spacing_body, comment_body, space_body, end_of_line_body, end_of_file_body}
use Rattle.peg_semantics.specs.Grammar.{first_bad_count, first_duplicate, first_undefined}
use Rattle.peg_semantics.specs.Form.{Count}
use Rattle.peg_semantics.specs.Rules.{weight_of}
use Rattle.peg_semantics.specs.WellFormed.{IsWellFormedGrammar}
use Rattle.peg_grammar.specs.GrammarRules.{rules_in}
use Rattle.peg_grammar.specs.Refusal.{IsRefusedBy}
use Rattle.peg_grammar.specs.declared.fault.GrammarFault.{GrammarFault}
use Rattle.peg_grammar.specs.declared.fault.GrammarFault.TheVariants as grammar
use Rattle.peg_grammar.specs.declared.grammar.Grammar.{Grammar}
use Rattle.peg_parser.specs.Faults.{from_check, of_code}
use Rattle.peg_parser.specs.declared.refusal.Refusal.{Refusal}
use Rattle.peg_parser.specs.declared.refusal.Refusal.TheVariants as refusal

no_duplicate : first_duplicate figure ≡ None
unfolding figure
no_duplicate = refl

none_undefined : first_undefined figure ≡ None
unfolding figure grammar_body definition_body expression_body sequence_body prefix_body suffix_body primary_body identifier_body ident_start_body ident_cont_body literal_body class_body range_body char_body count_body number_body spacing_body comment_body space_body end_of_line_body end_of_file_body
none_undefined = refl

no_bad_count : first_bad_count figure ≡ None
unfolding figure grammar_body definition_body expression_body sequence_body prefix_body suffix_body primary_body identifier_body ident_start_body ident_cont_body literal_body class_body range_body char_body count_body number_body spacing_body comment_body space_body end_of_line_body end_of_file_body
no_bad_count = refl

figure-weight : weight_of figure ≡ 233
unfolding figure grammar_body definition_body expression_body sequence_body prefix_body suffix_body primary_body identifier_body ident_start_body ident_cont_body literal_body class_body range_body char_body count_body number_body spacing_body comment_body space_body end_of_line_body end_of_file_body
figure-weight = refl

not_empty : figure ≡ [] → ⊥
unfolding figure
not_empty is = cc

-- the only fault of a grammar that the metagrammar can have is out of memory
pub grammar_memory : (fault : GrammarFault) → IsRefusedBy figure fault → fault ≡ grammar.Memory
grammar_memory grammar.NoRule is = absurd (not_empty is)
grammar_memory (grammar.Duplicate name span) is = absurd (let bad : Some _ ≡ None = sym is ∙ no_duplicate in cc)
grammar_memory (grammar.Undefined name span) is = absurd (let bad : Some _ ≡ None = sym is.1 ∙ none_undefined in cc)
grammar_memory (grammar.BadCount span) is =
    absurd (let bad : Some _ ≡ None = sym is.2 ∙ ap (option_map (λ (count : Count). count.span)) no_bad_count in cc)
grammar_memory grammar.TooManyParts is = absurd (let bad : ⊥ = omega (arith, is.1, figure-weight) in bad)
grammar_memory grammar.Memory is = refl

-- the same for the check and the compiler
pub check_memory : (g : Grammar) (fault : CheckFault) → IsIllFormedBy (rules_in g) fault → IsWellFormedGrammar (rules_in g)
    → from_check fault g ≡ refusal.Memory
check_memory g (check.EmptyLoop rule span) is formed = absurd (is.0 formed)
check_memory g (check.LeftRecursion path) is formed = absurd (is.0 formed)
check_memory g check.Memory is formed = refl

pub code_memory : (fault : CodeFault) → (fault ≡ code.CodeTooLarge → ⊥) → of_code fault ≡ refusal.Memory
code_memory code.CodeTooLarge small = absurd (small refl)
code_memory code.Memory small = refl

-- an error that is out of memory
pub stated_memory : {X : Type 0} (result : Result X Refusal) (why : Refusal) → IsErrAnd result (λ other. other ≡ why)
    → why ≡ refusal.Memory → IfErr result (λ other. other ≡ refusal.Memory)
stated_memory (Ok x) why is memory = tt
stated_memory (Err other) why is memory = is ∙ memory
