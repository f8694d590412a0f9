-- The causes of the stages' faults for a grammar file.
use Rattle.std.proofs.Common.{◌≡◌, inl, inr, ℕ, true, not, if◌then◌else◌, List, [], ◌∷◌, find, option_map, ap, All, IsErrAnd, IfErr, IfOk, IfSome, Result, Ok, Err, Option, None, Some, length, map, ◌<◌, ◌≤◌, refl, subst, sym, ◌∙◌, arith}
use Rattle.std.proofs.lemmas.List.{length-map}
use Rattle.std.proofs.lemmas.List.Elements.{All-head, All-tail}
use Rattle.peg_bytes.specs.Extent.{extent}
use Rattle.peg_check.specs.FirstLoops.{NamesFirstLoop}
use Rattle.peg_check.specs.LeastCycles.{NamesLeastCycle}
use Rattle.peg_check.specs.Verdicts.{IsIllFormedBy, NamesRules}
use Rattle.peg_check.specs.declared.fault.CheckFault.{CheckFault}
use Rattle.peg_check.specs.declared.fault.CheckFault.TheVariants as check
use Rattle.peg_code.specs.Compiled.{max_instructions}
use Rattle.peg_code.specs.declared.fault.CodeFault.{CodeFault}
use Rattle.peg_code.specs.declared.fault.CodeFault.TheVariants as code
use Rattle.peg_semantics.specs.Form.{Count}
use Rattle.peg_semantics.specs.Grammar.{is_in_range}
use Rattle.peg_semantics.specs.Rules.{Rule, counts, names}
use Rattle.peg_semantics.specs.WellFormed.{IsWellFormedGrammar}
use Rattle.peg_metagrammar.proofs.CountsInRange.{IsReading-in_range}
use Rattle.peg_semantics.proofs.GrammarLemmas.{searches_from_IsGrammar}
use Rattle.peg_grammar.specs.GrammarRules.{rules_in}
use Rattle.peg_grammar.specs.Refusal as definitions
use Rattle.peg_grammar.specs.declared.fault.GrammarFault.{GrammarFault}
use Rattle.peg_grammar.specs.declared.fault.GrammarFault.TheVariants as grammar
use Rattle.peg_grammar.specs.declared.grammar.Grammar.{Grammar}
use Rattle.peg_metagrammar.specs.Nesting.{max_open}
use Rattle.peg_notation.specs.Reads.{Reads}
use Rattle.peg_notation.specs.ViablePrefix.{NamesFirstFault}
use Rattle.peg_notation.specs.Spans.{AnswerLiesIn, RuleLiesIn}
use Rattle.peg_notation.specs.declared.fault.NotationFault.{NotationFault}
use Rattle.peg_notation.specs.declared.fault.NotationFault.TheVariants as notation
use Rattle.peg_notation.proofs.FirstRule.{IsReading-some}
use Rattle.peg_tree.specs.Names.{name_at}
use Rattle.peg_parser.specs.Accepts.{Accepts, IsRead, IsAcceptedGrammar, code_size}
use Rattle.peg_parser.specs.Cause.{Cause, FileTooLong, Syntax, TooNested, BadCount, TooManyParts}
use Rattle.peg_parser.specs.Cause.{CodeTooLarge, EmptyLoop, LeftRecursion, reference}
use Rattle.peg_parser.specs.Faults.{of_notation, of_grammar, from_check, of_code, HasCause, out_of_memory, of_cause, RefusalMeaning, cause_of}
use Rattle.peg_parser.specs.Parser.{parser_rules}
use Rattle.peg_parser.specs.Refusals.{IsNoGrammar, IsIllFormed, IsRefusalOf, RefusalImplies, file_too_long, not_in_the_notation}
use Rattle.peg_parser.specs.Refusals.{too_nested, count_out_of_range, a_name_twice, a_name_missing, too_many_parts, empty_loop, left_recursion}
use Rattle.peg_parser.specs.Refusals.{code_too_large, not_in_notation, not_a_grammar, not_well_formed}
use Rattle.peg_parser.specs.declared.parser.Parser.{Parser}
use Rattle.peg_parser.specs.declared.refusal.Refusal.{Refusal}
use Rattle.peg_parser.proofs.CheckLemmas.{loop-inside}
use Rattle.peg_parser.proofs.NameLemmas.{twice-inside, missing-inside}
use Rattle.peg_parser.proofs.RuleNames.{name-numbered, names-of-path}

-- an error equal to a refusal has the refusal's cause
pub stated-error : {X : Type 0} (Kind : Cause → Type 0) (size : ℕ) (result : Result X Refusal) (why : Refusal)
    → IsErrAnd result (λ other. other ≡ why) → HasCause Kind size why → IfErr result (HasCause Kind size)
stated-error Kind size (Ok x) why is has_cause = tt
stated-error Kind size (Err other) why is has_cause = subst (HasCause Kind size) (sym is) has_cause

-- ---- reading

pub stated-notation : (file : List ℕ) (why : NotationFault) → Reads file (Err why) → AnswerLiesIn (length file) (Err why)
    → NamesFirstFault max_open file (Err why) → HasCause (IsNoGrammar file) (length file) (of_notation why)
stated-notation file notation.FileTooLong reads inside first = of_cause FileTooLong refl (file_too_long reads) tt tt
stated-notation file (notation.Syntax at) reads inside first =
    of_cause (Syntax at) refl (not_in_the_notation reads.0 reads.1 first) inside tt
stated-notation file (notation.TooNested at) reads inside first =
    of_cause (TooNested at) refl (too_nested reads.0 reads.1 first) inside tt
stated-notation file (notation.BadCount at) reads inside first =
    of_cause (BadCount at) refl (count_out_of_range reads.0 reads.1 first) inside tt
stated-notation file notation.Memory reads inside first = out_of_memory refl

-- ---- the grammar

-- if all counts are in range, the search finds none out of range
no_bad_count : (written : List Count) → All (λ count. is_in_range count ≡ true) written
    → find (λ (count : Count). not (is_in_range count)) written ≡ None
no_bad_count [] all = refl
no_bad_count (count ∷ written) all =
    ap (λ b. if not b then Some count else find (λ (other : Count). not (is_in_range other)) written)
    (All-head (λ count. is_in_range count ≡ true) count written all)
    ∙ no_bad_count written (All-tail (λ count. is_in_range count ≡ true) count written all)

pub stated-grammar : (file : List ℕ) (rules : List Rule) (why : GrammarFault) → IsRead file rules
    → All (RuleLiesIn (length file)) rules → definitions.IsRefusedBy rules why
    → HasCause (IsNoGrammar file) (length file) (of_grammar why)
stated-grammar file rules grammar.NoRule read inside refuses =
    absurd (IsReading-some file rules read.reading.0 refuses)
stated-grammar file rules (grammar.Duplicate name span) read inside refuses =
    of_cause _ refl (a_name_twice read refuses)
    (twice-inside (length file) rules _ inside refuses) tt
stated-grammar file rules (grammar.Undefined name span) read inside refuses =
    of_cause _ refl (a_name_missing read refuses.0 refuses.1)
    (missing-inside (length file) rules _ inside refuses.1) tt
stated-grammar file rules (grammar.BadCount span) read inside refuses =
    let none = no_bad_count (counts rules) (IsReading-in_range file rules read.reading.0) in
    let both : None ≡ Some _ = ap (option_map (λ (count : Count). count.span)) (sym none) ∙ refuses.2 in cc
stated-grammar file rules grammar.TooManyParts read inside refuses =
    of_cause TooManyParts refl (too_many_parts read refuses.0 refuses.1) tt tt
stated-grammar file rules grammar.Memory read inside refuses = out_of_memory refl

-- ---- the check

-- the rules that a fault refers to by number have names
named-too : (rules : List Rule) (why : CheckFault) → NamesRules (length rules) why → NamesRules (length (names rules)) why
named-too rules why named =
    subst (λ (n : ℕ). NamesRules n why) (sym (length-map rules (λ (rule : Rule). rule.name))) named

-- the cause of the check's fault for its grammar
pub stated-check : (file : List ℕ) (grammar : Grammar) (why : CheckFault) → IsIllFormedBy (rules_in grammar) why
    → NamesFirstLoop (rules_in grammar) why → NamesLeastCycle (rules_in grammar) why
    → NamesRules (length (rules_in grammar)) why → IsRead file (rules_in grammar) → IsAcceptedGrammar (rules_in grammar) → All (RuleLiesIn (length file)) (rules_in grammar)
    → HasCause (IsRefusalOf file) (length file) (from_check why grammar)
stated-check file grammar (check.EmptyLoop number span) ill first least named read taken inside =
    let rules = rules_in grammar in
    let lies = loop-inside (length file) rules number (extent span) inside ill.1 in
    of_cause (EmptyLoop (reference (name_at (names rules) number) (extent span))) refl
    (inr (inl (subst (λ (name : List ℕ). IsIllFormed file (EmptyLoop (reference name (extent span))))
    (sym (name-numbered rules number named)) (empty_loop number (extent span) read taken ill.0 ill.1 first))))
    (omega (arith, lies.0, lies.1)) (named-too rules (check.EmptyLoop number span) named)
stated-check file grammar (check.LeftRecursion path) ill first least named read taken inside =
    let rules = rules_in grammar in
    of_cause (LeftRecursion (map (name_at (names rules)) path.items)) refl
    (inr (inl (subst (λ (l : List (List ℕ)). IsIllFormed file (LeftRecursion l))
    (sym (names-of-path rules path.items named)) (left_recursion path.items read taken ill.0 ill.1 ill.2 ill.3 least)))) tt
    (named-too rules (check.LeftRecursion path) named)
stated-check file grammar check.Memory ill first least named read taken inside = out_of_memory refl

-- ---- the code

-- the cause of the compiler's fault for a well-formed grammar
pub stated-code : (file : List ℕ) (rules : List Rule) (why : CodeFault) → IsRead file rules → IsAcceptedGrammar rules
    → IsWellFormedGrammar rules → (why ≡ code.CodeTooLarge → max_instructions < code_size rules)
    → HasCause (IsRefusalOf file) (length file) (of_code why)
stated-code file rules code.CodeTooLarge read taken formed over =
    of_cause CodeTooLarge refl (inr (inr (code_too_large read taken formed (over refl)))) tt tt
stated-code file rules code.Memory read taken formed over = out_of_memory refl

-- ---- what refusals imply

-- a file that is rejected before the check is rejected
pub stated-early : (file : List ℕ) (size : ℕ) (why : Refusal) → HasCause (IsNoGrammar file) size why
    → HasCause (IsRefusalOf file) size why
stated-early file size why (out_of_memory is) = out_of_memory is
stated-early file size why (of_cause cause cause_is holds starts named) = of_cause cause cause_is (inl holds) starts named

shows : (file : List ℕ) (cause : Cause) → IsRefusalOf file cause → RefusalImplies file cause
shows file cause (inl (file_too_long over)) = tt
shows file cause (inl (not_in_the_notation within none at)) = not_in_notation (λ reads. none (reads.0, reads.1, reads.2))
shows file cause (inl (too_nested within deep at)) = tt
shows file cause (inl (count_out_of_range within bad at)) = not_in_notation (λ reads. bad reads.0 reads.1 reads.2 reads.3)
shows file cause (inl (a_name_twice {rules} read twice)) =
    not_a_grammar rules read.reading.0 (λ whole. let both : None ≡ Some _ = sym (searches_from_IsGrammar rules whole).1
    ∙ twice in cc)
shows file cause (inl (a_name_missing {rules} read once missing)) =
    not_a_grammar rules read.reading.0 (λ whole. let both : None ≡ Some _ = sym (searches_from_IsGrammar rules whole).2
    ∙ missing in cc)
shows file cause (inl (too_many_parts read whole over)) = tt
shows file cause (inr (inl (empty_loop {rules} number span read taken ill loop first))) = not_well_formed rules read.reading.0 ill
shows file cause (inr (inl (left_recursion {rules} path read taken ill none cycle once least))) = not_well_formed rules read.reading.0 ill
shows file cause (inr (inr (code_too_large read taken formed over))) = tt

pub stated-means : (file : List ℕ) (size : ℕ) (why : Refusal) → HasCause (IsRefusalOf file) size why → RefusalMeaning file why
stated-means file size why (out_of_memory is) =
    subst (λ (w : Refusal). IfSome (cause_of w) (RefusalImplies file)) (sym is) tt
stated-means file size why (of_cause cause cause_is holds starts named) =
    subst (λ (stated : Option Cause). IfSome stated (RefusalImplies file)) (sym cause_is) (shows file cause holds)

-- an error equal to a refusal of the file has the refusal's meaning
pub stated-meaning : {X : Type 0} (file : List ℕ) (result : Result X Refusal) (why : Refusal)
    → IsErrAnd result (λ other. other ≡ why) → HasCause (IsRefusalOf file) (length file) why
    → IfErr result (RefusalMeaning file)
stated-meaning file (Ok x) why is has_cause = tt
stated-meaning file (Err other) why is has_cause =
    subst (RefusalMeaning file) (sym is) (stated-means file (length file) why has_cause)

-- ---- accepted files

-- the parser of a well-formed grammar of a file is that of an accepted file
pub accepted-whole : (file : List ℕ) (rules : List Rule) (result : Result Parser Refusal) → IsRead file rules
    → IsAcceptedGrammar rules → IfOk result (λ parser. parser_rules parser ≡ rules)
    → IsWellFormedGrammar rules → code_size rules ≤ max_instructions
    → IfOk result (λ parser. Accepts file (parser_rules parser))
accepted-whole file rules (Ok parser) read taken same formed small =
    subst (Accepts file) (sym same)
    record { read = read; taken = taken; well_formed = formed; small = small }
accepted-whole file rules (Err why) read taken same formed small = tt

pub ruleset accepting = (stated-notation, stated-grammar, stated-check, stated-code, stated-early, stated-means)
