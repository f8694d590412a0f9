-- The refusal of a grammar with too much code, from the check of the grammar with cut counts.
use Rattle.std.proofs.Common.{◌≡◌, inl, inr, ℕ, List, ◌∷◌, All, Some, length, map, refl, subst, sym, ap, ◌∙◌, arith}
use Rattle.std.proofs.lemmas.List.{length-map}
use Rattle.peg_bytes.specs.Extent.{extent}
use Rattle.peg_check.specs.FirstLoops.{NamesFirstLoop}
use Rattle.peg_check.specs.LeastCycles.{IsLeastCycle, NamesLeastCycle}
use Rattle.peg_check.specs.Verdicts.{IsIllFormedBy, NamesRules}
use Rattle.peg_check.specs.declared.fault.CheckFault.{CheckFault}
use Rattle.peg_check.specs.declared.fault.CheckFault.TheVariants as check
use Rattle.peg_grammar.specs.GrammarRules.{rules_in}
use Rattle.peg_grammar.specs.declared.grammar.Grammar.{Grammar}
use Rattle.peg_notation.specs.Spans.{RuleLiesIn}
use Rattle.peg_semantics.specs.CutCounts.{cut_rule, cut_rules}
use Rattle.peg_semantics.specs.Loops.{IsLeftCycle}
use Rattle.peg_semantics.specs.Rules.{Rule, names}
use Rattle.peg_semantics.proofs.CutGrammar.{names-cut}
use Rattle.peg_semantics.proofs.CutLoops.{first_loop-uncut}
use Rattle.peg_semantics.proofs.CutWellFormed.{well_formed-cut, empty_loop-cut, empty_loop-uncut, left_cycle-cut, left_cycle-uncut}
use Rattle.peg_tree.specs.Names.{name_at}
use Rattle.peg_parser.specs.Accepts.{IsRead, IsAcceptedGrammar}
use Rattle.peg_parser.specs.Cause.{EmptyLoop, LeftRecursion, reference}
use Rattle.peg_parser.specs.Faults.{from_check, HasCause, out_of_memory, of_cause}
use Rattle.peg_parser.specs.Refusals.{IsIllFormed, IsRefusalOf, empty_loop, left_recursion}
use Rattle.peg_parser.proofs.CheckLemmas.{loop-inside}
use Rattle.peg_parser.proofs.RuleNames.{name-numbered, names-of-path}

-- a fault of the rules with cut counts is one of the rules
pub ill_formed-uncut : (rules : List Rule) (why : CheckFault) → IsIllFormedBy (cut_rules rules) why
    → IsIllFormedBy rules why
ill_formed-uncut rules (check.EmptyLoop number span) ill =
    (λ formed. ill.0 (well_formed-cut rules formed), empty_loop-uncut rules number (extent span) ill.1)
ill_formed-uncut rules (check.LeftRecursion path) ill = (
  λ formed. ill.0 (well_formed-cut rules formed),
  λ number span loop. ill.1 number span (empty_loop-cut rules number span loop),
  left_cycle-uncut rules path.items ill.2,
  ill.3,
)
ill_formed-uncut rules check.Memory ill = tt

-- and it names the same first loop and the same least cycle
first-uncut : (rules : List Rule) (why : CheckFault) → NamesFirstLoop (cut_rules rules) why → NamesFirstLoop rules why
first-uncut rules (check.EmptyLoop number span) first = first_loop-uncut rules number (extent span) first
first-uncut rules (check.LeftRecursion path) first = tt
first-uncut rules check.Memory first = tt

least_cycle-uncut : (rules : List Rule) (path : List ℕ) → IsLeastCycle (IsLeftCycle (cut_rules rules)) path
    → IsLeastCycle (IsLeftCycle rules) path
least_cycle-uncut rules path least = record {
  rule = least.rule;
  more = least.more;
  is = least.is;
  cycle = left_cycle-uncut rules (least.rule ∷ least.more) least.cycle;
  least_rule = λ other rest cycle. least.least_rule other rest (left_cycle-cut rules (other ∷ rest) cycle);
  shortest = λ rest cycle. least.shortest rest (left_cycle-cut rules (least.rule ∷ rest) cycle);
  first = λ rest cycle same. least.first rest (left_cycle-cut rules (least.rule ∷ rest) cycle) same;
}

least-uncut : (rules : List Rule) (why : CheckFault) → NamesLeastCycle (cut_rules rules) why
    → NamesLeastCycle rules why
least-uncut rules (check.EmptyLoop number span) least = tt
least-uncut rules (check.LeftRecursion path) least = least_cycle-uncut rules path.items least
least-uncut rules check.Memory least = tt

-- the numbers in a fault of the rules with cut counts are those of rules
named-uncut : (rules : List Rule) (why : CheckFault) → NamesRules (length (cut_rules rules)) why
    → NamesRules (length rules) why
named-uncut rules why named = subst (λ (n : ℕ). NamesRules n why) (length-map rules cut_rule) named

-- the cause of a fault of the check, for a grammar with the names of these rules
stated-named : (file : List ℕ) (rules : List Rule) (grammar : Grammar) (why : CheckFault)
    → names (rules_in grammar) ≡ names rules → IsIllFormedBy rules why → NamesFirstLoop rules why
    → NamesLeastCycle rules why → NamesRules (length rules) why → IsRead file rules → IsAcceptedGrammar rules → All (RuleLiesIn (length file)) rules
    → HasCause (IsRefusalOf file) (length file) (from_check why grammar)
stated-named file rules grammar (check.EmptyLoop number span) same ill first least named read taken inside =
    let lies = loop-inside (length file) rules number (extent span) inside ill.1 in
    let named_too = subst (λ (l : List (List ℕ)). NamesRules (length l) (check.EmptyLoop number span)) (sym same)
    (subst (λ (n : ℕ). NamesRules n (check.EmptyLoop number span)) (sym (length-map rules (λ (rule : Rule). rule.name))) named) in
    of_cause (EmptyLoop (reference (name_at (names rules) number) (extent span)))
    (ap (λ (l : List (List ℕ)). Some (EmptyLoop (reference (name_at l number) (extent span)))) same)
    (inr (inl (subst (λ (name : List ℕ). IsIllFormed file (EmptyLoop (reference name (extent span))))
    (sym (name-numbered rules number named)) (empty_loop number (extent span) read taken ill.0 ill.1 first))))
    (omega (arith, lies.0, lies.1)) named_too
stated-named file rules grammar (check.LeftRecursion path) same ill first least named read taken inside =
    let named_too = subst (λ (l : List (List ℕ)). NamesRules (length l) (check.LeftRecursion path)) (sym same)
    (subst (λ (n : ℕ). NamesRules n (check.LeftRecursion path)) (sym (length-map rules (λ (rule : Rule). rule.name))) named) in
    of_cause (LeftRecursion (map (name_at (names rules)) path.items))
    (ap (λ (l : List (List ℕ)). Some (LeftRecursion (map (name_at l) path.items))) same)
    (inr (inl (subst (λ (l : List (List ℕ)). IsIllFormed file (LeftRecursion l))
    (sym (names-of-path rules path.items named)) (left_recursion path.items read taken ill.0 ill.1 ill.2 ill.3 least)))) tt
    named_too
stated-named file rules grammar check.Memory same ill first least named read taken inside = out_of_memory refl

-- the cause of a fault of the check, for the grammar with cut counts
pub stated-cut : (file : List ℕ) (rules : List Rule) (grammar : Grammar) (why : CheckFault)
    → rules_in grammar ≡ cut_rules rules → IsIllFormedBy (cut_rules rules) why
    → NamesFirstLoop (cut_rules rules) why → NamesLeastCycle (cut_rules rules) why
    → NamesRules (length (cut_rules rules)) why → IsRead file rules → IsAcceptedGrammar rules
    → All (RuleLiesIn (length file)) rules → HasCause (IsRefusalOf file) (length file) (from_check why grammar)
stated-cut file rules grammar why cut ill first least named read taken inside =
    stated-named file rules grammar why (ap names cut ∙ names-cut rules) (ill_formed-uncut rules why ill)
    (first-uncut rules why first) (least-uncut rules why least) (named-uncut rules why named) read taken inside
