-- The metagrammar's parse of a file, and the agreement of both readers.
use Rattle.std.proofs.Common.{◌≡◌, ℕ, ◌<◌, ◌≤◌, List, [], ◌∷◌, length, codes, Option, Some, None, Result, Ok, Err, refl, sym, ap, ◌∙◌, subst, arith}
use Rattle.std.specs.Prelude.{IfSome, IsErrAnd, IsErrOf}
use Rattle.std.specs.declared.alloc.Global.{Global}
use Rattle.std.specs.declared.vec.Vec.{Vec}
use Rattle.peg_tree.specs.Trees.{Trees}
use Rattle.peg_tree.specs.declared.outcome.Outcome.{Outcome}
use Rattle.peg_tree.specs.declared.outcome.Parsed.TheVariants as parsed
use Rattle.peg_semantics.specs.Record.{Recognition, Failed, Matched}
use Rattle.peg_semantics.specs.Rules.{Rule}
use Rattle.peg_semantics.specs.Starts.{start_name}
use Rattle.peg_semantics.proofs.Derivations.{one_result}
use Rattle.peg_metagrammar.specs.Figure.{figure}
use Rattle.peg_metagrammar.specs.Nesting.{nesting, max_open}
use Rattle.peg_metagrammar.specs.Notation.{FigureMatches, IsReading, max_file_bytes}
use Rattle.peg_metagrammar.specs.Denotation.{bad_counts, rules_spelled}
use Rattle.peg_grammar.specs.Outcomes.{IsParseOutcome, parsed_of}
use Rattle.peg_grammar.specs.Written.{rules_of}
use Rattle.peg_grammar.specs.declared.expr.Definition.{Definition}
use Rattle.peg_notation.specs.Reads.{IsReadingWithin, NestsDeeper, NestsWithin}
use Rattle.peg_bootstrap.specs.FigureTrees.{IsTreeOf, HasNestingOrBadCount}
use Rattle.peg_bootstrap.proofs.Inversions.{derives}
use Rattle.peg_bootstrap.specs.declared.fault.DefinitionsFault.{DefinitionsFault}
use Rattle.peg_bootstrap.specs.declared.fault.DefinitionsFault.TheVariants as definitions
use Rattle.peg_parser.specs.ReadsByFigure.{ReadsByFigure, AgreesWithRead, of_definitions}
use Rattle.peg_parser.specs.declared.meta_reader.FigureFault.{FigureFault}
use Rattle.peg_parser.proofs.Readings.{one_reading}
use Rattle.peg_parser.specs.declared.meta_reader.FigureFault.TheVariants.{FileTooLong, NotInFigure, TooNested, BadCount, Memory}

-- ---- a file has one tree

one_tree : (file : List ℕ) (a b : Trees) → IsTreeOf file a → IsTreeOf file b → a ≡ b
one_tree file a b m n =
    let same : Matched m.0 a ≡ Matched n.0 b = one_result (derives m.1) (derives n.1) in cc

tree_within : (file : List ℕ) (tree : Trees) → IsTreeOf file tree → nesting tree ≤ max_open → NestsWithin max_open file
tree_within file tree m within end trees other =
    subst (λ t. nesting t ≤ max_open) (one_tree file tree trees m (end, other)) within

-- the rules that the tree denotes are its reading, if no count is out of range
pub tree_reads : (file : List ℕ) (tree : Trees) (rules : List Rule) → IsTreeOf file tree → bad_counts file tree ≡ []
    → rules ≡ rules_spelled file tree → nesting tree ≤ max_open → IsReadingWithin max_open file rules
tree_reads file tree rules m none is within = ((m.0, tree, m.1, none, is), tree_within file tree m within)

pub tree_deep : (file : List ℕ) (tree : Trees) → IsTreeOf file tree → max_open < nesting tree → NestsDeeper max_open file
tree_deep file tree m deep end trees other = subst (λ t. max_open < nesting t) (one_tree file tree trees m (end, other)) deep

-- ---- the outcome

pub start-figure : start_name figure None ≡ Some (codes "Grammar")
unfolding figure
start-figure = refl

-- an outcome of the metagrammar's parse, from its first rule
pub outcome_of : (rules : List Rule) (file : List ℕ) (outcome : Outcome) → rules ≡ figure
    → IfSome (start_name rules None) (λ start. IsParseOutcome rules file start outcome) → IsParseOutcome figure file (codes "Grammar") outcome
outcome_of rules file outcome is stated =
    subst (λ (o : Option (List ℕ)). IfSome o (λ start. IsParseOutcome figure file start outcome)) start-figure
    (subst (λ (r : List Rule). IfSome (start_name r None) (λ start. IsParseOutcome r file start outcome)) is stated)

pub matched_tree : (file : List ℕ) (outcome : Outcome) → IsParseOutcome figure file (codes "Grammar") outcome → (end : ℕ) (tree : Trees)
    → outcome.result ≡ parsed.Matched end tree → IsTreeOf file tree
matched_tree file outcome is end tree stated = by is.1.0.result refl (sym stated ∙ is.1.2)
  where
    by : (x : Recognition) → is.1.0.result ≡ x → parsed.Matched end tree ≡ parsed_of is.1.0.result → IsTreeOf file tree
    by Failed at same = absurd (let bad : parsed.Matched end tree ≡ parsed.Failed = same ∙ ap parsed_of at in cc)
    by (Matched e t) at same =
        let one : parsed.Matched end tree ≡ parsed.Matched e t = same ∙ ap parsed_of at in
        let trees : t ≡ tree = cc in
        subst (IsTreeOf file) trees (e, (is.1.0, (is.0, is.1.1), at))

pub failed_none : (file : List ℕ) (outcome : Outcome) → IsParseOutcome figure file (codes "Grammar") outcome
    → outcome.result ≡ parsed.Failed → ¬ FigureMatches file
failed_none file outcome is stated m = by is.1.0.result refl (sym stated ∙ is.1.2)
  where
    by : (x : Recognition) → is.1.0.result ≡ x → parsed.Failed ≡ parsed_of is.1.0.result → ⊥
    by (Matched e t) at same = let bad : parsed.Failed ≡ parsed.Matched e t = same ∙ ap parsed_of at in cc
    by Failed at same =
        let known : is.1.0.result ≡ Matched m.0 m.1 = Rattle.peg_semantics.proofs.Derivations.one_record (derives m.2) 0 (is.0, is.1.1) in
        let bad : Failed ≡ Matched m.0 m.1 = sym at ∙ known in cc

-- ---- agreement

pub agree : AgreesWithRead
agree file read (Ok other) by_hand by_figure some = one_reading file (rules_of other.items) (rules_of read.items) by_figure.1.0 by_hand.1.0
agree file read (Err FileTooLong) by_hand by_figure some = absurd (let bad : ⊥ = omega (arith, by_hand.0, by_figure) in bad)
agree file read (Err NotInFigure) by_hand by_figure some = absurd (by_figure.1 (by_hand.1.0.0, by_hand.1.0.1, by_hand.1.0.2))
agree file read (Err TooNested) by_hand by_figure some =
    let m = by_hand.1.0 in
    let deep = by_figure.2 m.0 m.1 m.2 in
    let within = by_hand.1.1 m.0 m.1 m.2 in
    absurd (let bad : ⊥ = omega (arith, deep, within) in bad)
agree file read (Err (BadCount at)) by_hand by_figure some =
    let m = by_hand.1.0 in
    let bad = by_figure.2 in
    let same = one_tree file bad.1 m.1 (bad.0, bad.2) (m.0, m.2) in
    let none : [] ≡ at ∷ bad.3.0 = sym m.3 ∙ (ap (bad_counts file) (sym same) ∙ bad.3.1) in cc
agree file read (Err Memory) by_hand by_figure some = absurd (some refl)

-- ---- faults

-- what a fault of a tree's definitions implies about the file
pub stated_definitions : (file : List ℕ) (tree : Trees) (why : DefinitionsFault) → length file ≤ max_file_bytes → IsTreeOf file tree
    → (IsErrOf {T = Vec Definition Global} (Err why) definitions.TooNested → max_open < nesting tree)
    → HasNestingOrBadCount file tree why
    → (result : Result (Vec Definition Global) FigureFault) → IsErrAnd result (λ stated. stated ≡ of_definitions why)
    → ReadsByFigure file result
stated_definitions file tree definitions.TooNested short m deep bad (Err stated) is =
    subst (λ (t : FigureFault). ReadsByFigure file (Err t)) (sym is)
    (short, (m.0, tree, m.1), tree_deep file tree m (deep refl))
stated_definitions file tree (definitions.BadCount at) short m deep bad (Err stated) is =
    subst (λ (t : FigureFault). ReadsByFigure file (Err t)) (sym is)
    (short, tree_within file tree m bad.0, (m.0, tree, m.1, bad.1))
stated_definitions file tree definitions.Memory short m deep bad (Err stated) is =
    subst (λ (t : FigureFault). ReadsByFigure file (Err t)) (sym is) tt
stated_definitions file tree why short m deep bad (Ok read) is = absurd is
