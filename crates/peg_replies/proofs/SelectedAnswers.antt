-- Answers with the nodes that are printed.
use Rattle.std.proofs.Common.{◌≡◌, ◌≢◌, ℕ, ◌<◌, Bool, true, if◌then◌else◌, IfOk, IfSome, List, None, Option, Result, Some, length}
use Rattle.std.proofs.Common.{refl, subst, sym, ap, ◌∙◌}
use Rattle.std.specs.declared.alloc.AllocError.{AllocError}
use Rattle.peg_code.specs.ShownRules.{is_shown_by}
use Rattle.peg_grammar.specs.Outcomes.{IsParseOutcome, parsed_of}
use Rattle.peg_json.specs.Lines.{IsLineOf, line_bytes}
use Rattle.peg_json.specs.Parses.{PrintsOutcome, PrintsOutcomeAsked, selected_outcome, selected_result}
use Rattle.peg_json.specs.Statuses.{status_code}
use Rattle.peg_json.specs.declared.line.Line.{Line}
use Rattle.peg_json.specs.declared.tree_form.TreeForm.{TreeForm}
use Rattle.peg_json.specs.declared.tree_form.TreeForm.TheVariants.{Nested, NoTree, Rows}
use Rattle.peg_json.proofs.PrintLemmas.{asked-unprinted, kind-weaker, unprinted-asked, unprinted-line}
use Rattle.peg_machine.specs.SelectedTests.{shown_result}
use Rattle.peg_parser.specs.Fits.{ResultFits}
use Rattle.peg_parser.specs.SelectedOutcomes.{IsParseOutcomeBy}
use Rattle.peg_semantics.specs.Record.{Recognition}
use Rattle.peg_semantics.specs.Record as recognition
use Rattle.peg_semantics.specs.Rules.{Rule}
use Rattle.peg_semantics.specs.Starts.{start_name}
use Rattle.peg_tree.specs.Nodes.{RulesBelow}
use Rattle.peg_tree.specs.Selected.{selected, selected_among}
use Rattle.peg_tree.specs.Trees.{Trees, NoTrees, Tree, followed_by}
use Rattle.peg_tree.specs.declared.outcome.Outcome.{Outcome}
use Rattle.peg_tree.specs.declared.outcome.Parsed.{Parsed}
use Rattle.peg_tree.specs.declared.outcome.Parsed.TheVariants as parsed

-- ---- trees

-- the law that selecting all rules changes nothing
abbrev pub AllIsSame : Type 0
AllIsSame = (trees : Trees) → selected (λ _. true) trees ≡ trees

-- selecting depends only on the rules that a tree has
selected_among-same : (first second : ℕ → Bool) (bound : ℕ) → ((rule : ℕ) → rule < bound → first rule ≡ second rule)
    → (trees : Trees) → RulesBelow bound trees → selected_among first trees ≡ selected_among second trees
selected_among-same first second bound same NoTrees below = refl
selected_among-same first second bound same (Tree rule start end children rest) below =
    let inner = selected_among-same first second bound same children below.1 in
    let after = selected_among-same first second bound same rest below.2 in
    ap (λ (b : Bool). if b then Tree rule start end (selected_among first children) (selected_among first rest)
    else followed_by (selected_among first children) (selected_among first rest)) (same rule below.0)
    ∙ ap (λ t. if second rule then Tree rule start end t (selected_among first rest)
    else followed_by t (selected_among first rest)) inner
    ∙ ap (λ t. if second rule then Tree rule start end (selected_among second children) t
    else followed_by (selected_among second children) t) after

selected-same : (first second : ℕ → Bool) (bound : ℕ) → ((rule : ℕ) → rule < bound → first rule ≡ second rule)
    → (trees : Trees) → RulesBelow bound trees → selected first trees ≡ selected second trees
selected-same first second bound same NoTrees below = refl
selected-same first second bound same (Tree rule start end children rest) below =
    ap (λ t. Tree rule start end t (selected_among first rest)) (selected_among-same first second bound same children below.1)
    ∙ ap (λ t. Tree rule start end (selected_among second children) t) (selected_among-same first second bound same rest below.2)

-- ---- outcomes

result-same : (first second : ℕ → Bool) (bound : ℕ) → ((rule : ℕ) → rule < bound → first rule ≡ second rule)
    → (result : Parsed) → ResultFits bound result → selected_result first result ≡ selected_result second result
result-same first second bound same parsed.Failed fits = refl
result-same first second bound same (parsed.Matched end tree) fits =
    ap (λ t. parsed.Matched end t) (selected-same first second bound same tree fits)

-- selecting from an outcome depends only on the rules that its tree has
outcome-same : (first second : ℕ → Bool) (bound : ℕ) → ((rule : ℕ) → rule < bound → first rule ≡ second rule)
    → (outcome : Outcome) → ResultFits bound outcome.result → selected_outcome first outcome ≡ selected_outcome second outcome
outcome-same first second bound same outcome fits =
    ap (λ (r : Parsed). record outcome { result = r }) (result-same first second bound same outcome.result fits)

-- the nodes of a run's result that are shown are selected from those of the record
shown-selected : AllIsSame → (set : Option (List Bool)) (result : Recognition)
    → parsed_of (shown_result set result) ≡ selected_result (is_shown_by set) (parsed_of result)
shown-selected law None recognition.Failed = refl
shown-selected law None (recognition.Matched end tree) = ap (λ t. parsed.Matched end t) (sym (law tree))
shown-selected law (Some flags) recognition.Failed = refl
shown-selected law (Some flags) (recognition.Matched end tree) = refl

-- An outcome whose nodes are selected from those of this one, which is that of a grammar on a text.
pub record IsSelection (rules : List Rule) (text start : List ℕ) (set : Option (List Bool)) (outcome : Outcome)
    : Type 0 where
  pub whole : Outcome
  pub is : IsParseOutcome rules text start whole
  pub same : outcome ≡ selected_outcome (is_shown_by set) whole

-- the outcome of a parser that shows a set of rules is a selection
pub outcome-selected : AllIsSame → (rules : List Rule) (text start : List ℕ) (set : Option (List Bool)) (outcome : Outcome)
    → IsParseOutcomeBy set None rules text start outcome → IsSelection rules text start set outcome
outcome-selected law rules text start set outcome is =
    let held = is.1 in
    let r = held.0 in record {
      whole = record outcome { result = parsed_of r.result };
      is = (is.0, (r, held.1, refl, held.3));
      same = ap (λ (p : Parsed). record outcome { result = p }) (held.2 ∙ shown-selected law set r.result);
    }

-- the same of a start that is found
pub found-selected : AllIsSame → (rules : List Rule) (text : List ℕ) (start : Option (List ℕ)) (set : Option (List Bool))
    (outcome : Outcome) → (start_name rules start ≡ None → ⊥)
    → IfSome (start_name rules start) (λ from. IsParseOutcomeBy set None rules text from outcome)
    → (from : (from : List ℕ) × (start_name rules start ≡ Some from)) × IsSelection rules text from.0 set outcome
found-selected law rules text start set outcome some is = by (start_name rules start) refl is
  where
    by : (found : Option (List ℕ)) → start_name rules start ≡ found
        → IfSome found (λ from. IsParseOutcomeBy set None rules text from outcome)
        → (from : (from : List ℕ) × (start_name rules start ≡ Some from)) × IsSelection rules text from.0 set outcome
    by None there is = absurd (some there)
    by (Some from) there is = ((from, there), outcome-selected law rules text from set outcome is)

-- ---- lines

module _ (result : Result Line AllocError) (file : List ℕ) (rules : List Rule) (outcome : Outcome) (text : List ℕ)
    (all : Bool) (asked : Bool) (first second : ℕ → Bool) where
  abbrev Prints : TreeForm → (ℕ → Bool) → Type 0
  Prints form shown = IfOk result (λ line. IsLineOf file
      (PrintsOutcomeAsked rules (selected_outcome shown outcome) text all form asked) (line_bytes line)
      (status_code line.status))

  unprinted : Prints NoTree first → Prints NoTree second
  unprinted is =
      kind-weaker result file (PrintsOutcome rules (selected_outcome second outcome) (length text) all NoTree)
      (PrintsOutcomeAsked rules (selected_outcome second outcome) text all NoTree asked)
      (unprinted-asked asked text rules (selected_outcome second outcome) all)
      (unprinted-line result file rules outcome (length text) all first second
      (kind-weaker result file (PrintsOutcomeAsked rules (selected_outcome first outcome) text all NoTree asked)
      (PrintsOutcome rules (selected_outcome first outcome) (length text) all NoTree)
      (asked-unprinted asked text rules (selected_outcome first outcome) all) is))

  agreeing : (form : TreeForm) → form ≢ NoTree
      → (form ≢ NoTree → (rule : ℕ) → rule < length rules → first rule ≡ second rule)
      → ResultFits (length rules) outcome.result → Prints form first → Prints form second
  agreeing form printed agree fits is =
      subst (λ (o : Outcome). IfOk result (λ line. IsLineOf file (PrintsOutcomeAsked rules o text all form asked)
      (line_bytes line) (status_code line.status)))
      (outcome-same first second (length rules) (agree printed) outcome fits) is

  -- the line of an outcome is the same for two selections that agree, or without a printed tree
  pub lines-agree : (form : TreeForm)
      → (form ≢ NoTree → (rule : ℕ) → rule < length rules → first rule ≡ second rule)
      → ResultFits (length rules) outcome.result → Prints form first → Prints form second
  lines-agree NoTree agree fits is = unprinted is
  lines-agree Nested agree fits is = agreeing Nested (λ bad. cc) agree fits is
  lines-agree Rows agree fits is = agreeing Rows (λ bad. cc) agree fits is
