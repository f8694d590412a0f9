-- The printed outcome is the reply to a parse.
use Rattle.std.proofs.Common.{◌≡◌, inl, inr, ℕ, ◌<◌, ◌≤◌, Bool, true, false, List, length, IfSome, Option, None, Some}
use Rattle.std.proofs.Common.{refl, sym, ap, ◌∙◌, subst, if◌then◌else◌}
use Rattle.std.proofs.lemmas.Bool.{cases_lt}
use Rattle.peg_semantics.specs.Furthest.{IsFurthest}
use Rattle.peg_grammar.specs.Outcomes.{IsParseOutcome, parsed_of}
use Rattle.peg_semantics.specs.Record.{Record}
use Rattle.peg_semantics.specs.Rules.{Rule, is_defined}
use Rattle.peg_tree.specs.Trees.{levels}
use Rattle.peg_tree.specs.declared.outcome.Outcome.{Outcome}
use Rattle.peg_tree.specs.declared.outcome.Parsed.{Parsed}
use Rattle.peg_tree.specs.declared.outcome.Parsed.TheVariants as parsed
use Rattle.peg_parser.specs.Cause.{TooDeep, NoSuchStart}
use Rattle.peg_grammar.specs.Limits.{max_text_bytes}
use Rattle.peg_semantics.specs.Starts.{Recognizes, start_name}
use Rattle.peg_tree.specs.Selected.{selected}
use Rattle.peg_json.specs.Parses.{AnswersWithin, ParsesTo, PrintsOutcome, IsDeep, extents_at, selected_outcome, selected_result}
use Rattle.peg_tree.specs.Json.{max_levels}
use Rattle.peg_json.specs.Parses.{result_reply, no_such_start, failed, too_many_levels, matched}
use Rattle.peg_json.specs.Reply.{Reply, Refused}
use Rattle.peg_json.specs.declared.tree_form.TreeForm.{TreeForm}
use Rattle.peg_json.specs.declared.tree_form.TreeForm.TheVariants.{Nested, Rows}
use Rattle.peg_json.specs.TreeForms.{form_from_rows}
use Rattle.peg_parser.proofs.OutcomeFits.{parsed-failed, parsed-matched}

-- the form is nested only without the option for a list of nodes
pub not_rows : (rows : Bool) → form_from_rows rows ≡ Nested → rows ≡ false
not_rows true is = let bad : Rows ≡ Nested = is in cc
not_rows false is = refl

-- a parse whose outcome is that of Ford's record
record Parse (rules : List Rule) (text : List ℕ) (start : Option (List ℕ)) (memo : ℕ) (steps : Option ℕ) (r : Record)
    (far : ℕ) (expected : List ℕ) : Type 0 where
  within : length text ≤ max_text_bytes
  enough : AnswersWithin rules text start memo steps
  from : List ℕ
  starts : start_name rules start ≡ Some from
  recognized : Recognizes rules text from r
  furthest : IsFurthest r.tests far expected

deep-parses : (rules : List Rule) (text : List ℕ) (start : Option (List ℕ)) (memo : ℕ) (steps : Option ℕ)
    (all : Bool) (form : TreeForm) (shown : ℕ → Bool) (r : Record) (far : ℕ) (expected : List ℕ) (result : Parsed)
    → Parse rules text start memo steps r far expected
    → result ≡ parsed_of r.result
    → form ≡ Nested → IsDeep (selected_result shown result)
    → ParsesTo rules text start memo steps all form shown (Refused TooDeep)
deep-parses rules text start memo steps all form shown r far expected parsed.Failed it is nested deep = absurd deep
deep-parses rules text start memo steps all form shown r far expected (parsed.Matched end tree) it is nested deep =
    too_many_levels it.within it.enough it.starts it.recognized (parsed-matched r.result end tree is) nested deep

-- a number that isn't over a limit is at most the limit
not-over : (a b : ℕ) → ¬ (a < b) → b ≤ a
not-over a b not = elim (cases_lt a b) [ inl less ↦ absurd (not less) | inr other ↦ other ]

result-parses : (rules : List Rule) (text : List ℕ) (start : Option (List ℕ)) (memo : ℕ) (steps : Option ℕ)
    (all : Bool) (form : TreeForm) (shown : ℕ → Bool) (r : Record) (far : ℕ) (expected : List ℕ) (result : Parsed)
    → Parse rules text start memo steps r far expected
    → result ≡ parsed_of r.result
    → (form ≡ Nested → ¬ IsDeep (selected_result shown result))
    → ParsesTo rules text start memo steps all form shown
    (result_reply rules (length text) all form far (extents_at rules expected) (selected_result shown result))
result-parses rules text start memo steps all form shown r far expected parsed.Failed it is shallow =
    failed it.within it.enough it.starts it.recognized (parsed-failed r.result is) it.furthest
result-parses rules text start memo steps all form shown r far expected (parsed.Matched end tree) it is shallow =
    matched it.within it.enough it.starts it.recognized (parsed-matched r.result end tree is)
    (λ nested. not-over max_levels (levels (selected shown tree)) (shallow nested)) it.furthest

pub prints-parses : (rules : List Rule) (text : List ℕ) (start : Option (List ℕ)) (memo : ℕ) (steps : Option ℕ)
    (all : Bool) (form : TreeForm) (shown : ℕ → Bool) (outcome : Outcome)
    → length text ≤ max_text_bytes → AnswersWithin rules text start memo steps → (from : List ℕ)
    → start_name rules start ≡ Some from
    → IsParseOutcome rules text from outcome → (reply : Reply)
    → PrintsOutcome rules (selected_outcome shown outcome) (length text) all form reply
    → ParsesTo rules text start memo steps all form shown reply
prints-parses rules text start memo steps all form shown outcome within enough from starts is reply prints = by prints
  where
    r : Record
    r = is.1.0

    it : Parse rules text start memo steps r outcome.far outcome.expected.items
    it = record {
      within = within;
      enough = enough;
      from = from;
      starts = starts;
      recognized = (is.0, is.1.1);
      furthest = is.1.3;
    }

    by : PrintsOutcome rules (selected_outcome shown outcome) (length text) all form reply
        → ParsesTo rules text start memo steps all form shown reply
    by (inl deep) =
        subst (ParsesTo rules text start memo steps all form shown) (sym deep.2)
        (deep-parses rules text start memo steps all form shown r outcome.far outcome.expected.items outcome.result it is.1.2
        deep.0 deep.1)
    by (inr shallow) =
        subst (ParsesTo rules text start memo steps all form shown) (sym shallow.1)
        (result-parses rules text start memo steps all form shown r outcome.far outcome.expected.items outcome.result it is.1.2
        shallow.0)

-- the name of a start that no rule has
pub missing-parses : (rules : List Rule) (text : List ℕ) (start : Option (List ℕ)) (memo : ℕ) (steps : Option ℕ)
    (all : Bool) (form : TreeForm) (shown : ℕ → Bool) (name : List ℕ)
    → length text ≤ max_text_bytes → start ≡ Some name → start_name rules start ≡ None
    → ParsesTo rules text start memo steps all form shown (Refused (NoSuchStart name))
missing-parses rules text start memo steps all form shown name within named none =
    no_such_start name within named (by (is_defined rules name) refl)
  where
    missing : start_name rules (Some name) ≡ None
    missing = sym (ap (start_name rules) named) ∙ none

    by : (known : Bool) → is_defined rules name ≡ known → is_defined rules name ≡ false
    by true is =
        let both : Some name ≡ None =
        sym (ap (λ (b : Bool). if b then Some name else None) is) ∙ missing in cc
    by false is = is

pub outcome-parses : (rules : List Rule) (text : List ℕ) (start : Option (List ℕ)) (memo : ℕ) (steps : Option ℕ)
    (all : Bool) (form : TreeForm) (shown : ℕ → Bool) (outcome : Outcome)
    → length text ≤ max_text_bytes → AnswersWithin rules text start memo steps → (start_name rules start ≡ None → ⊥)
    → IfSome (start_name rules start) (λ from. IsParseOutcome rules text from outcome) → (reply : Reply)
    → PrintsOutcome rules (selected_outcome shown outcome) (length text) all form reply
    → ParsesTo rules text start memo steps all form shown reply
outcome-parses rules text start memo steps all form shown outcome within enough some is reply prints =
    by (start_name rules start) refl some is
  where
    by : (found : Option (List ℕ)) → start_name rules start ≡ found → (found ≡ None → ⊥)
        → IfSome found (λ from. IsParseOutcome rules text from outcome)
        → ParsesTo rules text start memo steps all form shown reply
    by None there some is = absurd (some refl)
    by (Some from) there some is =
        prints-parses rules text start memo steps all form shown outcome within enough from there is reply prints

-- if the start is no rule, a name was given
pub start-given : (rules : List Rule) (start : Option (List ℕ)) → start_name rules start ≡ None
    → (name : List ℕ) × (start ≡ Some name)
start-given rules None none = cc
start-given rules (Some name) none = (name, refl)
