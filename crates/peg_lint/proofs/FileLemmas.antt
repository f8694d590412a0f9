-- Warnings that are true of a file, and those that are found.
use Rattle.std.proofs.Common.{◌≡◌, ◌<◌, ℕ, Bool, IsTrue, List, [], ◌∷◌, ◌++◌, None, Option, Some, option_map, inr, refl, sym, ap, ◌∙◌, subst, nat_lt, arith}
use Rattle.std.proofs.lemmas.Bool.Decides.{nat_tests}
use Rattle.std.proofs.lemmas.List.Elements.{All-push, All-weaker, Contains-append_left, Contains-push}
use Rattle.peg_bytes.specs.Extent.{Extent, extent}
use Rattle.peg_metagrammar.specs.Ranges.{Range}
use Rattle.peg_semantics.specs.Form.{Form, Forms}
use Rattle.peg_semantics.specs.Rules.{Rule}
use Rattle.peg_semantics.specs.WellFormed.{subexpressions}
use Rattle.peg_lint.specs.FileWarnings.{IsTrueOfFile, IsTrueWarningIn}
use Rattle.peg_lint.specs.Habits.{text_in}
use Rattle.peg_lint.specs.Linting.{Adds, AddsIn, AddsTrue, FindsIf, FindsRange, FindsRanges, FindsRuleText, FindsText, FindsTexts, FindsWhole, Keeps, KeepsTrue}
use Rattle.peg_lint.specs.Linting.{FindsExcluded, FindsItems, FindsOf, FindsOfAll, FindsOperator, FindsRule}
use Rattle.peg_lint.specs.Warnings.{HasWarning, IsTrueWarning, extent_of}
use Rattle.peg_lint.specs.declared.warning.Warning.{Warning}
use Rattle.peg_lint.specs.declared.warning.WarningKind.{WarningKind}
use Rattle.peg_lint.specs.declared.warning.WarningKind.TheVariants as kind

-- ---- lists of warnings

pub Keeps-push : (old : List Warning) (w : Warning) → Keeps old (old ++ w ∷ [])
Keeps-push old w x in_it = Contains-append_left old (w ∷ []) x in_it

-- the warning that was pushed is found
pub HasWarning-push : (old : List Warning) (w : Warning)
    → HasWarning (old ++ w ∷ []) w.kind w.rule (extent w.span) (option_map extent w.by)
HasWarning-push old w = record {
  warning = w;
  among = Contains-push old w;
  kind_is = refl;
  rule_is = refl;
  span_is = refl;
  by_is = refl;
}

-- ---- one step after another

module _ (Is : (start : ℕ) → Warning → Type 0) where
  -- a true warning after true warnings
  pub AddsTrue-push : (Finds : List Warning → Type 0) (old : List Warning) (w : Warning) → ((start : ℕ) → Is start w)
      → Finds (old ++ w ∷ []) → AddsTrue Is Finds old (old ++ w ∷ [])
  AddsTrue-push Finds old w is found = record {
    truth = λ start are. All-push (Is start) old w are (is start);
    kept = Keeps-push old w;
    found = found;
  }

  pub AddsTrue-same : (Finds : List Warning → Type 0) (old : List Warning) → Finds old → AddsTrue Is Finds old old
  AddsTrue-same Finds old found = record { truth = λ start are. are; kept = λ w in_it. in_it; found = found }

  -- what one step finds and keeps, and the next finds, is what both find
  pub AddsTrue-then : (One Two Both : List Warning → Type 0) (a b c : List Warning) → AddsTrue Is One a b
      → AddsTrue Is Two b c → (Keeps b c → One b → Two c → Both c) → AddsTrue Is Both a c
  AddsTrue-then One Two Both a b c first second join = record {
    truth = λ start are. second.truth start (first.truth start are);
    kept = λ w in_it. second.kept w (first.kept w in_it);
    found = join second.kept first.found second.found;
  }

  -- a step that finds more finds less
  pub AddsTrue-weaker : (More Less : List Warning → Type 0) (a b : List Warning) → (More b → Less b)
      → AddsTrue Is More a b → AddsTrue Is Less a b
  AddsTrue-weaker More Less a b weaker step =
      record { truth = step.truth; kept = step.kept; found = weaker step.found }

module _ (file : List ℕ) (rules : List Rule) where
  -- a warning that is true of the file's bytes, after true warnings
  pub AddsIn-push : (Finds : List Warning → Type 0) (old : List Warning) (w : Warning) → IsTrueOfFile file rules w
      → Finds (old ++ w ∷ []) → AddsIn file rules Finds old (old ++ w ∷ [])
  AddsIn-push Finds old w is found = AddsTrue-push (IsTrueWarningIn file rules) Finds old w (λ start. inr is) found

  pub AddsIn-same : (Finds : List Warning → Type 0) (old : List Warning) → Finds old → AddsIn file rules Finds old old
  AddsIn-same = AddsTrue-same (IsTrueWarningIn file rules)

  pub AddsIn-then : (One Two Both : List Warning → Type 0) (a b c : List Warning) → AddsIn file rules One a b
      → AddsIn file rules Two b c → (Keeps b c → One b → Two c → Both c) → AddsIn file rules Both a c
  AddsIn-then = AddsTrue-then (IsTrueWarningIn file rules)

  pub AddsIn-weaker : (More Less : List Warning → Type 0) (a b : List Warning) → (More b → Less b)
      → AddsIn file rules More a b → AddsIn file rules Less a b
  AddsIn-weaker = AddsTrue-weaker (IsTrueWarningIn file rules)

  -- a step finds what it is to find by a test of the code, which is another test
  pub AddsIn-test : (holds test : Bool) (what : WarningKind) (number : ℕ) (span : Extent) (a b : List Warning)
      → holds ≡ test → AddsIn file rules (FindsIf holds what number span) a b
      → AddsIn file rules (FindsIf test what number span) a b
  AddsIn-test holds test what number span a b same step =
      subst (λ t. AddsIn file rules (FindsIf t what number span) a b) same step

module _ (rules : List Rule) where
  pub Adds-push : (Finds : List Warning → Type 0) (old : List Warning) (w : Warning)
      → ((start : ℕ) → IsTrueWarning rules start w) → Finds (old ++ w ∷ []) → Adds rules Finds old (old ++ w ∷ [])
  Adds-push = AddsTrue-push (IsTrueWarning rules)

  pub Adds-same : (Finds : List Warning → Type 0) (old : List Warning) → Finds old → Adds rules Finds old old
  Adds-same = AddsTrue-same (IsTrueWarning rules)

  pub Adds-then : (One Two Both : List Warning → Type 0) (a b c : List Warning) → Adds rules One a b
      → Adds rules Two b c → (Keeps b c → One b → Two c → Both c) → Adds rules Both a c
  Adds-then = AddsTrue-then (IsTrueWarning rules)

  pub Adds-weaker : (More Less : List Warning → Type 0) (a b : List Warning) → (More b → Less b)
      → Adds rules More a b → Adds rules Less a b
  Adds-weaker = AddsTrue-weaker (IsTrueWarning rules)

  -- nothing is to be found by the second step
  pub KeepsTrue-then : (Finds : List Warning → Type 0) (a b c : List Warning) → Adds rules Finds a b
      → KeepsTrue rules b c → (Keeps b c → Finds b → Finds c) → Adds rules Finds a c
  KeepsTrue-then Finds a b c first second stays =
      Adds-then Finds (λ found. Unit {0}) Finds a b c first second (λ keeps finds _. stays keeps finds)

  pub KeepsTrue-both : (a b c : List Warning) → KeepsTrue rules a b → KeepsTrue rules b c → KeepsTrue rules a c
  KeepsTrue-both a b c first second =
      Adds-then (λ found. Unit {0}) (λ found. Unit {0}) (λ found. Unit {0}) a b c first second (λ keeps one two. tt)

  pub KeepsTrue-same : (old : List Warning) → KeepsTrue rules old old
  KeepsTrue-same old = Adds-same (λ found. Unit {0}) old tt

  pub KeepsTrue-push : (old : List Warning) (w : Warning) → ((start : ℕ) → IsTrueWarning rules start w)
      → KeepsTrue rules old (old ++ w ∷ [])
  KeepsTrue-push old w is = Adds-push (λ found. Unit {0}) old w is tt

-- ---- what is found stays found

module _ (one two : List Warning) (keeps : Keeps one two) where
  pub HasWarning-later : (what : WarningKind) (number : ℕ) (span : Extent) (by : Option Extent)
      → HasWarning one what number span by → HasWarning two what number span by
  HasWarning-later what number span by has = record {
    warning = has.warning;
    among = keeps has.warning has.among;
    kind_is = has.kind_is;
    rule_is = has.rule_is;
    span_is = has.span_is;
    by_is = has.by_is;
  }

  pub FindsIf-later : (holds : Bool) (what : WarningKind) (number : ℕ) (span : Extent)
      → FindsIf holds what number span one → FindsIf holds what number span two
  FindsIf-later holds what number span finds h = HasWarning-later what number span None (finds h)

  pub FindsWhole-later : (text : List ℕ) (number : ℕ) (span : Extent) → FindsWhole text number span one
      → FindsWhole text number span two
  FindsWhole-later text number span finds = record {
    caret = λ h. HasWarning-later kind.ClassBeginsWithCaret number span None (finds.caret h);
    line_end = λ h. HasWarning-later kind.HoldsLineEnd number span None (finds.line_end h);
    high = λ h. HasWarning-later kind.HighBytesInClass number span None (finds.high h);
    blanks = λ h. HasWarning-later kind.BlanksInClass number span None (finds.blanks h);
  }

  pub FindsRanges-later : (file : List ℕ) (number : ℕ) (class : Extent) → FindsRanges file number class one
      → FindsRanges file number class two
  FindsRanges-later file number class finds = record {
    reversed = λ span is. HasWarning-later kind.ReversedRange number span None (finds.reversed span is);
    to_bracket = λ span is. HasWarning-later kind.ClassEndsInRange number span None (finds.to_bracket span is);
    over_signs = λ span is. HasWarning-later kind.RangeOverSigns number span None (finds.over_signs span is);
    repeats = λ span is. HasWarning-later kind.RepeatedByte number span None (finds.repeats span is);
  }

  pub FindsRange-later : (file : List ℕ) (number : ℕ) (span : Extent) (bytes : Range)
      → FindsRange file number span bytes one → FindsRange file number span bytes two
  FindsRange-later file number span bytes finds = record {
    reversed = λ h. HasWarning-later kind.ReversedRange number span None (finds.reversed h);
    to_bracket = λ h. HasWarning-later kind.ClassEndsInRange number span None (finds.to_bracket h);
    over_signs = λ h. HasWarning-later kind.RangeOverSigns number span None (finds.over_signs h);
  }

  pub FindsText-later : (file : List ℕ) (number : ℕ) (e : Form) → FindsText file number one e
      → FindsText file number two e
  FindsText-later file number e finds = record {
    literal = λ bytes span same within h.
        HasWarning-later kind.HoldsLineEnd number span None (finds.literal bytes span same within h);
    class = λ set span same within. (
      FindsWhole-later (text_in file span) number span (finds.class set span same within).0,
      FindsRanges-later file number span (finds.class set span same within).1,
    );
    empty = λ span later is. HasWarning-later kind.EmptyAlternative number span None (finds.empty span later is);
  }

  pub FindsTexts-later : (file : List ℕ) (number : ℕ) (es : List Form) → FindsTexts file number es one
      → FindsTexts file number es two
  FindsTexts-later file number es finds =
      All-weaker (FindsText file number one) (FindsText file number two) (λ e is. FindsText-later file number e is) es
      finds

  pub FindsRuleText-later : (file : List ℕ) (rules : List Rule) (number : ℕ) → FindsRuleText file rules number one
      → FindsRuleText file rules number two
  FindsRuleText-later file rules number finds = record {
    parts = λ rule at. FindsTexts-later file number (subexpressions rule.body) (finds.parts rule at);
    dot = λ span is. HasWarning-later kind.AnyAtEnd number span None (finds.dot span is);
  }

  -- ---- by Ford's outcomes

  pub FindsExcluded-later : (rules : List Rule) (number : ℕ) (e : Form) → FindsExcluded rules number e one
      → FindsExcluded rules number e two
  FindsExcluded-later rules number e finds matter excluded =
      HasWarning-later kind.NeverMatches number (extent_of e) None (finds matter excluded)

  pub FindsItems-later : (rules : List Rule) (number : ℕ) (items : Forms) → FindsItems rules number items one
      → FindsItems rules number items two
  FindsItems-later rules number items finds item is = FindsExcluded-later rules number item (finds item is)

  pub FindsOperator-later : (rules : List Rule) (number : ℕ) (e : Form) → FindsOperator rules number e one
      → FindsOperator rules number e two
  FindsOperator-later rules number e finds = record {
    failing = λ h. HasWarning-later kind.AlwaysFails number (extent_of e) None (finds.failing h);
    without_use = λ h. HasWarning-later kind.NoEffect number (extent_of e) None (finds.without_use h);
  }

  pub FindsOf-later : (rules : List Rule) (number : ℕ) (e : Form) → FindsOf rules number one e
      → FindsOf rules number two e
  FindsOf-later rules number e finds = record {
    items = λ item is. FindsExcluded-later rules number item (finds.items item is);
    untried = λ earlier later is.
        HasWarning-later kind.NeverTried number (extent_of later) (Some (extent_of earlier)) (finds.untried earlier later is);
    operator = FindsOperator-later rules number e finds.operator;
  }

  pub FindsOfAll-later : (rules : List Rule) (number : ℕ) (es : List Form) → FindsOfAll rules number es one
      → FindsOfAll rules number es two
  FindsOfAll-later rules number es finds =
      All-weaker (FindsOf rules number one) (FindsOf rules number two) (λ e is. FindsOf-later rules number e is) es finds

  pub FindsRule-later : (rules : List Rule) (number : ℕ) → FindsRule rules number one → FindsRule rules number two
  FindsRule-later rules number finds = record {
    body = λ rule at. FindsExcluded-later rules number rule.body (finds.body rule at);
    parts = λ rule at. FindsOfAll-later rules number (subexpressions rule.body) (finds.parts rule at);
  }

-- ---- tests of the code

-- a text passes a test of the code
pub passes : (test : List ℕ → Bool) (b : Bool) (text now : List ℕ) → b ≡ test now → now ≡ text → IsTrue b
    → IsTrue (test text)
passes test b text now is same h = sym (ap test same) ∙ (sym is ∙ h)

-- a comparison of the code
pub less : (a b : ℕ) → IsTrue (nat_lt a b) → a < b
less a b h = grind (arith, nat_tests)

pub less-true : (a b : ℕ) → a < b → IsTrue (nat_lt a b)
less-true a b h = grind (arith, nat_tests)
