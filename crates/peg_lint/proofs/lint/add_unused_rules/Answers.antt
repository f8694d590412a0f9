use Rattle.std.proofs.Common.{◌≡◌, ◌+◌, ◌<◌, inl, inr, ℕ, List, ◌∷◌, ◌++◌, [], All, None, get_or, refl, sym, ◌∙◌, subst, true, false, arith}
use Rattle.std.proofs.lemmas.Bool.{cases_lt}
use Rattle.std.proofs.lemmas.List.{get_or_read}
use Rattle.std.proofs.lemmas.List.Elements.{All-push}
use Rattle.std.specs.declared.alloc.Global.{Global}
use Rattle.std.specs.declared.vec.Vec.{Vec}
use Rattle.peg_bytes.specs.Extent.{Extent, extent}
use Rattle.peg_grammar.specs.GrammarRules.{rules_in}
use Rattle.peg_semantics.specs.Rules.{Rule}
use Rattle.peg_lint.specs.Linting.{Keeps}
use Rattle.peg_lint.specs.Warnings.{HasWarning, IsTrueWarning, IsUnreached}
use Rattle.peg_lint.specs.declared.warning.Warning.{Warning}
use Rattle.peg_lint.specs.declared.warning.WarningKind.TheVariants as kind
use Rattle.peg_lint.proofs.CallLemmas.{unused_rule}
use Rattle.peg_lint.proofs.DotLemmas.{next-is, some-next}
use Rattle.peg_lint.proofs.FileLemmas.{HasWarning-later, HasWarning-push, Keeps-push}
use Rattle.peg_lint.proofs.lint.add_unused_rules.Goals as goal
use Rattle.peg_lint.proofs.lint.add_unused_rules.Goals.{then-not-index+in_ok-push, else-not-index}

-- the warnings about one more rule
unused-more : (rules : List Rule) (start i : ℕ) (l0 l1 : List Warning) → Keeps l0 l1
    → ((number : ℕ) (span : Extent) → number < i → IsUnreached rules start number span
    → HasWarning l0 kind.UnusedRule number span None)
    → ((span : Extent) → IsUnreached rules start i span → HasWarning l1 kind.UnusedRule i span None)
    → (number : ℕ) (span : Extent) → number < i + 1 → IsUnreached rules start number span
    → HasWarning l1 kind.UnusedRule number span None
unused-more rules start i l0 l1 keeps so_far here number span less is =
    elim (cases_lt number i) [
      | inl before ↦ HasWarning-later l0 l1 keeps kind.UnusedRule number span None (so_far number span before is)
      | inr after ↦
          let same : number ≡ i = omega (arith, less, after) in
          subst (λ n. HasWarning l1 kind.UnusedRule n span None) (sym same)
          (here span (subst (λ n. IsUnreached rules start n span) same is))
    ]

pub rules-init : goal.rules-init
rules-init c = record {
  truth = c.requires.sound;
  kept = λ x in_it. in_it;
  unused = λ number span less is. absurd (omega (arith, less));
}

pub rules-preserved : goal.rules-preserved
rules-preserved c =
    let rules = rules_in c.args.grammar.now in
    let start = c.args.start in
    let i = c.rules.rule in
    let l0 = c.rules.found.items in
    let marks = c.in_ok-marks.marks.items in
    let read = get_or_read marks i c.index.result.now
    (omega (arith, c.rules-test.true, c.rules-rule-end.ensures.count, c.in_ok-marks.ensures.count)) c.index.ensures
    false in
    elim c.if-not-index.branch [
      | then-not-index+in_ok-push w ↦
          let span = extent w.name_span.result in
          let warning : Warning = record {
            kind = kind.UnusedRule;
            rule = i;
            span = w.name_span.result;
            by = None;
          } in
          let free : get_or marks i false ≡ false = sym read ∙ w.if-not-index.true in
          let both = unused_rule rules marks start i span c.in_ok-marks.ensures.closed c.in_ok-marks.ensures.start free
          w.name_span.ensures in
          let is : IsTrueWarning rules start warning = (both.0, (both.1, refl)) in
          let pushed = All-push (IsTrueWarning rules start) l0 warning c.rules.invariant.truth is in
          let has : (other : Extent) → IsUnreached rules start i other
          → HasWarning (l0 ++ warning ∷ []) kind.UnusedRule i other None =
          λ other is. subst (λ s. HasWarning (l0 ++ warning ∷ []) kind.UnusedRule i s None)
          (sym (next-is rules i is.rule span w.name_span.ensures is.at) ∙ is.span_is) (HasWarning-push l0 warning) in
          let more = unused-more rules start i l0 (l0 ++ warning ∷ []) (Keeps-push l0 warning) c.rules.invariant.unused has in
          record {
            truth = subst (λ (v : Vec Warning Global). All (IsTrueWarning rules start) v.items) (sym w.found-is)
                (subst (All (IsTrueWarning rules start)) (sym w.in_ok-push.ensures.items) pushed);
            kept = subst (λ (v : Vec Warning Global). Keeps c.args.found.now.items v.items) (sym w.found-is)
                (subst (Keeps c.args.found.now.items) (sym w.in_ok-push.ensures.items)
                (λ x in_it. Keeps-push l0 warning x (c.rules.invariant.kept x in_it)));
            unused = λ number span less is.
                subst (λ (v : Vec Warning Global). HasWarning v.items kind.UnusedRule number span None) (sym w.found-is)
                (subst (λ l. HasWarning l kind.UnusedRule number span None) (sym w.in_ok-push.ensures.items)
                (more number span less is));
          }
      | else-not-index w ↦
          let marked : get_or marks i false ≡ true = sym read ∙ w.if-not-index.false in
          record {
            truth = subst (λ (v : Vec Warning Global). All (IsTrueWarning rules start) v.items) (sym w.found-is)
                c.rules.invariant.truth;
            kept = subst (λ (v : Vec Warning Global). Keeps c.args.found.now.items v.items) (sym w.found-is)
                c.rules.invariant.kept;
            unused = λ number span less is.
                subst (λ (v : Vec Warning Global). HasWarning v.items kind.UnusedRule number span None) (sym w.found-is)
                (unused-more rules start i l0 l0 (λ x in_it. in_it) c.rules.invariant.unused
                (λ span is. absurd (is.unreached (c.in_ok-marks.ensures.reached i marked))) number span less is);
          }
    ]

pub returns-clause-unused : goal.returns-clause-unused
returns-clause-unused c = λ number span is.
    let within = some-next (rules_in c.args.grammar.now) number is.rule is.at in
    c.rules.invariant.unused number span (omega (arith, within, c.rules-test.false, c.rules-rule-end.ensures.count)) is
