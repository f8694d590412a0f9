use Rattle.std.proofs.Common.{inl, inr, ◌≡◌, ℕ, ◌<◌, Bool, Contains, List, ◌∷◌, ◌++◌, [], length, slice_get, None, Option, Some, option_map, refl, sym, ap, ◌∙◌, subst, arith}
use Rattle.std.proofs.lemmas.List.Elements.{Contains-append_left, Contains-push}
use Rattle.peg_grammar.specs.GrammarRules.{rules_in}
use Rattle.peg_grammar.specs.Written.{form_of}
use Rattle.peg_semantics.specs.Form.{Form, names_used}
use Rattle.peg_semantics.specs.Rules.{Rule}
use Rattle.peg_lint.specs.Reaches.{RefersTo, itself}
use Rattle.peg_lint.specs.Reaching.{AreNamesMarked, AreReached, IsMarked, MarksOnly}
use Rattle.peg_lint.specs.declared.reach.Reach.{Reach}
use Rattle.peg_lint.proofs.PartLemmas.{body-is}
use Rattle.peg_lint.proofs.ReachLemmas.{all_taken, none-marked, reached-next, read-next}
use Rattle.peg_lint.proofs.reach.reached_from.Goals as goal

-- reading the expression of a rule that was pending
reached-popped : (rules : List Rule) (start number : ℕ) (e : Form) (marks later : List Bool)
    → AreReached rules start marks → IsMarked marks number
    → option_map (λ (r : Rule). r.body) (slice_get rules number) ≡ Some e → MarksOnly rules (names_used e) marks later
    → AreReached rules start later
reached-popped rules start number e marks later so_far marked is only = by (slice_get rules number) refl is
  where
    by : (found : Option Rule) → slice_get rules number ≡ found → option_map (λ (r : Rule). r.body) found ≡ Some e
        → AreReached rules start later
    by None at body = absurd cc
    by (Some rule) at body =
        let same : rule.body ≡ e = cc in
        reached-next rules start number rule marks later so_far marked at
        (subst (λ (f : Form). MarksOnly rules (names_used f) marks later) (sym same) only)

pub rules-init : goal.rules-init
rules-init c =
    let rules = rules_in c.args.grammar.now in
    let marks = c.in_ok-vec.field-0.items in
    let none = c.new.ensures.items in
    let more = c.in_ok-add_name.ensures.more in
    let named = c.rule_name.ensures in
    let first : (number : ℕ) → IsMarked marks number → ⊥ =
    λ number is. none-marked c.rules-2.result number
    (subst (λ (l : List Bool). IsMarked l number) (c.in_ok-vec.ensures.items_if_clones_equal (λ y same. same)) is) in
    record {
      count = omega (
        arith,
        more.count,
        c.in_ok-vec.ensures.len,
        c.rules-2.ensures.count,
        c.in_ok-vec.field-0.ok.0,
      );
      start = λ number at. c.in_ok-add_name.ensures.marked number (subst (λ n. RefersTo rules n number) (sym named) at);
      within = more.within (λ k d less. absurd (omega (arith, less, ap length none)));
      waiting = more.waiting (λ number in_it. absurd (omega (arith, in_it.1, ap length none)));
      reached = λ number is. elim (c.in_ok-add_name.ensures.only number is) [
        | inl before ↦ absurd (first number before)
        | inr refers ↦ itself (subst (λ n. RefersTo rules n number) named refers)
      ];
      read = λ number rule at is. elim (more.added number is) [
        | inl before ↦ absurd (first number before)
        | inr in_it ↦ inl in_it
      ];
    }

pub rules-preserved : goal.rules-preserved
rules-preserved c =
    let rules = rules_in c.args.grammar.now in
    let old = c.rules.reach in
    let mid : Reach = record { marks = old.marks; pending = c.pop.new.self } in
    let new = c.add_names.new.self in
    let rule = c.in-Some.rule in
    let more = c.in_ok-add_names.ensures.more in
    let last : old.pending.items ≡ mid.pending.items ++ rule ∷ [] = c.in-Some.ensures.items in
    record {
      count = more.count ∙ c.rules.invariant.count;
      start = λ number at. more.marked number (c.rules.invariant.start number at);
      within = more.within (all_taken (λ k. k < length old.marks.items) old.pending.items mid.pending.items rule last
          c.rules.invariant.within);
      waiting = more.waiting (λ number in_it. c.rules.invariant.waiting number
          (subst (λ (l : List ℕ). Contains l number) (sym last)
          (Contains-append_left mid.pending.items (rule ∷ []) number in_it)));
      reached = reached-popped rules c.args.start rule (form_of c.body.result.now) old.marks.items new.marks.items
          c.rules.invariant.reached
          (c.rules.invariant.waiting rule
          (subst (λ (l : List ℕ). Contains l rule) (sym last) (Contains-push mid.pending.items rule)))
          c.body.ensures c.in_ok-add_names.ensures.only;
      read = read-next rules old mid new rule more refl last
          (λ r at. subst (λ (e : Form). AreNamesMarked rules new.marks.items (names_used e))
          (sym (body-is rules rule r (form_of c.body.result.now) c.body.ensures at)) c.in_ok-add_names.ensures.marked)
          c.rules.invariant.read;
    }
