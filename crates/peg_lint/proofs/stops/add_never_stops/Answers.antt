use Rattle.std.proofs.Common.{◌≡◌, ℕ, ◌+◌, ◌-◌, ◌<◌, List, map, length, get_or, Some, sym, ap, ◌∙◌, subst, arith}
use Rattle.peg_bytes.specs.Extent.{Extent, extent}
use Rattle.peg_grammar.specs.GrammarRules.{rules_in}
use Rattle.peg_grammar.specs.Written.{form_of}
use Rattle.peg_semantics.specs.Form.{Form, Forms, Seq, forms}
use Rattle.peg_semantics.specs.Rules.{Rule}
use Rattle.peg_lint.proofs.AfterLemmas.{never-follows}
use Rattle.peg_lint.proofs.FileLemmas.{KeepsTrue-both, KeepsTrue-push}
use Rattle.peg_lint.proofs.StopLemmas.{follows as neighbours}
use Rattle.peg_lint.specs.Known.{SaysAfter, follows, stops, takes_none}
use Rattle.peg_lint.specs.Linting.{KeepsTrue}
use Rattle.peg_lint.specs.Warnings.{FollowsIn, IsPartOfRule, Says, extent_of}
use Rattle.peg_lint.specs.declared.warning.Warning.{Warning}
use Rattle.peg_lint.specs.declared.warning.WarningKind.{WarningKind}
use Rattle.peg_lint.proofs.stops.add_never_stops.Goals as goal

-- a warning about an item and the item before it is true
says-after : (what : WarningKind) (rules : List Rule) (start number : ℕ) (items : Forms) (whole : Extent) (earlier next : Form)
    (span by : Extent) → IsPartOfRule rules number (Seq items whole) → FollowsIn items earlier next
    → extent_of next ≡ span → extent_of earlier ≡ by → SaysAfter rules earlier next what
    → Says what rules start number span (Some by)
says-after what rules start number items whole earlier next span by part follow at_span at_by (stops p is fails) =
    record {
      items = items;
      whole = whole;
      repeat = earlier;
      part = p;
      next = next;
      in_rule = part;
      follows = follow;
      repeats = is;
      span_is = at_span;
      by_is = ap Some at_by;
      fails = fails;
      never = never-follows rules items whole earlier next follow fails;
    }
says-after what rules start number items whole earlier next span by part follow at_span at_by (follows other fails) =
    record {
      items = items;
      whole = whole;
      earlier = earlier;
      next = next;
      in_rule = part;
      follows = follow;
      no_repeat = other;
      span_is = at_span;
      by_is = ap Some at_by;
      fails = fails;
      never = never-follows rules items whole earlier next follow fails;
    }
says-after what rules start number items whole earlier next span by part follow at_span at_by (takes_none none) =
    record {
      items = items;
      whole = whole;
      earlier = earlier;
      next = next;
      in_rule = part;
      follows = follow;
      span_is = at_span;
      by_is = ap Some at_by;
      takes_none = none;
    }

pub items-preserved : goal.items-preserved
items-preserved c = λ n span known part.
    let rules = rules_in c.args.grammar.now in
    let items = c.args.items.now in
    let i = c.items.index - 1 in
    let before = c.index-items-index.result in
    let next = c.index-items-index-in-items.result in
    let found = c.items.found.items in
    let number : c.items.index ≡ i + 1 = omega (arith, c.items.auto.index) in
    let within : i + 1 < length items = omega (arith, number, c.items-test.true) in
    let there : next ≡ get_or items (i + 1) next =
    c.index-items-index-in-items.is ∙ ap (λ n. get_or items n next) number in
    let follow = neighbours items i before next within c.index-items-index.is there in
    let w : Warning = record {
      kind = c.in-Some.kind;
      rule = c.args.rule;
      span = c.span_of.result;
      by = Some c.span_of-in-items.result;
    } in
    KeepsTrue-both rules c.args.found.now.items found c.push.new.self.items (c.items.invariant n span known part)
    (subst (KeepsTrue rules found) (sym c.in_ok-push.ensures.items)
    (KeepsTrue-push rules found w
    (λ start. says-after c.in-Some.kind rules start c.args.rule (forms (map form_of items)) span (form_of before)
    (form_of next) (extent c.span_of.result) (extent c.span_of-in-items.result) part follow (sym c.span_of.ensures)
    (sym c.span_of-in-items.ensures) (c.in-Some.ensures n known))))
