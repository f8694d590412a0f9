use Rattle.std.proofs.Common.{◌≡◌, ◌*◌, ◌++◌, length, map, ap, ◌∙◌, arith, append_assoc}
use Rattle.std.proofs.lemmas.List.{length-map}
use Rattle.peg_bytes.specs.Extent.{extent}
use Rattle.peg_diagnostics.specs.Marked.{alternatives_of_rules, doubled, mark_rules, marker_extents, marker_rules}
use Rattle.peg_grammar.specs.GrammarRules.{rules_in}
use Rattle.peg_grammar.specs.Written.{rules_of}
use Rattle.peg_semantics.specs.Rules.{Rule}
use Rattle.peg_diagnostics.proofs.MarkBounds.{length-extents_of_rules, length-marker_extents, markers-weight}
use Rattle.peg_diagnostics.proofs.marked.add_definitions.Goals as goal

pub overflow_cast-len : goal.overflow_cast-len
overflow_cast-len c =
    let rules = rules_in c.args.grammar.now in
    let count = length-map c.in_ok-alternatives.alternatives.items extent in
    let same = ap length c.in_ok-alternatives.ensures in
    omega (
      arith,
      c.len.ensures,
      ap length c.deref.ensures.value,
      count,
      same,
      length-extents_of_rules rules,
      markers-weight rules,
      c.args.grammar.now.light,
    )

pub overflow_mul-len : goal.overflow_mul-len
overflow_mul-len c =
    let rules = rules_in c.args.grammar.now in
    let count = length-map c.in_ok-alternatives.alternatives.items extent in
    let same = ap length c.in_ok-alternatives.ensures in
    omega (
      arith,
      c.len.ensures,
      count,
      same,
      length-extents_of_rules rules,
      markers-weight rules,
      c.args.grammar.now.light,
    )

pub add_marked_rules-requires : goal.add_marked_rules-requires
add_marked_rules-requires c =
    let rules = rules_in c.args.grammar.now in
    let count = length-map c.in_ok-alternatives.alternatives.items extent in
    let same = ap length c.in_ok-alternatives.ensures in
    omega (
      arith,
      c.len.ensures,
      count,
      same,
      length-extents_of_rules rules,
      markers-weight rules,
      c.args.grammar.now.light,
    )

pub add_markers-requires : goal.add_markers-requires
add_markers-requires c =
    let rules = rules_in c.args.grammar.now in
    let spans = map (λ (rule : Rule). rule.span) rules in
    let are : map extent c.in_ok-spans.spans.items ≡ marker_extents rules =
    c.in_ok-spans.ensures
    ∙ ap (λ l. doubled l ++ spans) (ap (map extent) c.deref.ensures.value ∙ c.in_ok-alternatives.ensures) in
    omega (
      arith,
      length-map c.in_ok-spans.spans.items extent,
      ap length are,
      ap length c.deref-2.ensures.value,
      length-marker_extents rules,
      markers-weight rules,
      c.args.grammar.now.light,
    )

pub returns : goal.returns
returns c =
    let rules = rules_in c.args.grammar.now in
    let old = rules_of c.args.definitions.now.items in
    let spans = map (λ (rule : Rule). rule.span) rules in
    let are : map extent c.deref-2.result.now ≡ marker_extents rules =
    ap (map extent) c.deref-2.ensures.value
    ∙ c.in_ok-spans.ensures
    ∙ ap (λ l. doubled l ++ spans) (ap (map extent) c.deref.ensures.value ∙ c.in_ok-alternatives.ensures) in
    let count : c.len.result ≡ alternatives_of_rules rules =
    omega (
      arith,
      c.len.ensures,
      length-map c.in_ok-alternatives.alternatives.items extent,
      ap length c.in_ok-alternatives.ensures,
      length-extents_of_rules rules,
    ) in
    c.in_ok-add_markers.ensures
    ∙ ap (λ l. l ++ marker_rules 0 (map extent c.deref-2.result.now)) c.in_ok-add_marked_rules.ensures
    ∙ append_assoc old (mark_rules 0 (2 * c.len.result) rules) (marker_rules 0 (map extent c.deref-2.result.now))
    ∙ (λ i. old ++ (mark_rules 0 (2 * count i) rules ++ marker_rules 0 (are i)))
