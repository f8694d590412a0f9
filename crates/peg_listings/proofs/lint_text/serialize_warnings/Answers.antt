use Rattle.std.proofs.Common.{◌≡◌, ◌∙◌, ap, arith, get_or, length, map, subst, sym}
use Rattle.std.proofs.lemmas.List.{get_or-map, length-map}
use Rattle.std.proofs.lemmas.Result.{on_ok_weaker}
use Rattle.serde_json.specs.Events.{SendsValue}
use Rattle.peg_grammar.specs.GrammarRules.{rules_in}
use Rattle.peg_semantics.specs.Rules.{names}
use Rattle.peg_tree.proofs.Sent.{array-sent, item-sent}
use Rattle.peg_listings.specs.LintText.{warning_data}
use Rattle.peg_listings.proofs.LintLemmas.{placed-is}
use Rattle.peg_listings.proofs.lint_text.serialize_warnings.Goals as goal

pub loop-warning-init : goal.loop-warning-init
loop-warning-init g c = record {
  placed = c.first_position-position.ensures.position c.args.file.now;
  sent = λ last rest. rest;
}

pub loop-warning-preserved : goal.loop-warning-preserved
loop-warning-preserved g c =
    let file = c.args.file.now in
    let rules = rules_in c.args.grammar.now in
    let warnings = c.args.warnings.now in
    let print = warning_data file (names rules) in
    let at = c.loop-warning.warning-index in
    let item = c.warning-item.result in
    let position = c.position_from-position.result in
    let old = g.S.Serializer.written c.loop-warning.out in
    let mid = g.S.Serializer.written c.serialize_warning.new.out in
    let here : get_or (map print warnings) at (print item) ≡ print item =
    get_or-map print warnings at item (print item) c.loop-warning-test.true ∙ ap print (sym c.warning-item.is) in
    let same = placed-is file rules item position c.name_of_rule.result.now c.position_from-position.ensures.position
    c.position_from-position.ensures.at c.name_of_rule.ensures in
    record {
      placed = c.position_from-position.ensures.position;
      sent = λ last rest. c.loop-warning.invariant.sent last (item-sent (map print warnings) at (print item) (print item)
          (omega (arith, length-map warnings print, c.loop-warning-test.true)) here old mid last
          (subst (λ value. SendsValue value old mid) same c.in_ok-serialize_warning.ensures) rest);
    }

pub returns : goal.returns
returns g c =
    let warnings = c.args.warnings.now in
    let print = warning_data c.args.file.now (names (rules_in c.args.grammar.now)) in
    let count = length-map warnings print in
    on_ok_weaker c.end_seq.result (λ e. array-sent (map print warnings) c.loop-warning.warning-index (length warnings)
    (omega (arith, count, c.loop-warning-test.false)) (omega (arith, count))
    (g.S.Serializer.written c.args.out.now) (g.S.Serializer.written c.begin_seq.new.self)
    (g.S.Serializer.written c.loop-warning.out) (g.S.Serializer.written c.end_seq.new.self)
    c.in_ok-begin_seq.ensures c.loop-warning.invariant.sent e) c.end_seq.ensures
