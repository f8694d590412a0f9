use Rattle.std.proofs.Common.{◌≡◌, ◌∙◌, ap, arith, get_or, length, map}
use Rattle.std.proofs.lemmas.List.{get_or-map, length-map}
use Rattle.std.proofs.lemmas.Result.{on_ok_weaker}
use Rattle.serde_json.specs.Data.{string}
use Rattle.peg_tree.specs.Names.{name_at}
use Rattle.peg_tree.proofs.Sent.{array-sent, item-sent}
use Rattle.peg_json.proofs.refusal_text.serialize_names.Goals as goal

pub loop-rule-preserved : goal.loop-rule-preserved
loop-rule-preserved g c last rest =
    let list = map (λ name. name.now) c.args.names.now in
    let path = c.args.path.now in
    let reported = map string (map (name_at list) path) in
    let at = c.loop-rule.rule-index in
    let name = name_at list (get_or path at 0) in
    let count = length-map (map (name_at list) path) string ∙ length-map path (name_at list) in
    let here : get_or reported at (string name) ≡ string name =
    get_or-map string (map (name_at list) path) at name (string name) (omega (arith, length-map path (name_at list), c.loop-rule-test.true))
    ∙ ap string (get_or-map (name_at list) path at 0 name c.loop-rule-test.true) in
    c.loop-rule.invariant last (item-sent reported at (string name) (string name) (omega (arith, count, c.loop-rule-test.true)) here
    (g.S.Serializer.written c.loop-rule.out) (g.S.Serializer.written c.serialize_name.new.out) last c.in_ok-serialize_name.ensures rest)

pub returns : goal.returns
returns g c =
    let list = map (λ name. name.now) c.args.names.now in
    let path = c.args.path.now in
    let reported = map string (map (name_at list) path) in
    let count = length-map (map (name_at list) path) string ∙ length-map path (name_at list) in
    on_ok_weaker c.end_seq.result (λ e. array-sent reported c.loop-rule.rule-index
    (length path) (omega (arith, count, c.loop-rule-test.false)) (omega (arith, count))
    (g.S.Serializer.written c.args.out.now) (g.S.Serializer.written c.begin_seq.new.self)
    (g.S.Serializer.written c.loop-rule.out) (g.S.Serializer.written c.end_seq.new.self)
    c.in_ok-begin_seq.ensures c.loop-rule.invariant e) c.end_seq.ensures
