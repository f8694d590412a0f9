use Rattle.std.proofs.Common.{◌+◌, ◌-◌, refl}
use Rattle.std.proofs.lemmas.Result.{on_ok_weaker}
use Rattle.serde_json.specs.Data.{no_members}
use Rattle.peg_listings.specs.LintText.{placed_members, rule_members}
use Rattle.peg_listings.proofs.lint_text.serialize_warning.Goals as goal

pub returns : goal.returns
returns g c =
    let position = c.args.position in
    let last = g.S.Serializer.written c.end_map.new.self in
    on_ok_weaker c.end_map.result (λ ends. c.in_ok-begin_warning.ensures
    (placed_members position.line (1 + (position.at - position.start)) c.args.rule.now c.args.warning.now) last refl
    (c.in_ok-serialize_place.ensures (rule_members c.args.rule.now c.args.warning.now) last
    (c.in_ok-serialize_rule.ensures no_members last ends))) c.end_map.ensures
