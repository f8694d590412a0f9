use Rattle.std.proofs.Common.{codes}
use Rattle.std.proofs.lemmas.Result.{on_ok_weaker}
use Rattle.serde_json.specs.Data.{member, string}
use Rattle.peg_json.specs.CoverageText.{tried_members}
use Rattle.peg_json.proofs.coverage_text.serialize_rule.Goals as goal

pub returns : goal.returns
returns g c =
    let rule = c.in_ok-serialize_member.ensures in
    let start = c.in_ok-serialize_member-2.ensures in
    let tried = c.in_ok-serialize_member-3.ensures in
    let last = g.S.Serializer.written c.end_map.new.self in
    on_ok_weaker c.end_map.result (λ ends. (
      g.S.Serializer.written c.begin_map.new.self,
      c.in_ok-begin_map.ensures,
      c.in_ok-serialize_place.ensures (member (codes "rule") (string c.args.name.now)
          (tried_members c.args.position.at c.args.tried)) last (
            rule.0,
            g.S.Serializer.written c.serialize_member.new.out,
            rule.1,
            rule.2,
            (
              start.0,
              g.S.Serializer.written c.serialize_member-2.new.out,
              start.1,
              start.2,
              (tried.0, g.S.Serializer.written c.serialize_member-3.new.out, tried.1, tried.2, ends),
            ),
          ),
    )) c.end_map.ensures
