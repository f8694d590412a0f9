use Rattle.std.proofs.lemmas.Result.{on_ok_weaker}
use Rattle.peg_json.specs.CoverageText.{tried_members}
use Rattle.peg_json.proofs.coverage_text.serialize_alternative.Goals as goal

pub returns : goal.returns
returns g c =
    let start = c.in_ok-serialize_member.ensures in
    let tried = c.in_ok-serialize_member-2.ensures in
    let last = g.S.Serializer.written c.end_map.new.self in
    on_ok_weaker c.end_map.result (λ ends. (
      g.S.Serializer.written c.begin_map.new.self,
      c.in_ok-begin_map.ensures,
      c.in_ok-serialize_place.ensures (tried_members c.args.position.at c.args.tried) last (
        start.0,
        g.S.Serializer.written c.serialize_member.new.out,
        start.1,
        start.2,
        (tried.0, g.S.Serializer.written c.serialize_member-2.new.out, tried.1, tried.2, ends),
      ),
    )) c.end_map.ensures
