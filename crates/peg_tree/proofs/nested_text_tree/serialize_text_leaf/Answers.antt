use Rattle.std.proofs.Common.{codes}
use Rattle.std.proofs.lemmas.Result.{on_ok_weaker}
use Rattle.serde_json.specs.Data.{member, no_members, string}
use Rattle.peg_tree.proofs.nested_text_tree.serialize_text_leaf.Goals as goal

pub returns : goal.returns
returns g c =
    let begun = g.S.Serializer.written c.begin_map.new.self in
    let named = g.S.Serializer.written c.serialize_member.new.out in
    let last = g.S.Serializer.written c.end_map.new.self in
    let key = c.in_ok-serialize_member.ensures in
    on_ok_weaker c.end_map.result (λ ends. (
      begun,
      c.in_ok-begin_map.ensures,
      c.in_ok-serialize_leaf_members.ensures (member (codes "text") (string c.args.text.now) no_members) last
          (key.0, named, key.1, key.2, ends),
    )) c.end_map.ensures
