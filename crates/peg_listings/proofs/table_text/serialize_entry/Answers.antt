use Rattle.std.proofs.lemmas.Result.{on_ok_weaker}
use Rattle.peg_listings.proofs.table_text.serialize_entry.Goals as goal

pub returns : goal.returns
returns g c =
    let fails = c.in_ok-serialize_member.ensures in
    let nothing = c.in_ok-serialize_member-2.ensures in
    let rule = c.in_ok-serialize_member-3.ensures in
    let something = c.in_ok-serialize_member-4.ensures in
    on_ok_weaker c.end_map.result (λ e. (
      g.S.Serializer.written c.begin_map.new.self,
      c.in_ok-begin_map.ensures,
      (
        fails.0,
        g.S.Serializer.written c.serialize_member.new.out,
        fails.1,
        fails.2,
        (
          nothing.0,
          g.S.Serializer.written c.serialize_member-2.new.out,
          nothing.1,
          nothing.2,
          (
            rule.0,
            g.S.Serializer.written c.serialize_member-3.new.out,
            rule.1,
            rule.2,
            (something.0, g.S.Serializer.written c.serialize_member-4.new.out, something.1, something.2, e),
          ),
        ),
      ),
    )) c.end_map.ensures
