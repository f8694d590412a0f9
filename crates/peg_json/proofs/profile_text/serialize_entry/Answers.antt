use Rattle.std.proofs.Common.{ℕ, subst}
use Rattle.std.proofs.lemmas.Result.{on_ok_weaker}
use Rattle.serde_json.specs.Data.{number, unsigned}
use Rattle.serde_json.specs.Events.{SendsValue}
use Rattle.peg_json.proofs.profile_text.serialize_entry.Goals as goal

pub returns : goal.returns
returns g c =
    let again = c.in_ok-serialize_member.ensures in
    let calls = c.in_ok-serialize_member-2.ensures in
    let places = c.in_ok-serialize_member-3.ensures in
    let rule = c.in_ok-serialize_member-4.ensures in
    on_ok_weaker c.end_map.result (λ e. (
      g.S.Serializer.written c.begin_map.new.self,
      c.in_ok-begin_map.ensures,
      (
        again.0,
        g.S.Serializer.written c.serialize_member.new.out,
        again.1,
        subst (λ (n : ℕ). SendsValue (number (unsigned n)) again.0 (g.S.Serializer.written c.serialize_member.new.out)) c.saturating_sub-again.ensures
            again.2,
        (
          calls.0,
          g.S.Serializer.written c.serialize_member-2.new.out,
          calls.1,
          calls.2,
          (
            places.0,
            g.S.Serializer.written c.serialize_member-3.new.out,
            places.1,
            places.2,
            (rule.0, g.S.Serializer.written c.serialize_member-4.new.out, rule.1, rule.2, e),
          ),
        ),
      ),
    )) c.end_map.ensures
