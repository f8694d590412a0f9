use Rattle.std.proofs.Common.{Bool, subst}
use Rattle.std.proofs.lemmas.Result.{on_ok_weaker}
use Rattle.serde_json.specs.Data.{boolean}
use Rattle.serde_json.specs.Events.{SendsValue}
use Rattle.peg_listings.proofs.lint_text.serialize_rule.Goals as goal

pub returns : goal.returns
returns g c =
    let proved = c.in_ok-serialize_member.ensures in
    let rule = c.in_ok-serialize_member-2.ensures in
    on_ok_weaker c.serialize_member-3.result (λ start rest last sent. (
      proved.0,
      g.S.Serializer.written c.serialize_member.new.out,
      proved.1,
      subst (λ (b : Bool). SendsValue (boolean b) proved.0 (g.S.Serializer.written c.serialize_member.new.out)) c.is_proved.ensures
          proved.2,
      (
        rule.0,
        g.S.Serializer.written c.serialize_member-2.new.out,
        rule.1,
        rule.2,
        (start.0, g.S.Serializer.written c.serialize_member-3.new.out, start.1, start.2, sent),
      ),
    )) c.serialize_member-3.ensures
