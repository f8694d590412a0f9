use Rattle.std.proofs.Common.{subst}
use Rattle.std.proofs.lemmas.Result.{on_ok_weaker}
use Rattle.serde_json.specs.Data.{number, string, unsigned}
use Rattle.serde_json.specs.Events.{SendsValue}
use Rattle.peg_listings.proofs.lint_text.serialize_place.Goals as goal

pub returns : goal.returns
returns g c =
    let column = c.in_ok-serialize_member.ensures in
    let end = c.in_ok-serialize_member-2.ensures in
    let kind = c.in_ok-serialize_member-3.ensures in
    let first = g.S.Serializer.written c.serialize_member.new.out in
    let second = g.S.Serializer.written c.serialize_member-2.new.out in
    let third = g.S.Serializer.written c.serialize_member-3.new.out in
    on_ok_weaker c.serialize_member-4.result (λ line rest last sent. (
      column.0,
      first,
      column.1,
      subst (λ n. SendsValue (number (unsigned n)) column.0 first) c.column.ensures column.2,
      (
        end.0,
        second,
        end.1,
        end.2,
        (
          kind.0,
          third,
          kind.1,
          subst (λ word. SendsValue (string word) kind.0 third) c.name_of_kind.ensures kind.2,
          (line.0, g.S.Serializer.written c.serialize_member-4.new.out, line.1, line.2, sent),
        ),
      ),
    )) c.serialize_member-4.ensures
