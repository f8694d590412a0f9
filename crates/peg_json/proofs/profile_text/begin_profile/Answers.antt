use Rattle.std.proofs.lemmas.Result.{on_ok_weaker}
use Rattle.peg_json.proofs.ProfileLemmas.{failed-begun, matched-begun}
use Rattle.peg_json.proofs.profile_text.begin_profile.Goals as goal

pub returns-in-Failed : goal.returns-in-Failed
returns-in-Failed g c =
    on_ok_weaker c.begin_map.result (λ begins rest last count sent. failed-begun c.args.end rest
    (g.S.Serializer.written c.args.out.now) (g.S.Serializer.written c.begin_map.new.self) last c.in-Failed.is begins count
    sent) c.begin_map.ensures

pub returns-in_ok-begin_map-in-Matched : goal.returns-in_ok-begin_map-in-Matched
returns-in_ok-begin_map-in-Matched g c =
    on_ok_weaker c.serialize_member.result (λ member rest last count sent. matched-begun c.args.end c.in-Matched.end rest
    (g.S.Serializer.written c.args.out.now) (g.S.Serializer.written c.begin_map-in-Matched.new.self) member.0
    (g.S.Serializer.written c.serialize_member.new.out) last c.in-Matched.is c.in_ok-begin_map-in-Matched.ensures count
    member.1 member.2 sent) c.serialize_member.ensures
