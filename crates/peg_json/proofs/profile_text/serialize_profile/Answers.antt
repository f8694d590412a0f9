use Rattle.std.proofs.Common.{refl}
use Rattle.std.proofs.lemmas.Result.{on_ok_weaker}
use Rattle.peg_semantics.specs.Rules.{names}
use Rattle.peg_grammar.specs.GrammarRules.{rules_in}
use Rattle.peg_json.specs.ProfileText.{profile_members}
use Rattle.peg_json.proofs.profile_text.serialize_profile.Goals as goal

pub returns : goal.returns
returns g c =
    let last = g.S.Serializer.written c.end_map.new.self in
    on_ok_weaker c.end_map.result (λ ends. c.in_ok-begin_profile.ensures
    (profile_members c.args.end c.args.steps (names (rules_in c.args.grammar.now)) c.args.profiles.now) last refl
    (c.in_ok-serialize_result.ensures last ends)) c.end_map.ensures
