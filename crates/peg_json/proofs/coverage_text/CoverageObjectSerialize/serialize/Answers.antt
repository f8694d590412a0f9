use Rattle.std.proofs.Common.{ℕ, Some, map, refl, subst}
use Rattle.std.proofs.lemmas.Result.{on_ok_weaker}
use Rattle.serde.specs.Event.{Logs}
use Rattle.serde.specs.Event as event
use Rattle.peg_coverage.specs.Unused.{alternative_use, rule_use}
use Rattle.peg_grammar.specs.GrammarRules.{rules_in}
use Rattle.peg_json.specs.CoverageText.{coverage_members, named_use}
use Rattle.peg_json.proofs.coverage_text.CoverageObjectSerialize.serialize.Goals as goal

pub returns : goal.returns
returns g c =
    let value = c.args.self.now in
    let matched = c.in_ok-serialize_member.ensures in
    let texts = c.in_ok-serialize_member-2.ensures in
    let rest = coverage_members value.file.now value.texts (map (named_use (rules_in value.grammar.now))
    (map rule_use value.rules.now)) (map alternative_use value.alternatives.now) in
    let last = g.S.Serializer.written c.end_map.new.self in
    on_ok_weaker c.end_map.result (λ ends. (
      g.S.Serializer.written c.begin_map.new.self,
      subst (λ (n : ℕ). Logs (g.S.Serializer.written c.args.out.now) (g.S.Serializer.written c.begin_map.new.self)
          (event.map_begins (Some n))) (c.member_count.ensures rest refl) c.in_ok-begin_map.ensures,
      (
        matched.0,
        g.S.Serializer.written c.serialize_member.new.out,
        matched.1,
        matched.2,
        c.in_ok-serialize_stopped.ensures rest last (
          texts.0,
          g.S.Serializer.written c.serialize_member-2.new.out,
          texts.1,
          texts.2,
          (
            g.S.Serializer.written c.key.new.self,
            g.S.Serializer.written c.serialize_alternatives.new.out,
            c.in_ok-key.ensures,
            c.in_ok-serialize_alternatives.ensures,
            (
              g.S.Serializer.written c.key-2.new.self,
              g.S.Serializer.written c.serialize_rules.new.out,
              c.in_ok-key-2.ensures,
              c.in_ok-serialize_rules.ensures,
              ends,
            ),
          ),
        ),
      ),
    )) c.end_map.ensures
