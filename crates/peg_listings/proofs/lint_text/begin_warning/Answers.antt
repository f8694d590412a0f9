use Rattle.std.proofs.lemmas.Result.{on_ok_weaker}
use Rattle.peg_listings.proofs.LintLemmas.{bare-begun, caused-begun}
use Rattle.peg_listings.proofs.lint_text.begin_warning.Goals as goal

pub returns-in-None : goal.returns-in-None
returns-in-None g c =
    on_ok_weaker c.begin_map.result (λ begins rest last count sent. bare-begun c.args.by rest
    (g.S.Serializer.written c.args.out.now) (g.S.Serializer.written c.begin_map.new.self) last c.in-None.is begins count
    sent) c.begin_map.ensures

pub returns-in_ok-key-in-Some : goal.returns-in_ok-key-in-Some
returns-in_ok-key-in-Some g c =
    on_ok_weaker c.serialize_span.result (λ place rest last count sent. caused-begun c.args.by c.in-Some.span rest
    (g.S.Serializer.written c.args.out.now) (g.S.Serializer.written c.begin_map-in-Some.new.self)
    (g.S.Serializer.written c.key.new.self) (g.S.Serializer.written c.serialize_span.new.out) last c.in-Some.is
    c.in_ok-begin_map-in-Some.ensures count c.in_ok-key-in-Some.ensures place sent) c.serialize_span.ensures
