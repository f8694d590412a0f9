use Rattle.std.proofs.Common.{ℕ, List, OnOk, codes, subst, sym, ◌∙◌}
use Rattle.serde.specs.Event.{Logs}
use Rattle.serde.specs.Event as event
use Rattle.serde_json.specs.Data.{no_members, member, object, string}
use Rattle.serde_json.specs.Events.{SendsValue}
use Rattle.peg_tree.proofs.TextLemmas.{bytes_data-other, bytes_data-text}
use Rattle.peg_tree.proofs.node_text.serialize_bytes.Goals as goal

pub returns-in-Ok : goal.returns-in-Ok
returns-in-Ok g c =
    let old = g.S.Serializer.written c.args.out.now in
    let new = g.S.Serializer.written c.str.new.self in
    subst (λ value. OnOk c.str.result (SendsValue value old new))
    (sym (bytes_data-text c.args.bytes.now c.in-Ok.ensures.cases.1))
    (subst (λ bytes. OnOk c.str.result (Logs old new (event.text bytes))) c.in-Ok.ensures.cases.0 c.str.ensures)

pub returns-in-Ok-encode : goal.returns-in-Ok-encode
returns-in-Ok-encode g c =
    let old = g.S.Serializer.written c.args.out.now in
    let new = g.S.Serializer.written c.serialize_digits.new.out in
    let object_of = λ (digits : List ℕ). object (member (codes "bytes") (string digits) no_members) in
    subst (λ value. OnOk c.serialize_digits.result (SendsValue value old new))
    (sym (bytes_data-other c.args.bytes.now c.in-Err.ensures.cases.0))
    (subst (λ digits. OnOk c.serialize_digits.result (SendsValue (object_of digits) old new))
    (c.as_str.ensures.value ∙ c.in-Ok-encode.ensures) c.serialize_digits.ensures)
