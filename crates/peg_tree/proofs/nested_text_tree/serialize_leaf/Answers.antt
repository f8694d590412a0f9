use Rattle.std.proofs.Common.{ℕ, List, OnOk, codes, subst, sym, ◌∙◌}
use Rattle.serde_json.specs.Data.{no_members, member, object, string}
use Rattle.serde_json.specs.Events.{SendsValue}
use Rattle.peg_tree.specs.Names.{name_at}
use Rattle.peg_tree.specs.TextJson.{leaf_data, leaf_members}
use Rattle.peg_tree.proofs.TextLemmas.{leaf_data-other, leaf_data-text}
use Rattle.peg_tree.proofs.nested_text_tree.serialize_leaf.Goals as goal

pub returns-in-Ok : goal.returns-in-Ok
returns-in-Ok g c =
    let name = name_at (g.N.Names.names c.args.names.now) c.args.node.rule in
    let start = c.args.node.span.start in
    let end = c.args.node.span.end in
    let old = g.S.Serializer.written c.args.out.now in
    let new = g.S.Serializer.written c.serialize_text_leaf.new.out in
    let object_of = λ (text : List ℕ). object (leaf_members name start end (member (codes "text") (string text) no_members)) in
    subst (λ bytes. OnOk c.serialize_text_leaf.result (SendsValue (leaf_data name start end bytes) old new))
    c.bytes_between-bytes.ensures
    (subst (λ value. OnOk c.serialize_text_leaf.result (SendsValue value old new))
    (sym (leaf_data-text name start end c.bytes_between-bytes.result.now c.in-Ok.ensures.cases.1))
    (subst (λ text. OnOk c.serialize_text_leaf.result (SendsValue (object_of text) old new))
    c.in-Ok.ensures.cases.0 c.serialize_text_leaf.ensures))

pub returns-in-Ok-encode : goal.returns-in-Ok-encode
returns-in-Ok-encode g c =
    let name = name_at (g.N.Names.names c.args.names.now) c.args.node.rule in
    let start = c.args.node.span.start in
    let end = c.args.node.span.end in
    let old = g.S.Serializer.written c.args.out.now in
    let new = g.S.Serializer.written c.serialize_bytes_leaf.new.out in
    let object_of = λ (digits : List ℕ). object (member (codes "bytes") (string digits) (leaf_members name start end no_members)) in
    subst (λ bytes. OnOk c.serialize_bytes_leaf.result (SendsValue (leaf_data name start end bytes) old new))
    c.bytes_between-bytes.ensures
    (subst (λ value. OnOk c.serialize_bytes_leaf.result (SendsValue value old new))
    (sym (leaf_data-other name start end c.bytes_between-bytes.result.now c.in-Err.ensures.cases.0))
    (subst (λ digits. OnOk c.serialize_bytes_leaf.result (SendsValue (object_of digits) old new))
    (c.as_str.ensures.value ∙ c.in-Ok-encode.ensures) c.serialize_bytes_leaf.ensures))
