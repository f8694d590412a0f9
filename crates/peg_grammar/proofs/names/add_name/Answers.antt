use Rattle.std.proofs.Common.{◌∙◌, ap, map, string_bytes}
use Rattle.peg_grammar.proofs.NameLists.{map-insert_key}
use Rattle.peg_grammar.proofs.names.add_name.Goals as goal

pub returns : goal.returns
returns c =
    ap (map string_bytes) c.in_ok-insert.ensures.keys
    ∙ map-insert_key c.args.names.now.keys c.in_ok-clone.field-0 _ c.in_ok-clone.ensures.cases c.requires
