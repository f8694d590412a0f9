use Rattle.std.proofs.Common.{◌≡◌, map, take}
use Rattle.serde_json.specs.Data.{string}
use Rattle.serde_json.specs.Written.{compact_text}
use Rattle.peg_tree.proofs.name_json.json_names.Given as goal

-- the names converted so far
abbrev pub invariant-loop-rule : goal.invariant-loop-rule
invariant-loop-rule g l = record {
  so_far : map (λ name. name.items) l.list.items ≡ map (λ name. compact_text (string name)) (take l.rule (g.N.Names.names l.names));
}
