use Rattle.std.proofs.Common.{ℕ, List, [], ◌∷◌, ◌++◌}
use Rattle.std.specs.Fmt.{decimal}
use Rattle.peg_tree.proofs.Puts.{puts-both}
use Rattle.peg_tree.proofs.row_text.write_row.Goals as goal

pub returns-clause-puts : goal.returns-clause-puts
returns-clause-puts c =
    let new = c.write_byte.new.buffer in
    let end = c.write_byte.result in
    let name = c.args.name.now in
    let to : List ℕ = decimal c.args.node.span.end ++ 93 ∷ [] in
    let from : List ℕ = decimal c.args.node.span.start ++ 44 ∷ to in
    let named : List ℕ = name ++ 44 ∷ from in
    let all : List ℕ = decimal c.args.level ++ 44 ∷ named in
    puts-both c.args.buffer.now c.write_byte-at.new.buffer new c.args.at c.write_byte-at.result end (91 ∷ []) all c.write_byte-at.ensures
    (puts-both c.write_byte-at.new.buffer c.write_number-at.new.buffer new c.write_byte-at.result c.write_number-at.result end
    (decimal c.args.level) (44 ∷ named) c.write_number-at.ensures.puts
    (puts-both c.write_number-at.new.buffer c.write_byte-at-2.new.buffer new c.write_number-at.result c.write_byte-at-2.result end
    (44 ∷ []) named c.write_byte-at-2.ensures
    (puts-both c.write_byte-at-2.new.buffer c.write_bytes-at.new.buffer new c.write_byte-at-2.result c.write_bytes-at.result end
    name (44 ∷ from) c.write_bytes-at.ensures
    (puts-both c.write_bytes-at.new.buffer c.write_byte-at-3.new.buffer new c.write_bytes-at.result c.write_byte-at-3.result end
    (44 ∷ []) from c.write_byte-at-3.ensures
    (puts-both c.write_byte-at-3.new.buffer c.write_number-at-2.new.buffer new c.write_byte-at-3.result c.write_number-at-2.result end
    (decimal c.args.node.span.start) (44 ∷ to) c.write_number-at-2.ensures.puts
    (puts-both c.write_number-at-2.new.buffer c.write_byte-at-4.new.buffer new c.write_number-at-2.result c.write_byte-at-4.result end
    (44 ∷ []) to c.write_byte-at-4.ensures
    (puts-both c.write_byte-at-4.new.buffer c.write_number-at-3.new.buffer new c.write_byte-at-4.result c.write_number-at-3.result end
    (decimal c.args.node.span.end) (93 ∷ []) c.write_number-at-3.ensures.puts c.write_byte.ensures)))))))
