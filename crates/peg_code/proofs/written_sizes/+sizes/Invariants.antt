use Rattle.std.proofs.Common.{◌≡◌, ◌+◌, ◌≤◌, drop, map}
use Rattle.peg_semantics.specs.Form.{forms}
use Rattle.peg_grammar.specs.Written.{form_of}
use Rattle.peg_code.specs.Compiled.{max_instructions}
use Rattle.peg_code.specs.Sizes.{capped}
use Rattle.peg_code.specs.WrittenSizes.{written_sizes}
use Rattle.peg_code.proofs.written_sizes.+sizes.Given as goal

-- the size of the items so far and that of the remaining ones make the size of all
abbrev pub invariant-items_size-loop-item : goal.invariant-items_size-loop-item
invariant-items_size-loop-item l = record {
  all : capped (l.total + written_sizes l.each (forms (map form_of (drop l.item-index l.items))))
      ≡ capped (written_sizes l.each (forms (map form_of l.items)));
  most : l.total ≤ max_instructions + 1;
}
