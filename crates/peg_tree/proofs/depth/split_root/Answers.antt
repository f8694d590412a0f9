use Rattle.std.proofs.Common.{arith}
use Rattle.peg_tree.proofs.PartRows.{middle_within, middle_fits, size_some, children_are_part, rest_is_part, level_apart, level_apart_other}
use Rattle.peg_tree.proofs.depth.split_root.Goals as goal

pub overflow_add-middle : goal.overflow_add-middle
overflow_add-middle c =
    omega (arith, middle_fits c.args.rows.now c.args.part c.requires.part c.requires.some c.index-rows-part.result c.index-rows-part.is)

pub overflow_sub-part : goal.overflow_sub-part
overflow_sub-part c = middle_within c.args.rows.now c.args.part c.requires.part c.requires.some c.index-rows-part.result c.index-rows-part.is

pub returns-then-middle-part : goal.returns-then-middle-part
returns-then-middle-part c =
    let within = middle_within c.args.rows.now c.args.part c.requires.part c.requires.some c.index-rows-part.result c.index-rows-part.is in
    let some = size_some c.args.rows.now c.args.part c.requires.part c.requires.some c.index-rows-part.result c.index-rows-part.is in
    record {
      large = rest_is_part c.args.rows.now c.args.part c.requires.part c.requires.some c.index-rows-part.result c.index-rows-part.is;
      small = children_are_part c.args.rows.now c.args.part c.requires.part c.requires.some c.index-rows-part.result c.index-rows-part.is;
      sizes = omega arith;
      few = omega arith;
      level = level_apart_other c.args.rows.now c.args.part c.requires.part c.requires.some c.index-rows-part.result c.index-rows-part.is;
    }

pub returns-else-middle-part : goal.returns-else-middle-part
returns-else-middle-part c =
    let within = middle_within c.args.rows.now c.args.part c.requires.part c.requires.some c.index-rows-part.result c.index-rows-part.is in
    let some = size_some c.args.rows.now c.args.part c.requires.part c.requires.some c.index-rows-part.result c.index-rows-part.is in
    record {
      large = children_are_part c.args.rows.now c.args.part c.requires.part c.requires.some c.index-rows-part.result c.index-rows-part.is;
      small = rest_is_part c.args.rows.now c.args.part c.requires.part c.requires.some c.index-rows-part.result c.index-rows-part.is;
      sizes = omega arith;
      few = omega arith;
      level = level_apart c.args.rows.now c.args.part c.requires.part c.requires.some c.index-rows-part.result c.index-rows-part.is;
    }
