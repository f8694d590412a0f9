use Rattle.std.proofs.Common.{◌≡◌, ◌+◌, ◌*◌, ◌<◌, ◌++◌, ◌∷◌, [], arith, ap, sym, subst, ◌∙◌, List, length, map, max}
use Rattle.std.proofs.lemmas.Bool.Decides.{nat_tests}
use Rattle.std.proofs.lemmas.List.{length_push}
use Rattle.peg_tree.specs.declared.part.Part.{Part}
use Rattle.peg_tree.specs.Parts.{AreParts, length_of_parts, level_of_parts}
use Rattle.peg_tree.specs.Rows.{row_of}
use Rattle.peg_tree.proofs.PartRows.{top_is_part, room_left, kept_are_parts, apart_are_parts, apart_levels, kept_levels, apart_fewer, kept_fewer, whole_are_parts, whole_level}
use Rattle.peg_tree.proofs.depth.depth_in.Goals as goal

pub loop-part-init : goal.loop-part-init
loop-part-init c = record {
  parts = subst (AreParts (map row_of c.args.rows.now) 64) (sym c.new-waiting.ensures) (whole_are_parts c.args.rows.now c.requires (omega arith));
  same = ap (λ parts. max 0 (level_of_parts (map row_of c.args.rows.now) parts)) c.new-waiting.ensures ∙ whole_level c.args.rows.now c.requires;
}

pub split_root-halves-requires-clause-part : goal.split_root-halves-requires-clause-part
split_root-halves-requires-clause-part c =
    top_is_part (map row_of c.args.rows.now) c.loop-part.waiting c.pop.new.self c.in-Some.part c.in-Some.part c.in-Some.part c.in-Some.ensures c.loop-part.invariant.parts

pub push-requires : goal.push-requires
push-requires c =
    omega (arith, room_left (map row_of c.args.rows.now) c.loop-part.waiting c.pop.new.self c.in-Some.part c.in-Some.part c.in-Some.part c.in-Some.ensures c.loop-part.invariant.parts c.if-part.true)

pub push-requires-then-part : goal.push-requires-then-part
push-requires-then-part c =
    let room = room_left (map row_of c.args.rows.now) c.loop-part.waiting c.pop.new.self c.in-Some.part c.in-Some.part c.in-Some.part c.in-Some.ensures c.loop-part.invariant.parts c.if-part.true in
    let more = ap length c.push.ensures in
    omega (arith, length_push c.pop.new.self c.split_root-halves.result.large)

pub loop-part-smaller-then-part : goal.loop-part-smaller-then-part
loop-part-smaller-then-part c =
    let after = c.push-then-part.ensures ∙ ap (λ parts. parts ++ c.split_root-halves.result.small ∷ []) c.push.ensures in
    subst (λ (parts : List Part). 2 * length_of_parts parts + length parts < 2 * length_of_parts c.loop-part.waiting + length c.loop-part.waiting) (sym after)
    (apart_fewer (map row_of c.args.rows.now) c.loop-part.waiting c.pop.new.self c.in-Some.part c.split_root-halves.result.large c.split_root-halves.result.small c.in-Some.ensures c.loop-part.invariant.parts
    c.if-part.true c.split_root-halves.ensures.sizes)

pub loop-part-preserved-then-part : goal.loop-part-preserved-then-part
loop-part-preserved-then-part c =
    let rows = map row_of c.args.rows.now in
    let large = c.split_root-halves.result.large in
    let small = c.split_root-halves.result.small in
    let apart = c.split_root-halves.ensures in
    let deeper : c.max-deepest.result ≡ max c.loop-part.deepest c.in-Some.part.level = grind (arith, nat_tests, c.max-deepest.ensures) in
    let after : c.push-then-part.new.self ≡ (c.pop.new.self ++ large ∷ []) ++ small ∷ [] = c.push-then-part.ensures ∙ ap (λ parts. parts ++ small ∷ []) c.push.ensures in
    record {
      parts = subst (AreParts rows 64) (sym after)
          (apart_are_parts rows c.loop-part.waiting c.pop.new.self c.in-Some.part large small c.in-Some.ensures c.loop-part.invariant.parts c.if-part.true apart.large apart.small apart.sizes apart.few);
      same = ap (λ parts. max c.max-deepest.result (level_of_parts rows parts)) after
          ∙ apart_levels rows c.loop-part.waiting c.pop.new.self c.in-Some.part large small c.in-Some.ensures c.loop-part.invariant.parts
          c.loop-part.deepest c.max-deepest.result _ deeper apart.level c.loop-part.invariant.same;
    }

pub loop-part-smaller : goal.loop-part-smaller
loop-part-smaller c =
    kept_fewer (map row_of c.args.rows.now) c.loop-part.waiting c.pop.new.self c.in-Some.part c.in-Some.part c.in-Some.part c.in-Some.ensures c.loop-part.invariant.parts

pub loop-part-preserved : goal.loop-part-preserved
loop-part-preserved c = record {
  parts = kept_are_parts (map row_of c.args.rows.now) c.loop-part.waiting c.pop.new.self c.in-Some.part c.in-Some.part c.in-Some.part c.in-Some.ensures c.loop-part.invariant.parts;
  same = kept_levels (map row_of c.args.rows.now) c.loop-part.waiting c.pop.new.self c.in-Some.part c.in-Some.part c.in-Some.part c.in-Some.ensures c.loop-part.invariant.parts
      c.loop-part.deepest _ c.if-part.false c.loop-part.invariant.same;
}
