use Rattle.std.proofs.Common.{◌≡◌, ◌≤◌, get_or, map, take, vec_len, max, sym, subst, arith}
use Rattle.std.proofs.lemmas.Bool.Decides.{nat_tests}
use Rattle.std.proofs.lemmas.List.{map_more}
use Rattle.peg_tree.specs.RowText.{EachAtMost}
use Rattle.peg_tree.proofs.RowTexts.{EachAtMost-push, EachAtMost-weaker}
use Rattle.peg_tree.proofs.flat_tree_writer.longest_of.Goals as goal

pub loop-at-preserved : goal.loop-at-preserved
loop-at-preserved c =
    let names = c.args.names.now in
    let at = c.loop-at.at in
    let name = c.index-names-at.result in
    let limit = c.max-longest.result in
    let longer : limit ≡ max c.loop-at.longest c.len.result = grind (arith, nat_tests, c.max-longest.ensures) in
    let here : vec_len (get_or names at name) ≤ limit =
    subst (λ n. vec_len n ≤ limit) c.index-names-at.is (omega (arith, c.len.ensures, longer)) in
    record {
      so_far = subst (EachAtMost limit) (sym (map_more (λ n. vec_len n) names at name c.loop-at-test.true))
          (EachAtMost-push limit (map (λ n. vec_len n) (take at names)) (vec_len (get_or names at name))
          (EachAtMost-weaker c.loop-at.longest limit (map (λ n. vec_len n) (take at names)) (omega (arith, longer))
          c.loop-at.invariant.so_far) here);
    }
