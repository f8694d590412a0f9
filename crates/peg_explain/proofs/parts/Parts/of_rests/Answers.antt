use Rattle.std.proofs.Common.{◌∙◌, ◌&&◌, ◌||◌}
use Rattle.std.specs.Prelude.{nat_lt}
use Rattle.peg_explain.specs.Names.{has_failed, is_expected_by}
use Rattle.peg_explain.proofs.PartLemmas.{part-next}
use Rattle.peg_explain.proofs.parts.Parts.of_rests.Goals as goal

pub rests-preserved : goal.rests-preserved
rests-preserved c =
    let rest = c.rest-item.result in
    record {
      count = c.add_rest.ensures.count ∙ c.rests.invariant.count;
      noted = λ item.
          c.add_rest.ensures.added item
          ∙ (λ i. c.rests.invariant.noted item i
          || ((has_failed rest.outcome.result && is_expected_by rest item) && nat_lt item (c.rests.invariant.count i)))
          ∙ part-next c.args.rests.now c.args.items c.rests.rest-index rest item c.rests-test.true c.rest-item.is;
    }
