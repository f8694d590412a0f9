use Rattle.std.proofs.Common.{map}
use Rattle.std.proofs.lemmas.Result.{IfOk-weaker}
use Rattle.peg_explain.specs.Explanations.{fact_of, facts_by_blame}
use Rattle.peg_explain.specs.declared.mismatch.Analysis.TheVariants.{Items}
use Rattle.peg_explain.proofs.ExpectedLemmas.{listed-items}
use Rattle.peg_explain.proofs.explainer.items_by_blame.Goals as goal

pub returns-clause-items : goal.returns-clause-items
returns-clause-items c =
    let outcome = c.args.outcome.now in
    IfOk-weaker c.items_of_failure.result _ _
    (λ list are rules blames. listed-items outcome _ (facts_by_blame rules c.args.spacing.now c.args.rests.now) (map fact_of list.items) c.requires
    (λ i. record {
      extents = c.items.ensures rules blames i;
      rules = c.item_rules.ensures rules blames i;
      kinds = c.item_kinds.ensures rules blames i;
      spacing = c.args.spacing.now;
      rests = c.args.rests.now;
      analysis = Items;
    }) are)
    c.items_of_failure.ensures.items
