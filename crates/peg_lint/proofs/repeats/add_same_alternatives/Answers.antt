use Rattle.peg_lint.proofs.FileLemmas.{KeepsTrue-both}
use Rattle.peg_lint.proofs.repeats.add_same_alternatives.Goals as goal

pub alternatives-preserved : goal.alternatives-preserved
alternatives-preserved c = λ rules span part.
    KeepsTrue-both rules c.args.found.now.items c.alternatives.found.items c.add_if_same.new.found.items
    (c.alternatives.invariant rules span part) (c.in_ok-add_if_same.ensures rules span part)
