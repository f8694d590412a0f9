use Rattle.std.proofs.Common.{ap, sym, ◌∙◌}
use Rattle.peg_memo_policy.proofs.LinkedLemmas.{on-ok-then}
use Rattle.peg_memo_policy.proofs.link_table.LinkTable.put.Goals as goal

pub returns-clause-stored : goal.returns-clause-stored
returns-clause-stored c =
    rw (← c.self.view_is)
    (λ stored. (
      c.self.inside.cache.cap,
      ap (λ cache. cache.entries) (on-ok-then c.put.result (sym c.is_ok.ensures.value ∙ stored) c.put.ensures.entries),
    ))
