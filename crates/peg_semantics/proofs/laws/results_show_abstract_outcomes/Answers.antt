use Rattle.std.proofs.Common.{refl, subst}
use Rattle.peg_semantics.specs.AbstractOutcomes.{can_in}
use Rattle.peg_semantics.proofs.ShownOutcomes.{Shows, record_in-shows}
use Rattle.peg_semantics.proofs.laws.results_show_abstract_outcomes.Goals as goal

pub returns-clause-onward : goal.returns-clause-onward
returns-clause-onward c = λ rules text n e terminal position end trees r is matched.
    (subst (Shows (can_in rules n e) position) matched (record_in-shows rules text n e terminal position r is)).onward

pub returns-clause-nothing : goal.returns-clause-nothing
returns-clause-nothing c = λ rules text n e terminal position trees r is matched.
    let shown = subst (Shows (can_in rules n e) position) matched (record_in-shows rules text n e terminal position r is) in
    (n, shown.nothing refl)

pub returns-clause-something : goal.returns-clause-something
returns-clause-something c = λ rules text n e terminal position end trees r is matched some.
    let shown = subst (Shows (can_in rules n e) position) matched (record_in-shows rules text n e terminal position r is) in
    (n, shown.something some)

pub returns-clause-fails : goal.returns-clause-fails
returns-clause-fails c = λ rules text n e terminal position r is failed.
    (n, subst (Shows (can_in rules n e) position) failed (record_in-shows rules text n e terminal position r is))
