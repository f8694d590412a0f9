use Rattle.peg_lint.proofs.NeverLemmas.{is_failed}
use Rattle.peg_lint.proofs.never.excluded_outcomes_never_happen.Goals as goal

pub returns-clause-matches : goal.returns-clause-matches
returns-clause-matches c = λ rules e none text terminal position r at.
    let law = c.results_show_abstract_outcomes.ensures in
    is_failed position r.result
    (λ end trees m. law.onward rules text at.0 e terminal position end trees r at.1 m)
    (λ trees m. none.nothing (law.nothing rules text at.0 e terminal position trees r at.1 m))
    (λ end trees m less. none.something (law.something rules text at.0 e terminal position end trees r at.1 m less))

pub returns-clause-fails : goal.returns-clause-fails
returns-clause-fails c = λ rules e none text terminal position r at failed.
    none (c.results_show_abstract_outcomes.ensures.fails rules text at.0 e terminal position r at.1 failed)
