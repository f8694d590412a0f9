use Rattle.std.proofs.Common.{◌∙◌, ℕ, List, ap, take}
use Rattle.peg_explain.proofs.NamingLemmas.{are-rests, few-rests}
use Rattle.peg_explain.proofs.names.Naming.rests.Goals as goal

pub returns-clause-rests : goal.returns-clause-rests
returns-clause-rests c rules text start calls at is =
    are-rests rules c.args.self.now.spacing.now text start calls at c.first_numbers.result.now c.rests_from.result
    (c.first_numbers.ensures.first ∙ ap (λ (l : List ℕ). take 64 l) (c.deref.ensures.value
    ∙ c.in_ok-rules.ensures.rules rules text start calls at is))
    c.rests_from.ensures.from (c.rests_from.ensures.each rules text start calls at is)

pub returns-clause-few : goal.returns-clause-few
returns-clause-few c = few-rests c.first_numbers.result.now c.rests_from.result c.first_numbers.ensures.few c.rests_from.ensures.from
