use Rattle.peg_grammar.specs.GrammarRules.{rules_in}
use Rattle.peg_grammar.specs.Written.{form_of}
use Rattle.peg_lint.proofs.HeadLemmas.{fails-through}
use Rattle.peg_lint.proofs.stops.is_stuck.Goals as goal

pub returns : goal.returns
returns c = λ yes.
    let rules = rules_in c.args.grammar.now in
    let part = form_of c.in-Some.part.now in (
      part,
      c.in-Some.ensures.some,
      fails-through rules part (form_of c.in-Some-head.start.now) (form_of c.args.next.now) (c.covers.ensures yes rules)
          c.in-Some-head.ensures,
    )
