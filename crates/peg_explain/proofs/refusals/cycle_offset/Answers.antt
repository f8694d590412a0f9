use Rattle.peg_bytes.specs.Extent.{extent}
use Rattle.peg_grammar.specs.GrammarRules.{rules_in}
use Rattle.peg_explain.proofs.RefusalLemmas.{cycle-offset}
use Rattle.peg_explain.proofs.refusals.cycle_offset.Goals as goal

pub returns-in-len1-up-clause-offset : goal.returns-in-len1-up-clause-offset
returns-in-len1-up-clause-offset c =
    cycle-offset (rules_in c.args.grammar.now) c.args.path.now c.args.size c.min.result (extent c.name_span.result)
    c.in-len1-up.len_at_least c.name_span.ensures c.min.ensures
