use Rattle.peg_semantics.specs.Rules.{name_of}
use Rattle.peg_semantics.proofs.TreeRules.{start_record-rules}
use Rattle.peg_semantics.proofs.laws.every_node_is_of_a_rule.Goals as goal

pub returns : goal.returns
returns c = λ rules text n start r end trees is matched.
    start_record-rules rules text n (name_of rules start) r end trees is matched
