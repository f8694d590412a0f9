use Rattle.peg_semantics.proofs.GrammarLemmas.{IsGrammar-from_searches, searches_from_IsGrammar}
use Rattle.peg_semantics.proofs.laws.accepted_definitions_are_a_grammar.Goals as goal

pub returns : goal.returns
returns c = λ rules. (searches_from_IsGrammar rules, λ right. IsGrammar-from_searches rules right.0 right.1 right.2 right.3)
