use Rattle.peg_lexer.proofs.OneLexing.{one_list, one_fault, tokens_or_fault}
use Rattle.peg_lexer.proofs.laws.a_file_has_tokens_or_one_fault.Goals as goal

pub returns-clause-tokens : goal.returns-clause-tokens
returns-clause-tokens c = one_list

pub returns-clause-fault : goal.returns-clause-fault
returns-clause-fault c = one_fault

pub returns-clause-not_both : goal.returns-clause-not_both
returns-clause-not_both c = tokens_or_fault
