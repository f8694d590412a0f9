use Rattle.peg_notation.proofs.TokenTexts.{lexemes-following}
use Rattle.peg_notation.proofs.reader.rest_after.Goals as goal

pub returns-clause-tokens : goal.returns-clause-tokens
returns-clause-tokens c = lexemes-following c.args.tokens.now c.args.token_count
