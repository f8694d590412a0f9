use Rattle.std.proofs.Common.{◌≡◌, List, IfOk, subst}
use Rattle.peg_lexer.proofs.TokenValues.{no_literal, literal-text}
use Rattle.peg_lexer.proofs.token_values.literal_bytes.Goals as goal

pub returns-in-empty : goal.returns-in-empty
returns-in-empty c = absurd (no_literal c.args.rest.now c.in-empty.len_below c.requires)

pub returns-in-len1-up : goal.returns-in-len1-up
returns-in-len1-up c =
    subst (λ (l : List _). IfOk c.bytes_before.result (λ bytes. bytes.items ≡ l))
    (literal-text c.args.rest.now c.in-len1-up.len_at_least c.requires) c.bytes_before.ensures
