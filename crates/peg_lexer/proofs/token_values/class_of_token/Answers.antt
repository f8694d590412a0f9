use Rattle.std.proofs.Common.{map, ap, ◌∙◌}
use Rattle.peg_metagrammar.specs.Ranges.{class_of}
use Rattle.peg_metagrammar.specs.RangesCode.{range_of}
use Rattle.peg_lexer.proofs.TokenValues.{no_class, class-text}
use Rattle.peg_lexer.proofs.token_values.class_of_token.Goals as goal

pub returns-in-empty : goal.returns-in-empty
returns-in-empty c = absurd (no_class c.args.rest.now c.in-empty.len_below c.requires)

pub returns-in_ok-ranges-in-len1-up : goal.returns-in_ok-ranges-in-len1-up
returns-in_ok-ranges-in-len1-up c =
    c.set_of_ranges.ensures ∙ ap (λ l. class_of (map range_of l)) c.deref.ensures.value
    ∙ ap class_of (c.in_ok-ranges-in-len1-up.ensures ∙ class-text c.args.rest.now c.in-len1-up.len_at_least c.requires)
