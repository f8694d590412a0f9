use Rattle.std.proofs.Common.{◌++◌, codes, ap, ◌∙◌, append_assoc}
use Rattle.peg_messages.specs.Sentences.{backslash_text, dash_hint}
use Rattle.peg_messages.proofs.AppendLemmas.{appended}
use Rattle.peg_messages.proofs.sentences.write_escape_fault.Goals as goal

pub returns : goal.returns
returns c =
    let out = c.args.out.now.items in
    let rest = c.args.rest.now in
    appended c.write_dash_hint.result out _ _ (backslash_text rest ++ codes " isn't an escape") (dash_hint rest)
    (c.in_ok-extend_from_slice.ensures.items
    ∙ (ap (λ l. l ++ codes " isn't an escape") c.in_ok-write_backslash.ensures
    ∙ append_assoc out (backslash_text rest) (codes " isn't an escape")))
    c.write_dash_hint.ensures
